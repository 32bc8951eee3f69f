-- What is left completes the texts so far, and the ranges that are read back.
use Rattle.std.proofs.Common.{◌≡◌, [], ◌++◌, drop, map, string_bytes}
use Rattle.std.specs.List.{AllByRecursion}
use denote.Shadow.{shadow}
use denote.Text.{Utf8}
use Rattle.mt_names.specs.Shards.{range_text}
use Rattle.mt_model.specs.Documents.{quoted}
use Rattle.mt_rules.specs.Written.{rest_text}
use Rattle.mt_keyspace.specs.Values.{IsReadRange}
use Rattle.mt_keyspace.proofs.text.push_ranges.Given as goal

abbrev pub invariant-shards : goal.invariant-shards
invariant-shards l =
    (string_bytes l.text ++ rest_text l.before (map quoted (map range_text (drop l.range-index l.ranges)))
    ≡ string_bytes l.initial.text ++ rest_text [] (map quoted (map range_text l.ranges)))
    × shadow (Utf8 l.before) × (AllByRecursion IsReadRange (drop l.range-index l.ranges) → AllByRecursion IsReadRange l.ranges)
