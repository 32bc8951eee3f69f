use Rattle.std.proofs.Common.{◌≡◌, ◌≤◌}
use Rattle.std.specs.List.{list_any}
use Rattle.std.specs.Prelude.{◌&&◌}
use Rattle.mt_names.specs.Shards.{holds}
use Rattle.mt_plain.specs.Plain.{among}
use Rattle.mt_primary.specs.Reads.{entries_from}
use Rattle.mt_stream.proofs.following.names_any.Given as goal

abbrev pub invariant-loop-at : goal.invariant-loop-at
invariant-loop-at l = (l.source.log.purged ≤ l.at) × (list_any (λ change. holds l.keys change.key && among l.tables change.table) (entries_from l.source l.position) ≡ list_any (λ change. holds l.keys change.key && among l.tables change.table) (entries_from l.source l.at))
