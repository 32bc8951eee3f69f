-- What completes the denials so far completes the whole, and no keyspace stands twice.
use Rattle.std.proofs.Common.{◌≡◌, drop}
use Rattle.std.specs.List.{IsDistinct}
use Rattle.std.specs.Map.{keys_of}
use Rattle.serde_json.specs.View.{items_view}
use Rattle.mt_names.specs.Names.{same_text}
use Rattle.mt_keyspace.specs.Load.{denials_of}
use Rattle.mt_keyspace.proofs.load.deny_all.Given as goal

abbrev pub invariant-values : goal.invariant-values
invariant-values l = (denials_of l.initial.drafts.entries (items_view l.list) ≡ denials_of l.drafts.entries (items_view (drop l.value-index l.list))) × IsDistinct same_text (keys_of l.drafts.entries)
