-- What completes the keyspaces so far completes the whole, and no name of them stands twice.
use Rattle.std.proofs.Common.{◌≡◌, [], drop}
use Rattle.std.specs.List.{IsDistinct}
use Rattle.std.specs.Map.{keys_of}
use Rattle.serde_json.specs.View.{items_view}
use Rattle.mt_names.specs.Names.{same_text}
use Rattle.mt_keyspace.specs.Load.{keyspaces_of}
use Rattle.mt_keyspace.proofs.load.drafts_of.Given as goal

abbrev pub invariant-values : goal.invariant-values
invariant-values l = (keyspaces_of l.version [] (items_view l.list) ≡ keyspaces_of l.version l.drafts.entries (items_view (drop l.value-index l.list))) × IsDistinct same_text (keys_of l.drafts.entries)
