-- What completes the ranges so far completes the whole.
use Rattle.std.proofs.Common.{◌≡◌, [], drop}
use Rattle.serde_json.specs.View.{items_view}
use Rattle.mt_keyspace.specs.Load.{ranges_read}
use Rattle.mt_keyspace.proofs.load.ranges_of.Given as goal

abbrev pub invariant-values : goal.invariant-values
invariant-values l = ranges_read [] (items_view l.list) ≡ ranges_read l.ranges.items (items_view (drop l.value-index l.list))
