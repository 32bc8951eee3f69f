-- The primaries before this one have the table.
use Rattle.std.proofs.Common.{◌≡◌}
use Rattle.mt_primary.specs.Writes.{with_new_table}
use Rattle.mt_moves.specs.Target.{changed_to}
use Rattle.mt_site.proofs.by_hand.create_table.Given as goal

abbrev pub invariant-loop-index : goal.invariant-loop-index
invariant-loop-index l = l.primaries ≡ changed_to (λ primary. with_new_table primary l.table) l.index l.initial.primaries
