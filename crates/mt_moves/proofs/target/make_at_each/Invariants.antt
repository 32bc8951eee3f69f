-- The primaries before this one have the tables.
use Rattle.std.proofs.Common.{◌≡◌, fold}
use Rattle.mt_primary.specs.Writes.{with_new_table}
use Rattle.mt_moves.specs.Target.{changed_to}
use Rattle.mt_moves.proofs.target.make_at_each.Given as goal

abbrev pub invariant-loop-index : goal.invariant-loop-index
invariant-loop-index l = l.primaries ≡ changed_to (λ primary. fold with_new_table primary l.tables) l.index l.initial.primaries
