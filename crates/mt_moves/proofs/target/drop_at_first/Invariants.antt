-- The primaries before this one have lost the tables.
use Rattle.std.proofs.Common.{◌≡◌, fold}
use Rattle.mt_primary.specs.Writes.{without_table}
use Rattle.mt_moves.specs.Target.{changed_to}
use Rattle.mt_moves.proofs.target.drop_at_first.Given as goal

abbrev pub invariant-loop-index : goal.invariant-loop-index
invariant-loop-index l = l.primaries ≡ changed_to (λ primary. fold without_table primary l.tables) l.index l.initial.primaries
