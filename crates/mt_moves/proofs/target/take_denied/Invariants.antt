-- The primaries before this one have taken the notice over.
use Rattle.std.proofs.Common.{◌≡◌}
use Rattle.mt_primary.specs.Denials.{told_by_refresh, with_denials}
use Rattle.mt_moves.specs.Target.{changed_to}
use Rattle.mt_moves.proofs.target.take_denied.Given as goal

abbrev pub invariant-loop-index : goal.invariant-loop-index
invariant-loop-index l = l.primaries ≡ changed_to (with_denials (told_by_refresh l.workflow.target l.notice l.workflow.tables)) l.index l.initial.primaries
