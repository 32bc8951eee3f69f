-- The target has as many primaries as a keyspace may have shards.
use Rattle.std.proofs.Common.{◌≤◌, subst, sym}
use Rattle.mt_workflow.proofs.LaneLemmas.{few_lanes}
use Rattle.mt_steps.proofs.attempt.attempt.Goals as goal

pub append-requires-clause-few : goal.append-requires-clause-few
append-requires-clause-few g c =
    subst (λ n. n ≤ 8) (sym c.requires.shards) (few_lanes c.args.workflow.now.lanes c.facts.ensures.covers c.facts.ensures.cuts)
