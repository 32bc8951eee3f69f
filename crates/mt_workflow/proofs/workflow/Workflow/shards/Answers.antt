-- There are as many lanes as shards.
use Rattle.std.proofs.Common.{◌≤◌, arith, ap, subst, sym, ◌∙◌}
use Rattle.mt_names.specs.Shards.{shard_count}
use Rattle.mt_workflow.specs.Workflows.{live_of}
use Rattle.mt_workflow.proofs.LaneLemmas.{count_lanes, few_lanes, some_lanes}
use Rattle.mt_workflow.proofs.workflow.Workflow.shards.Goals as goal

pub overflow_cast-result : goal.overflow_cast-result
overflow_cast-result c = omega (arith, few_lanes c.self.inside.lanes.items c.self.invariant.0.covers c.self.invariant.0.cuts, c.self.inside.lanes.ok.0, c.len.ensures)

pub returns-clause-cuts : goal.returns-clause-cuts
returns-clause-cuts c =
    c.len.ensures ∙ c.self.inside.lanes.ok.0 ∙ count_lanes c.self.inside.lanes.items c.self.invariant.0.covers c.self.invariant.0.cuts ∙ ap (λ w. shard_count (live_of w).cuts) c.self.view_is

pub returns-clause-some : goal.returns-clause-some
returns-clause-some c = subst (λ n. 1 ≤ n) (sym (c.len.ensures ∙ c.self.inside.lanes.ok.0)) (some_lanes c.self.inside.lanes.items c.self.invariant.0.covers c.self.invariant.0.cuts)
