-- The workflow has as many shards as the live one.
use Rattle.std.proofs.Common.{ap, ◌∙◌}
use Rattle.std.specs.Option.{option_map_or}
use Rattle.mt_names.specs.Shards.{shard_count}
use Rattle.mt_workflow.specs.Workflows.{WorkflowState, live_of}
use Rattle.mt_site.proofs.TurnLemmas.{lanes_told}
use Rattle.mt_site.proofs.turn.shards_of.Goals as goal

pub returns-in-None : goal.returns-in-None
returns-in-None c = λ p scopes stands.
    ap (λ o. option_map_or (λ (w : WorkflowState). shard_count (live_of w).cuts) o 0) c.in-None.ensures ∙ lanes_told p scopes c.args.core.now c.args.workflow.now stands

pub returns-in-Some : goal.returns-in-Some
returns-in-Some c = λ p scopes stands.
    c.shards.ensures.cuts ∙ ap (λ o. option_map_or (λ (w : WorkflowState). shard_count (live_of w).cuts) o 0) c.in-Some.ensures ∙ lanes_told p scopes c.args.core.now c.args.workflow.now stands
