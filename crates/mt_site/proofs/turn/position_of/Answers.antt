-- The stream stands where that of the live workflow does.
use Rattle.std.proofs.Common.{ap, ◌∙◌}
use Rattle.std.specs.Option.{option_map_or}
use Rattle.std.specs.Prelude.{option_and_then}
use Rattle.mt_stream.specs.Streams.{StreamValue}
use Rattle.mt_workflow.specs.Workflows.{WorkflowState, slot_of, stream_name}
use Rattle.mt_site.proofs.TurnLemmas.{position_told}
use Rattle.mt_site.proofs.turn.position_of.Goals as goal

pub returns-in-None : goal.returns-in-None
returns-in-None c = λ p scopes stands.
    ap (λ o. option_map_or (λ (v : StreamValue). v.position) (option_and_then (λ (w : WorkflowState). slot_of w c.args.shard (stream_name c.args.stream)) o) 0) c.in-None.ensures
    ∙ position_told p scopes c.args.core.now c.args.workflow.now stands c.args.shard (stream_name c.args.stream)

pub returns-in-Some : goal.returns-in-Some
returns-in-Some c = λ p scopes stands.
    c.position_in.ensures
    ∙ ap (λ o. option_map_or (λ (v : StreamValue). v.position) (option_and_then (λ (w : WorkflowState). slot_of w c.args.shard (stream_name c.args.stream)) o) 0) c.in-Some.ensures
    ∙ position_told p scopes c.args.core.now c.args.workflow.now stands c.args.shard (stream_name c.args.stream)
