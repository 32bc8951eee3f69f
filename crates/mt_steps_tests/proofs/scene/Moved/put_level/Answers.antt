-- The record is still that of the workflow.
use Rattle.std.proofs.Common.{Some, subst, sym}
use Rattle.mt_workflow.specs.Workflows.{WorkflowState, stream_name}
use Rattle.mt_steps.specs.Undo.{IsLogOf}
use Rattle.mt_steps_tests.proofs.scene.Moved.put_level.Goals as goal

pub invariant_of-self : goal.invariant_of-self
invariant_of-self c =
    subst (λ (w : WorkflowState). IsLogOf w c.self.inside.log) (sym c.put_slot.ensures.after)
    (c.a_record_stays_that_of_its_workflow.ensures.slots c.self.inside.workflow c.args.shard (stream_name c.args.slot) (Some c.new_running-stream.result) c.self.inside.log c.self.invariant)
