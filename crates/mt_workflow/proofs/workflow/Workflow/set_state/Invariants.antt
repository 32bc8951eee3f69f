-- The lanes before this one are in that state.
use Rattle.std.proofs.Common.{◌≡◌}
use Rattle.mt_stream.specs.Streams.{state_from}
use Rattle.mt_workflow.specs.Workflows.{lane_in_state, stream_name}
use Rattle.mt_workflow.proofs.LaneLemmas.{so_far}
use Rattle.mt_workflow.proofs.workflow.Workflow.set_state.Given as goal

abbrev pub invariant-loop-lane : goal.invariant-loop-lane
invariant-loop-lane l = l.lane-items ≡ so_far (lane_in_state (stream_name l.slot) (state_from l.state)) l.lane-index l.initial.lane-items
