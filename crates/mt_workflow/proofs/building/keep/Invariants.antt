-- The keys passed are kept.
use Rattle.std.proofs.Common.{take}
use Rattle.mt_model.specs.Topology.{Rules}
use Rattle.mt_workflow.specs.Builds.{Agrees, with_kept}
use Rattle.mt_workflow.proofs.building.keep.Given as goal

abbrev pub invariant-loop-key : goal.invariant-loop-key
invariant-loop-key l = (stood : Rules) → Agrees l.initial.kept.entries stood → Agrees l.kept.entries (with_kept l.rules stood (take l.key-index l.keys))
