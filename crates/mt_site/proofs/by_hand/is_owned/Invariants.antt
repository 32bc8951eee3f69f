-- The key lies in the part of a workflow just where it lies in that of one that is left.
use Rattle.std.proofs.Common.{◌≡◌}
use Rattle.mt_model.specs.declared.entries.EntryKey.TheVariants as about
use Rattle.mt_stands.specs.ByHand.{is_owned}
use Rattle.mt_site.proofs.by_hand.is_owned.Given as goal

abbrev pub invariant-loop-workflow : goal.invariant-loop-workflow
invariant-loop-workflow l = is_owned l.workflows.entries (about.Rule l.key) ≡ is_owned l.workflow-iterator (about.Rule l.key)
