use Rattle.mt_laws.proofs.UntouchedLemmas.{same_counts, same_lanes, same_names, same_sides, same_switched, same_way, same_workflow}
use Rattle.mt_laws.proofs.changes.only_named_events_change_a_workflow.Goals as goal

pub returns : goal.returns
returns c = record { live = same_names; elsewhere = same_workflow; sides = same_sides; switched = same_switched; way = same_way; lanes = same_lanes; counts = same_counts }
