-- The lemmas say it.
use Rattle.std.proofs.Common.{sym, ◌∙◌}
use Rattle.mt_workflow.specs.Workflows.{with_lane_slot}
use Rattle.mt_steps.proofs.BackLemmas.{new_log_of, part_places_stay}
use Rattle.mt_steps.proofs.EntryLemmas.{keys_recorded}
use Rattle.mt_steps.proofs.LaneLemmas.{length-change_lane}
use Rattle.mt_steps.proofs.laws.a_record_stays_that_of_its_workflow.Goals as goal

pub returns-clause-new : goal.returns-clause-new
returns-clause-new c = new_log_of

pub returns-clause-stays : goal.returns-clause-stays
returns-clause-stays c = λ w n t log of. record { entries = keys_recorded w n t log.entries ∙ of.entries; listed = of.listed; slots = of.slots }

pub returns-clause-slots : goal.returns-clause-slots
returns-clause-slots c = λ w shard name stream log of.
    let long = length-change_lane (with_lane_slot name stream) shard w.lanes in
    record { entries = of.entries; listed = of.listed ∙ sym long; slots = of.slots ∙ sym long }

pub returns-clause-places : goal.returns-clause-places
returns-clause-places c = part_places_stay
