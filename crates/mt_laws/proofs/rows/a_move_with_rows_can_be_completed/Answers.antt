-- Computed, event by event.
use Rattle.mt_laws.proofs.RowWitnessLemmas.{a_completion, a_journal, a_refusal}
use Rattle.mt_laws.proofs.rows.a_move_with_rows_can_be_completed.Goals as goal

pub returns : goal.returns
returns c = record { refused = a_refusal; journal = a_journal; complete = a_completion }
