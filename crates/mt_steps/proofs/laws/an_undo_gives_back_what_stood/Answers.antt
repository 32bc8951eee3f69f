-- The lemmas say it.
use Rattle.mt_steps.proofs.BackLemmas.{not_undone, not_written, undone_at, undone_at_once}
use Rattle.mt_steps.proofs.laws.an_undo_gives_back_what_stood.Goals as goal

pub returns-clause-at_once : goal.returns-clause-at_once
returns-clause-at_once c = undone_at_once

pub returns-clause-later : goal.returns-clause-later
returns-clause-later c = undone_at

pub returns-clause-no_other : goal.returns-clause-no_other
returns-clause-no_other c = not_undone

pub returns-clause-step_no_other : goal.returns-clause-step_no_other
returns-clause-step_no_other c = not_written
