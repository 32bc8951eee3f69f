-- Of each key, and of the part.
use Rattle.mt_workflow.proofs.StoodLemmas.{all_stood, no_other, stood}
use Rattle.mt_workflow.proofs.laws.what_is_kept_is_what_stood.Goals as goal

pub returns-clause-rules : goal.returns-clause-rules
returns-clause-rules c = stood

pub returns-clause-no_other : goal.returns-clause-no_other
returns-clause-no_other c = no_other

pub returns-clause-all : goal.returns-clause-all
returns-clause-all c = all_stood
