-- By cases on the entry, and by induction on the workflows.
use Rattle.mt_laws.proofs.ReachedLemmas.{reached-serves}
use Rattle.mt_laws.proofs.ServeLemmas.{value_of-over, value_of-served}
use Rattle.mt_laws.proofs.serving.lists_of_entries_say_what_is_served.Goals as goal

pub returns-clause-one : goal.returns-clause-one
returns-clause-one c = λ u w sides key. value_of-over u w sides key

pub returns-clause-all : goal.returns-clause-all
returns-clause-all c = λ p sides apart key. value_of-served p.lives p.topology sides apart key

pub returns-clause-reached : goal.returns-clause-reached
returns-clause-reached c = reached-serves
