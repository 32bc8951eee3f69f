-- The lemmas say it.
use Rattle.mt_steps.proofs.PlanLemmas.{plan_last, plan_next, plan_one, plan_refresh}
use Rattle.mt_steps.proofs.laws.a_plan_is_that_of_its_way.Goals as goal

pub returns-clause-next : goal.returns-clause-next
returns-clause-next c = plan_next

pub returns-clause-last : goal.returns-clause-last
returns-clause-last c = plan_last

pub returns-clause-refreshes : goal.returns-clause-refreshes
returns-clause-refreshes c = plan_refresh

pub returns-clause-one : goal.returns-clause-one
returns-clause-one c = plan_one
