-- By the calls, one after the other.
use Rattle.mt_workers.proofs.CallLemmas.{asks_for_its_own, ends_with_a_step}
use Rattle.mt_workers.proofs.laws.a_controller_asks_for_its_workflow_alone.Goals as goal

pub returns-clause-own : goal.returns-clause-own
returns-clause-own c = asks_for_its_own

pub returns-clause-done : goal.returns-clause-done
returns-clause-done c = ends_with_a_step
