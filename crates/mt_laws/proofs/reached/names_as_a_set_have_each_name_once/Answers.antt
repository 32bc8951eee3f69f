-- By induction on the names.
use Rattle.mt_laws.proofs.SetLemmas.{among-once, once-distinct, once-stays}
use Rattle.mt_laws.proofs.reached.names_as_a_set_have_each_name_once.Goals as goal

pub returns : goal.returns
returns c = record { distinct = once-distinct; members = among-once; stays = once-stays }
