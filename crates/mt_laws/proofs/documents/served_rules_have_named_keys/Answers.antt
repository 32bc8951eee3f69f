-- By induction on the run.
use Rattle.mt_laws.proofs.NamedLemmas.{reached_named}
use Rattle.mt_laws.proofs.documents.served_rules_have_named_keys.Goals as goal

pub returns : goal.returns
returns c = reached_named
