use Rattle.mt_primary.proofs.PrimaryLemmas.{dropped_elsewhere, dropped_here}
use Rattle.mt_primary.proofs.change_laws.a_table_is_dropped.Goals as goal

pub returns-clause-here : goal.returns-clause-here
returns-clause-here c = dropped_here

pub returns-clause-others : goal.returns-clause-others
returns-clause-others c = dropped_elsewhere
