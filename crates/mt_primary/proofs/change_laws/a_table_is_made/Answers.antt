use Rattle.mt_names.proofs.EntryLemmas.{none_from}
use Rattle.mt_primary.specs.Primary.{table_at}
use Rattle.mt_primary.proofs.PrimaryLemmas.{made_and_dropped, made_elsewhere, made_here}
use Rattle.mt_primary.proofs.change_laws.a_table_is_made.Goals as goal

pub returns-clause-here : goal.returns-clause-here
returns-clause-here c p name absent = made_here p name (none_from (table_at p name) absent)

pub returns-clause-others : goal.returns-clause-others
returns-clause-others c = made_elsewhere

pub returns-clause-dropped_at_once : goal.returns-clause-dropped_at_once
returns-clause-dropped_at_once c p name absent = made_and_dropped p name (none_from (table_at p name) absent)
