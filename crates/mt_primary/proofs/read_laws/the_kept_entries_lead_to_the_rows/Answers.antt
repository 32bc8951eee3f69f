-- Entry by entry.
use Rattle.mt_primary.proofs.LeadLemmas.{entries_on, to_the_rows}
use Rattle.mt_primary.proofs.read_laws.the_kept_entries_lead_to_the_rows.Goals as goal

pub returns-clause-on : goal.returns-clause-on
returns-clause-on c p is name made at position low kept key count = entries_on p is name key made at count position low kept

pub returns-clause-to_the_rows : goal.returns-clause-to_the_rows
returns-clause-to_the_rows c p is name made at position low kept key = to_the_rows p is name key made at position low kept
