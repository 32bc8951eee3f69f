-- They leave the topology as if no workflow were live, and of each live workflow the sides, the tables and the traffic.
use Rattle.mt_laws.proofs.EntriesLemmas.{same_entries}
use Rattle.mt_laws.proofs.changes.rows_and_streams_change_no_entry.Goals as goal

pub returns : goal.returns
returns c = same_entries
