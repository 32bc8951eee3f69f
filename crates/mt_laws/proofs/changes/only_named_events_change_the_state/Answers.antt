-- By cases on the event and the answer.
use Rattle.mt_laws.proofs.UntouchedLemmas.{same_journal, same_logs, same_made, same_numbers, same_scopes, same_topology, same_ways, same_writes, told}
use Rattle.mt_laws.proofs.changes.only_named_events_change_the_state.Goals as goal

pub returns : goal.returns
returns c = record {
  topology = same_topology;
  numbers = same_numbers;
  made = same_made;
  writes = same_writes;
  logs = same_logs;
  ways = same_ways;
  journal = same_journal;
  scopes = same_scopes;
  told = told;
}
