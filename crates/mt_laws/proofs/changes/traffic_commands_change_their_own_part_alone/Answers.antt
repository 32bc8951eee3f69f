-- The owner of another entry is another workflow, which stays as it is.
use Rattle.mt_laws.proofs.EntriesLemmas.{outside_of_the_part}
use Rattle.mt_laws.proofs.changes.traffic_commands_change_their_own_part_alone.Goals as goal

pub returns : goal.returns
returns c = outside_of_the_part
