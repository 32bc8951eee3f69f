use Rattle.mt_laws.proofs.ChangedLemmas.{lists-stepped, lists-undone, state-stepped, state-undone}
use Rattle.mt_laws.proofs.effects.steps_and_undos_change_the_state_by_their_numbers.Goals as goal

pub returns : goal.returns
returns c = record {
  step = λ p reached name w way live opens at key. state-stepped p reached name w way live opens at key;
  step_lists = λ p reached name w way live opens at keyspace table. lists-stepped p reached name w way live opens at keyspace table;
  undo = λ p reached name w way live opens at given key. state-undone p reached name w way live opens at given key;
  undo_lists = λ p reached name w way live opens at given keyspace table. lists-undone p reached name w way live opens at given keyspace table;
}
