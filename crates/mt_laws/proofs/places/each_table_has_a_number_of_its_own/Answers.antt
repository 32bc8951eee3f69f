-- A new table gets a number that none has, Complete moves one, and a write is told by the number of a table that is there.
use Rattle.mt_laws.proofs.HasNumberLemmas.{next_number_unwritten, number_is_of_table, reached_client_below, reached_has_numbers, told_apart}
use Rattle.mt_laws.proofs.places.each_table_has_a_number_of_its_own.Goals as goal

pub returns : goal.returns
returns c = record {
  numbers = reached_has_numbers;
  present = number_is_of_table;
  unwritten = next_number_unwritten;
  clients = reached_client_below;
  apart = told_apart;
}
