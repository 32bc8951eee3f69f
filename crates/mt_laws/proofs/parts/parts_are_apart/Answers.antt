-- By induction on the run.
use Rattle.mt_laws.proofs.WritableLemmas.{no_denial_elsewhere, no_key_in_two, no_name_of_two, no_refusal_elsewhere, no_table_in_two}
use Rattle.mt_laws.proofs.parts.parts_are_apart.Goals as goal

pub returns : goal.returns
returns c = record {
  keys = no_key_in_two;
  tables = no_table_in_two;
  names = no_name_of_two;
  denials = no_denial_elsewhere;
  own_lists = no_refusal_elsewhere;
}
