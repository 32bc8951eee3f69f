-- A list is read back from its text.
use Rattle.mt_names.proofs.TableListLemmas.{read_table_list-text}
use Rattle.mt_names.proofs.tables.table_list_is_read_back.Goals as goal

pub returns : goal.returns
returns c = read_table_list-text
