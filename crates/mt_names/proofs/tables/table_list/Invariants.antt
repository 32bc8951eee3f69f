-- Reading what is left completes the whole.
use Rattle.std.proofs.Common.{◌≡◌, ◌-◌, ◌≤◌, [], length}
use Rattle.std.specs.Option.{option_copied}
use Rattle.mt_names.specs.Tables.{read_tables_after}
use Rattle.mt_names.proofs.TableLemmas.{length_left, measure_left, words_left, words_of}
use Rattle.mt_names.proofs.tables.table_list.Given as goal

abbrev pub invariant-loop-rest : goal.invariant-loop-rest
invariant-loop-rest l = record {
  whole : read_tables_after l.tables.items (length l.text - length_left (option_copied l.rest)) (words_left (option_copied l.rest)) ≡ read_tables_after [] 0 (words_of l.text);
  within : length_left (option_copied l.rest) ≤ length l.text;
}

abbrev pub decreases-loop-rest : goal.decreases-loop-rest
decreases-loop-rest l = measure_left (option_copied l.rest)
