-- By induction on the lines.
use Rattle.std.specs.Str.Lines.{lines}
use Rattle.mt_plain.specs.Plain.{opening}
use Rattle.mt_laws.proofs.OutputLemmas.{output_both_ways, output_from_memory}
use Rattle.mt_laws.proofs.scripts.output_is_what_is_written_where_memory_is_ample.Goals as goal

pub returns-clause-from_each_state : goal.returns-clause-from_each_state
returns-clause-from_each_state c = output_both_ways

pub returns-clause-of_a_script : goal.returns-clause-of_a_script
returns-clause-of_a_script c = λ reading scopes input out. output_both_ways reading (opening scopes) (lines input) out

pub returns-clause-is_an_output : goal.returns-clause-is_an_output
returns-clause-is_an_output c = λ reading p lines out written. output_from_memory reading lines p out written
