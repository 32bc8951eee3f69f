-- By induction on the lines: no text of the state has a line feed.
use Rattle.std.specs.Str.Lines.{lines}
use Rattle.mt_plain.specs.Output.{output}
use Rattle.mt_plain.specs.Plain.{opening}
use Rattle.mt_plain.specs.Script.{command_of, read_line}
use Rattle.mt_laws.proofs.CleanLemmas.{opening-clean}
use Rattle.mt_laws.proofs.FeedLemmas.{output-line_feeds}
use Rattle.mt_laws.proofs.OutputLemmas.{output_from-is_written, output_from_memory}
use Rattle.mt_laws.proofs.scripts.each_line_that_writes_writes_one_line.Goals as goal

pub returns-clause-where_memory_is_ample : goal.returns-clause-where_memory_is_ample
returns-clause-where_memory_is_ample c =
    λ scopes input. output-line_feeds command_of (λ words c is. is) (lines input) (opening scopes) (output scopes input) (opening-clean scopes)
    (output_from_memory read_line (lines input) (opening scopes) (output scopes input) (output_from-is_written read_line (lines input) (opening scopes)))

pub returns-clause-in_each_output : goal.returns-clause-in_each_output
returns-clause-in_each_output c =
    λ scopes input out written. output-line_feeds command_of (λ words c is. is) (lines input) (opening scopes) out (opening-clean scopes) written

pub returns-clause-of_some_commands : goal.returns-clause-of_some_commands
returns-clause-of_some_commands c =
    λ read knows scopes input out written. output-line_feeds read knows (lines input) (opening scopes) out (opening-clean scopes) written
