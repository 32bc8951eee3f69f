-- A readable line is a text, and says what its words command.
use Rattle.std.proofs.Common.{option_map, ap, arith, rules, ◌∙◌}
use Rattle.mt_plain.specs.Script.{command, command_of, words_of}
use Rattle.mt_script.specs.Lines.{line_from}
use Rattle.mt_script.proofs.LineLemmas.{IsUtf8-readable, line-or, read-by-words}
use Rattle.mt_script.proofs.lines.read.Goals as goal

pub from_utf8_unchecked-text-requires : goal.from_utf8_unchecked-text-requires
from_utf8_unchecked-text-requires c = IsUtf8-readable c.args.line.now (search rules)

pub returns : goal.returns
returns c =
    ap line_from c.unwrap_or.ensures ∙ line-or c.read_command.result
    ∙ read-by-words c.args.line.now (search rules) (omega arith) (search rules) (option_map line_from c.read_command.result)
    (c.read_command.ensures ∙ ap (λ l. option_map command (command_of (words_of l))) c.from_utf8_unchecked-text.ensures)
