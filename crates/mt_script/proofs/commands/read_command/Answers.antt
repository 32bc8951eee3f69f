-- A verb of a row is no other.
use Rattle.std.proofs.Common.{option_map, sym, ap, ◌∙◌}
use Rattle.mt_plain.specs.Script.{command, command_of, read_command, words_of}
use Rattle.mt_script.proofs.RowLemmas.{row-verb}
use Rattle.mt_script.proofs.commands.read_command.Goals as goal

pub returns-in-Some : goal.returns-in-Some
returns-in-Some c =
    c.row_command.ensures
    ∙ ap (option_map (λ x. command x)) (row-verb c.in-Some.verb _ ∙ ap (λ word. read_command word (words_of c.in_ok-word.rest.now)) (sym c.in-Some.ensures) ∙ ap command_of (sym c.in_ok-word.ensures.words))
