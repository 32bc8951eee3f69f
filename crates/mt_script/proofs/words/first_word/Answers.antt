-- The first word begins at the first byte that is no blank, and ends at the next blank.
use Rattle.std.proofs.Common.{not, position, sym, ap, rules, ◌∙◌}
use Rattle.mt_plain.specs.Script.{is_blank}
use Rattle.mt_script.proofs.WordLemmas.{rest_is_readable, words_of-None, words_of-Some}
use Rattle.mt_script.proofs.words.first_word.Goals as goal

pub returns-in_err-start-clause-words : goal.returns-in_err-start-clause-words
returns-in_err-start-clause-words c = search (rules, words_of-None)

pub returns-clause-words : goal.returns-clause-words
returns-clause-words c =
    let first = words_of-Some c.args.line.now c.in_ok-start.start (sym (c.in_ok-start.ensures ∙ ap (position (λ byte. not (is_blank byte))) c.as_bytes.ensures.value)) in
    search (rules, first)

pub returns-clause-readable : goal.returns-clause-readable
returns-clause-readable c = let rest = rest_is_readable c.args.line.now c.in_ok-start.start c.word_end.result c.requires in search (rules, rest)
