-- What was read of the words behind `at` is what is commanded.
use Rattle.std.proofs.Common.{ap, ◌∙◌, ◌∷◌, rules}
use Rattle.mt_plain.specs.Script.{words_of}
use Rattle.mt_script.proofs.RowLemmas.{at-found, at-none, at-other, at-refused, at-unqualified}
use Rattle.mt_script.proofs.commands.at_command.Goals as goal

pub returns-in_err-verb : goal.returns-in_err-verb
returns-in_err-verb c = let none = at-other c.in_ok-name.ensures.words c.in_ok-word.ensures.words c.in_err-verb.ensures in search (rules, none)

pub returns-in_err-asked : goal.returns-in_err-asked
returns-in_err-asked c = let none = at-none c.in_ok-name.ensures.words (c.in_ok-word.ensures.words ∙ ap (λ w. w ∷ words_of c.in_ok-word.rest.now) c.in_ok-verb.ensures) c.in_err-asked.ensures in search (rules, none)

pub returns-then-not-may_ask : goal.returns-then-not-may_ask
returns-then-not-may_ask c = let none = at-refused c.in_ok-name.ensures.words (c.in_ok-word.ensures.words ∙ ap (λ w. w ∷ words_of c.in_ok-word.rest.now) c.in_ok-verb.ensures) c.in_ok-asked.asked c.in_ok-asked.ensures (search rules) in search (rules, none)

pub returns-in_err-of : goal.returns-in_err-of
returns-in_err-of c = let none = at-unqualified c.in_ok-name.ensures.words c.in_ok-word.ensures.words c.in_err-of.ensures in search (rules, none)

pub returns : goal.returns
returns c = let found = at-found c.in_ok-name.ensures.words (c.in_ok-word.ensures.words ∙ ap (λ w. w ∷ words_of c.in_ok-word.rest.now) c.in_ok-verb.ensures) c.in_ok-of.field-0 c.in_ok-asked.asked c.in_ok-asked.ensures (search rules) c.in_ok-of.ensures in search (rules, found)
