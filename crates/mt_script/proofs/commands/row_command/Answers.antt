-- What was read of the words is what is commanded.
use Rattle.std.proofs.Common.{rules}
use Rattle.mt_plain.specs.Script.{change, get}
use Rattle.mt_script.specs.Lines.{verb_text}
use Rattle.mt_script.proofs.RowLemmas.{row-found, row-none}
use Rattle.mt_script.proofs.commands.row_command.Goals as goal

pub returns-in_err-asked : goal.returns-in_err-asked
returns-in_err-asked c = let none = row-none change get c.in_ok-name.name.now (verb_text c.args.verb) c.in_ok-name.ensures.words c.in_err-asked.ensures in search (rules, none)

pub returns-then-not-may_ask : goal.returns-then-not-may_ask
returns-then-not-may_ask c = let none = row-found change get c.in_ok-name.name.now (verb_text c.args.verb) c.in_ok-name.ensures.words c.in_ok-asked.asked c.in_ok-asked.ensures in search (rules, none)

pub returns : goal.returns
returns c = let found = row-found change get c.in_ok-name.name.now (verb_text c.args.verb) c.in_ok-name.ensures.words c.in_ok-asked.asked c.in_ok-asked.ensures in search (rules, found)
