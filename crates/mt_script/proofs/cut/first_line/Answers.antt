-- The first line ends at the first line feed, or with the input.
use Rattle.std.proofs.Common.{sym, rules}
use Rattle.mt_script.proofs.CutLemmas.{lines-None, lines-Some}
use Rattle.mt_script.proofs.cut.first_line.Goals as goal

pub returns-in_default : goal.returns-in_default
returns-in_default c = let one = lines-None c.args.input.now in search (rules, one)

pub returns : goal.returns
returns c = let first = lines-Some c.args.input.now c.in-Some.end (sym c.in-Some.ensures) in search (rules, first)
