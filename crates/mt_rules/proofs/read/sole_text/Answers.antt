-- No value, or more than one.
use Rattle.mt_rules.proofs.ReadLemmas.{sole_text-other}
use Rattle.mt_rules.proofs.read.sole_text.Goals as goal

pub returns-then-list-ne1 : goal.returns-then-list-ne1
returns-then-list-ne1 c = sole_text-other c.args.list.now c.if-list-ne1.true
