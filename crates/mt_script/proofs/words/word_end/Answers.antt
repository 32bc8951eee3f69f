-- Where no byte is blank, there is no first one.
use Rattle.std.proofs.Common.{length, unwrap_or, ap, rules}
use Rattle.mt_script.proofs.BlankLemmas.{no_blank}
use Rattle.mt_script.proofs.words.word_end.Goals as goal

pub returns-in-8-to-16 : goal.returns-in-8-to-16
returns-in-8-to-16 c = ap (λ end. unwrap_or end (length c.args.line.now)) (no_blank c.args.line.now (search rules))

pub returns-in-17-to-32 : goal.returns-in-17-to-32
returns-in-17-to-32 c = ap (λ end. unwrap_or end (length c.args.line.now)) (no_blank c.args.line.now (search rules))

pub returns-in-33-to-64 : goal.returns-in-33-to-64
returns-in-33-to-64 c = ap (λ end. unwrap_or end (length c.args.line.now)) (no_blank c.args.line.now (search rules))
