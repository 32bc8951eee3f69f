-- What the standard parser reads of a text without a plus.
use Rattle.std.proofs.Common.{arith, rules, ◌∙◌}
use Rattle.mt_script.proofs.NumberLemmas.{result_ok-parse}
use Rattle.mt_script.proofs.numbers.long_number.Goals as goal

pub returns : goal.returns
returns c = c.ok.ensures.value ∙ result_ok-parse 20 64 c.args.word.now c.parse.result c.parse.ensures.value.0 (omega arith) (search rules)
