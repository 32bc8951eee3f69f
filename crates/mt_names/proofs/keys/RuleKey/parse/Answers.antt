-- That a text is read exactly where it is a key's holds of the reading function.
use Rattle.std.proofs.Common.{rules}
use Rattle.mt_names.proofs.KeyLemmas.{key_accepts}
use Rattle.mt_names.proofs.keys.RuleKey.parse.Goals as goal

pub returns-in_err-key-clause-grammar : goal.returns-in_err-key-clause-grammar
returns-in_err-key-clause-grammar c = key_accepts c.args.text.now c.from_residual.result (search rules)

pub returns-clause-grammar : goal.returns-clause-grammar
returns-clause-grammar c = key_accepts c.args.text.now c.key_of_type.result (search rules)
