-- That a text is read exactly where it is a target's holds of the reading function.
use Rattle.std.proofs.Common.{Err, rules}
use Rattle.mt_names.specs.declared.fault.NameFault.TheVariants.{NoKeyspace}
use Rattle.mt_names.proofs.KeyLemmas.{target_accepts}
use Rattle.mt_names.proofs.keys.RuleTarget.parse.Goals as goal

pub returns-in-None-clause-grammar : goal.returns-in-None-clause-grammar
returns-in-None-clause-grammar c = target_accepts c.args.text.now (Err NoKeyspace) (search rules)

pub returns-in-Some-clause-grammar : goal.returns-in-Some-clause-grammar
returns-in-Some-clause-grammar c = target_accepts c.args.text.now c.target_of.result (search rules)
