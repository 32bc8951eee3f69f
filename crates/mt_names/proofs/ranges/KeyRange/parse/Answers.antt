-- That a text is read exactly where it is a range's holds of the reading function.
use Rattle.std.proofs.Common.{Err, rules}
use Rattle.mt_names.specs.declared.fault.NameFault.TheVariants.{BadRange}
use Rattle.mt_names.proofs.RangeTextLemmas.{range_accepts}
use Rattle.mt_names.proofs.ranges.KeyRange.parse.Goals as goal

pub returns-in-None-clause-grammar : goal.returns-in-None-clause-grammar
returns-in-None-clause-grammar c = range_accepts c.args.text.now (Err BadRange) (search rules)

pub returns-in-Some-clause-grammar : goal.returns-in-Some-clause-grammar
returns-in-Some-clause-grammar c = range_accepts c.args.text.now c.range_of.result (search rules)
