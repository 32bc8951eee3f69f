-- The text's value, or that it has none.
use Rattle.std.proofs.Common.{inr, refl}
use Rattle.std.proofs.lemmas.Bool.{both_ways}
use Rattle.mt_rules.proofs.ReadLemmas.{value_of_text-some, value_of_text-none}
use Rattle.mt_rules.proofs.read.value_of_text.Goals as goal

pub returns-in-Ok-clause-ok : goal.returns-in-Ok-clause-ok
returns-in-Ok-clause-ok c = value_of_text-some c.args.text.now _ c.in-Ok.ensures.ok.0 c.in-Ok.ensures.ok.1

pub returns-else-is_memory-clause-err : goal.returns-else-is_memory-clause-err
returns-else-is_memory-clause-err c = inr (refl, value_of_text-none c.args.text.now (c.in-Err.ensures.err (λ memory. both_ways c.is_memory.result c.if-is_memory.false (c.is_memory.ensures.1 memory))))
