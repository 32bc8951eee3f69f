-- A number of fewer than 19 digits has room for one more.
use Rattle.std.proofs.Common.{arith}
use Rattle.mt_script.proofs.NumberLemmas.{next-fits}
use Rattle.mt_script.proofs.numbers.digits.Goals as goal

pub overflow_mul-number : goal.overflow_mul-number
overflow_mul-number c = record { fits = omega (arith, next-fits c.loop-byte.number c.loop-byte.byte-index c.loop-byte.invariant.2 (omega (arith, c.loop-byte-test.true, c.requires))) }

pub overflow_add-number : goal.overflow_add-number
overflow_add-number c = record { fits = omega (arith, next-fits c.loop-byte.number c.loop-byte.byte-index c.loop-byte.invariant.2 (omega (arith, c.loop-byte-test.true, c.requires)), c.if-digit-gt9.false) }
