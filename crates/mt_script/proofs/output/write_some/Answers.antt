-- What one write took.
use Rattle.std.proofs.Common.{refl, arith}
use Rattle.mt_script.proofs.KnownLemmas.{kept_appends}
use Rattle.mt_script.proofs.output.write_some.Goals as goal

pub returns-in-Err : goal.returns-in-Err
returns-in-Err g c = (omega arith, kept_appends _ _ c.in-Err.ensures.bytes)

pub returns-in-Err-2 : goal.returns-in-Err-2
returns-in-Err-2 g c = (refl, kept_appends _ _ c.in-Err-2.ensures.bytes)
