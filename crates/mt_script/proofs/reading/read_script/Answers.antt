-- What was read so far, and what a fault left.
use Rattle.std.proofs.Common.{◌≡◌, ◌++◌, sym, subst}
use Rattle.std.proofs.KnownBytes.{Consumes-trans}
use Rattle.std.proofs.lemmas.Result.{err_from_is_err_and}
use Rattle.mt_script.specs.Bytes.{HasRead}
use Rattle.mt_script.proofs.ReadLemmas.{has_read_more}
use Rattle.mt_script.proofs.reading.read_script.Goals as goal

pub returns-in_err-read_more : goal.returns-in_err-read_more
returns-in_err-read_more g c =
    let p = err_from_is_err_and c.from_residual.result c.from_residual.ensures.1 in
    let same : p.0 ≡ c.in_err-read_more.field-0.0 = search (p.2) in
    let failed = c.in_err-read_more.ensures in
    rw p.1 (
      c.loop.script.items ++ failed.0,
      Consumes-trans _ _ _ c.loop.script.items failed.0 c.loop.invariant.0 failed.1,
      subst (λ f. HasRead f (c.loop.script.items ++ failed.0)) (sym same) (has_read_more c.in_err-read_more.field-0.0 c.loop.script.items failed.0 c.loop.invariant.1 failed.2),
    )
