-- A write fault cuts the line short.
use Rattle.std.proofs.Common.{◌≡◌, ◌∙◌, ℕ, List, false, true, ap, sym}
use Rattle.std.proofs.lemmas.Result.{err_from_is_err_and}
use Rattle.mt_plain.specs.Output.{refused_text}
use Rattle.mt_run.proofs.CanonLemmas.{line_failed}
use Rattle.mt_run.proofs.canon.write_canon.Goals as goal

pub returns-in_err-write_line-in-Taken : goal.returns-in_err-write_line-in-Taken
returns-in_err-write_line-in-Taken g c = λ due is.
    let e = err_from_is_err_and c.from_residual.result c.from_residual.ensures.1 in
    let same : e.0 ≡ c.in_err-write_line-in-Taken.field-0.0 = search (e.2) in
    let text : due ≡ (c.as_bytes.result.now, true) = rw c.in-Taken.is at is ∙ sym (ap (λ (bytes : List ℕ). (bytes, true)) c.as_bytes.ensures.value) in
    rw (e.1, same) (line_failed due c.as_bytes.result.now true _ _ c.in_err-write_line-in-Taken.field-0.0 text c.in_err-write_line-in-Taken.ensures)

pub returns-in_err-write_line-in-Refused : goal.returns-in_err-write_line-in-Refused
returns-in_err-write_line-in-Refused g c = λ due is.
    let e = err_from_is_err_and c.from_residual-in_err-write_line-in-Refused.result c.from_residual-in_err-write_line-in-Refused.ensures.1 in
    let same : e.0 ≡ c.in_err-write_line-in-Refused.field-0.0 = search (e.2) in
    let text : due ≡ (refused_text c.as_bytes-in-Refused.result.now, false) = rw c.in-Refused.is at is ∙ sym (ap (λ (bytes : List ℕ). (refused_text bytes, false)) c.as_bytes-in-Refused.ensures.value) in
    rw (e.1, same) (line_failed due (refused_text c.as_bytes-in-Refused.result.now) false _ _ c.in_err-write_line-in-Refused.field-0.0 text c.in_err-write_line-in-Refused.ensures)
