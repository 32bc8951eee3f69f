-- What went out so far, and what is left.
use Rattle.std.proofs.Common.{◌≡◌, refl, sym, ◌∙◌}
use Rattle.std.proofs.lemmas.Result.{err_from_is_err_and}
use Rattle.mt_script.proofs.GoesLemmas.{goes_more, goes_none, nothing_out, some_left}
use Rattle.mt_script.proofs.output.write_all.Goals as goal

pub loop-init : goal.loop-init
loop-init g c = nothing_out _ _

pub returns-in_err-count : goal.returns-in_err-count
returns-in_err-count g c =
    let p = err_from_is_err_and c.from_residual.result c.from_residual.ensures.1 in
    let same : p.0 ≡ c.in_err-count.field-0.0 = search (p.2) in
    let some = some_left c.loop.rest.now (sym c.is_empty.ensures ∙ c.if-is_empty.false) in
    rw p.1 (same ∙ c.in_err-count.ensures.0, refl, (c.loop.rest.now, some, goes_none _ _ _ _ _ c.loop.invariant c.in_err-count.ensures.1))

pub loop-preserved : goal.loop-preserved
loop-preserved g c = rw c.split_at.ensures.back (goes_more _ _ _ c.args.bytes.now c.loop.rest.now c.in_ok-count.count c.loop.invariant c.in_ok-count.ensures.1)
