-- A write fault cuts the line short.
use Rattle.std.proofs.Common.{◌≡◌, ◌++◌, ◌∙◌, subst}
use Rattle.std.proofs.lemmas.Result.{err_from_is_err_and}
use Rattle.mt_plain.specs.Output.{line_feed}
use Rattle.mt_script.specs.Bytes.{IsCutShort}
use Rattle.mt_run.proofs.command.tell_refusal.Goals as goal

pub returns-in_err-write_line : goal.returns-in_err-write_line
returns-in_err-write_line g c =
    let e = err_from_is_err_and c.from_residual.result c.from_residual.ensures.1 in
    let same : e.0 ≡ c.in_err-write_line.field-0.0 = search (e.2) in
    let failed = c.in_err-write_line.ensures in
    rw e.1 (
      same ∙ failed.0,
      subst (λ text. IsCutShort (g.E.Write.contents c.args.errors.now) (g.E.Write.contents c.write_line.new.writer) (text ++ line_feed)) (c.as_bytes.ensures.value ∙ c.as_str.ensures) failed.2,
    )
