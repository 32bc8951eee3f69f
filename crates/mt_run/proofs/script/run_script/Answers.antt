-- A script that isn't read has no output; one that is has that of its lines.
use Rattle.std.proofs.Common.{◌≡◌, [], subst}
use Rattle.std.proofs.lemmas.Result.{err_from_is_err_and}
use Rattle.mt_plain.specs.Plain.{opening}
use Rattle.mt_run.specs.LineRuns.{SoFar}
use Rattle.mt_run.specs.Runs.{RunsLines}
use Rattle.mt_run.proofs.RunLemmas.{runs_lines, runs_read}
use Rattle.mt_run.proofs.script.run_script.Goals as goal

pub returns-in_err-script : goal.returns-in_err-script
returns-in_err-script g c =
    let e = err_from_is_err_and c.from_residual.result c.from_residual.ensures.1 in
    let same : e.0 ≡ c.in_err-script.field-0.0 = search (e.2) in
    rw (e.1, same) (runs_read (g.A.Asks.scopes c.args.watchers) _ _ (g.W.Write.contents c.args.writer.now) c.in_err-script.field-0.0 c.in_err-script.ensures)

pub returns : goal.returns
returns g c =
    let scopes = g.A.Asks.scopes c.args.watchers in
    runs_lines scopes _ _ _ _ c.in_ok-script.script.items c.run_lines.result c.in_ok-script.ensures
    (subst (λ script. RunsLines (opening scopes) script (g.W.Write.contents c.args.writer.now) (g.W.Write.contents c.run_lines.new.writer) c.run_lines.result) c.deref.ensures.value
    (subst (λ w. SoFar (g.A.Asks.scopes w) [] [] c.open-run.result.cached.site.core → RunsLines (opening (g.A.Asks.scopes w)) c.deref.result.now (g.W.Write.contents c.args.writer.now) (g.W.Write.contents c.run_lines.new.writer) c.run_lines.result) c.open-run.ensures.watchers
    c.run_lines.ensures c.open-run.ensures.begins))
