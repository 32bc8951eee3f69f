-- Where there is no memory, nothing is read or written; else the watchers have the scopes of the keyspaces.
use Rattle.std.proofs.Common.{◌≡◌, subst}
use Rattle.std.proofs.lemmas.Result.{err_from_is_err_and}
use Rattle.mt_plain.specs.Output.{watchers_of}
use Rattle.mt_run.specs.Runs.{Runs}
use Rattle.mt_run.proofs.RunLemmas.{runs_none}
use Rattle.mt_run.proofs.watching.run_watched.Goals as goal

pub returns-in_err-watchers : goal.returns-in_err-watchers
returns-in_err-watchers g c =
    let e = err_from_is_err_and c.from_residual.result c.from_residual.ensures.1 in
    let same : e.0 ≡ c.in_err-watchers.field-0.0 = search (e.2) in
    rw (e.1, same, c.in_err-watchers.ensures.memory) (runs_none (watchers_of c.args.keyspaces.now) _ _)

pub returns : goal.returns
returns g c =
    subst (λ scopes. Runs scopes (g.R.Read.remaining c.args.reader.now) (g.R.Read.remaining c.run_script.new.reader) (g.W.Write.contents c.args.writer.now) (g.W.Write.contents c.run_script.new.writer) c.run_script.result) c.in_ok-watchers.ensures.scopes c.run_script.ensures
