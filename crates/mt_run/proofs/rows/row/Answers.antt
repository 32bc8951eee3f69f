-- A row is written or read, as is asked.
use Rattle.std.proofs.Common.{subst, sym}
use Rattle.mt_plain.specs.Script.{change, get}
use Rattle.mt_script.specs.Lines.{row_from}
use Rattle.mt_run.specs.Runs.{IsRowTold}
use Rattle.mt_run.proofs.rows.row.Goals as goal

pub returns-in-Write-clause-told : goal.returns-in-Write-clause-told
returns-in-Write-clause-told g c =
    subst (λ asked. IsRowTold c.args.cached.now.site.core (row_from change get c.args.name.now asked) c.args.waiting.now.items c.write.new.waiting.items c.write.new.cached.site.core) (sym c.in-Write.is) c.write.ensures.told

pub returns-in-Read-clause-told : goal.returns-in-Read-clause-told
returns-in-Read-clause-told g c =
    subst (λ asked. IsRowTold c.args.cached.now.site.core (row_from change get c.args.name.now asked) c.args.waiting.now.items c.read.new.waiting.items c.read.new.cached.site.core) (sym c.in-Read.is) c.read.ensures.told
