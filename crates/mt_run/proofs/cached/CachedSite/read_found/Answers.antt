-- The row is read where the name leads that was read.
use Rattle.std.proofs.Common.{subst}
use Rattle.mt_names.specs.declared.types.TabletType.TheVariants.{Primary}
use Rattle.mt_run.specs.Rows.{ReadThrough}
use Rattle.mt_run.proofs.cached.CachedSite.read_found.Goals as goal

pub returns-clause-told : goal.returns-clause-told
returns-clause-told g c = subst (λ name. ReadThrough c.args.self.now.site.core name c.args.key Primary c.read_through-told.result) c.in_ok-name.ensures.key c.read_through-told.ensures
