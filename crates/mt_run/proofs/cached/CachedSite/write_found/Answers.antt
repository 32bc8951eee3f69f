-- The row is written where the name leads that was read, and what is kept then leaves the site.
use Rattle.std.proofs.Common.{subst, sym}
use Rattle.mt_run.specs.Names.{plain_key}
use Rattle.mt_run.specs.Rows.{WrittenThrough}
use Rattle.mt_run.proofs.cached.CachedSite.write_found.Goals as goal

pub returns-clause-told : goal.returns-clause-told
returns-clause-told g c =
    let old = c.args.self.now.site.core in
    let told = c.write_through-told.result in
    subst (λ site. WrittenThrough old (plain_key c.args.name.now) c.args.op told site.core) (sym c.keep.ensures)
    (subst (λ name. WrittenThrough old name c.args.op told c.write_through-told.new.self.site.core) c.in_ok-key.ensures.key c.write_through-told.ensures.told)
