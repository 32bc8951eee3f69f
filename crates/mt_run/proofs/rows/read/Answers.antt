-- The answer is that of the site where the name leads.
use Rattle.std.proofs.Common.{Some, ap, refl, subst}
use Rattle.mt_names.specs.declared.types.TabletType.TheVariants.{Primary}
use Rattle.mt_plain.specs.Output.{told_request}
use Rattle.mt_plain.specs.Script.{get, request_of}
use Rattle.mt_site.specs.ByHand.{read_from}
use Rattle.mt_run.specs.Names.{plain_key}
use Rattle.mt_run.specs.Runs.{IsRowTold, Tells, through_text}
use Rattle.mt_run.proofs.RowLemmas.{read_told, table_key}
use Rattle.mt_run.proofs.rows.read.Goals as goal

pub returns-in-Some-clause-told : goal.returns-in-Some-clause-told
returns-in-Some-clause-told g c = λ scopes p stands.
    let bytes = c.as_bytes.result.now in
    let new = c.read_named.new.self.site.core in
    let text = through_text read_from c.in-Some.told in (
      text,
      subst (λ name. Tells scopes p (told_request p (request_of (get name c.args.key))) (Some text) new) c.as_bytes.ensures.value
          (read_told scopes p c.args.cached.now.site.core new stands bytes c.args.key (plain_key bytes) Primary c.in-Some.told (ap (λ site. site.core) c.read_named.ensures.same) (table_key bytes c.in-Some.ensures.name) refl c.in-Some.ensures.told),
      c.tell_read.ensures,
    )

pub returns-in-None-clause-told : goal.returns-in-None-clause-told
returns-in-None-clause-told g c =
    subst (λ core. IsRowTold core (get c.args.name.now c.args.key) c.args.waiting.now.items c.read_by_key.new.waiting.items c.read_named.new.self.site.core) (ap (λ site. site.core) c.read_named.ensures.same) c.read_by_key.ensures
