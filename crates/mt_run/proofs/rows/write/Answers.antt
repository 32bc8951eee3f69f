-- The answer is that of the site where the name leads.
use Rattle.std.proofs.Common.{Some, ap, subst}
use Rattle.mt_event.specs.Reasons.{done_by}
use Rattle.mt_plain.specs.Output.{told_request}
use Rattle.mt_plain.specs.Script.{change, request_of}
use Rattle.mt_script.specs.Lines.{op_from}
use Rattle.mt_run.specs.Names.{plain_key}
use Rattle.mt_run.specs.Runs.{IsRowTold, Tells, through_text}
use Rattle.mt_run.proofs.RowLemmas.{table_key, write_told}
use Rattle.mt_run.proofs.rows.write.Goals as goal

pub returns-in-Some-clause-told : goal.returns-in-Some-clause-told
returns-in-Some-clause-told g c = λ scopes p stands.
    let bytes = c.as_bytes.result.now in
    let new = c.write_named.new.self.site.core in
    let text = through_text done_by c.in-Some.told in (
      text,
      subst (λ name. Tells scopes p (told_request p (request_of (change name (op_from c.args.text.now)))) (Some text) new) c.as_bytes.ensures.value
          (subst (λ op. Tells scopes p (told_request p (request_of (change bytes op))) (Some text) new) c.op.ensures
          (write_told scopes p c.args.cached.now.site.core new stands bytes c.op.result (plain_key bytes) c.in-Some.told (table_key bytes c.in-Some.ensures.name) c.in-Some.ensures.told)),
      c.tell_written.ensures,
    )

pub returns-in-None-clause-told : goal.returns-in-None-clause-told
returns-in-None-clause-told g c =
    subst (λ core. IsRowTold core (change c.args.name.now (op_from c.args.text.now)) c.args.waiting.now.items c.write_by_key.new.waiting.items c.write_by_key.new.cached.site.core) (ap (λ site. site.core) c.in-None.ensures.none)
    (subst (λ op. IsRowTold c.write_named.new.self.site.core (change c.args.name.now op) c.args.waiting.now.items c.write_by_key.new.waiting.items c.write_by_key.new.cached.site.core) c.op-in-None.ensures c.write_by_key.ensures.told)
