-- The name is read, or is in fault, and the row is written or read there.
use Rattle.std.proofs.Common.{◌≡◌, Ok, ap, refl, subst, sym, ◌∙◌}
use Rattle.std.proofs.lemmas.Result.{err_from_is_err_and}
use Rattle.mt_model.specs.declared.rows.Op.{Op}
use Rattle.mt_names.specs.Keys.{read_key}
use Rattle.mt_plain.specs.Events as plain
use Rattle.mt_plain.specs.Script.{change_at, event, get_at, request_of}
use Rattle.mt_script.specs.declared.lines.RowAsked.TheVariants as row
use Rattle.mt_script.specs.Lines.{row_from}
use Rattle.mt_run.proofs.AskLemmas.{row_asked, row_refused}
use Rattle.mt_run.proofs.asking.row_at.Goals as goal

pub returns-in_err-keyspace-clause-named : goal.returns-in_err-keyspace-clause-named
returns-in_err-keyspace-clause-named g c =
    let e = err_from_is_err_and c.from_residual.result c.from_residual.ensures.1 in
    let same : e.0 ≡ c.in_err-keyspace.field-0.0 = search (e.2) in
    rw (e.1, same) (row_refused c.args.name.now c.args.asked.now (read_key c.args.name.now) c.in_err-keyspace.field-0.0 refl c.in_err-keyspace.ensures, refl, refl)

pub returns-in-Write-clause-named : goal.returns-in-Write-clause-named
returns-in-Write-clause-named g c =
    let there = c.in_ok-keyspace.field-0-0 in
    let text = c.in-Write.text in
    let request = event (plain.write there.keyspace there.table c.op.result) in (
      request,
      subst (λ a. request_of (row_from change_at get_at c.args.name.now a) ≡ Ok request) (sym c.in-Write.is)
          (row_asked c.args.name.now (row.Write text) (read_key c.args.name.now) (there, c.in_ok-keyspace.type_of) refl c.in_ok-keyspace.ensures
          ∙ ap (λ (op : Op). Ok (event (plain.write there.keyspace there.table op))) (sym c.op.ensures)),
      c.ask.ensures.answered,
    )

pub returns-in-Read-clause-named : goal.returns-in-Read-clause-named
returns-in-Read-clause-named g c =
    let there = c.in_ok-keyspace.field-0-0 in
    let for_type = c.in_ok-keyspace.type_of in
    let request = event (plain.read there.keyspace there.table c.in-Read.key for_type) in (
      request,
      subst (λ a. request_of (row_from change_at get_at c.args.name.now a) ≡ Ok request) (sym c.in-Read.is)
          (row_asked c.args.name.now (row.Read c.in-Read.key) (read_key c.args.name.now) (there, for_type) refl c.in_ok-keyspace.ensures),
      c.ask-in-Read.ensures.answered,
    )
