-- The names are read, or the first that isn't is in fault.
use Rattle.std.proofs.Common.{◌≡◌, refl}
use Rattle.std.proofs.lemmas.Result.{err_from_is_err_and}
use Rattle.mt_plain.specs.Events as plain
use Rattle.mt_plain.specs.Script.{event}
use Rattle.mt_run.proofs.AskLemmas.{create_read, create_source_refused, create_tables_refused, create_target_refused, create_workflow_refused, tables_read, tables_refused}
use Rattle.mt_run.proofs.asking.create.Goals as goal

pub returns-in_err-workflow-clause-named : goal.returns-in_err-workflow-clause-named
returns-in_err-workflow-clause-named g c =
    let words = c.args.words in
    let e = err_from_is_err_and c.from_residual.result c.from_residual.ensures.1 in
    let same : e.0 ≡ c.in_err-workflow.field-0.0 = search (e.2) in
    rw (e.1, same) (create_workflow_refused words.workflow.now words.source.now words.target.now words.tables.now _ c.in_err-workflow.ensures.value, refl, refl)

pub returns-in_err-source-clause-named : goal.returns-in_err-source-clause-named
returns-in_err-source-clause-named g c =
    let words = c.args.words in
    let e = err_from_is_err_and c.from_residual-in_err-source.result c.from_residual-in_err-source.ensures.1 in
    let same : e.0 ≡ c.in_err-source.field-0.0 = search (e.2) in
    rw (e.1, same) (
      create_source_refused words.workflow.now words.source.now words.target.now words.tables.now c.in_ok-workflow.workflow c.in_ok-workflow.ensures.value _ c.in_err-source.ensures.value,
      refl,
      refl,
    )

pub returns-in_err-target-clause-named : goal.returns-in_err-target-clause-named
returns-in_err-target-clause-named g c =
    let words = c.args.words in
    let e = err_from_is_err_and c.from_residual-in_err-target.result c.from_residual-in_err-target.ensures.1 in
    let same : e.0 ≡ c.in_err-target.field-0.0 = search (e.2) in
    rw (e.1, same) (
      create_target_refused words.workflow.now words.source.now words.target.now words.tables.now c.in_ok-workflow.workflow c.in_ok-workflow.ensures.value c.in_ok-source.source c.in_ok-source.ensures.value _
          c.in_err-target.ensures.value,
      refl,
      refl,
    )

pub returns-in-Ok-clause-named : goal.returns-in-Ok-clause-named
returns-in-Ok-clause-named g c =
    let words = c.args.words in
    let made = plain.create c.in_ok-workflow.workflow c.in_ok-source.source c.in_ok-target.target c.in-Ok.tables.items in (
      event made,
      create_read words.workflow.now words.source.now words.target.now words.tables.now c.in_ok-workflow.workflow c.in_ok-workflow.ensures.value c.in_ok-source.source c.in_ok-source.ensures.value c.in_ok-target.target
          c.in_ok-target.ensures.value c.in-Ok.tables.items (tables_read c.table_list.result words.tables.now c.table_list.ensures.value c.in-Ok.tables c.in-Ok.is),
      c.ask.ensures.answered,
    )

pub returns-in-Err-clause-named : goal.returns-in-Err-clause-named
returns-in-Err-clause-named g c =
    let words = c.args.words in (
      create_tables_refused words.workflow.now words.source.now words.target.now words.tables.now c.in_ok-workflow.workflow c.in_ok-workflow.ensures.value c.in_ok-source.source c.in_ok-source.ensures.value
          c.in_ok-target.target c.in_ok-target.ensures.value c.in-Err.fault (tables_refused c.table_list.result words.tables.now c.table_list.ensures.value c.in-Err.fault c.in-Err.is),
      refl,
      refl,
    )
