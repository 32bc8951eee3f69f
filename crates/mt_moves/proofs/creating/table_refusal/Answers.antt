-- What `may_create` says of the one table.
use Rattle.std.proofs.Common.{◌≡◌, ◌∷◌, [], None, Some, ap, sym, ◌∙◌}
use Rattle.mt_workflow.specs.Creates as create
use Rattle.mt_stands.specs.Workflows.{is_moved, refusal_by_table}
use Rattle.mt_moves.proofs.CreateLemmas.{none-refuses, one-refuses, one-table}
use Rattle.mt_moves.proofs.creating.table_refusal.Goals as goal

pub returns-in-Ok : goal.returns-in-Ok
returns-in-Ok c = λ primaries.
    let answer = ap (λ ts. create.answer_of (create.create_refusal c.args.topology.now c.args.source.now c.args.target.now ts)) (sym c.from_ref.ensures.value) ∙ sym c.may_create.ensures ∙ c.in-Ok.is in
    let none : create.table_refusal c.args.topology.now c.args.source.now c.args.target.now c.args.table.now ≡ None =
    sym (one-table c.args.topology.now c.args.source.now c.args.target.now c.args.table.now c.requires.apart c.requires.unsharded)
    ∙ none-refuses (create.create_refusal c.args.topology.now c.args.source.now c.args.target.now (c.args.table.now ∷ [])) answer in
    c.refusal_by_table.ensures ∙ ap (λ b. refusal_by_table b None) c.is_moved-is_moved.ensures
    ∙ ap (refusal_by_table (is_moved c.args.workflows.now.entries c.args.table.now)) (sym none)

pub returns-in-Err : goal.returns-in-Err
returns-in-Err c = λ primaries.
    let answer = ap (λ ts. create.answer_of (create.create_refusal c.args.topology.now c.args.source.now c.args.target.now ts)) (sym c.from_ref.ensures.value) ∙ sym c.may_create.ensures ∙ c.in-Err.is in
    let some : create.table_refusal c.args.topology.now c.args.source.now c.args.target.now c.args.table.now ≡ Some c.in-Err.fault =
    sym (one-table c.args.topology.now c.args.source.now c.args.target.now c.args.table.now c.requires.apart c.requires.unsharded)
    ∙ one-refuses (create.create_refusal c.args.topology.now c.args.source.now c.args.target.now (c.args.table.now ∷ [])) c.in-Err.fault answer in
    c.refusal_by_table-in-Err.ensures ∙ ap (λ b. refusal_by_table b (Some c.in-Err.fault)) c.is_moved-is_moved.ensures
    ∙ ap (refusal_by_table (is_moved c.args.workflows.now.entries c.args.table.now)) (sym some)
