-- The row is another one in its place.
use Rattle.std.proofs.Common.{None, Some, Err, refl, sym, rules, ◌≡◌, ◌∙◌}
use Rattle.mt_model.specs.declared.faults.PrimaryFault.TheVariants.{NoRow, TooLong}
use Rattle.mt_model.specs.declared.rows.Op.TheVariants.{Append}
use Rattle.mt_store.proofs.FoundLemmas.{replaced-row, row-fits, same-row}
use Rattle.mt_primary.specs.Tables.{Write}
use Rattle.mt_primary.proofs.ChangeLemmas.{entered, refused_room, refused_row}
use Rattle.mt_primary.proofs.edits.append_row.Goals as goal

pub returns-in-Err : goal.returns-in-Err
returns-in-Err c =
    refused_row c.args.table.now c.args.table.now c.args.log.now.log c.args.log.now.log c.args.name.now (Write (Append c.args.key c.args.more)) None (Err NoRow) (rw (← c.table.view_is) (row-fits c.table.inside.rows c.args.key c.in-Err.field-0 c.in-Err.ensures)) NoRow refl (λ e. absurd cc) refl refl refl

pub returns-in_ok-made-in-Ok : goal.returns-in_ok-made-in-Ok
returns-in_ok-made-in-Ok c =
    let did = replaced-row c.table.inside.rows c.args.key c.in-Ok.spot c.in_ok-made-in-Ok.made.row c.replace-before.result c.replace-before.new.self c.table.invariant c.in-Ok.ensures c.replace-before.ensures in
    let stood = same-row c.table.inside.rows c.args.key c.in-Ok.spot c.at.result.now c.table.invariant c.in-Ok.ensures c.at.ensures in
    let same : Some c.replace-before.result ≡ Some c.at.result.now.1 = did.0 ∙ sym stood in
    let before : c.replace-before.result ≡ c.at.result.now.1 = cc in
    entered _ _ _ _ _ _ (Some c.replace-before.result) _ (rw (← c.table.view_is) (sym did.0)) (Some c.in_ok-made-in-Ok.made.row) (rw before (search rules)) _ c.make.ensures.told _ c.in_ok-made-in-Ok.was (λ q. rw (← c.table.view_is) (did.1 q)) (search rules) (search rules) (search rules) (search rules) c.position.result refl (search rules)

pub returns-in_err-extend-in-Ok : goal.returns-in_err-extend-in-Ok
returns-in_err-extend-in-Ok c =
    refused_row _ _ _ _ _ _ (Some c.at.result.now.1) _ (rw (← c.table.view_is) (sym (same-row c.table.inside.rows c.args.key c.in-Ok.spot c.at.result.now c.table.invariant c.in-Ok.ensures c.at.ensures))) TooLong (search rules) (λ e. absurd cc) (search rules) refl refl

pub returns-in_err-made-in-Ok : goal.returns-in_err-made-in-Ok
returns-in_err-made-in-Ok c =
    refused_room _ _ _ _ _ _ (Some c.at.result.now.1) _ (rw (← c.table.view_is) (sym (same-row c.table.inside.rows c.args.key c.in-Ok.spot c.at.result.now c.table.invariant c.in-Ok.ensures c.at.ensures))) (Some c.extend.new.value) (search rules) _ c.make.ensures.told _ c.in_err-made-in-Ok.was (search rules) refl (search rules)
