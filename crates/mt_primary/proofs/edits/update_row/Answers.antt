-- The row is another one in its place.
use Rattle.std.proofs.Common.{None, Some, Err, refl, sym, rules}
use Rattle.mt_model.specs.declared.faults.PrimaryFault.TheVariants.{NoRow}
use Rattle.mt_model.specs.declared.rows.Op.TheVariants.{Update}
use Rattle.mt_store.proofs.FoundLemmas.{replaced-row, row-fits, row-stands}
use Rattle.mt_primary.specs.Tables.{Write}
use Rattle.mt_primary.proofs.ChangeLemmas.{entered, refused_room, refused_row}
use Rattle.mt_primary.proofs.edits.update_row.Goals as goal

pub returns-in_err-made-in-Ok : goal.returns-in_err-made-in-Ok
returns-in_err-made-in-Ok c =
    refused_room _ _ _ _ _ _ (Some c.in-Ok.ensures.value) _ (rw (← c.table.view_is) (row-stands c.table.inside.rows c.table.invariant c.in-Ok.spot (c.args.key, c.in-Ok.ensures.value) c.in-Ok.ensures.page c.in-Ok.ensures.row)) (Some c.args.value) refl _ c.make.ensures.told _ c.in_err-made-in-Ok.was (search rules) refl (search rules)

pub returns-in-Err : goal.returns-in-Err
returns-in-Err c =
    refused_row c.args.table.now c.args.table.now c.args.log.now.log c.args.log.now.log c.args.name.now (Write (Update c.args.key c.args.value)) None (Err NoRow) (rw (← c.table.view_is) (row-fits c.table.inside.rows c.args.key c.in-Err.field-0 c.in-Err.ensures)) NoRow refl (λ e. absurd cc) refl refl refl

pub returns-in_ok-made-in-Ok : goal.returns-in_ok-made-in-Ok
returns-in_ok-made-in-Ok c =
    let did = replaced-row c.table.inside.rows c.args.key c.in-Ok.spot c.in_ok-made-in-Ok.made.row c.replace-before.result c.replace-before.new.self c.table.invariant c.in-Ok.ensures c.replace-before.ensures in
    entered _ _ _ _ _ _ (Some c.replace-before.result) _ (rw (← c.table.view_is) (sym did.0)) (Some c.in_ok-made-in-Ok.made.row) (search rules) _ c.make.ensures.told _ c.in_ok-made-in-Ok.was (λ q. rw (← c.table.view_is) (did.1 q)) (search rules) (search rules) (search rules) (search rules) c.position.result refl (search rules)
