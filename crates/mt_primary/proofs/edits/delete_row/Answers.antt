-- The row is taken away, if it is there.
use Rattle.std.proofs.Common.{None, Some, Err, refl, sym, rules}
use Rattle.mt_model.specs.declared.faults.PrimaryFault.TheVariants.{NoRow}
use Rattle.mt_model.specs.declared.rows.Op.TheVariants.{Delete}
use Rattle.mt_store.proofs.FoundLemmas.{row-fits, row-stands, taken-row}
use Rattle.mt_primary.specs.Tables.{Write}
use Rattle.mt_primary.proofs.ChangeLemmas.{entered, refused_room, refused_row}
use Rattle.mt_primary.proofs.edits.delete_row.Goals as goal

pub returns-in-Err : goal.returns-in-Err
returns-in-Err c =
    refused_row c.args.table.now c.args.table.now c.args.log.now.log c.args.log.now.log c.args.name.now (Write (Delete c.args.key)) None (Err NoRow) (rw (← c.table.view_is) (row-fits c.table.inside.rows c.args.key c.in-Err.field-0 c.in-Err.ensures)) NoRow refl (λ e. absurd cc) refl refl refl

pub returns-in_err-name-in-Ok : goal.returns-in_err-name-in-Ok
returns-in_err-name-in-Ok c =
    refused_room _ _ _ _ _ _ (Some c.in-Ok.ensures.value) _ (rw (← c.table.view_is) (row-stands c.table.inside.rows c.table.invariant c.in-Ok.spot (c.args.key, c.in-Ok.ensures.value) c.in-Ok.ensures.page c.in-Ok.ensures.row)) None refl _ c.make_name.ensures.told _ c.in_err-name-in-Ok.was (search rules) refl (search rules)

pub returns-in_ok-name-in-Ok : goal.returns-in_ok-name-in-Ok
returns-in_ok-name-in-Ok c =
    let did = taken-row c.table.inside.rows c.args.key c.in-Ok.spot c.remove-before.result c.remove-before.new.self c.table.invariant c.in-Ok.ensures c.remove-before.ensures in
    entered _ _ _ _ _ _ (Some c.remove-before.result.1) _ (rw (← c.table.view_is) (sym did.0)) None refl _ c.make_name.ensures.told _ c.in_ok-name-in-Ok.was (λ q. rw (← c.table.view_is) (did.1 q)) (search rules) (search rules) (search rules) (search rules) c.position.result refl (search rules)
