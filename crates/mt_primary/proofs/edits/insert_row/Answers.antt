-- The row is made at its place.
use Rattle.std.proofs.Common.{None, Some, Err, refl, rules}
use Rattle.mt_model.specs.declared.faults.PrimaryFault.TheVariants.{RowExists}
use Rattle.mt_model.specs.declared.rows.Op.TheVariants.{Insert}
use Rattle.mt_store.proofs.FoundLemmas.{put-done, put-refused, row-fits, row-stands}
use Rattle.mt_primary.specs.Tables.{Write}
use Rattle.mt_primary.proofs.ChangeLemmas.{entered, refused_memory, refused_room, refused_row}
use Rattle.mt_primary.proofs.edits.insert_row.Goals as goal

pub returns-in-Ok : goal.returns-in-Ok
returns-in-Ok c =
    refused_row c.args.table.now c.args.table.now c.args.log.now.log c.args.log.now.log c.args.name.now (Write (Insert c.args.key c.args.value)) (Some c.in-Ok.ensures.value) (Err RowExists) (rw (← c.table.view_is) (row-stands c.table.inside.rows c.table.invariant c.in-Ok.field-0 (c.args.key, c.in-Ok.ensures.value) c.in-Ok.ensures.page c.in-Ok.ensures.row)) RowExists refl (λ e. absurd cc) refl refl refl

pub returns-in_err-made-in-Err : goal.returns-in_err-made-in-Err
returns-in_err-made-in-Err c =
    refused_room _ _ _ _ _ _ None _ (rw (← c.table.view_is) (row-fits c.table.inside.rows c.args.key c.in-Err.spot c.in-Err.ensures)) (Some c.args.value) refl _ c.make.ensures.told _ c.in_err-made-in-Err.was (search rules) refl (search rules)

pub returns-in_err-map_err-in-Err : goal.returns-in_err-map_err-in-Err
returns-in_err-map_err-in-Err c =
    let same = put-refused c.table.inside.rows c.args.key c.in_ok-made-in-Err.made.row c.insert.result c.insert.new.self c.insert.ensures.rows (search rules) in
    refused_memory _ _ _ _ _ _ None _ (rw (← c.table.view_is) (row-fits c.table.inside.rows c.args.key c.in-Err.spot c.in-Err.ensures)) (Some c.args.value) refl _ c.make.ensures.told _ c.in_ok-made-in-Err.was (search rules) (rw (same, c.table.view_is) refl) (search rules)

pub returns-in_ok-map_err-in-Err : goal.returns-in_ok-map_err-in-Err
returns-in_ok-map_err-in-Err c =
    entered _ _ _ _ _ _ None _ (rw (← c.table.view_is) (row-fits c.table.inside.rows c.args.key c.in-Err.spot c.in-Err.ensures)) (Some c.in_ok-made-in-Err.made.row) (search rules) _ c.make.ensures.told _ c.in_ok-made-in-Err.was (λ q. rw (← c.table.view_is) (put-done c.table.inside.rows c.args.key c.in_ok-made-in-Err.made.row c.insert.result c.insert.new.self c.insert.ensures.rows (search rules) q)) (search rules) (search rules) (search rules) (search rules) c.position.result refl (search rules)
