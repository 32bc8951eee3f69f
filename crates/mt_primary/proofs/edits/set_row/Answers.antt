-- The row is set, whatever stands there.
use Rattle.std.proofs.Common.{Some, refl, sym, rules}
use Rattle.mt_store.proofs.FoundLemmas.{set-done, set-refused}
use Rattle.mt_primary.proofs.ChangeLemmas.{entered, refused_memory, refused_room}
use Rattle.mt_primary.proofs.edits.set_row.Goals as goal

pub returns-in_err-name : goal.returns-in_err-name
returns-in_err-name c =
    refused_room _ _ _ _ _ _ _ _ refl (Some c.args.value.now) refl _ c.share.ensures.told _ c.in_err-name.was (search rules) refl (search rules)

pub returns-in_err-before : goal.returns-in_err-before
returns-in_err-before c =
    let same = set-refused c.table.inside.rows c.args.key c.in_ok-name.field-0.row c.set.result c.set.new.self c.set.ensures (search rules) in
    refused_memory _ _ _ _ _ _ _ _ refl (Some c.args.value.now) refl _ c.share.ensures.told _ c.in_ok-name.was (search rules) (rw (same, c.table.view_is) refl) (search rules)

pub returns : goal.returns
returns c =
    let did = set-done c.table.inside.rows c.args.key c.in_ok-name.field-0.row c.set.result c.in_ok-before.before c.set.new.self c.set.ensures (search rules) in
    entered _ _ _ _ _ _ c.in_ok-before.before _ (rw (← c.table.view_is) (sym did.0)) (Some c.in_ok-name.field-0.row) (search rules) _ c.share.ensures.told _ c.in_ok-name.was (λ q. rw (← c.table.view_is) (did.1 q)) (search rules) (search rules) (search rules) (search rules) c.position.result refl (search rules)
