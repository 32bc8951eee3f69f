-- One key more.
use Rattle.std.proofs.Common.{◌∷◌, ◌+◌, Some, cond, drop, find, ap, sym, ◌∙◌}
use Rattle.std.proofs.lemmas.List.{at_drop_more}
use Rattle.mt_workflow.specs.Creates.{leads_elsewhere}
use Rattle.mt_workflow.proofs.creating.conflict.Goals as goal

pub returns-then-leads_elsewhere : goal.returns-then-leads_elsewhere
returns-then-leads_elsewhere c =
    let all = find (leads_elsewhere c.args.rules.now c.args.source.now c.args.table.now) in
    let rest = drop (c.loop-key.key-index + 1) c.args.keys.now in
    ap Some c.copied.ensures
    ∙ sym (c.loop-key.invariant ∙ at_drop_more all c.args.keys.now c.loop-key.key-index c.key-item.result c.loop-key-test.true
    ∙ ap (λ k. all (k ∷ rest)) (sym c.key-item.is)
    ∙ ap (λ b. cond b (Some c.key-item.result) (all rest)) (sym c.leads_elsewhere.ensures ∙ c.if-leads_elsewhere.true))

pub loop-key-preserved : goal.loop-key-preserved
loop-key-preserved c =
    let all = find (leads_elsewhere c.args.rules.now c.args.source.now c.args.table.now) in
    let rest = drop (c.loop-key.key-index + 1) c.args.keys.now in
    c.loop-key.invariant ∙ at_drop_more all c.args.keys.now c.loop-key.key-index c.key-item.result c.loop-key-test.true
    ∙ ap (λ k. all (k ∷ rest)) (sym c.key-item.is)
    ∙ ap (λ b. cond b (Some c.key-item.result) (all rest)) (sym c.leads_elsewhere.ensures ∙ c.if-leads_elsewhere.false)
