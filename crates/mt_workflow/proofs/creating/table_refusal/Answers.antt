-- The tests in their order.
use Rattle.std.proofs.Common.{◌≡◌, true, false, Some, None, find, ap, sym, rules, ◌∙◌}
use Rattle.mt_model.specs.Part.{table_rule_keys}
use Rattle.mt_model.specs.Topology.{is_present}
use Rattle.mt_workflow.specs.declared.fault.WorkflowFault.TheVariants.{DeniedByHand}
use Rattle.mt_workflow.specs.Creates.{leads_elsewhere, refuse_if}
use Rattle.mt_workflow.proofs.CreateLemmas.{refused-by}
use Rattle.mt_workflow.proofs.creating.table_refusal.Goals as goal

pub returns-in-Some : goal.returns-in-Some
returns-in-Some c =
    let at : is_present c.args.topology.now.keyspaces c.args.source.now c.args.table.now ≡ true = search rules in
    let there : is_present c.args.topology.now.keyspaces c.args.target.now c.args.table.now ≡ false = search rules in
    let found =
    ap (λ r. find (leads_elsewhere r c.args.source.now c.args.table.now) (table_rule_keys c.args.source.now c.args.target.now c.args.table.now)) (sym c.rules.ensures)
    ∙ sym c.table_conflict.ensures ∙ c.in-Some.is in
    sym (refused-by c.args.topology.now c.args.source.now c.args.target.now c.args.table.now (Some c.in-Some.key) at there found)

pub returns-then-is_denied_by_hand : goal.returns-then-is_denied_by_hand
returns-then-is_denied_by_hand c =
    let at : is_present c.args.topology.now.keyspaces c.args.source.now c.args.table.now ≡ true = search rules in
    let there : is_present c.args.topology.now.keyspaces c.args.target.now c.args.table.now ≡ false = search rules in
    let found =
    ap (λ r. find (leads_elsewhere r c.args.source.now c.args.table.now) (table_rule_keys c.args.source.now c.args.target.now c.args.table.now)) (sym c.rules.ensures)
    ∙ sym c.table_conflict.ensures ∙ c.in_default.is in
    ap (λ t. Some (DeniedByHand t)) c.copied-then-is_denied_by_hand.ensures
    ∙ sym (refused-by c.args.topology.now c.args.source.now c.args.target.now c.args.table.now None at there found
    ∙ ap (λ b. refuse_if b (DeniedByHand c.args.table.now)) (sym c.is_denied_by_hand.ensures ∙ c.if-is_denied_by_hand.true))

pub returns : goal.returns
returns c =
    let at : is_present c.args.topology.now.keyspaces c.args.source.now c.args.table.now ≡ true = search rules in
    let there : is_present c.args.topology.now.keyspaces c.args.target.now c.args.table.now ≡ false = search rules in
    let found =
    ap (λ r. find (leads_elsewhere r c.args.source.now c.args.table.now) (table_rule_keys c.args.source.now c.args.target.now c.args.table.now)) (sym c.rules.ensures)
    ∙ sym c.table_conflict.ensures ∙ c.in_default.is in
    sym (refused-by c.args.topology.now c.args.source.now c.args.target.now c.args.table.now None at there found
    ∙ ap (λ b. refuse_if b (DeniedByHand c.args.table.now)) (sym c.is_denied_by_hand.ensures ∙ c.if-is_denied_by_hand.false))
