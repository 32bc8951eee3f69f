-- What is taken is a step of the definitions.
use Rattle.std.proofs.Common.{◌≡◌, List, ℕ, true, subst}
use Rattle.mt_event.specs.Asks.{event_of_ask}
use Rattle.mt_event.specs.Events.{done_from}
use Rattle.mt_primary.specs.Primary.{IsPrimary}
use Rattle.mt_primary.specs.Primaries.{primary_of}
use Rattle.mt_site.specs.Applied.{is_refused}
use Rattle.mt_site.specs.Applies.{Applies, BringsBounds}
use Rattle.mt_site.proofs.AppliedLemmas.{left_done, left_from}
use Rattle.mt_site.proofs.controller.Core.take_by_hand.Goals.{in-AddKeyspace, in-AddTable, in-EditRule, in-Create}
use Rattle.mt_site.proofs.controller.Core.take_by_hand.Goals as goal

pub returns : goal.returns
returns g c =
    let old = c.args.self.now in
    let new = c.match-ask.self in
    let event = event_of_ask c.args.ask in
    let told = done_from c.match-ask.told in
    let applies : Applies (g.W.Asks.scopes c.args.watchers.now) (g.W.Asks.may_answer c.args.watchers.now) old event told new
    = elim c.match-ask.branch [
      | in-AddKeyspace w ↦ rw (w.in-AddKeyspace.is, w.told-is, w.self-is, w.refused-told.ensures) (w.add_keyspace.ensures.does, w.add_keyspace.ensures.ways)
      | in-AddTable w ↦ rw (w.in-AddTable.is, w.told-is, w.self-is, w.refused-told-in-AddTable.ensures) (w.add_table.ensures.does, w.add_table.ensures.ways)
      | in-EditRule w ↦ rw (w.in-EditRule.is, w.told-is, w.self-is, w.refused-told-in-EditRule.ensures) (w.edit_rule.ensures.does, w.edit_rule.ensures.ways)
      | in-Create w ↦ rw (w.in-Create.is, w.told-is, w.self-is) (w.create-told.ensures.does, w.create-told.ensures.ways)
    ] in
    let bounds : BringsBounds event = elim c.match-ask.branch [
      | in-AddKeyspace w ↦ rw w.in-AddKeyspace.is w.add_keyspace.ensures.bounds
      | in-AddTable w ↦ rw w.in-AddTable.is tt
      | in-EditRule w ↦ rw w.in-EditRule.is tt
      | in-Create w ↦ rw w.in-Create.is tt
    ] in
    let leaves : is_refused told ≡ true → new ≡ old = elim c.match-ask.branch [
      | in-AddKeyspace w ↦ rw (w.told-is, w.self-is, w.refused-told.ensures) (left_done w.add_keyspace.result _ w.add_keyspace.ensures.unchanged)
      | in-AddTable w ↦ rw (w.told-is, w.self-is, w.refused-told-in-AddTable.ensures) (left_done w.add_table.result _ w.add_table.ensures.unchanged)
      | in-EditRule w ↦ rw (w.told-is, w.self-is, w.refused-told-in-EditRule.ensures) (left_done w.edit_rule.result _ w.edit_rule.ensures.unchanged)
      | in-Create w ↦ rw (w.told-is, w.self-is) (left_from w.create-told.result _ w.create-told.ensures.unchanged)
    ] in
    record {
      applies = applies;
      steps = c.an_applied_event_steps.ensures old new event told applies bounds (subst (λ s. (keyspace : List ℕ) (shard : ℕ) → IsPrimary (primary_of s.base.primaries keyspace shard)) c.self.view_is c.each_is_a_primary.ensures);
      unchanged = leaves;
    }
