-- What is taken is a step of the definitions.
use Rattle.std.proofs.Common.{◌≡◌, List, ℕ, true, subst}
use Rattle.mt_event.specs.Asks.{answer_told_by, event_on}
use Rattle.mt_plain.specs.Events.{done}
use Rattle.mt_primary.specs.Primary.{IsPrimary}
use Rattle.mt_primary.specs.Primaries.{primary_of}
use Rattle.mt_site.specs.Applied.{is_refused}
use Rattle.mt_site.specs.Applies.{Applies, BringsBounds}
use Rattle.mt_site.proofs.AppliedLemmas.{left_advanced, left_done}
use Rattle.mt_site.proofs.controller.Core.take_on.Goals.{in-Advance, in-BeginSwitch, in-BeginReverse, in-Step, in-Undo, in-Cancel, in-Complete}
use Rattle.mt_site.proofs.controller.Core.take_on.Goals as goal

pub returns : goal.returns
returns g c =
    let old = c.args.self.now in
    let new = c.match-verb.self in
    let event = event_on c.args.workflow.now c.args.verb in
    let told = answer_told_by done c.match-verb.told in
    let applies : Applies (g.W.Asks.scopes c.args.watchers.now) (g.W.Asks.may_answer c.args.watchers.now) old event told new
    = elim c.match-verb.branch [
      | in-Advance w ↦ rw (w.in-Advance.is, w.told-is, w.self-is, w.advanced-told.ensures done) (w.advance.ensures.does, w.advance.ensures.ways)
      | in-BeginSwitch w ↦ rw (w.in-BeginSwitch.is, w.told-is, w.self-is, w.done-told.ensures done) w.begin_switch.ensures.does
      | in-BeginReverse w ↦ rw (w.in-BeginReverse.is, w.told-is, w.self-is, w.done-told-in-BeginReverse.ensures done) w.begin_reverse.ensures.does
      | in-Step w ↦ rw (w.in-Step.is, w.told-is, w.self-is, w.done-told-in-Step.ensures done) w.step.ensures.does
      | in-Undo w ↦ rw (w.in-Undo.is, w.told-is, w.self-is, w.done-told-in-Undo.ensures done) w.undo.ensures.does
      | in-Cancel w ↦ rw (w.in-Cancel.is, w.told-is, w.self-is, w.done-told-in-Cancel.ensures done) (w.cancel.ensures.does, w.cancel.ensures.ways)
      | in-Complete w ↦ rw (w.in-Complete.is, w.told-is, w.self-is, w.done-told-in-Complete.ensures done) w.complete.ensures.does
    ] in
    let bounds : BringsBounds event = elim c.match-verb.branch [
      | in-Advance w ↦ rw w.in-Advance.is tt
      | in-BeginSwitch w ↦ rw w.in-BeginSwitch.is tt
      | in-BeginReverse w ↦ rw w.in-BeginReverse.is tt
      | in-Step w ↦ rw w.in-Step.is tt
      | in-Undo w ↦ rw w.in-Undo.is tt
      | in-Cancel w ↦ rw w.in-Cancel.is tt
      | in-Complete w ↦ rw w.in-Complete.is tt
    ] in
    let leaves : is_refused told ≡ true → new ≡ old = elim c.match-verb.branch [
      | in-Advance w ↦ rw (w.told-is, w.self-is, w.advanced-told.ensures done) (left_advanced w.advance.result _ w.advance.ensures.unchanged)
      | in-BeginSwitch w ↦ rw (w.told-is, w.self-is, w.done-told.ensures done) (left_done w.begin_switch.result _ w.begin_switch.ensures.unchanged)
      | in-BeginReverse w ↦ rw (w.told-is, w.self-is, w.done-told-in-BeginReverse.ensures done) (left_done w.begin_reverse.result _ w.begin_reverse.ensures.unchanged)
      | in-Step w ↦ rw (w.told-is, w.self-is, w.done-told-in-Step.ensures done) (left_done w.step.result _ w.step.ensures.unchanged)
      | in-Undo w ↦ rw (w.told-is, w.self-is, w.done-told-in-Undo.ensures done) (left_done w.undo.result _ w.undo.ensures.unchanged)
      | in-Cancel w ↦ rw (w.told-is, w.self-is, w.done-told-in-Cancel.ensures done) (left_done w.cancel.result _ w.cancel.ensures.unchanged)
      | in-Complete w ↦ rw (w.told-is, w.self-is, w.done-told-in-Complete.ensures done) (left_done w.complete.result _ w.complete.ensures.unchanged)
    ] in
    record {
      applies = applies;
      steps = c.an_applied_event_steps.ensures old new event told applies bounds (subst (λ s. (keyspace : List ℕ) (shard : ℕ) → IsPrimary (primary_of s.base.primaries keyspace shard)) c.self.view_is c.each_is_a_primary.ensures);
      unchanged = leaves;
    }
