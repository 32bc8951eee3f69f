use Rattle.std.proofs.Common.{false, refl, true}
use Rattle.mt_plain.specs.Events.{begin_reverse, begin_switch, done}
use Rattle.mt_plain.specs.Next.{next, types_and, types_without, with_way_to}
use Rattle.mt_plain.specs.Plain.{live_at}
use Rattle.mt_plain.specs.Refuse.{begin_reverse_refusal, begin_switch_refusal}
use Rattle.mt_stands.proofs.BeginLemmas.{at_rest-none, begun_entry}
use Rattle.mt_laws.proofs.RefusalLemmas.{in_workflow-none}
use Rattle.mt_stands.proofs.StandLemmas.{Laws, stays}
use Rattle.mt_stands.proofs.ways.a_way_that_begins_leaves_the_topology.Goals as goal

pub returns : goal.returns
returns c =
    let laws : Laws = record {
      owned = c.a_live_workflow_is_found_by_its_part.ensures.owner;
      found = c.a_live_workflow_is_found_by_its_part.ensures.owner_is_live;
      reached = c.each_next_state_is_reached.ensures.next;
      live = c.only_named_events_change_a_workflow.ensures.live;
      sides = c.only_named_events_change_a_workflow.ensures.sides;
      topology = c.only_named_events_change_the_state.ensures.topology;
    } in
    record {
      switch = λ p t name types reached given stands.
          let (w, live, none) = in_workflow-none (live_at p name) (begin_switch_refusal p types) given.0 in
          let change = with_way_to false (λ switched. types_and switched types) in
          stays laws p (begin_switch name types) done reached given (λ h. h) t stands (λ h. h)
          (λ key. begun_entry p (next p (begin_switch name types) done) t w false (λ switched. types_and switched types) (at_rest-none w _ none) stands (laws.owned p reached name w live) key
          (c.a_workflow_that_changes_changes_its_own_part.ensures.entries p reached name w live change (λ v. record { name = refl; source = refl; target = refl; tables = refl; cuts = refl }) key));
      reverse = λ p t name types reached given stands.
          let (w, live, none) = in_workflow-none (live_at p name) (begin_reverse_refusal p types) given.0 in
          let change = with_way_to true (λ switched. types_without switched types) in
          stays laws p (begin_reverse name types) done reached given (λ h. h) t stands (λ h. h)
          (λ key. begun_entry p (next p (begin_reverse name types) done) t w true (λ switched. types_without switched types) (at_rest-none w _ none) stands (laws.owned p reached name w live) key
          (c.a_workflow_that_changes_changes_its_own_part.ensures.entries p reached name w live change (λ v. record { name = refl; source = refl; target = refl; tables = refl; cuts = refl }) key));
    }
