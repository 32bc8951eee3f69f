-- The topology and the primaries stay, and the way is open on the workflow with the next number.
use Rattle.std.proofs.Common.{true, false, refl, sym, ap, ◌∙◌}
use Rattle.mt_plain.specs.Events.{begin_reverse, begin_switch, done}
use Rattle.mt_plain.specs.Next.{next, types_and, types_without}
use Rattle.mt_plain.specs.Refuse.{begin_reverse_refusal, begin_switch_refusal, in_workflow}
use Rattle.mt_stands.proofs.BeginLemmas.{at_rest-none}
use Rattle.mt_refinement.proofs.RecordBeginLemmas.{begin_stays}
use Rattle.mt_refinement.proofs.TopologyLemmas.{live_for}
use Rattle.mt_refinement.proofs.WayBeginLemmas.{reverse_steps, switch_steps}
use Rattle.mt_refinement.proofs.ways.a_begin_steps.Goals as goal

pub returns : goal.returns
returns c =
    let name_is = c.a_live_workflow_is_found_by_its_part.ensures.named in
    let elsewhere = c.only_named_events_change_a_workflow.ensures.elsewhere in
    record {
      switch = λ scopes old new workflow types answer begins p stands.
          let reached = stands.base.reached in
          let given = c.a_begin_answers_as_the_definitions_allow.ensures.switch p scopes old new stands workflow types answer begins in (
            given,
            switch_steps p scopes old new stands workflow types answer
                (λ w found taken.
                let r = live_for p old.base.workflows workflow w stands.base.workflows found in
                let rests = at_rest-none r.0 _ (sym (ap (λ o. in_workflow o (begin_switch_refusal p types)) r.1) ∙ taken.0) in
                let primaries = c.a_begin_leaves_the_primaries.ensures.switch p scopes old.base stands.base workflow types taken in
                record {
                  base = record {
                    reached = c.each_next_state_is_reached.ensures.next p reached (begin_switch workflow types) done taken;
                    scopes_are = stands.base.scopes_are;
                    topology = c.a_way_that_begins_leaves_the_topology.ensures.switch p old.base.topology workflow types reached taken stands.base.topology;
                    rows = primaries.1;
                    primaries = primaries.0;
                    workflows = c.a_begin_leaves_the_workflows.ensures.switch p reached old.base.workflows stands.base.workflows workflow w types found taken;
                  };
                  ways =
                      begin_stays p (next p (begin_switch workflow types) done) scopes old stands workflow w false (types_and w.switched types) found (r.2.way ∙ rests)
                      (sym r.2.sides.name ∙ name_is p workflow r.0 r.1) (λ n other. elsewhere p (begin_switch workflow types) done n other) refl refl;
                })
                given begins,
          );
      reverse = λ scopes old new workflow types answer begins p stands.
          let reached = stands.base.reached in
          let given = c.a_begin_answers_as_the_definitions_allow.ensures.reverse p scopes old new stands workflow types answer begins in (
            given,
            reverse_steps p scopes old new stands workflow types answer
                (λ w found taken.
                let r = live_for p old.base.workflows workflow w stands.base.workflows found in
                let rests = at_rest-none r.0 _ (sym (ap (λ o. in_workflow o (begin_reverse_refusal p types)) r.1) ∙ taken.0) in
                let primaries = c.a_begin_leaves_the_primaries.ensures.reverse p scopes old.base stands.base workflow types taken in
                record {
                  base = record {
                    reached = c.each_next_state_is_reached.ensures.next p reached (begin_reverse workflow types) done taken;
                    scopes_are = stands.base.scopes_are;
                    topology = c.a_way_that_begins_leaves_the_topology.ensures.reverse p old.base.topology workflow types reached taken stands.base.topology;
                    rows = primaries.1;
                    primaries = primaries.0;
                    workflows = c.a_begin_leaves_the_workflows.ensures.reverse p reached old.base.workflows stands.base.workflows workflow w types found taken;
                  };
                  ways =
                      begin_stays p (next p (begin_reverse workflow types) done) scopes old stands workflow w true (types_without w.switched types) found (r.2.way ∙ rests)
                      (sym r.2.sides.name ∙ name_is p workflow r.0 r.1) (λ n other. elsewhere p (begin_reverse workflow types) done n other) refl refl;
                })
                given begins,
          );
    }
