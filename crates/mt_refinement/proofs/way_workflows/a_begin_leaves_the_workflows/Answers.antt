-- No stream changes while no step stands done.
use Rattle.std.proofs.Common.{true, false, ap, sym, ◌∙◌}
use Rattle.mt_plain.specs.Events.{begin_reverse, begin_switch, done}
use Rattle.mt_plain.specs.Next.{types_and, types_without}
use Rattle.mt_plain.specs.Plain.{live_at}
use Rattle.mt_plain.specs.Refuse.{begin_reverse_refusal, begin_switch_refusal, in_workflow}
use Rattle.mt_laws.proofs.RefusalLemmas.{reverse-none, switch-none}
use Rattle.mt_refinement.proofs.WaysFoundLemmas.{live_found}
use Rattle.mt_stands.specs.Base.{workflow_at}
use Rattle.mt_refinement.proofs.WayLemmas.{begun-workflows}
use Rattle.mt_refinement.proofs.way_workflows.a_begin_leaves_the_workflows.Goals as goal

pub returns : goal.returns
returns c = record {
  switch = λ p reached workflows are name w types found given.
      let (live, is_live, for) = live_found p (live_at p name) (workflow_at workflows name) w found (are.each name) in
      begun-workflows p workflows are name live w is_live found reached
      (switch-none p types live (sym (ap (λ o. in_workflow o (begin_switch_refusal p types)) is_live) ∙ given.0)).0
      false (λ switched. types_and switched types)
      (λ n other. c.only_named_events_change_a_workflow.ensures.elsewhere p (begin_switch name types) done n other);
  reverse = λ p reached workflows are name w types found given.
      let (live, is_live, for) = live_found p (live_at p name) (workflow_at workflows name) w found (are.each name) in
      begun-workflows p workflows are name live w is_live found reached
      (reverse-none p types live (sym (ap (λ o. in_workflow o (begin_reverse_refusal p types)) is_live) ∙ given.0)).0
      true (λ switched. types_without switched types)
      (λ n other. c.only_named_events_change_a_workflow.ensures.elsewhere p (begin_reverse name types) done n other);
}
