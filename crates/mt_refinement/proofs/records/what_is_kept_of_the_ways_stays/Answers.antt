-- What is kept stands for the way behind a begin, a step and an undo, and for all other ways as before.
use Rattle.std.proofs.Common.{true, false, refl, sym, ap, ◌∙◌}
use Rattle.mt_plain.specs.Events.{begin_reverse, begin_switch, done, step, undo}
use Rattle.mt_plain.specs.Next.{next, types_and, types_without}
use Rattle.mt_plain.specs.Plain.{last_step, next_step}
use Rattle.mt_plain.specs.Refuse.{begin_reverse_refusal, begin_switch_refusal, in_workflow}
use Rattle.mt_stands.proofs.BeginLemmas.{at_rest-none}
use Rattle.mt_steps.specs.Plans.{step_at}
use Rattle.mt_refinement.proofs.RecordBeginLemmas.{begin_stays}
use Rattle.mt_refinement.proofs.EntryLemmas.{last_numbered, next_numbered}
use Rattle.mt_refinement.proofs.PrimaryNextLemmas.{on_way}
use Rattle.mt_refinement.proofs.RecordStepLemmas.{step_stays}
use Rattle.mt_refinement.proofs.TopologyLemmas.{live_for}
use Rattle.mt_refinement.proofs.RecordUndoLemmas.{close_stays, undo_stays}
use Rattle.mt_refinement.proofs.records.what_is_kept_of_the_ways_stays.Goals as goal

pub returns : goal.returns
returns g c =
    let asked = g.W.Asks.scopes c.args.watchers.now in
    let may_answer = g.W.Asks.may_answer c.args.watchers.now in
    let name_is = c.a_live_workflow_is_found_by_its_part.ensures.named in
    let elsewhere = c.only_named_events_change_a_workflow.ensures.elsewhere in
    record {
      switch = λ p scopes s stands name w types found given.
          let r = live_for p s.base.workflows name w stands.base.workflows found in
          let rests = at_rest-none r.0 _ (sym (ap (λ o. in_workflow o (begin_switch_refusal p types)) r.1) ∙ given.0) in
          begin_stays p (next p (begin_switch name types) done) scopes s stands name w false (types_and w.switched types) found (r.2.way ∙ rests) (sym r.2.sides.name ∙ name_is p name r.0 r.1)
          (λ n other. elsewhere p (begin_switch name types) done n other) refl refl;
      reverse = λ p scopes s stands name w types found given.
          let r = live_for p s.base.workflows name w stands.base.workflows found in
          let rests = at_rest-none r.0 _ (sym (ap (λ o. in_workflow o (begin_reverse_refusal p types)) r.1) ∙ given.0) in
          begin_stays p (next p (begin_reverse name types) done) scopes s stands name w true (types_without w.switched types) found (r.2.way ∙ rests) (sym r.2.sides.name ∙ name_is p name r.0 r.1)
          (λ n other. elsewhere p (begin_reverse name types) done n other) refl refl;
      step = λ p scopes s stands name w way o at sides log found opens is_open given is.
          let r = live_for p s.base.workflows name w stands.base.workflows found in
          let course = c.ways_keep_their_course.ensures.course p stands.base.reached name r.0 r.1 way (sym r.2.way ∙ opens) in
          step_stays p scopes asked may_answer s stands name w way o found opens is_open r.0 r.1 r.2 (name_is p name r.0 r.1)
          (on_way p s.base.primaries stands.base.primaries r.0 w r.2 way opens stands.base.reached name r.1 course (c.ways_keep_their_course.ensures.writes p stands.base.reached name r.0 r.1 way (sym r.2.way ∙ opens))
          (c.live_workflows_stand_in_place.ensures.placed p stands.base.reached name r.0 r.1) (c.a_live_workflow_is_found_by_its_part.ensures.owner p stands.base.reached name r.0 r.1))
          (c.a_live_workflow_is_found_by_its_part.ensures.owner p stands.base.reached name r.0 r.1)
          (c.a_live_workflow_is_found_by_its_part.ensures.mover p stands.base.reached name r.0 r.1)
          (step_at (next_step way)) (next_numbered way course.within) sides log is at (λ n other. elsewhere p (step name at) done n other);
      undo = λ p scopes s stands name w way o at sides log found opens is_open given some is.
          let r = live_for p s.base.workflows name w stands.base.workflows found in
          let course = c.ways_keep_their_course.ensures.course p stands.base.reached name r.0 r.1 way (sym r.2.way ∙ opens) in
          undo_stays p scopes s stands name w way o found opens is_open r.0 r.1 r.2 (name_is p name r.0 r.1) at given (λ n other. elsewhere p (undo name at) done n other)
          (step_at (last_step way)) (last_numbered way course.within) some sides log is;
      closed = λ p scopes s stands name w way o at found opens is_open given none.
          let r = live_for p s.base.workflows name w stands.base.workflows found in
          close_stays p scopes s stands name w way o found opens is_open r.0 r.1 r.2 (name_is p name r.0 r.1) at given (λ n other. elsewhere p (undo name at) done n other);
    }
