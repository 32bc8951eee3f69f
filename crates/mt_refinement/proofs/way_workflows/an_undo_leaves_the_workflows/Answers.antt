-- What the undo makes of the slots is what it makes of the streams.
use Rattle.std.proofs.Common.{◌≡◌, ℕ, false, List, Some, sym, ap, ◌∙◌, eqb-true}
use Rattle.mt_plain.specs.Answers.{Answers}
use Rattle.mt_plain.specs.Events.{StreamName, Way, done, undo}
use Rattle.mt_plain.specs.Next.{live_undone}
use Rattle.mt_plain.specs.Plain.{Lane, Live, Plain, live_at, stands_done, write_journal}
use Rattle.mt_plain.specs.Refuse.{in_workflow, undo_refusal}
use Rattle.mt_plain.specs.Slots.{slot_before_way, slot_of}
use Rattle.mt_laws.specs.Effects.{slot_undone}
use Rattle.mt_laws.specs.WayBack.{IsReached}
use Rattle.mt_laws.proofs.WayLemmas.{undo_before_journal}
use Rattle.mt_refinement.proofs.WaysFoundLemmas.{live_found}
use Rattle.mt_stands.specs.Base.{workflow_at}
use Rattle.mt_refinement.proofs.ChangedLemmas.{stands_for}
use Rattle.mt_refinement.proofs.WayLemmas.{closed-workflows, undone-workflows}
use Rattle.mt_refinement.proofs.way_workflows.an_undo_leaves_the_workflows.Goals as goal

-- an undo is taken before the journal alone
not_journaled : (p : Plain) (name : List ℕ) (live : Live) (way : Way) (at : ℕ) → live_at p name ≡ Some live → live.way ≡ Some way → Answers p (undo name at) done
    → stands_done way write_journal ≡ false
not_journaled p name live way at is_live opens given = undo_before_journal at live way opens (sym (ap (λ o. in_workflow o (undo_refusal at)) is_live) ∙ given.0)

pub returns : goal.returns
returns c =
    let slots : (p : Plain) → IsReached p → (name : List ℕ) (live : Live) (way : Way) → live_at p name ≡ Some live → live.way ≡ Some way → stands_done way write_journal ≡ false
    → (lane : Lane) (stream : StreamName) → slot_of (live_undone live way) lane stream ≡ slot_undone way stream (slot_before_way live lane stream) (slot_of live lane stream)
    = λ p reached name live way is_live opens before lane stream.
    let course = c.ways_keep_their_course.ensures.course p reached name live is_live way opens in
    c.an_undo_changes_what_changed_with_the_last_step.ensures.streams live way stream opens (course.before before)
    (λ changes. (c.ways_keep_their_course.ensures.writes p reached name live is_live way opens changes).before) course.within before lane in
    record {
      last = λ p reached workflows are name live w way at kept is_live found is_open given some gives_back.
          let for = stands_for p workflows are name live w is_live found in
          let opens : live.way ≡ Some way = sym for.way ∙ is_open in
          let before = not_journaled p name live way at is_live opens given in
          undone-workflows p workflows are name live w is_live found way opens before
          (λ n other. c.only_named_events_change_a_workflow.ensures.elsewhere p (undo name at) done n other)
          (slots p reached name live way is_live opens before) kept gives_back;
      none = λ p reached workflows are name w way at found is_open given none.
          let (live, is_live, for) = live_found p (live_at p name) (workflow_at workflows name) w found (are.each name) in
          let opens : live.way ≡ Some way = sym for.way ∙ is_open in
          let before = not_journaled p name live way at is_live opens given in
          closed-workflows p workflows are name live w is_live found way opens before
          (λ n other. c.only_named_events_change_a_workflow.ensures.elsewhere p (undo name at) done n other)
          (slots p reached name live way is_live opens before) (eqb-true way.done 0 none);
    }
