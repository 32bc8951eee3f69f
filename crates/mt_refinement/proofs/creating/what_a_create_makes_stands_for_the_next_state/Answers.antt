use Rattle.std.proofs.Common.{ℕ, ◌<◌, refl, ap, ◌∙◌, ⊎_elim}
use Rattle.std.proofs.lemmas.Bool.{cases_lt}
use Rattle.mt_names.specs.Types.{no_types}
use Rattle.mt_model.specs.declared.entries.Scope.TheVariants as scope
use Rattle.mt_watch.specs.Notices.{notice_of}
use Rattle.mt_plain.specs.Answers.{Answers}
use Rattle.mt_plain.specs.Events.{create, done}
use Rattle.mt_plain.specs.Next.{next}
use Rattle.mt_plain.specs.Plain.{each_once}
use Rattle.mt_primary.specs.Primaries.{count_of, primary_of, with_all}
use Rattle.mt_primary.proofs.PrimariesLemmas.{with_all-each, with_all-past}
use Rattle.mt_primary.specs.Primary.{row_at}
use Rattle.mt_stands.specs.Rows.{OtherTablesStay}
use Rattle.mt_workflow.specs.Workflows.{live_of}
use Rattle.mt_stands.specs.Keys.{created_live}
use Rattle.mt_stands.specs.Workflows.{change_of, new_of, target_made}
use Rattle.mt_refinement.specs.Made.{AreMadeDenied}
use Rattle.mt_refinement.proofs.ListLemmas.{at_named}
use Rattle.mt_refinement.proofs.RefusedLemmas.{passes}
use Rattle.mt_refinement.proofs.RoomLemmas.{CanMove}
use Rattle.mt_refinement.proofs.StepLemmas.{taken}
use Rattle.mt_refinement.proofs.creating.what_a_create_makes_stands_for_the_next_state.Goals as goal

pub returns : goal.returns
returns c = λ p scopes base stands workflow source target tables none.
    let given : Answers p (create workflow source target tables) done = (none, refl) in
    let w = new_of base workflow source target (each_once tables) in
    let notice = notice_of (scope.Primary target) (change_of w) in
    let v = created_live p workflow source target (each_once tables) in
    let all = passes p workflow source target (each_once tables) none in
    let live = c.create_writes_the_part.ensures.live p workflow source target tables given in
    let reached = c.each_next_state_is_reached.ensures.next p stands.reached (create workflow source target tables) done given in
    let sides = (c.live_workflows_stand_in_place.ensures.placed (next p (create workflow source target tables) done) reached workflow v live).sides.apart in
    let made : (n : ℕ) → n < count_of base.primaries target → AreMadeDenied (each_once tables) (primary_of base.primaries target n) (target_made w notice (primary_of base.primaries target n))
    = λ n within. c.the_target_has_the_tables_denied.ensures w (primary_of base.primaries target n) sides
    (λ table m. stands.primaries.tables target n within table ∙ (at_named (CanMove p source target) (each_once tables) all.can table m).there) in
    let new = with_all base.primaries target (target_made w notice) in
    taken p scopes base stands workflow source target (each_once tables) all.free live
    (c.only_named_events_change_a_workflow.ensures.elsewhere p (create workflow source target tables) done)
    (c.create_writes_the_part.ensures.kept p base.topology workflow source target tables v stands.reached given live stands.topology) notice
    made sides all.can reached
    (c.create_writes_the_part.ensures.stands p base.topology workflow source target tables v stands.reached given live stands.topology)
    (c.entries_follow_from_sides_types_and_way.ensures.part v (live_of w) w.kept no_types refl refl refl)
    (λ others there.
    c.a_create_keeps_rows_and_logs.ensures p stands.reached (primary_of base.primaries) (primary_of new) stands.rows
    workflow source target tables given others
    (λ n. with_all-each base.primaries target (target_made w notice) (λ k m was is. OtherTablesStay (each_once tables) was is) (λ k m s. record { log = refl; rows = λ table other key. refl }) (λ m within. (made m within).stay) target n)
    (λ table m n key. ⊎_elim (λ within. (there n within).empty table m key)
    (λ past. ap (λ s. row_at s table key) (with_all-past base.primaries target (target_made w notice) n past)) (cases_lt n (count_of base.primaries target))))
