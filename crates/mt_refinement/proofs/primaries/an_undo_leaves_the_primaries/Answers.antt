-- An undone refresh gives a list without the tables back, and no other undo changes a primary.
use Rattle.std.proofs.Common.{◌≡◌, ℕ, List, Some, refl, sym, ◌∙◌}
use Rattle.mt_model.specs.declared.entries.Scope.{Scope}
use Rattle.mt_plain.specs.Answers.{Answers}
use Rattle.mt_plain.specs.Events.{undo, done, Way}
use Rattle.mt_plain.specs.Next.{live_undone, next, on_way_of}
use Rattle.mt_plain.specs.Plain.{Live, Plain, live_at}
use Rattle.mt_laws.specs.Effects.{list_undone}
use Rattle.mt_primary.specs.Primaries.{primary_of}
use Rattle.mt_workflow.specs.Workflows.{WorkflowState}
use Rattle.mt_stands.specs.Rows.{RowsStand}
use Rattle.mt_stands.proofs.KeepLemmas.{undone_sides}
use Rattle.mt_stands.specs.Base.{BaseState, workflow_at}
use Rattle.mt_stands.specs.Stands.{StandsWith}
use Rattle.mt_refinement.proofs.ChangeLemmas.{IsAt, undone_lists}
use Rattle.mt_refinement.proofs.WaysDenialLemmas.{Known}
use Rattle.mt_refinement.proofs.WaysListLemmas.{IsNext, same_stand}
use Rattle.mt_refinement.proofs.PrimaryNextLemmas.{on_way, stood, tables_stay}
use Rattle.mt_refinement.proofs.PrimaryUndoLemmas.{before_journal, none_undone, undo_stands}
use Rattle.mt_refinement.proofs.primaries.an_undo_leaves_the_primaries.Goals as goal

pub returns : goal.returns
returns c =
    let known : Known = record {
      tables = c.denials_change_nothing_else.ensures.tables;
      rows = c.denials_change_nothing_else.ensures.rows;
      named = c.a_refresh_concerns_named_tables.ensures.named;
      others = c.a_refresh_concerns_named_tables.ensures.others;
      given = c.a_refresh_is_taken_back.ensures.named;
      given_others = c.a_refresh_is_taken_back.ensures.others;
      notice = c.a_notice_tells_what_its_change_tells.ensures.notice;
      change = c.a_notice_tells_what_its_change_tells.ensures.change;
    } in
    let is_at : (p : Plain) (scopes : List Scope) (base : BaseState) → StandsWith p scopes base → (name : List ℕ) (live : Live) (w : WorkflowState) (way : Way) → live_at p name ≡ Some live
    → workflow_at base.workflows name ≡ Some w → w.way ≡ Some way → IsAt p base.primaries live w way
    = λ p scopes base stands name live w way is_live found opens.
    let for = stood p scopes base stands name live w is_live found in
    let opened = sym for.way ∙ opens in
    on_way p base.primaries stands.primaries live w for way opens stands.reached name is_live (c.ways_keep_their_course.ensures.course p stands.reached name live is_live way opened)
    (c.ways_keep_their_course.ensures.writes p stands.reached name live is_live way opened) (c.live_workflows_stand_in_place.ensures.placed p stands.reached name live is_live)
    (c.a_live_workflow_is_found_by_its_part.ensures.owner p stands.reached name live is_live) in
    let is_next : (p : Plain) (scopes : List Scope) (base : BaseState) → StandsWith p scopes base → (name : List ℕ) (live : Live) (way : Way) (at : ℕ) → live_at p name ≡ Some live → live.way ≡ Some way
    → Answers p (undo name at) done → IsNext p (next p (undo name at) done) live (list_undone live way)
    = λ p scopes base stands name live way at is_live opens given.
    record {
      topology = refl;
      tables = tables_stay p name (λ v. on_way_of (live_undone v) v) undone_sides;
      refused = λ keyspace shard table. c.steps_and_undos_change_the_state_by_their_numbers.ensures.undo_lists p stands.reached name live way is_live opens at given keyspace shard table;
      moved = c.a_live_workflow_is_found_by_its_part.ensures.mover p stands.reached name live is_live;
    } in
    let rows : (p : Plain) (scopes : List Scope) (base : BaseState) → StandsWith p scopes base → (name : List ℕ) (at : ℕ) → Answers p (undo name at) done
    → RowsStand (next p (undo name at) done) (primary_of base.primaries)
    = λ p scopes base stands name at given. c.events_that_change_no_row_keep_rows_and_logs.ensures.undo p stands.reached (primary_of base.primaries) stands.rows name at given in
    record {
      last = λ p scopes base stands name live w way at listed source targets is_live found opens given some_done is_listed gives.
          let this = is_at p scopes base stands name live w way is_live found opens in
          let q = next p (undo name at) done in
          undo_stands known p q base.primaries live w way this
          (undone_lists p q base.primaries live w way this (is_next p scopes base stands name live way at is_live this.opens given) (rows p scopes base stands name at given))
          (before_journal p name live way at is_live this.opens given.0) listed source targets is_listed gives;
      none = λ p scopes base stands name live w way at is_live found opens given none.
          let opened = (is_at p scopes base stands name live w way is_live found opens).opens in
          let q = next p (undo name at) done in
          same_stand p q live (list_undone live way) (is_next p scopes base stands name live way at is_live opened given) base.primaries stands.primaries (rows p scopes base stands name at given)
          (λ keyspace n. none_undone live way keyspace n none);
    }
