-- What is kept of a way behind an undo of a step of it, and behind its close where no step stands done.
use Rattle.std.proofs.Common.{[], ◌≡◌, ◌≢◌, ℕ, ◌<◌, ◌-◌, Bool, true, false, cond, eqb, ◌&&◌, length, List, map, None, Some, refl, sym, ap, ◌∙◌, subst, arith, eqb-true}
use Rattle.std.proofs.lemmas.Bool.{eqb-false, false_from_ne_true, true≢false}
use Rattle.std.specs.List.{AllByRecursion}
use Rattle.std.specs.Map.{set_value}
use Rattle.std.specs.Option.{option_map_or}
use Rattle.mt_names.specs.Names.{same_text}
use Rattle.mt_names.proofs.SameLemmas.{same_text_decides}
use Rattle.mt_model.specs.declared.entries.Scope.{Scope}
use Rattle.mt_journal.specs.declared.entry.JournalEntry.{JournalEntry}
use Rattle.mt_journal.specs.Journal.{entry_of}
use Rattle.mt_laws.proofs.ChangeLemmas.{live_after, lives_after}
use Rattle.mt_laws.proofs.LiveLemmas.{IsIn}
use Rattle.mt_laws.proofs.WayLemmas.{undo_before_journal}
use Rattle.mt_laws.proofs.WayStepLemmas.{fewer, undone_by, was_done, was_done_at}
use Rattle.mt_plain.specs.Answers.{Answers}
use Rattle.mt_plain.specs.Events.{done, undo, Way}
use Rattle.mt_plain.specs.Next.{live_undone, next, on_way_of}
use Rattle.mt_plain.specs.Plain.{Lane, Live, Plain, before_way, create_back, last_step, live_at, refresh_source, stands_done, stands_done_at, write_journal}
use Rattle.mt_plain.specs.Refuse.{in_workflow, undo_refusal}
use Rattle.mt_stands.specs.Base.{workflow_at}
use Rattle.mt_stands.specs.Stands.{StandsFor}
use Rattle.mt_stands.specs.Switching.{open_after, sides_of, with_sides}
use Rattle.mt_stands.specs.Ways.{GivesBack, IsGiven, IsOpenOn, CoreStands, CoreState, WaysStand, lists_of, open_at}
use Rattle.mt_steps.specs.declared.log.OpenWay.{OpenWay}
use Rattle.mt_steps.specs.declared.step.Step.{Step}
use Rattle.mt_steps.specs.Entries.{recorded_of, step_entries}
use Rattle.mt_steps.specs.Plans.{number}
use Rattle.mt_steps.proofs.StepLemmas.{undone_log}
use Rattle.mt_steps.specs.Shards.{last_shard}
use Rattle.mt_steps.specs.Steps.{IsUndone, SidesState, left_listed, listed_at}
use Rattle.mt_steps.specs.Streams.{other_name}
use Rattle.mt_steps.specs.Undo.{UndoState}
use Rattle.mt_workflow.specs.Workflows.{WorkflowState, live_of}
use Rattle.mt_refinement.proofs.AttemptLemmas.{left_at, saved_stays, slots_left, taken_log}
use Rattle.mt_refinement.proofs.KeepLemmas.{Keeps, entries_keep, recorded_keeps, undo_keeps}
use Rattle.mt_refinement.proofs.PlaceLemmas.{last_fewer, not_last}
use Rattle.mt_refinement.proofs.RecordOpenLemmas.{goes_on}
use Rattle.mt_refinement.proofs.SlotLemmas.{map-in}
use Rattle.mt_stands.proofs.KnownLemmas.{some_is}
use Rattle.mt_refinement.proofs.WholeOpenLemmas.{saved}

-- ---- the live workflow behind an undo

pub live_undo : (p : Plain) (name : List ℕ) (at : ℕ) (v now : Live) (way : Way) → live_at p name ≡ Some v → v.name ≡ name → v.way ≡ Some way → live_at (next p (undo name at) done) name ≡ Some now
    → now ≡ live_undone v way
live_undo p name at v now way is_live named opens is_now =
    live_after p (next p (undo name at) done) (undo name at) done (lives_after p (undo name at) done) name v now is_live is_now
    ∙ ap (λ b. cond b (on_way_of (live_undone v) v) v) ((same_text_decides v.name name).1 named)
    ∙ ap (λ o. option_map_or (live_undone v) o v) opens

-- ---- what is kept behind it

module _ (p : Plain) (scopes : List Scope) (s : CoreState) (stands : CoreStands p scopes s) (name : List ℕ) (w : WorkflowState) (way : Way) (o : OpenWay)
    (found : workflow_at s.base.workflows name ≡ Some w) (opens : w.way ≡ Some way) (is_open : open_at s.ways.opened name ≡ Some o)
    (v : Live) (is_live : live_at p name ≡ Some v) (for : StandsFor p v w) (named : v.name ≡ name) (at : ℕ) (given : Answers p (undo name at) done)
    (elsewhere : (n : List ℕ) → name ≢ n → live_at (next p (undo name at) done) n ≡ live_at p n) where
  v_opens : v.way ≡ Some way
  v_opens = sym for.way ∙ opens

  w_named : w.name ≡ name
  w_named = sym for.sides.name ∙ named

  kept_before : IsOpenOn s.ways.journal v w way o
  kept_before = stands.ways.each name v w way o is_live found opens is_open

  -- an undo comes before the journal
  not_written : stands_done way write_journal ≡ false
  not_written = undo_before_journal at v way v_opens (sym (ap (λ x. in_workflow x (undo_refusal at)) is_live) ∙ given.0)

  gives : GivesBack v w way o.log
  gives = kept_before.undo not_written

  -- ---- a step that is undone

  module _ (this : Step) (is_last : number this ≡ last_step way) (some : eqb way.done 0 ≡ false) (sides : SidesState) (log : UndoState) (is : IsUndone way this (sides_of s w) o.log sides log) where
    abbrev now : WorkflowState
    now = sides.workflow

    abbrev u : OpenWay
    u = record { number = o.number; log = log }

    -- what was kept, without the list that the undo has taken
    abbrev taken : UndoState
    taken = record o.log { listed = left_listed this (last_shard way) o.log.listed }

    keeps : Keeps w now
    keeps = subst (Keeps w) (sym is.workflow) (undo_keeps w way this o.log.slots)

    way_now : now.way ≡ cond (eqb (way.done - 1) 0) None (Some (fewer way))
    way_now = ap (λ (x : WorkflowState). x.way) is.workflow

    -- a step that still stands done is not the one undone
    not_this : (n : ℕ) → stands_done (fewer way) n ≡ true → eqb (number this) n ≡ false
    not_this n done_now = false_from_ne_true (eqb (number this) n) (λ t.
        let same : last_step way ≡ n = sym is_last ∙ eqb-true (number this) n t in
        true≢false (sym done_now ∙ undone_by (fewer way) n n (last_fewer way some ∙ same) (omega arith)))

    module _ (goes : eqb (way.done - 1) 0 ≡ false) where
      still_open : now.way ≡ Some (fewer way)
      still_open = way_now ∙ ap (λ b. cond b None (Some (fewer way))) goes

      before_now : before_way (live_of now) ≡ before_way (live_of w)
      before_now =
          ap (λ x. option_map_or (λ (y : Way). y.before) x now.switched) still_open
          ∙ sym (ap (λ x. option_map_or (λ (y : Way). y.before) x w.switched) opens)

      entries_give : (n : ℕ) → stands_done (fewer way) n ≡ true → recorded_of now n log.entries ≡ step_entries now way.before n
      entries_give n done_now =
          recorded_keeps w now keeps before_now n log.entries
          ∙ ap (λ (x : UndoState). recorded_of w n x.entries) is.log
          ∙ gives.entries n (was_done way n done_now)
          ∙ sym (entries_keep w now keeps before_now way.before n)

      listed_give : (shard : ℕ) → shard < lists_of (fewer way) → stands_done_at (fewer way) refresh_source shard ≡ true → listed_at log shard ≡ Some (map (λ table. (table, false)) now.tables)
      listed_give shard below done_now =
          ap (λ (x : UndoState). listed_at x shard) is.log
          ∙ left_at this (last_shard way) o.log.listed shard (ap (λ n. eqb n refresh_source && eqb (last_shard way) shard) is_last ∙ not_last way shard (eqb-false way.done 0 some) below done_now)
          ∙ gives.listed shard below (was_done_at way refresh_source shard done_now) ∙ ap (λ ts. Some (map (λ table. (table, false)) ts)) (sym keeps.tables)

      slots_give : (live : Live) → live ≡ live_undone v way → stands_done (fewer way) create_back ≡ true → log.slots ≡ map (saved live way) live.lanes
      slots_give live is_undone done_now =
          ap (λ (x : UndoState). x.slots) is.log ∙ slots_left this o.log.slots (not_this create_back done_now)
          ∙ gives.slots (was_done way create_back done_now) ∙ sym (ap (λ (x : Live). map (saved x way) x.lanes) left_is ∙ map-in (saved left way) (saved v way) v.lanes each)
        where
          left : Live
          left = record v { way = Some (fewer way) }

          left_is : live ≡ left
          left_is = is_undone ∙ ap (λ b. record v { way = cond b None (Some (fewer way)) }) goes

          each : (lane : Lane) → IsIn lane v.lanes → saved left way lane ≡ saved v way lane
          each lane is_in =
              saved_stays v way (fewer way) v.switched v.lanes lane lane (record { shard = refl; copied = refl; forward_at = refl; back_at = refl }) (other_name way) v_opens refl

      open_now : (live : Live) → live ≡ live_undone v way → IsOpenOn sides.journal live now (fewer way) u
      open_now live is_undone = record {
        kept = undone_log way this s.base.topology sides.topology w now taken log [] (recorded_of w (number this) o.log.entries) is.topology is.workflow is.log
            (taken_log w this (last_shard way) o.log kept_before.kept);
        unused = λ f. ap (λ es. entry_of es o.number) is.journal ∙ kept_before.unused not_written;
        undo = λ f. record { entries = entries_give; listed = listed_give; slots = slots_give live is_undone };
      }

    here : (live : Live) (x : Way) → live_at (next p (undo name at) done) name ≡ Some live → now.way ≡ Some x → IsOpenOn sides.journal live now x u
    here live x is_now now_opens = by (eqb (way.done - 1) 0) refl
      where
        by : (b : Bool) → eqb (way.done - 1) 0 ≡ b → IsOpenOn sides.journal live now x u
        by true b = let none : None ≡ Some x = sym (way_now ∙ ap (λ c. cond c None (Some (fewer way))) b) ∙ now_opens in absurd cc
        by false b =
            subst (λ y. IsOpenOn sides.journal live now y u) (some_is (fewer way) x (sym (still_open b) ∙ now_opens))
            (open_now b live (live_undo p name at v live way is_live named v_opens is_now))

    pub undo_stays : WaysStand (next p (undo name at) done) (with_sides s w sides u).base (with_sides s w sides u).ways
    undo_stays =
        goes_on p (next p (undo name at) done) s.base (with_sides s w sides u).base s.ways (with_sides s w sides u).ways stands.ways name w now o u found is_open refl
        (ap (λ k. set_value (same_text k) s.base.workflows now) w_named) (ap (λ k. open_after s.ways.opened k u now.way) w_named) elsewhere
        (λ x other none. ap (λ es. entry_of es x) is.journal ∙ none) here refl refl (ap length is.journal ∙ stands.ways.journal)
        (subst (λ es. AllByRecursion (λ (e : JournalEntry). IsGiven s.ways.begun e.id) es) (sym is.journal) stands.ways.written)

  -- ---- a way that is closed

  abbrev shut : SidesState
  shut = record (sides_of s w) { workflow = record w { way = None } }

  pub close_stays : WaysStand (next p (undo name at) done) (with_sides s w shut o).base (with_sides s w shut o).ways
  close_stays =
      goes_on p (next p (undo name at) done) s.base (with_sides s w shut o).base s.ways (with_sides s w shut o).ways stands.ways name w (record w { way = None }) o o found is_open refl
      (ap (λ k. set_value (same_text k) s.base.workflows (record w { way = None })) w_named) (ap (λ k. open_after s.ways.opened k o None) w_named) elsewhere
      (λ x other none. none) (λ live x is_now now_opens. absurd cc) refl refl stands.ways.journal stands.ways.written
