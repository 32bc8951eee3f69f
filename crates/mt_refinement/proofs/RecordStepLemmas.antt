-- What is kept of a way behind a step of it.
use Rattle.std.proofs.Common.{◌≡◌, ◌≢◌, ℕ, ◌<◌, suc, Bool, true, false, cond, eqb, ◌&&◌, length, List, [], ◌∷◌, ◌++◌, map, None, Some, option_map, refl, sym, ap, ◌∙◌, subst, arith, eqb-true, get_or-set_other}
use Rattle.mt_laws.proofs.WayLemmas.{journal_once}
use Rattle.std.proofs.lemmas.Bool.{eq-eqb, eqb-false, false_from_ne_true, true≢false}
use Rattle.std.proofs.lemmas.List.{length_push}
use Rattle.std.specs.List.{AllByRecursion}
use Rattle.std.specs.Map.{set_value}
use Rattle.std.specs.Option.{option_map_or}
use Rattle.std.specs.Prelude.{slice_index_or, slice_set}
use Rattle.mt_names.specs.Names.{same_text}
use Rattle.mt_names.proofs.SameLemmas.{same_text_decides}
use Rattle.mt_model.specs.declared.entries.EntryKey.{EntryKey}
use Rattle.mt_model.specs.declared.entries.Scope.{Scope}
use Rattle.mt_journal.specs.declared.entry.JournalEntry.{JournalEntry}
use Rattle.mt_journal.specs.Journal.{entry_of}
use Rattle.mt_laws.proofs.ChangeLemmas.{live_after, lives_after}
use Rattle.mt_laws.proofs.LiveLemmas.{IsIn}
use Rattle.mt_laws.proofs.WayStepLemmas.{before_then, done_by, more, not_before, now_done, undone_by, next-le}
use Rattle.mt_plain.specs.Events.{done, step, Way}
use Rattle.mt_plain.specs.Next.{closes, journal_after, lane_stepped, live_stepped, next, on_way_of, types_stepped}
use Rattle.mt_plain.specs.Plain.{Lane, Live, Plain, before_way, behind_last, create_back, has_part, live_at, mover, moves, next_step, part_owner, refresh_source, refresh_target, stands_done, stands_done_at, write_journal}
use Rattle.mt_primary.specs.Denials.{marks_of}
use Rattle.mt_stands.specs.Rows.{stream_of}
use Rattle.mt_stands.specs.Base.{workflow_at}
use Rattle.mt_stands.specs.Stands.{StandsFor, lane_state}
use Rattle.mt_stands.specs.Switching.{open_after, sides_of, with_sides}
use Rattle.mt_stands.specs.Ways.{GivesBack, IsGiven, IsOpenOn, CoreStands, CoreState, WaysStand, lists_of, open_at}
use Rattle.mt_steps.proofs.StepLemmas.{stepped_log}
use Rattle.mt_steps.specs.declared.log.OpenWay.{OpenWay}
use Rattle.mt_steps.specs.declared.step.Step.{Step}
use Rattle.mt_steps.specs.Entries.{recorded, recorded_of, step_entries}
use Rattle.mt_steps.specs.Plans.{number}
use Rattle.mt_steps.specs.Shards.{next_shard, target_at}
use Rattle.mt_steps.specs.Steps.{IsStepped, SidesState, journal_entry, listed_at, sites}
use Rattle.mt_steps.specs.Streams.{log_ends, other_name}
use Rattle.mt_steps.specs.Undo.{UndoState}
use Rattle.mt_watch.specs.Asking.{Answering}
use Rattle.mt_workflow.specs.Workflows.{WorkflowState, lane_slot, live_of}
use Rattle.mt_refinement.proofs.AttemptLemmas.{and_none, attempt_journal, attempt_listed, listed_log, open_stepped, put_away_is, saved_stays, slot_stood, stepped_rest}
use Rattle.mt_refinement.proofs.ChangeLemmas.{IsAt}
use Rattle.mt_refinement.proofs.EntryLemmas.{recorded_before, recorded_elsewhere}
use Rattle.mt_refinement.proofs.KeepLemmas.{Keeps, entries_keep, recorded_keeps, step_keeps}
use Rattle.mt_refinement.proofs.PlaceLemmas.{before_at}
use Rattle.mt_refinement.proofs.PrimaryUndoLemmas.{list_empty, no_tables}
use Rattle.mt_refinement.proofs.RecordOpenLemmas.{goes_on, none_pushed, written-push}
use Rattle.mt_refinement.proofs.SlotLemmas.{map-in, map-map, slot-state}
use Rattle.mt_stands.proofs.KnownLemmas.{some_is}
use Rattle.mt_refinement.proofs.WholeOpenLemmas.{saved}

-- ---- the live workflow behind a step

pub live_step : (p : Plain) (name : List ℕ) (at : ℕ) (v now : Live) (way : Way) → live_at p name ≡ Some v → v.name ≡ name → v.way ≡ Some way → live_at (next p (step name at) done) name ≡ Some now
    → now ≡ live_stepped p v way
live_step p name at v now way is_live named opens is_now =
    live_after p (next p (step name at) done) (step name at) done (lives_after p (step name at) done) name v now is_live is_now
    ∙ ap (λ b. cond b (on_way_of (live_stepped p v) v) v) ((same_text_decides v.name name).1 named)
    ∙ ap (λ o. option_map_or (live_stepped p v) o v) opens

-- ---- what is kept behind a step

module _ (p : Plain) (scopes asked : List Scope) (may_answer : Answering) (s : CoreState) (stands : CoreStands p scopes s) (name : List ℕ) (w : WorkflowState) (way : Way) (o : OpenWay)
    (found : workflow_at s.base.workflows name ≡ Some w) (opens : w.way ≡ Some way) (is_open : open_at s.ways.opened name ≡ Some o)
    (v : Live) (is_live : live_at p name ≡ Some v) (for : StandsFor p v w) (named : v.name ≡ name) (place : IsAt p s.base.primaries v w way)
    (owned : (key : EntryKey) → has_part v key ≡ true → part_owner p key ≡ Some v) (mover_is : (table : List ℕ) → moves v table ≡ true → mover p table ≡ Some v)
    (this : Step) (is_next : number this ≡ next_step way) (sides : SidesState) (log : UndoState)
    (is : IsStepped asked may_answer o.number way this (sides_of s w) o.log sides log) where
  abbrev now : WorkflowState
  now = sides.workflow

  abbrev u : OpenWay
  u = record { number = o.number; log = log }

  v_opens : v.way ≡ Some way
  v_opens = sym for.way ∙ opens

  kept_before : IsOpenOn s.ways.journal v w way o
  kept_before = stands.ways.each name v w way o is_live found opens is_open

  -- what was kept, with the list that the step has taken
  abbrev taken : UndoState
  taken = record o.log { listed = slice_set o.log.listed (next_shard way) (listed_at log (next_shard way)) }

  keeps : Keeps w now
  keeps = subst (Keeps w) (sym is.workflow) (step_keeps w way this (log_ends way (sides_of s w).source (sides_of s w).targets))

  way_now : now.way ≡ cond (closes way) None (Some (more way))
  way_now = ap (λ (x : WorkflowState). x.way) is.workflow ∙ ap (λ n. cond (eqb (suc n) (behind_last way)) None (Some (more way))) is_next

  journal_now : sides.journal ≡ cond (eqb (next_step way) write_journal) (s.ways.journal ++ journal_entry o.number w way (sides_of s w).source (sides_of s w).targets ∷ []) s.ways.journal
  journal_now =
      attempt_journal asked may_answer o.number s.base.topology w way (sites way (sides_of s w) o.log) (sites way sides log) this is.attempt
      ∙ ap (λ n. cond (eqb n write_journal) (s.ways.journal ++ journal_entry o.number w way (sides_of s w).source (sides_of s w).targets ∷ []) s.ways.journal) is_next

  -- ---- where the way goes on

  module _ (goes : closes way ≡ false) where
    still_open : now.way ≡ Some (more way)
    still_open = way_now ∙ ap (λ b. cond b None (Some (more way))) goes

    before_now : before_way (live_of now) ≡ before_way (live_of w)
    before_now =
        ap (λ x. option_map_or (λ (y : Way). y.before) x now.switched) still_open
        ∙ sym (ap (λ x. option_map_or (λ (y : Way). y.before) x w.switched) opens)

    module _ (not_written : stands_done (more way) write_journal ≡ false) where
      gives : GivesBack v w way o.log
      gives = kept_before.undo (not_before way write_journal not_written)

      entries_give : (n : ℕ) → stands_done (more way) n ≡ true → recorded_of now n log.entries ≡ step_entries now way.before n
      entries_give n done_now =
          recorded_keeps w now keeps before_now n log.entries
          ∙ ap (recorded_of w n) (is.entries ∙ ap (λ m. recorded w m s.base.topology o.log.entries) is_next)
          ∙ by (eqb (next_step way) n) refl
          ∙ sym (entries_keep w now keeps before_now way.before n)
        where
          by : (b : Bool) → eqb (next_step way) n ≡ b → recorded_of w n (recorded w (next_step way) s.base.topology o.log.entries) ≡ step_entries w way.before n
          by true b =
              let at : next_step way ≡ n = eqb-true (next_step way) n b in
              ap (λ m. recorded_of w n (recorded w m s.base.topology o.log.entries)) at
              ∙ recorded_before p w v for s.base.topology stands.base.topology owned way opens n (undone_by way n n at (omega arith)) o.log.entries kept_before.kept.entries
          by false b =
              recorded_elsewhere w (next_step way) s.base.topology n (λ e. true≢false (sym (eq-eqb (next_step way) n (sym e)) ∙ b)) o.log.entries
              ∙ gives.entries n (before_then way n b done_now)

      not_refreshed : eqb (number this) refresh_target ≡ false
      not_refreshed = false_from_ne_true (eqb (number this) refresh_target) (λ t.
          let at : next_step way ≡ 8 = sym is_next ∙ eqb-true (number this) refresh_target t in
          let le = next-le way in
          true≢false (sym (done_by (more way) write_journal (next_step (more way)) refl (omega arith) (omega (arith, at, le))) ∙ not_written))

      -- what stands in the record for the shard of the next place
      listed_here : listed_at log (next_shard way)
          ≡ cond (eqb (next_step way) refresh_source) (Some (marks_of (cond way.before.primary (target_at (sides_of s w).targets (next_shard way)) (sides_of s w).source) w.tables)) (listed_at o.log (next_shard way))
      listed_here =
          attempt_listed asked may_answer o.number s.base.topology w way (sites way (sides_of s w) o.log) (sites way sides log) this not_refreshed is.attempt
          ∙ ap (λ n. cond (eqb n refresh_source) (Some (marks_of (cond way.before.primary (target_at (sides_of s w).targets (next_shard way)) (sides_of s w).source) w.tables)) (listed_at o.log (next_shard way))) is_next

      listed_give : (shard : ℕ) → shard < lists_of (more way) → stands_done_at (more way) refresh_source shard ≡ true → listed_at log shard ≡ Some (map (λ table. (table, false)) now.tables)
      listed_give shard below done_now = by (eqb (next_shard way) shard) refl ∙ ap (λ ts. Some (map (λ table. (table, false)) ts)) (sym keeps.tables)
        where
          -- a list of another refresh was kept before
          stood : (eqb (next_step way) refresh_source && eqb (next_shard way) shard) ≡ false → listed_at o.log shard ≡ Some (no_tables w)
          stood other = gives.listed shard below (before_at way shard below other done_now)

          here : next_shard way ≡ shard → (b : Bool) → eqb (next_step way) refresh_source ≡ b → listed_at log shard ≡ Some (no_tables w)
          here same true b =
              subst (λ n. listed_at log n ≡ Some (no_tables w)) same
              (listed_here ∙ ap (λ c. cond c (Some (marks_of (cond way.before.primary (target_at (sides_of s w).targets (next_shard way)) (sides_of s w).source) w.tables)) (listed_at o.log (next_shard way))) b
              ∙ ap Some (list_empty p s.base.primaries v w way place mover_is (eqb-true (next_step way) refresh_source b)))
          here same false b =
              ap (listed_at log) (sym same)
              ∙ listed_here ∙ ap (λ c. cond c (Some (marks_of (cond way.before.primary (target_at (sides_of s w).targets (next_shard way)) (sides_of s w).source) w.tables)) (listed_at o.log (next_shard way))) b
              ∙ ap (listed_at o.log) same ∙ stood (ap (λ c. c && eqb (next_shard way) shard) b)

          by : (b : Bool) → eqb (next_shard way) shard ≡ b → listed_at log shard ≡ Some (no_tables w)
          by true e = here (eqb-true (next_shard way) shard e) (eqb (next_step way) refresh_source) refl
          by false e =
              ap (λ l. slice_index_or l shard None) is.listed
              ∙ get_or-set_other o.log.listed (next_shard way) shard (listed_at log (next_shard way)) None (λ same. eqb-false (next_shard way) shard e (sym same))
              ∙ stood (ap (λ c. eqb (next_step way) refresh_source && c) e ∙ and_none (eqb (next_step way) refresh_source))

      slots_give : (live : Live) → live ≡ live_stepped p v way → stands_done (more way) create_back ≡ true → log.slots ≡ map (saved live way) live.lanes
      slots_give live is_stepped done_now =
          is.slots ∙ put_away_is w way this o.log.slots ∙ ap (λ n. cond (eqb n create_back) (map (lane_slot (other_name way)) w.lanes) o.log.slots) is_next
          ∙ by (eqb (next_step way) create_back) refl
          ∙ sym (ap (λ (x : Live). map (saved x way) x.lanes) is_stepped ∙ stood)
        where
          by : (b : Bool) → eqb (next_step way) create_back ≡ b → cond b (map (lane_slot (other_name way)) w.lanes) o.log.slots ≡ map (saved v way) v.lanes
          by true b =
              ap (map (lane_slot (other_name way))) for.lanes ∙ map-map (lane_slot (other_name way)) (lane_state v) v.lanes
              ∙ map-in (λ lane. lane_slot (other_name way) (lane_state v lane)) (saved v way) v.lanes (λ lane is_in.
              slot-state v lane (other_name way)
              ∙ ap (option_map (stream_of v lane)) (slot_stood v lane way v_opens (undone_by way create_back create_back (eqb-true (next_step way) create_back b) (omega arith))))
          by false b = gives.slots (before_then way create_back b done_now)

          each : (lane : Lane) → IsIn lane v.lanes → saved (live_stepped p v way) way (lane_stepped p v way lane) ≡ saved v way lane
          each lane is_in =
              ap (λ (x : Live). saved x way (lane_stepped p v way lane)) (open_stepped p v way goes)
              ∙ saved_stays v way (more way) (types_stepped v way) (map (lane_stepped p v way) v.lanes) lane (lane_stepped p v way lane) (stepped_rest p v way lane goes) (other_name way) v_opens refl

          stood : map (saved (live_stepped p v way) way) (map (lane_stepped p v way) v.lanes) ≡ map (saved v way) v.lanes
          stood =
              map-map (saved (live_stepped p v way) way) (lane_stepped p v way) v.lanes
              ∙ map-in (λ lane. saved (live_stepped p v way) way (lane_stepped p v way lane)) (saved v way) v.lanes each

      gives_now : (live : Live) → live ≡ live_stepped p v way → GivesBack live now (more way) log
      gives_now live is_stepped = record { entries = entries_give; listed = listed_give; slots = slots_give live is_stepped }

    unused_now : stands_done (more way) write_journal ≡ false → entry_of sides.journal o.number ≡ None
    unused_now not_written = ap (λ es. entry_of es o.number) journal_now ∙ by (eqb (next_step way) write_journal) refl
      where
        by : (b : Bool) → eqb (next_step way) write_journal ≡ b
            → entry_of (cond b (s.ways.journal ++ journal_entry o.number w way (sides_of s w).source (sides_of s w).targets ∷ []) s.ways.journal) o.number ≡ None
        by true b = absurd (true≢false (sym (now_done way write_journal (omega arith) (journal_once way) b) ∙ not_written))
        by false b = kept_before.unused (not_before way write_journal not_written)

    open_now : (live : Live) → live ≡ live_stepped p v way → IsOpenOn sides.journal live now (more way) u
    open_now live is_stepped = record {
      kept = stepped_log way this s.base.topology sides.topology w now taken log (log_ends way (sides_of s w).source (sides_of s w).targets)
          (step_entries w way.after (number this)) is.topology is.workflow (λ i. record { entries = is.entries i; listed = is.listed i; slots = is.slots i })
          (listed_log w o.log (next_shard way) (listed_at log (next_shard way)) kept_before.kept);
      unused = unused_now;
      undo = λ not_written. gives_now not_written live is_stepped;
    }

  here : (at : ℕ) (live : Live) (x : Way) → live_at (next p (step name at) done) name ≡ Some live → now.way ≡ Some x → IsOpenOn sides.journal live now x u
  here at live x is_now now_opens = by (closes way) refl
    where
      by : (b : Bool) → closes way ≡ b → IsOpenOn sides.journal live now x u
      by true b = let none : None ≡ Some x = sym (way_now ∙ ap (λ c. cond c None (Some (more way))) b) ∙ now_opens in absurd cc
      by false b =
          subst (λ y. IsOpenOn sides.journal live now y u) (some_is (more way) x (sym (still_open b) ∙ now_opens))
          (open_now b live (live_step p name at v live way is_live named v_opens is_now))

  -- ---- the journal

  unused_else : (x : ℕ) → x ≢ o.number → entry_of s.ways.journal x ≡ None → entry_of sides.journal x ≡ None
  unused_else x other none = ap (λ es. entry_of es x) journal_now ∙ by (eqb (next_step way) write_journal)
    where
      by : (b : Bool) → entry_of (cond b (s.ways.journal ++ journal_entry o.number w way (sides_of s w).source (sides_of s w).targets ∷ []) s.ways.journal) x ≡ None
      by true = none_pushed s.ways.journal (journal_entry o.number w way (sides_of s w).source (sides_of s w).targets) x other none
      by false = none

  written_now : AllByRecursion (λ (e : JournalEntry). IsGiven s.ways.begun e.id) sides.journal
  written_now = subst (λ es. AllByRecursion (λ (e : JournalEntry). IsGiven s.ways.begun e.id) es) (sym journal_now) (by (eqb (next_step way) write_journal))
    where
      by : (b : Bool) → AllByRecursion (λ (e : JournalEntry). IsGiven s.ways.begun e.id)
          (cond b (s.ways.journal ++ journal_entry o.number w way (sides_of s w).source (sides_of s w).targets ∷ []) s.ways.journal)
      by true = written-push s.ways.begun s.ways.journal (journal_entry o.number w way (sides_of s w).source (sides_of s w).targets) stands.ways.written (stands.ways.numbers name o is_open)
      by false = stands.ways.written

  as_long : (at : ℕ) → length sides.journal ≡ (next p (step name at) done).journal
  as_long at =
      ap length journal_now ∙ by (eqb (next_step way) write_journal)
      ∙ sym (ap (journal_after p) is_live ∙ ap (λ x. option_map_or (λ (y : Way). cond (eqb (next_step y) write_journal) (suc p.journal) p.journal) x p.journal) v_opens)
    where
      by : (b : Bool) → length (cond b (s.ways.journal ++ journal_entry o.number w way (sides_of s w).source (sides_of s w).targets ∷ []) s.ways.journal) ≡ cond b (suc p.journal) p.journal
      by true =
          let more_by_one = length_push s.ways.journal (journal_entry o.number w way (sides_of s w).source (sides_of s w).targets) in
          let same = stands.ways.journal in
          omega (arith, more_by_one, same)
      by false = stands.ways.journal

  pub step_stays : (at : ℕ) → ((n : List ℕ) → name ≢ n → live_at (next p (step name at) done) n ≡ live_at p n)
      → WaysStand (next p (step name at) done) (with_sides s w sides u).base (with_sides s w sides u).ways
  step_stays at elsewhere =
      goes_on p (next p (step name at) done) s.base (with_sides s w sides u).base s.ways (with_sides s w sides u).ways stands.ways name w now o u found is_open refl
      (ap (λ k. set_value (same_text k) s.base.workflows now) w_named) (ap (λ k. open_after s.ways.opened k u now.way) w_named) elsewhere unused_else (here at) refl refl (as_long at) written_now
    where
      w_named : w.name ≡ name
      w_named = sym for.sides.name ∙ named
