-- What a step may be refused for is what the definitions refuse it for.
use Rattle.std.proofs.Common.{◌≡◌, ℕ, ◌<◌, Bool, true, false, not, cond, eqb, ◌||◌, List, [], ◌∷◌, length, slice_get, Option, None, Some, Ok, Err, refl, sym, ap, ◌∙◌, subst, arith}
use Rattle.std.proofs.lemmas.Bool.{le-leb, lt-leb, true≢false}
use Rattle.std.specs.List.{list_any}
use Rattle.std.specs.Option.{option_map_or}
use Rattle.std.specs.Prelude.{◌&&◌, ◌==◌, if◌then◌else◌, nat_lt, option_and_then}
use Rattle.mt_names.specs.Shards.{shard_count}
use Rattle.mt_model.specs.declared.entries.Scope.{Scope}
use Rattle.mt_model.specs.declared.entries.Scope.TheVariants as scope
use Rattle.mt_model.specs.Topology.{Marks, TopologyState}
use Rattle.mt_plain.specs.Answers.{Refuses}
use Rattle.mt_plain.specs.Events.{StreamName, Slot, Way, step, not_level, no_watcher, full}
use Rattle.mt_plain.specs.Plain.{Lane, Live, Plain, catch_up, changes_primary, create_back, lane_at, live_at, next_step, owner, refresh_source, refresh_target, switch_reads, write_journal}
use Rattle.mt_plain.specs.Refuse.{asked_by_step, asked_keyspace, is_behind, is_next_step, is_of_primary, lane_is_behind, may_grow, most_journal_entries, new_owner, old_owner, own_refusal, refusal_of, refuse_if, steps_that_grow, watcher_refusal, will_read_other_side}
use Rattle.mt_plain.specs.Slots.{read_shard, read_side, slot_of}
use Rattle.mt_primary.specs.Primaries.{Primaries, primary_of, shards_of}
use Rattle.mt_stream.specs.Streams.{is_level}
use Rattle.mt_watch.specs.Asking.{Answering}
use Rattle.mt_watch.specs.Scopes.{has_scope}
use Rattle.mt_workflow.specs.Workflows.{WorkflowState}
use Rattle.mt_journal.specs.declared.entry.JournalEntry.{JournalEntry}
use Rattle.mt_steps.specs.declared.fault.StepFault.{StepFault}
use Rattle.mt_steps.specs.declared.fault.StepFault.TheVariants as fault
use Rattle.mt_steps.specs.declared.step.Step.{Step}
use Rattle.mt_steps.specs.declared.step.Step.TheVariants.{SwitchReads, RefreshSource, CatchUp, Journal, RefreshTarget}
use Rattle.mt_steps.specs.Faults as steps
use Rattle.mt_steps.specs.Plans.{number}
use Rattle.mt_steps.specs.Refreshes.{Sites}
use Rattle.mt_steps.specs.Shards.{next_shard}
use Rattle.mt_steps.specs.Steps.{Attempts, Journals, answer_if_level, journal_entry}
use Rattle.mt_laws.specs.Reached.{HandsOver, IsOnCourse}
use Rattle.mt_laws.proofs.LaneLemmas.{IsNumbered}
use Rattle.mt_stands.specs.Rows.{stream_of}
use Rattle.mt_stands.specs.Stands.{StandsFor}
use Rattle.mt_refinement.proofs.LevelLemmas.{caught_same, reads_same}
use Rattle.mt_refinement.proofs.RefreshLemmas.{WhyRefused, not_refreshed, refreshed, same_watchers, watched_by, watcher_of}

-- ---- single tests

passes_level : (x b : Bool) → b ≡ not x → answer_if_level b ≡ Ok tt → refuse_if x not_level ≡ None
passes_level true b e is = absurd (let g : answer_if_level false ≡ Ok tt = ap answer_if_level (sym e) ∙ is in cc)
passes_level false b e is = refl

watched : (p : Plain) (keyspace : List ℕ) → list_any (is_of_primary keyspace) p.scopes ≡ true → watcher_refusal p keyspace ≡ None
watched p keyspace e = ap (λ b. refuse_if (not b) no_watcher) e

-- ---- the sides

module _ (p : Plain) (live : Live) (w : WorkflowState) (for : StandsFor p live w) (way : Way) (opens : live.way ≡ Some way) where
  pub old_is : old_owner live ≡ cond way.before.primary w.target w.source
  old_is =
      ap (λ o. cond (option_map_or (λ (v : Way). v.before) o live.switched).primary live.target live.source) opens ∙ ap (λ k. cond way.before.primary k live.source) for.sides.target
      ∙ ap (λ k. cond way.before.primary w.target k) for.sides.source

  pub new_is : new_owner live ≡ cond (not way.before.primary) w.target w.source
  new_is =
      ap (λ o. cond (option_map_or (λ (v : Way). v.before) o live.switched).primary live.source live.target) opens ∙ ap (λ k. cond way.before.primary k live.target) for.sides.source
      ∙ ap (λ k. cond way.before.primary w.source k) for.sides.target ∙ by way.before.primary
    where
      by : (b : Bool) → cond b w.source w.target ≡ cond (not b) w.target w.source
      by true = refl
      by false = refl

-- ---- by the step

module _ (p : Plain) (live : Live) (w : WorkflowState) (for : StandsFor p live w) (numbered : IsNumbered live) (way : Way) (opens : live.way ≡ Some way) (course : IsOnCourse live way)
    (hands : changes_primary way ≡ true → HandsOver live way) (primaries : Primaries)
    (level : (shard : ℕ) (lane : Lane) → lane_at live shard ≡ Some lane → (stream : StreamName) (slot : Slot) → slot_of live lane stream ≡ Some slot → read_side live stream ≡ owner live
    → is_level (stream_of live lane slot) (primary_of primaries (read_side live stream) (read_shard lane stream)) ≡ not (lane_is_behind p live lane))
    (journal : List JournalEntry) (entries : length journal ≡ p.journal) (mine : List Scope) (may_answer : Answering) (id : ℕ) (t : TopologyState) (listed : Option Marks) where
  abbrev pub sites_now : Sites
  sites_now = record { source = primary_of primaries w.source 0; targets = (shards_of primaries w.target).each; journal = journal; listed = listed }

  room : length journal < most_journal_entries → own_refusal p live way write_journal ≡ None
  room less = ap (λ b. refuse_if b full) (lt-leb most_journal_entries p.journal (omega (arith, less, entries)))

  no_room : length journal ≡ most_journal_entries → own_refusal p live way write_journal ≡ Some full
  no_room most = ap (λ b. refuse_if b full) (le-leb most_journal_entries p.journal (omega (arith, most, entries)))

  -- a step that is done is refused by no test
  module _ (wide : (keyspace : List ℕ) → has_scope mine (scope.Primary keyspace) ≡ true → has_scope p.scopes (scope.Primary keyspace) ≡ true) where
    asked_there : (keyspace side : List ℕ) → keyspace ≡ side → has_scope mine (scope.Primary side) ≡ true → watcher_refusal p keyspace ≡ None
    asked_there keyspace side same has =
        watched p keyspace (sym (same_watchers keyspace p.scopes) ∙ wide keyspace (subst (λ k. has_scope mine (scope.Primary k) ≡ true) (sym same) has))

    pub taken : (s : Step) → number s ≡ next_step way → (new : Sites) → Attempts mine may_answer id t w way s sites_now (Ok tt) new → own_refusal p live way (number s) ≡ None
    taken SwitchReads n new is = passes_level (will_read_other_side live way && is_behind p live) _ (reads_same p live w for numbered way opens course primaries level n) (sym is.0)
    taken RefreshSource n new is = asked_there (old_owner live) _ (old_is p live w for way opens) (refreshed mine may_answer t w sites_now new way.before.primary (next_shard way) is)
    taken CatchUp n new is = passes_level (is_behind p live) _ (caught_same p live w for numbered way opens course primaries level hands n) (sym is.0)
    taken Journal n new is = room is.0.0
    taken RefreshTarget n new is = asked_there (new_owner live) _ (new_is p live w for way opens) (refreshed mine may_answer t w sites_now new (not way.before.primary) (next_shard way) is)
    taken other n new is = refl

  -- and one that is refused, by the test that refuses it, or it is free
  module _ (scopes : p.scopes ≡ mine) (workflow : List ℕ) (count : ℕ) (is_live : live_at p workflow ≡ Some live)
      (same : refusal_of p (step workflow count) ≡ own_refusal p live way (next_step way)) where
    own_by : (n : ℕ) → n ≡ next_step way → refusal_of p (step workflow count) ≡ own_refusal p live way n
    own_by n is = same ∙ ap (own_refusal p live way) (sym is)

    grows : (n : ℕ) → n ≡ next_step way → (eqb n refresh_source || (eqb n write_journal || (eqb n refresh_target || false))) ≡ true → may_grow p (step workflow count) ≡ true
    grows n is one =
        ap (λ l. option_map_or (λ v. list_any (is_next_step v) (steps_that_grow v)) l false) is_live
        ∙ ap (λ o. list_any (λ m. option_map_or (λ (v : Way). next_step v == m) o false) (steps_that_grow live)) opens
        ∙ ap (λ m. eqb m refresh_source || (eqb m write_journal || (eqb m refresh_target || list_any (eqb m) more))) (sym is)
        ∙ by (eqb n refresh_source) (eqb n write_journal) (eqb n refresh_target) one
      where
        -- with several shards the step that makes their streams is one of these too
        more : List ℕ
        more = if nat_lt 1 (shard_count live.cuts) then create_back ∷ [] else []

        by : (a b c : Bool) → (a || (b || (c || false))) ≡ true → (a || (b || (c || list_any (eqb n) more))) ≡ true
        by true b c e = refl
        by false true c e = refl
        by false false true e = refl
        by false false false e = absurd (true≢false (sym e))

    asked : (n : ℕ) → n ≡ next_step way → asked_keyspace p (step workflow count) ≡ cond (eqb n refresh_source) (Some (old_owner live)) (cond (eqb n refresh_target) (Some (new_owner live)) None)
    asked n is =
        ap (λ l. option_and_then asked_by_step l) is_live
        ∙ ap (λ o. cond (option_map_or (λ (v : Way). next_step v == refresh_source) o false) (Some (old_owner live)) (cond (option_map_or (λ (v : Way). next_step v == refresh_target) o false) (Some (new_owner live)) None)) opens
        ∙ ap (λ m. cond (eqb m refresh_source) (Some (old_owner live)) (cond (eqb m refresh_target) (Some (new_owner live)) None)) (sym is)

    level_refused : (x b : Bool) → b ≡ not x → refusal_of p (step workflow count) ≡ refuse_if x not_level → (f : StepFault) → answer_if_level b ≡ Err f
        → Refuses p (step workflow count) (steps.refusal_of f)
    level_refused true b e tests f is =
        let g : answer_if_level false ≡ Err f = ap answer_if_level (sym e) ∙ is in let h : fault.NotLevel ≡ f = cc in subst (λ x. Refuses p (step workflow count) (steps.refusal_of x)) h tests
    level_refused false b e tests f is = absurd (let g : answer_if_level true ≡ Err f = ap answer_if_level (sym e) ∙ is in cc)

    journal_refused : (n : write_journal ≡ next_step way) (f : StepFault) (e : JournalEntry) (new : List JournalEntry) → Journals e journal (Err f) new → Refuses p (step workflow count) (steps.refusal_of f)
    journal_refused n fault.Full e new is = own_by write_journal n ∙ no_room is.0
    journal_refused n fault.Memory e new is = (own_by write_journal n ∙ room is.0, grows write_journal n refl)
    journal_refused n other e new is = absurd is

    module _ (keyspace : List ℕ) (tests : refusal_of p (step workflow count) ≡ watcher_refusal p keyspace) (may : may_grow p (step workflow count) ≡ true)
        (asks : asked_keyspace p (step workflow count) ≡ Some keyspace) where
      scopes_there : has_scope mine (scope.Primary keyspace) ≡ list_any (is_of_primary keyspace) p.scopes
      scopes_there = same_watchers keyspace mine ∙ ap (list_any (is_of_primary keyspace)) (sym scopes)

      refresh_refused : (f : StepFault) → WhyRefused mine keyspace f → Refuses p (step workflow count) (steps.refusal_of f)
      refresh_refused fault.NoWatcher none = tests ∙ ap (λ b. refuse_if (not b) no_watcher) (sym scopes_there ∙ none)
      refresh_refused fault.Memory has = (tests ∙ watched p keyspace (sym scopes_there ∙ has), may)
      refresh_refused (fault.WatcherRefused i) here =
          let there : slice_get p.scopes i ≡ Some (scope.Primary keyspace) = ap (λ l. slice_get l i) scopes ∙ here in (
            tests ∙ watched p keyspace (watched_by keyspace p.scopes i there),
            ap (λ o. option_map_or (λ k. option_map_or (is_of_primary k) (slice_get p.scopes i) false) o false) asks ∙ ap (λ o. option_map_or (is_of_primary keyspace) o false) there ∙ watcher_of keyspace,
          )
      refresh_refused other is = absurd is

    pub not_taken : (s : Step) → number s ≡ next_step way → (f : StepFault) (new : Sites) → Attempts mine may_answer id t w way s sites_now (Err f) new
        → Refuses p (step workflow count) (steps.refusal_of f)
    not_taken SwitchReads n f new is =
        level_refused (will_read_other_side live way && is_behind p live) _ (reads_same p live w for numbered way opens course primaries level n) (own_by switch_reads n) f (sym is.0)
    not_taken RefreshSource n f new is =
        refresh_refused (old_owner live) (own_by refresh_source n) (grows refresh_source n refl) (asked refresh_source n) f
        (subst (λ k. WhyRefused mine k f) (sym (old_is p live w for way opens)) (not_refreshed mine may_answer t w sites_now new way.before.primary (next_shard way) f is))
    not_taken CatchUp n f new is = level_refused (is_behind p live) _ (caught_same p live w for numbered way opens course primaries level hands n) (own_by catch_up n) f (sym is.0)
    not_taken Journal n f new is = journal_refused n f (journal_entry id w way (primary_of primaries w.source 0) (shards_of primaries w.target).each) new.journal is.0
    not_taken RefreshTarget n f new is =
        refresh_refused (new_owner live) (own_by refresh_target n) (grows refresh_target n refl) (asked refresh_target n) f
        (subst (λ k. WhyRefused mine k f) (sym (new_is p live w for way opens)) (not_refreshed mine may_answer t w sites_now new (not way.before.primary) (next_shard way) f is))
    not_taken other n f new is = absurd (let h : Ok tt ≡ Err f = sym is.0 in cc)
