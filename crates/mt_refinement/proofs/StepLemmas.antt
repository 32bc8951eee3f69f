-- What a Create leaves stands for the next state.
use Rattle.std.proofs.Common.{◌≡◌, ◌≢◌, ⊎_elim, ℕ, ◌<◌, false, List, [], ◌∷◌, ◌++◌, map, slice_get, Option, None, Some, is_some, refl, sym, ap, subst, ◌∙◌}
use Rattle.std.proofs.lemmas.List.{map-append}
use Rattle.std.proofs.lemmas.List.Sums.{length-filter}
use Rattle.std.specs.List.{AllByRecursion, range_with_len}
use Rattle.std.specs.Option.{option_map_or}
use Rattle.std.specs.Prelude.{Ok}
use Rattle.mt_names.specs.Names.{same_text}
use Rattle.mt_names.specs.Shards.{Cuts, KeyRange, cuts_between, ranges_of, shard_count, whole}
use Rattle.mt_names.proofs.ShardLemmas.{count_ranges, cuts_between-ranges_from}
use Rattle.mt_names.specs.Types.{no_types}
use Rattle.mt_names.proofs.EntryLemmas.{lookup-push_elsewhere, lookup-push_here, none_from, same_or_other}
use Rattle.mt_names.proofs.SameLemmas.{same_text_decides}
use Rattle.mt_model.specs.declared.entries.Entry.{Entry}
use Rattle.mt_model.specs.declared.entries.Scope.{Scope}
use Rattle.mt_model.specs.declared.entries.Scope.TheVariants as scope
use Rattle.mt_model.specs.Part.{with_entries, with_places}
use Rattle.mt_watch.specs.Asking.{Answering, AsksEach}
use Rattle.mt_watch.specs.Notices.{notice_of}
use Rattle.mt_workflow.specs.Workflows.{LaneState, WorkflowState, cuts_in, live_of}
use Rattle.mt_workflow.specs.Workflows as work
use Rattle.mt_plain.specs.Answers.{Answers, range_at}
use Rattle.mt_plain.specs.Events.{Answer, done, row, advanced, shown, refused, memory, watcher_refused, create}
use Rattle.mt_plain.specs.Next.{lane_fed, new_lane, next}
use Rattle.mt_plain.specs.Next as plain
use Rattle.mt_plain.specs.Plain.{Live, Plain, cuts_of, each_once, live_at}
use Rattle.mt_plain.specs.Refuse.{is_of_primary, refusal_of}
use Rattle.mt_plain.specs.Slots.{is_entry_at, log_length, log_of}
use Rattle.mt_laws.specs.WayBack.{IsReached}
use Rattle.mt_stands.specs.Keys.{IsKept, created_live, keys_of_part, part_entries}
use Rattle.mt_stands.specs.Topologies.{TopologyStands}
use Rattle.mt_primary.specs.Primary.{end_of}
use Rattle.mt_stands.specs.Rows.{OtherKeyspacesStay, RowsStand}
use Rattle.mt_stands.proofs.LogLemmas.{log-length}
use Rattle.mt_primary.specs.Primaries.{Primaries, count_of, primary_of, with_all}
use Rattle.mt_primary.proofs.PrimariesLemmas.{with_all-elsewhere, with_all-here}
use Rattle.mt_stands.specs.Base.{BaseState, workflow_at}
use Rattle.mt_stands.specs.Stands.{AreWorkflows, StandsFor, StandsForAny, StandsWith, lane_state}
use Rattle.mt_stands.specs.Workflows.{CreatesSet, change_of, create_refusal, new_of, target_made, with_created}
use Rattle.mt_refinement.specs.Made.{AreMadeDenied}
use Rattle.mt_refinement.proofs.MadeLemmas.{primaries_now}
use Rattle.mt_refinement.proofs.NamedLemmas.{same_names}
use Rattle.mt_refinement.proofs.PrimaryLemmas.{all_changed}
use Rattle.mt_refinement.proofs.RoomLemmas.{CanMove}
use Rattle.mt_refinement.proofs.ShardLemmas.{each_at}

module _ (p : Plain) (scopes : List Scope) (old : BaseState) (stands : StandsWith p scopes old) (workflow source target : List ℕ) (tables : List (List ℕ)) where
  abbrev w : WorkflowState
  w = new_of old workflow source target tables

  abbrev v : Live
  v = created_live p workflow source target tables

  abbrev q : Plain
  q = plain.with_created p workflow source target tables

  -- ---- the workflows

  log_same : end_of (primary_of old.primaries source 0) ≡ log_length p source 0
  log_same =
      sym (log-length (log_of p source 0) source 0 (primary_of old.primaries source 0).log (stands.rows.log source 0))
      ∙ length-filter (is_entry_at source 0) p.log

  abbrev cuts : Cuts
  cuts = cuts_of p target

  abbrev made : Live
  made = plain.created workflow source target tables cuts (log_length p source 0)

  -- a lane for each shard of the target, with the range of that shard
  are_lanes : w.lanes ≡ map (work.new_lane tables (log_length p source 0)) (ranges_of cuts)
  are_lanes =
      ap (λ these. map (work.new_lane tables (end_of (primary_of old.primaries source 0))) (ranges_of these)) (stands.topology.served.shards target)
      ∙ ap (λ n. map (work.new_lane tables n) (ranges_of cuts)) log_same

  lanes_alike : w.lanes ≡ map (lane_state v) v.lanes
  lanes_alike =
      are_lanes ∙ ap (map (work.new_lane tables (log_length p source 0))) (each_at whole (ranges_of cuts) ∙ ap (λ n. map (range_at cuts) (range_with_len 0 n)) (count_ranges cuts (stands.primaries.ascend target)))
      ∙ by (range_with_len 0 (shard_count cuts))
    where
      by : (numbers : List ℕ)
          → map (work.new_lane tables (log_length p source 0)) (map (range_at cuts) numbers) ≡ map (lane_state v) (map (lane_fed p made) (map (new_lane (log_length p source 0)) numbers))
      by [] = refl
      by (n ∷ numbers) = ap (λ lanes. work.new_lane tables (log_length p source 0) (range_at cuts n) ∷ lanes) (by numbers)

  ranges_same : (ranges : List KeyRange) → map (λ (lane : LaneState). lane.range) (map (work.new_lane tables (log_length p source 0)) ranges) ≡ ranges
  ranges_same [] = refl
  ranges_same (range ∷ ranges) = ap (λ rest. range ∷ rest) (ranges_same ranges)

  stands_new : IsKept p.topology v w.kept → StandsFor q v w
  stands_new kept = record {
    sides = record {
      name = refl;
      source = refl;
      target = refl;
      tables = refl;
      cuts = sym (ap cuts_in are_lanes ∙ ap cuts_between (ranges_same (ranges_of cuts)) ∙ cuts_between-ranges_from [] cuts);
    };
    switched = refl;
    way = refl;
    kept = kept;
    lanes = lanes_alike;
  }

  stands_still : (l : Option Live) (x : Option WorkflowState) → StandsForAny p l x → StandsForAny q l x
  stands_still None None still = still
  stands_still None (Some x) still = still
  stands_still (Some l) None still = still
  stands_still (Some l) (Some x) still =
      record { sides = still.sides; switched = still.switched; way = still.way; kept = still.kept; lanes = still.lanes }

  module _ (free : live_at p workflow ≡ None) (live : live_at q workflow ≡ Some v) (elsewhere : (name : List ℕ) → workflow ≢ name → live_at q name ≡ live_at p name) (kept : IsKept p.topology v w.kept) where
    workflows_now : AreWorkflows q (old.workflows ++ (workflow, w) ∷ [])
    workflows_now = record {
      each = λ name. ⊎_elim (here name) (other name) (same_or_other same_text same_text_decides workflow name);
      names = map-append (λ (e : List ℕ × WorkflowState). e.0) old.workflows ((workflow, w) ∷ []) ∙ ap (λ l. l ++ workflow ∷ []) stands.workflows.names ∙ sym (map-append (λ (l : Live). l.name) p.lives (v ∷ []));
    }
      where
        none : workflow_at old.workflows workflow ≡ None
        none = none_from (workflow_at old.workflows workflow) (same_names p old.workflows stands.workflows workflow ∙ ap is_some free)

        here : (name : List ℕ) → workflow ≡ name → StandsForAny q (live_at q name) (workflow_at (old.workflows ++ (workflow, w) ∷ []) name)
        here name e = subst (λ n. StandsForAny q (live_at q n) (workflow_at (old.workflows ++ (workflow, w) ∷ []) n)) e
            (subst (λ o. StandsForAny q o (workflow_at (old.workflows ++ (workflow, w) ∷ []) workflow)) (sym live)
            (subst (λ o. StandsForAny q (Some v) o) (sym (lookup-push_here same_text same_text_decides old.workflows workflow w none)) (stands_new kept)))

        other : (name : List ℕ) → workflow ≢ name → StandsForAny q (live_at q name) (workflow_at (old.workflows ++ (workflow, w) ∷ []) name)
        other name e =
            subst (λ o. StandsForAny q o (workflow_at (old.workflows ++ (workflow, w) ∷ []) name)) (sym (elsewhere name e))
            (subst (λ o. StandsForAny q (live_at p name) o) (sym (lookup-push_elsewhere same_text same_text_decides old.workflows workflow name w e))
            (stands_still (live_at p name) (workflow_at old.workflows name) (stands.workflows.each name)))

    -- ---- all of it

    module _ (notice : List Entry) (made_each : (n : ℕ) → n < count_of old.primaries target → AreMadeDenied tables (primary_of old.primaries target n) (target_made w notice (primary_of old.primaries target n)))
        (sides : source ≢ target) (can : AllByRecursion (CanMove p source target) tables) (reached : IsReached q)
        (topology : TopologyStands q (with_entries (with_places old.topology (keys_of_part v)) (part_entries w.kept v no_types)))
        (follows : part_entries w.kept v no_types ≡ part_entries w.kept (live_of w) no_types)
        (rows : OtherKeyspacesStay target (primary_of old.primaries) (primary_of (with_all old.primaries target (target_made w notice)))
        → ((n : ℕ) → n < count_of old.primaries target → AreMadeDenied tables (primary_of old.primaries target n) (primary_of (with_all old.primaries target (target_made w notice)) target n))
        → RowsStand q (primary_of (with_all old.primaries target (target_made w notice)))) where
      abbrev new : Primaries
      new = with_all old.primaries target (target_made w notice)

      made_there : (n : ℕ) → n < count_of old.primaries target → AreMadeDenied tables (primary_of old.primaries target n) (primary_of new target n)
      made_there n within = subst (λ s. AreMadeDenied tables (primary_of old.primaries target n) s) (sym (with_all-here old.primaries target (target_made w notice) n within)) (made_each n within)

      others : OtherKeyspacesStay target (primary_of old.primaries) (primary_of new)
      others other differs n = with_all-elsewhere old.primaries target (target_made w notice) other n differs

      pub taken : StandsWith q scopes (with_created old w notice)
      taken = record {
        reached = reached;
        scopes_are = stands.scopes_are;
        topology = subst (λ entries. TopologyStands q (with_entries (with_places old.topology (keys_of_part v)) entries)) follows topology;
        rows = rows others made_there;
        primaries = primaries_now p workflow source target tables sides old.primaries new stands.primaries can (all_changed old.primaries target (target_made w notice)) others made_there;
        workflows = workflows_now;
      }

-- ---- whatever it answers

module _ (p : Plain) (scopes : List Scope) (may_answer : Answering) (old new : BaseState) (stands : StandsWith p scopes old) (workflow source target : List ℕ) (tables : List (List ℕ))
    (same : create_refusal old scopes workflow source target (each_once tables) ≡ refusal_of p (create workflow source target tables))
    (taken : (notice : List Entry) → refusal_of p (create workflow source target tables) ≡ None → notice ≡ notice_of (scope.Primary target) (change_of (new_of old workflow source target (each_once tables)))
    → StandsWith (next p (create workflow source target tables) done) scopes (with_created old (new_of old workflow source target (each_once tables)) notice)) where
  stays : new ≡ old → StandsWith p scopes new
  stays is = subst (λ base. StandsWith p scopes base) (sym is) stands

  pub create_steps : (answer : Answer) → CreatesSet old scopes may_answer workflow source target (each_once tables) answer new
      → Answers p (create workflow source target tables) answer × StandsWith (next p (create workflow source target tables) answer) scopes new
  create_steps done creates = at creates.1
    where
      at : (notice : List Entry) × AsksEach scopes may_answer (scope.Primary target) (change_of (new_of old workflow source target (each_once tables))) (Ok notice)
          × (new ≡ with_created old (new_of old workflow source target (each_once tables)) notice)
          → Answers p (create workflow source target tables) done × StandsWith (next p (create workflow source target tables) done) scopes new
      at (notice, asks, is) =
          ((sym same ∙ creates.0, refl), subst (λ base. StandsWith (next p (create workflow source target tables) done) scopes base) (sym is) (taken notice (sym same ∙ creates.0) asks.notice))
  create_steps (refused memory) creates = ((sym same ∙ creates.0, refl), stays creates.1)
  create_steps (refused (watcher_refused index)) creates = (
    (
      sym same ∙ creates.0,
      ap (λ (o : Option Scope). option_map_or (is_of_primary target) o false) (ap (λ l. slice_get l index) stands.scopes_are ∙ creates.1.here) ∙ (same_text_decides target target).1 refl,
    ),
    stays creates.2,
  )
  create_steps (refused other) creates = (sym same ∙ creates.0, stays creates.1)
  create_steps (row r) creates = absurd creates
  create_steps (advanced events rows) creates = absurd creates
  create_steps (shown s) creates = absurd creates
