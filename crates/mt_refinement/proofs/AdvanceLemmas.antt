-- An advance, from base to base.
use Rattle.std.proofs.Common.{◌≡◌, ◌≢◌, ℕ, Bool, true, false, List, [], ◌∷◌, map, Option, None, Some, option_map, is_some, refl, sym, ap, ◌∙◌, subst, cond, not, eqb, ◌&&◌, ◌≤◌, ◌<◌, arith}
use Rattle.std.specs.Prelude.{Result, Ok, Err}
use Rattle.std.specs.Map.{set_value}
use Rattle.mt_model.specs.declared.entries.Scope.{Scope}
use Rattle.mt_model.specs.Topology.{Rules, TopologyState}
use Rattle.mt_names.specs.Names.{same_text}
use Rattle.mt_names.specs.Shards.{AreCuts, cuts_between}
use Rattle.mt_names.proofs.SameLemmas.{same_text_decides}
use Rattle.mt_laws.specs.Advances.{IsAfterAdvance, advanced_live}
use Rattle.mt_laws.specs.Changes.{IsOf, IsOfRows}
use Rattle.mt_laws.specs.WayBack.{IsReached}
use Rattle.mt_laws.proofs.InPlaceLemmas.{live_in}
use Rattle.mt_laws.proofs.LaneLemmas.{IsNumbered}
use Rattle.mt_laws.proofs.PartLemmas.{there_at_source, there_at_target}
use Rattle.mt_laws.proofs.ReachLemmas.{reached_has_parts}
use Rattle.mt_plain.specs.Answers.{Answers}
use Rattle.mt_plain.specs.Events.{Answer, Event, StreamName, StreamState, forward, back, running, stopped, frozen, Slot, advance, advanced, refused, stream_stopped}
use Rattle.mt_plain.specs.Next.{next, with_advance, with_live}
use Rattle.mt_plain.specs.Plain.{Lane, Live, Plain, has_keyspace, lane_at, live_at, moves}
use Rattle.mt_plain.specs.Refuse.{advance_at, advance_refusal, in_lane_at, in_workflow}
use Rattle.mt_plain.specs.Slots.{lane_advanced, live_advanced, read_shard, read_side, running_at, running_by, slot_of, written_shard, written_side}
use Rattle.mt_primary.specs.Primary.{IsPrimary, PrimaryState, TableState, has_table, is_denied_at, made_at, table_at}
use Rattle.mt_stands.specs.Answers.{answer_by_stream}
use Rattle.mt_stands.specs.Rows.{HoldsItsKeys, IsStreamOf, OthersStay, Primaries, RowsStand, stream_of}
use Rattle.mt_stands.specs.Keys.{IsKept}
use Rattle.mt_stands.specs.Topologies.{TopologyStands}
use Rattle.mt_primary.specs.Primaries as primaries
use Rattle.mt_primary.specs.Primaries.{count_of, primary_of, with_primary}
use Rattle.mt_primary.proofs.PrimariesLemmas.{with_primary-here, with_primary-other, with_primary-same}
use Rattle.mt_stands.specs.Base.{BaseState, Workflows, workflow_at}
use Rattle.mt_stands.specs.Stands.{StandsFor, StandsWith}
use Rattle.mt_stands.specs.Workflows.{AdvancesAt, AdvancesStream, AdvancesWorkflow, OrShardRefused, shard_read, shard_written, with_advanced}
use Rattle.mt_stands.proofs.LaneLemmas.{has_lane, slot_is}
use Rattle.mt_stream.specs.declared.fault.StreamFault.{StreamFault}
use Rattle.mt_stream.specs.declared.fault.StreamFault.TheVariants.{Memory, Stale, Stopped, Frozen, LogFull}
use Rattle.mt_stream.specs.declared.stream.Advanced.{Advanced}
use Rattle.mt_stream.specs.Advance.{Advances, refusal_of, refused_by, writes_any}
use Rattle.mt_store.specs.Log.{has_room}
use Rattle.mt_stream.specs.Streams.{StreamValue}
use Rattle.mt_workflow.specs.Workflows.{WorkflowState, change_lane, live_of, with_lane_slot, with_slot}
use Rattle.mt_workflow.specs.Workflows as work
use Rattle.mt_refinement.proofs.MoveBaseLemmas.{live_found, no_live, set_value-same, workflows-set}
use Rattle.mt_refinement.proofs.MoveStreamLemmas.{lanes_changed, on_laned, ranges_stay, slot_again}
use Rattle.mt_refinement.proofs.PrimaryLemmas.{one_keeps, one_set, primaries_kept}
use Rattle.mt_refinement.proofs.ShardLemmas.{below_lanes, cuts_ascend, lanes_numbered, read_is, sides_read, sides_written, source_count, target_count, written_is}

-- ---- what an advance leaves

-- a refused one all
refused_leaves : (stream : StreamValue) (source sink : PrimaryState) (at at_most : ℕ) (fault : StreamFault) (after : StreamValue) (new : PrimaryState)
    → Advances stream source sink at at_most (Err fault) after new → (after ≡ stream) × (new ≡ sink)
refused_leaves stream source sink at at_most Memory after new is = (is.2, is.3)
refused_leaves stream source sink at at_most (Stale position) after new is = (is.1, is.2)
refused_leaves stream source sink at at_most Stopped after new is = (is.1, is.2)
refused_leaves stream source sink at at_most Frozen after new is = (is.1, is.2)
refused_leaves stream source sink at at_most LogFull after new is = (is.1, is.2)

-- a frozen stream says that it is
frozen_told : (stream : StreamValue) (source sink : PrimaryState) (at at_most : ℕ) → stream.state ≡ frozen → (result : Result Advanced StreamFault) (after : StreamValue) (new : PrimaryState)
    → Advances stream source sink at at_most result after new → result ≡ Err Frozen
frozen_told stream source sink at at_most is result after new did = by result did
  where
    refuses : refusal_of stream source sink at at_most ≡ Some Frozen
    refuses = ap (λ state. refused_by state (cond (eqb at stream.position) (cond (writes_any stream source at_most && not (has_room sink.log)) (Some LogFull) None) (Some (Stale stream.position)))) is

    by : (result : Result Advanced StreamFault) → Advances stream source sink at at_most result after new → result ≡ Err Frozen
    by (Ok counts) did = absurd (let e : None ≡ Some Frozen = sym did.0 ∙ refuses in cc)
    by (Err Memory) did = absurd (let e : None ≡ Some Frozen = sym did.0 ∙ refuses in cc)
    by (Err (Stale position)) did = absurd (let e : Some (Stale position) ≡ Some Frozen = sym did.0 ∙ refuses in cc)
    by (Err Stopped) did = absurd (let e : Some Stopped ≡ Some Frozen = sym did.0 ∙ refuses in cc)
    by (Err Frozen) did = refl
    by (Err LogFull) did = absurd (let e : Some LogFull ≡ Some Frozen = sym did.0 ∙ refuses in cc)

-- rows that are put leave the tables
made_there : (o : Option TableState) → is_some (option_map (λ (t : TableState). t.made) o) ≡ is_some o
made_there None = refl
made_there (Some t) = refl

tables_stay : (old new : PrimaryState) → ((table : List ℕ) → made_at new table ≡ made_at old table) → (table : List ℕ) → has_table new table ≡ has_table old table
tables_stay old new made table = sym (made_there (table_at new table)) ∙ ap is_some (made table) ∙ made_there (table_at old table)

-- the names of the live workflows
names_with : (change : Live → Live) (name : List ℕ) → ((w : Live) → (change w).name ≡ w.name) → (ws : List Live) → map (λ (l : Live). l.name) (with_live change name ws) ≡ map (λ (l : Live). l.name) ws
names_with change name same [] = refl
names_with change name same (w ∷ ws) = by (same_text w.name name) (names_with change name same ws)
  where
    by : (t : Bool) → map (λ (l : Live). l.name) (with_live change name ws) ≡ map (λ (l : Live). l.name) ws
        → (cond t (change w) w).name ∷ map (λ (l : Live). l.name) (with_live change name ws) ≡ w.name ∷ map (λ (l : Live). l.name) ws
    by true again = let e = same w in cc
    by false again = ap (λ ns. w.name ∷ ns) again

names_advanced : (p : Plain) (stream : StreamName) (n at at_most events rows : ℕ) (o : Option Live)
    → map (λ (l : Live). l.name) (with_advance p stream n at at_most events rows o).lives ≡ map (λ (l : Live). l.name) p.lives
names_advanced p stream n at at_most events rows None = refl
names_advanced p stream n at at_most events rows (Some w) = names_with (λ v. live_advanced p v stream n at at_most events rows) w.name (λ v. refl) p.lives

-- ---- the stream that advances

stream_slot : (live : Live) (lane : Lane) (o : Option Slot) (stream : StreamValue) → option_map (stream_of live lane) o ≡ Some stream → (slot : Slot) × (o ≡ Some slot) × (stream ≡ stream_of live lane slot)
stream_slot live lane None stream e = absurd cc
stream_slot live lane (Some slot) stream e = (slot, refl, let is : stream_of live lane slot ≡ stream = cc in sym is)

no_slot : (live : Live) (lane : Lane) (o : Option Slot) → option_map (stream_of live lane) o ≡ None → o ≡ None
no_slot live lane None e = refl
no_slot live lane (Some slot) e = absurd cc

-- ---- a stream that is there

module _ (p : Plain) (scopes : List Scope) (old : BaseState) (stands : StandsWith p scopes old) (workflow : List ℕ) (w : WorkflowState) (found : workflow_at old.workflows workflow ≡ Some w)
    (live : Live) (is_live : live_at p workflow ≡ Some live) (for : StandsFor p live w) (named : live.name ≡ workflow) (name : StreamName) (n : ℕ) (lane : Lane) (laned : lane_at live n ≡ Some lane)
    (slot : Slot) (there : slot_of live lane name ≡ Some slot) (has : work.slot_of w n name ≡ Some (stream_of live lane slot)) where
  abbrev pub side : List ℕ
  side = written_side live name

  abbrev pub shard : ℕ
  shard = shard_written name n

  abbrev pub core_after : StreamValue → PrimaryState → BaseState
  core_after after sink = record old {
    primaries = with_primary old.primaries side shard sink;
    workflows = set_value (same_text workflow) old.workflows (with_slot w n name (Some after));
  }

  pub base_is : (after : StreamValue) (sink : PrimaryState) → with_advanced old w name n after sink ≡ core_after after sink
  base_is after sink = by (written_side (live_of w) name) (sym (sides_written live (live_of w) for.sides name)) w.name (sym for.sides.name ∙ named)
    where
      by : (k : List ℕ) → k ≡ side → (m : List ℕ) → m ≡ workflow
          → record old { primaries = with_primary old.primaries k shard sink; workflows = set_value (same_text m) old.workflows (with_slot w n name (Some after)) } ≡ core_after after sink
      by k a m b = rw (a, b) refl

  source_there : has_keyspace p live.source ≡ true
  source_there = ((reached_has_parts p stands.reached).placed live (live_in p workflow live is_live)).source

  target_there : has_keyspace p live.target ≡ true
  target_there = ((reached_has_parts p stands.reached).placed live (live_in p workflow live is_live)).target

  -- the shards that the stream reads and writes are there
  at_source : 0 < count_of old.primaries live.source
  at_source = let one = source_count p stands.reached workflow live is_live old.primaries stands.primaries source_there in omega (arith, one)

  at_target : n < count_of old.primaries live.target
  at_target =
      subst (λ m. n < m) (sym (target_count p stands.reached workflow live is_live old.primaries stands.primaries target_there))
      (below_lanes p live w for (lanes_numbered p stands.reached workflow live is_live) n lane laned)

  sink_there : shard < count_of old.primaries side
  sink_there = by name
    where
      by : (m : StreamName) → shard_written m n < count_of old.primaries (written_side live m)
      by forward = at_target
      by back = at_source

  pub same_again : core_after (stream_of live lane slot) (primary_of old.primaries side shard) ≡ old
  same_again =
      ap (λ (ps : primaries.Primaries). let c : BaseState = record old { primaries = ps; workflows = set_value (same_text workflow) old.workflows (with_slot w n name (Some (stream_of live lane slot))) } in c)
      (with_primary-same old.primaries side shard)
      ∙ ap (λ (ws : Workflows). let c : BaseState = record old { workflows = ws } in c) workflows_again
    where
      workflows_again : set_value (same_text workflow) old.workflows (with_slot w n name (Some (stream_of live lane slot))) ≡ old.workflows
      workflows_again =
          ap (λ lanes. set_value (same_text workflow) old.workflows (record w { lanes = lanes })) (slot_again name (stream_of live lane slot) n w.lanes has) ∙ set_value-same old.workflows workflow w found

  pub reads_tables : (table : List ℕ) → moves live table ≡ true → has_table (primary_of old.primaries (read_side live name) (shard_read name n)) table ≡ true
  reads_tables = by name
    where
      by : (m : StreamName) (table : List ℕ) → moves live table ≡ true → has_table (primary_of old.primaries (read_side live m) (shard_read m n)) table ≡ true
      by forward table moved =
          stands.primaries.tables live.source 0 at_source table ∙ there_at_source p live table (reached_has_parts p stands.reached) (live_in p workflow live is_live) moved
      by back table moved = stands.primaries.tables live.target n at_target table ∙ there_at_target p live table (live_in p workflow live is_live) moved

  pub sink_now : (sink : PrimaryState) → primary_of (with_primary old.primaries side shard sink) side shard ≡ sink
  sink_now sink = with_primary-here old.primaries side shard sink sink_there

  -- an advance that is done
  module _ (at at_most events rows : ℕ) (after : StreamValue) (sink : PrimaryState) where
    abbrev q : Plain
    q = next p (advance workflow name n at at_most) (advanced events rows)

    abbrev adv : Live
    adv = live_advanced p live name n at at_most events rows

    abbrev on : Lane
    on = lane_advanced p live lane name at at_most events rows

    module _ (reached_q : IsReached q) (scopes_q : q.scopes ≡ p.scopes) (topology_q : TopologyStands q old.topology)
        (is_after : IsAfterAdvance p q workflow live lane name n at at_most events rows)
        (kept_q : (v : Live) → live_at q workflow ≡ Some v → IsKept q.topology v w.kept)
        (elsewhere : (m : List ℕ) → workflow ≢ m → live_at q m ≡ live_at p m)
        (rows_q : RowsStand q (primary_of (with_primary old.primaries side shard sink)))
        (stream_q : IsStreamOf q workflow n name after)
        (made : (table : List ℕ) → made_at sink table ≡ made_at (primary_of old.primaries side shard) table)
        (denied : (table : List ℕ) → is_denied_at sink table ≡ is_denied_at (primary_of old.primaries side shard) table) where
      now : live_at q workflow ≡ Some adv
      now =
          is_after.live workflow ∙ ap (option_map (advanced_live p workflow name n at at_most events rows)) is_live
          ∙ ap (λ t. Some (cond t adv live)) ((same_text_decides live.name workflow).1 named)

      this : Some after ≡ option_map (stream_of adv on) (slot_of adv on name)
      this =
          let live_is : stream_q.live ≡ adv = (let e : Some stream_q.live ≡ Some adv = sym stream_q.found ∙ now in cc) in
          let on_found = on_laned p q stands.reached reached_q workflow live is_live n lane laned name at at_most events rows now in
          let lane_is : stream_q.lane ≡ on = (let e : Some stream_q.lane ≡ Some on = sym stream_q.laned ∙ ap (λ v. lane_at v n) live_is ∙ on_found in cc) in
          subst (λ l. Some after ≡ option_map (stream_of adv l) (slot_of adv l name)) lane_is
          (subst (λ v. Some after ≡ option_map (stream_of v stream_q.lane) (slot_of v stream_q.lane name)) live_is
          (ap Some stream_q.is ∙ sym (ap (option_map (stream_of stream_q.live stream_q.lane)) stream_q.there)))

      stands_for : StandsFor q adv (with_slot w n name (Some after))
      stands_for = record {
        sides = record {
          name = for.sides.name;
          source = for.sides.source;
          target = for.sides.target;
          tables = for.sides.tables;
          cuts = for.sides.cuts ∙ sym (ap cuts_between (ranges_stay name (Some after) n w.lanes));
        };
        switched = for.switched;
        way = for.way;
        kept = kept_q adv now;
        lanes = ap (change_lane n (with_lane_slot name (Some after))) for.lanes
            ∙ lanes_changed p q stands.reached reached_q workflow live is_live n lane laned name at at_most events rows now slot there after this;
      }

      names : map (λ (l : Live). l.name) q.lives ≡ map (λ (l : Live). l.name) p.lives
      names = names_advanced p name n at at_most events rows (live_at p workflow)

      pub advanced_stands : StandsWith q scopes (core_after after sink)
      advanced_stands = record {
        reached = reached_q;
        scopes_are = scopes_q ∙ stands.scopes_are;
        topology = topology_q;
        rows = rows_q;
        primaries = primaries_kept p q is_after.topology old.primaries (with_primary old.primaries side shard sink) (one_set old.primaries side shard sink) stands.primaries
            (λ k m within t. one_keeps old.primaries side shard sink (λ s. has_table s t) (tables_stay (primary_of old.primaries side shard) sink made t) k m
            ∙ stands.primaries.tables k m within t ∙ sym (is_after.present k t))
            (λ k m within t. one_keeps old.primaries side shard sink (λ s. is_denied_at s t) (denied t) k m ∙ stands.primaries.denials k m within t ∙ sym (is_after.refused k m t));
        workflows = workflows-set p q is_after.topology old.workflows stands.workflows workflow w (with_slot w n name (Some after)) found adv now stands_for elsewhere names;
      }

-- ---- the law

module _ (p : Plain) (reached : IsReached p)
    (named : (name : List ℕ) (w : Live) → live_at p name ≡ Some w → w.name ≡ name)
    (answers : (at : Primaries) → RowsStand p at → (name : List ℕ) (w : Live) → live_at p name ≡ Some w
    → (shard : ℕ) (lane : Lane) → lane_at w shard ≡ Some lane → HoldsItsKeys w lane → (stream : StreamName) (slot : Slot) → slot_of w lane stream ≡ Some slot
    → IsPrimary (at (read_side w stream) (read_shard lane stream)) → (at (read_side w stream) (read_shard lane stream)).log.purged ≤ slot.position
    → (position at_most : ℕ) (result : Result Advanced StreamFault) (new : StreamValue) (sink : PrimaryState)
    → Advances (stream_of w lane slot) (at (read_side w stream) (read_shard lane stream)) (at (written_side w stream) (written_shard lane stream)) position at_most result new sink
    → Answers p (advance name stream shard position at_most) (answer_by_stream result))
    (keeps : (old new : Primaries) → RowsStand p old → (name : List ℕ) (w : Live) → live_at p name ≡ Some w
    → (shard : ℕ) (lane : Lane) → lane_at w shard ≡ Some lane → HoldsItsKeys w lane → (stream : StreamName) (slot : Slot) → slot_of w lane stream ≡ Some slot
    → IsPrimary (old (read_side w stream) (read_shard lane stream)) → (old (read_side w stream) (read_shard lane stream)).log.purged ≤ slot.position
    → ((table : List ℕ) → moves w table ≡ true → has_table (old (read_side w stream) (read_shard lane stream)) table ≡ true)
    → OthersStay (written_side w stream) (written_shard lane stream) old new → (position at_most : ℕ) (result : Result Advanced StreamFault) (value : StreamValue)
    → Advances (stream_of w lane slot) (old (read_side w stream) (read_shard lane stream)) (old (written_side w stream) (written_shard lane stream)) position at_most result value
    (new (written_side w stream) (written_shard lane stream))
    → RowsStand (next p (advance name stream shard position at_most) (answer_by_stream result)) new
    × IsStreamOf (next p (advance name stream shard position at_most) (answer_by_stream result)) name shard stream value)
    (is_after : (workflow : List ℕ) (w : Live) → live_at p workflow ≡ Some w → (stream : StreamName) (shard at at_most events rows : ℕ) (lane : Lane) → lane_at w shard ≡ Some lane
    → IsAfterAdvance p (next p (advance workflow stream shard at at_most) (advanced events rows)) workflow w lane stream shard at at_most events rows)
    (reaches : (event : Event) (answer : Answer) → Answers p event answer → IsReached (next p event answer))
    (scopes_stay : (event : Event) (answer : Answer) → (next p event answer).scopes ≡ p.scopes)
    (topology_stays : (t : TopologyState) (event : Event) (answer : Answer) → IsOfRows event → Answers p event answer → TopologyStands p t → TopologyStands (next p event answer) t)
    (kept_stays : (event : Event) (answer : Answer) (name : List ℕ) (w v : Live) (kept : Rules) → Answers p event answer → live_at p name ≡ Some w → live_at (next p event answer) name ≡ Some v
    → IsKept p.topology w kept → IsKept (next p event answer).topology v kept)
    (elsewhere : (event : Event) (answer : Answer) (name : List ℕ) → ¬ (IsOf name event) → live_at (next p event answer) name ≡ live_at p name)
    (holds_keys : (name : List ℕ) (w : Live) → live_at p name ≡ Some w → AreCuts w.cuts → (shard : ℕ) (lane : Lane) → lane_at w shard ≡ Some lane → HoldsItsKeys w lane) where
  abbrev Stepped : List Scope → (workflow : List ℕ) → StreamName → (n at at_most : ℕ) → Answer → BaseState → Type 0
  Stepped scopes workflow name n at at_most answer new =
      Answers p (advance workflow name n at at_most) answer × StandsWith (next p (advance workflow name n at at_most) answer) scopes new

  module _ (scopes : List Scope) (old new : BaseState) (stands : StandsWith p scopes old) (are : (keyspace : List ℕ) (m : ℕ) → IsPrimary (primary_of old.primaries keyspace m))
      (workflow : List ℕ) (name : StreamName) (n at at_most : ℕ) (answer : Answer) where
    module _ (w : WorkflowState) (found : workflow_at old.workflows workflow ≡ Some w) (live : Live) (is_live : live_at p workflow ≡ Some live) (for : StandsFor p live w) where
      numbered : IsNumbered live
      numbered = lanes_numbered p reached workflow live is_live

      -- what refuses it is what the lane does
      refusal_in : (o : Option Lane) → lane_at live n ≡ o
          → in_workflow (live_at p workflow) (advance_refusal p name n at at_most) ≡ in_lane_at o (λ lane. advance_at p live lane name at at_most (running_at (slot_of live lane name)))
      refusal_in o laned =
          ap (λ l. in_workflow l (advance_refusal p name n at at_most)) is_live ∙ ap (λ l. in_lane_at l (λ lane. advance_at p live lane name at at_most (running_at (slot_of live lane name)))) laned

      module _ (lane : Lane) (laned : lane_at live n ≡ Some lane) where
        refusal_is : in_workflow (live_at p workflow) (advance_refusal p name n at at_most) ≡ advance_at p live lane name at at_most (running_at (slot_of live lane name))
        refusal_is = refusal_in (Some lane) laned

        stopped_steps : work.slot_of w n name ≡ None → answer ≡ refused stream_stopped → new ≡ old → Stepped scopes workflow name n at at_most answer new
        stopped_steps none is same =
            let no : slot_of live lane name ≡ None = no_slot live lane (slot_of live lane name) (sym (slot_is p live w for numbered n lane laned name) ∙ none) in
            subst (λ a. Stepped scopes workflow name n at at_most a new) (sym is) (
              refusal_is ∙ ap (λ o. advance_at p live lane name at at_most (running_at o)) no,
              subst (StandsWith p scopes) (sym same) stands,
            )

        abbrev source : PrimaryState
        source = primary_of old.primaries (read_side live name) (shard_read name n)

        abbrev sink_before : PrimaryState
        sink_before = primary_of old.primaries (written_side live name) (shard_written name n)

        module _ (slot : Slot) (there : slot_of live lane name ≡ Some slot) (has : work.slot_of w n name ≡ Some (stream_of live lane slot)) (after : StreamValue) (sink : PrimaryState) where
          abbrev made_with : StreamValue → PrimaryState → BaseState
          made_with = core_after p scopes old stands workflow w found live is_live for (named workflow live is_live) name n lane laned slot there has

          abbrev made : BaseState
          made = made_with after sink

          abbrev Did : Result Advanced StreamFault → Type 0
          Did result = Advances (stream_of live lane slot) source sink_before at at_most result after sink

          refused_stands : (fault : StreamFault) → Did (Err fault) → StandsWith p scopes made
          refused_stands fault is =
              let leaves = refused_leaves (stream_of live lane slot) source sink_before at at_most fault after sink is in
              subst (λ s. StandsWith p scopes (made_with s sink)) (sym leaves.0)
              (subst (λ s. StandsWith p scopes (made_with (stream_of live lane slot) s)) (sym leaves.1)
              (subst (StandsWith p scopes) (sym (same_again p scopes old stands workflow w found live is_live for (named workflow live is_live) name n lane laned slot there has)) stands))

          -- a frozen stream may have been overtaken by a purge, but it reads nothing
          halted : slot.state ≡ frozen → (result : Result Advanced StreamFault) → Did result → Stepped scopes workflow name n at at_most (answer_by_stream result) made
          halted is result did =
              let told = frozen_told (stream_of live lane slot) source sink_before at at_most is result after sink did in
              subst (λ r. Stepped scopes workflow name n at at_most (answer_by_stream r) made) (sym told) (
                refusal_is ∙ ap (λ o. advance_at p live lane name at at_most (running_at o)) there ∙ ap (λ state. advance_at p live lane name at at_most (running_by state slot.position)) is,
                refused_stands Frozen (subst Did told did),
              )

          -- the lane reads and writes these shards of its sides
          at_shards : (X : (a b : ℕ) → Type 0) → X (read_shard lane name) (written_shard lane name) → X (shard_read name n) (shard_written name n)
          at_shards X x = subst (λ b. X (shard_read name n) b) (written_is live n lane laned name) (subst (λ a. X a (written_shard lane name)) (read_is live n lane laned name) x)

          abbrev read_at : ℕ → PrimaryState
          read_at = primary_of old.primaries (read_side live name)

          keys : HoldsItsKeys live lane
          keys = holds_keys workflow live is_live (cuts_ascend p reached workflow live is_live old.primaries stands.primaries) n lane laned

          abbrev MayAnswer : (a b : ℕ) → Type 0
          MayAnswer a b = IsPrimary (read_at a) → (read_at a).log.purged ≤ slot.position → (position at_most : ℕ) (result : Result Advanced StreamFault) (new : StreamValue) (sink : PrimaryState)
              → Advances (stream_of live lane slot) (read_at a) (primary_of old.primaries (written_side live name) b) position at_most result new sink
              → Answers p (advance workflow name n position at_most) (answer_by_stream result)

          answers_here : MayAnswer (shard_read name n) (shard_written name n)
          answers_here = at_shards MayAnswer (answers (primary_of old.primaries) stands.rows workflow live is_live n lane laned keys name slot there)

          abbrev Keeps : (a b : ℕ) → Type 0
          Keeps a b = IsPrimary (read_at a) → (read_at a).log.purged ≤ slot.position → ((table : List ℕ) → moves live table ≡ true → has_table (read_at a) table ≡ true)
              → OthersStay (written_side live name) b (primary_of old.primaries) (primary_of made.primaries) → (position at_most : ℕ) (result : Result Advanced StreamFault) (value : StreamValue)
              → Advances (stream_of live lane slot) (read_at a) (primary_of old.primaries (written_side live name) b) position at_most result value
              (primary_of made.primaries (written_side live name) b)
              → RowsStand (next p (advance workflow name n position at_most) (answer_by_stream result)) (primary_of made.primaries)
              × IsStreamOf (next p (advance workflow name n position at_most) (answer_by_stream result)) workflow n name value

          keeps_here : Keeps (shard_read name n) (shard_written name n)
          keeps_here = at_shards Keeps (keeps (primary_of old.primaries) (primary_of made.primaries) stands.rows workflow live is_live n lane laned keys name slot there)

          by_result : source.log.purged ≤ slot.position → (result : Result Advanced StreamFault) → Did result → Stepped scopes workflow name n at at_most (answer_by_stream result) made
          by_result unread (Err fault) is = (answers_here (are (read_side live name) (shard_read name n)) unread at at_most (Err fault) after sink is, refused_stands fault is)
          by_result unread (Ok counts) is =
              let given = answers_here (are (read_side live name) (shard_read name n)) unread at at_most (Ok counts) after sink is in
              let now = sink_now p scopes old stands workflow w found live is_live for (named workflow live is_live) name n lane laned slot there has sink in
              let kept = keeps_here (are (read_side live name) (shard_read name n)) unread
              (reads_tables p scopes old stands workflow w found live is_live for (named workflow live is_live) name n lane laned slot there has)
              (with_primary-other old.primaries (written_side live name) (shard_written name n) sink)
              at at_most (Ok counts) after (subst (λ s. Advances (stream_of live lane slot) source sink_before at at_most (Ok counts) after s) (sym now) is) in
              let event = advance workflow name n at at_most in
              let told = advanced counts.events counts.rows in (
                given,
                advanced_stands p scopes old stands workflow w found live is_live for (named workflow live is_live) name n lane laned slot there has at at_most counts.events counts.rows after sink
                    (reaches event told given) (scopes_stay event told) (topology_stays old.topology event told tt given stands.topology)
                    (is_after workflow live is_live name n at at_most counts.events counts.rows lane laned)
                    (λ v now_live. kept_stays event told workflow live v w.kept given is_live now_live for.kept)
                    (λ m other. elsewhere event told m other)
                    kept.0 kept.1 is.1.puts.made is.1.puts.denied,
              )

          not_purged : slot.state ≢ frozen → source.log.purged ≤ slot.position
          not_purged moves =
              stands.rows.unread (read_side live name) (shard_read name n) workflow live is_live n lane laned name slot there moves refl (read_is live n lane laned name)

          by_state : (state : StreamState) → slot.state ≡ state → (result : Result Advanced StreamFault) → Did result → Stepped scopes workflow name n at at_most (answer_by_stream result) made
          by_state running is = by_result (not_purged (λ e. absurd (let never : running ≡ frozen = sym is ∙ e in cc)))
          by_state stopped is = by_result (not_purged (λ e. absurd (let never : stopped ≡ frozen = sym is ∙ e in cc)))
          by_state frozen is = halted is

          pub made_steps : (result : Result Advanced StreamFault) → Did result → answer ≡ answer_by_stream result → new ≡ with_advanced old w name n after sink
              → Stepped scopes workflow name n at at_most answer new
          made_steps result is told same =
              subst (λ a. Stepped scopes workflow name n at at_most a new) (sym told)
              (subst (Stepped scopes workflow name n at at_most (answer_by_stream result))
              (sym (same ∙ base_is p scopes old stands workflow w found live is_live for (named workflow live is_live) name n lane laned slot there has after sink)) (by_state slot.state refl result is))

        stream_steps : (o : Option StreamValue) → work.slot_of w n name ≡ o → AdvancesStream o old w name n at at_most answer new → Stepped scopes workflow name n at at_most answer new
        stream_steps None none is = stopped_steps none is.0 is.1
        stream_steps (Some stream) has is =
            let r = stream_slot live lane (slot_of live lane name) stream (sym (slot_is p live w for numbered n lane laned name) ∙ has) in
            let reads = sym (sides_read live (live_of w) for.sides name) in
            let writes = sym (sides_written live (live_of w) for.sides name) in
            made_steps r.0 r.1 (has ∙ ap Some r.2) is.1 is.2 is.0
            (subst (λ k. Advances (stream_of live lane r.0) source (primary_of old.primaries k (shard_written name n)) at at_most is.0 is.1 is.2) writes
            (subst (λ k. Advances (stream_of live lane r.0) (primary_of old.primaries k (shard_read name n)) (primary_of old.primaries (written_side (live_of w) name) (shard_written name n)) at at_most is.0 is.1 is.2) reads
            (subst (λ s. Advances s (primary_of old.primaries (read_side (live_of w) name) (shard_read name n)) (primary_of old.primaries (written_side (live_of w) name) (shard_written name n)) at at_most is.0 is.1 is.2)
            r.2 is.3)))
            is.4 is.5

      -- where the target has no such shard, nothing is there to advance
      lane_steps : (o : Option Lane) → lane_at live n ≡ o → OrShardRefused (is_some o) old answer new (AdvancesStream (work.slot_of w n name) old w name n at at_most answer new)
          → Stepped scopes workflow name n at at_most answer new
      lane_steps None none is = subst (λ a. Stepped scopes workflow name n at at_most a new) (sym is.0) (refusal_in None none, subst (StandsWith p scopes) (sym is.1) stands)
      lane_steps (Some lane) laned is = stream_steps lane laned (work.slot_of w n name) refl is

    at_steps : (o : Option WorkflowState) → workflow_at old.workflows workflow ≡ o → AdvancesAt o old name n at at_most answer new → Stepped scopes workflow name n at at_most answer new
    at_steps None none is =
        let no = no_live p (live_at p workflow) (workflow_at old.workflows workflow) none (stands.workflows.each workflow) in
        subst (λ a. Stepped scopes workflow name n at at_most a new) (sym is.0)
        (ap (λ o. in_workflow o (advance_refusal p name n at at_most)) no, subst (StandsWith p scopes) (sym is.1) stands)
    at_steps (Some w) found is =
        let r = live_found p (live_at p workflow) (workflow_at old.workflows workflow) w found (stands.workflows.each workflow) in
        lane_steps w found r.0 r.1 r.2 (lane_at r.0 n) refl
        (subst (λ b. OrShardRefused b old answer new (AdvancesStream (work.slot_of w n name) old w name n at at_most answer new)) (has_lane p r.0 w r.2 (lanes_numbered p reached workflow r.0 r.1) n) is)

    pub advance_steps : AdvancesWorkflow old workflow name n at at_most answer new → Stepped scopes workflow name n at at_most answer new
    advance_steps = at_steps (workflow_at old.workflows workflow) refl
