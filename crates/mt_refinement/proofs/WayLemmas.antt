-- What begins, steps and undos leave of the workflows.
use Rattle.std.proofs.Common.{◌≡◌, ◌≢◌, ◌⊎◌, inl, inr, ℕ, suc, ◌-◌, ◌<◌, ◌≤◌, Bool, true, false, cond, eqb, List, map, Option, None, Some, option_map, refl, sym, ap, ◌∙◌, subst, arith}
use Rattle.mt_refinement.specs.Ends.{ends_of, log_end_for}
use Rattle.mt_refinement.proofs.EntryLemmas.{none_last}
use Rattle.mt_plain.proofs.PlaceLemmas.{step-first}
use Rattle.std.specs.Map.{set_value}
use Rattle.std.specs.Option.{option_map_or}
use Rattle.std.specs.Prelude.{◌||◌}
use Rattle.mt_names.specs.declared.types.TypeSet.{TypeSet}
use Rattle.mt_names.specs.Names.{same_text}
use Rattle.mt_names.specs.Shards.{shard_count}
use Rattle.mt_plain.specs.Answers.{range_at}
use Rattle.mt_plain.specs.Events.{StreamName, forward, back, running, Slot, Way}
use Rattle.mt_plain.specs.Next.{closes, lane_stepped, live_stepped, live_undone, on_way_of, way_undone, with_step, with_undo, with_way, with_way_to}
use Rattle.mt_plain.specs.Plain.{Copied, Lane, Live, Plain, behind_last, changes_primary, create_back, last_step, live_at, next_place, next_step, refresh_source, refresh_target, repeated_step, stands_done, stop_feeding, write_journal}
use Rattle.mt_plain.specs.Slots.{is_feeding, slot_before_way}
use Rattle.mt_plain.specs.Slots as plain
use Rattle.mt_laws.specs.Effects.{in_state, slot_stepped, slot_undone}
use Rattle.mt_laws.specs.WayBack.{IsReached}
use Rattle.mt_laws.proofs.ChangeLemmas.{sides-live_stepped, sides-on_way, sides-undone}
use Rattle.mt_laws.proofs.CopyLemmas.{all_copied, copied-stepped}
use Rattle.mt_laws.proofs.InPlaceLemmas.{live_in}
use Rattle.mt_laws.proofs.LaneLemmas.{reached_numbered, shard-stepped}
use Rattle.mt_laws.proofs.LiveLemmas.{IsIn}
use Rattle.mt_laws.proofs.StepCountLemmas.{few_done}
use Rattle.mt_laws.proofs.WayStepLemmas.{OneOn, done_by, fewer, more, repeated-ge}
use Rattle.mt_stands.specs.Rows.{stream_of}
use Rattle.mt_stands.specs.Base.{Workflows, workflow_at}
use Rattle.mt_stands.specs.Stands.{AreWorkflows, StandsFor, lane_state}
use Rattle.mt_stands.specs.Switching.{way_to}
use Rattle.mt_stands.proofs.LaneLemmas.{lane_count, lanes_alike}
use Rattle.mt_stream.specs.Streams.{StreamValue}
use Rattle.mt_workflow.specs.Workflows.{LaneState, WorkflowState, lane_slot}
use Rattle.mt_steps.specs.declared.step.Step.{Step}
use Rattle.mt_steps.proofs.PlanLemmas.{number-step_at}
use Rattle.mt_steps.specs.Plans.{number, step_at}
use Rattle.mt_steps.specs.Streams.{other_name, types_after, way_after, workflow_stepped, workflow_undone}
use Rattle.mt_refinement.proofs.ChangedLemmas.{changed-workflows, stands_for, with_traffic}
use Rattle.mt_refinement.proofs.PlaceLemmas.{last_on, repeated_either}
use Rattle.mt_refinement.proofs.SlotLemmas.{begun-slot, lane-same, lane_undone, lane_with_streams, lanes-stepped, lanes-undone, map-in, map-map, range-stepped, range-undone, stepped-slots, undone-slots}
use Rattle.mt_laws.proofs.StreamEffectLemmas.{either-same}

-- ---- the events

module _ (p : Plain) (workflows : Workflows) (are : AreWorkflows p workflows) (name : List ℕ) (live : Live) (w : WorkflowState)
    (is_live : live_at p name ≡ Some live) (found : workflow_at workflows name ≡ Some w) where
  abbrev pub for : StandsFor p live w
  for = stands_for p workflows are name live w is_live found

  -- a begin
  module _ (reached : IsReached p) (rests : live.way ≡ None) (backward : Bool) (change : TypeSet → TypeSet)
      (elsewhere : (n : List ℕ) → name ≢ n → live_at (with_way p name backward change) n ≡ live_at p n) where
    pub begun-workflows : AreWorkflows (with_way p name backward change) (set_value (same_text w.name) workflows (record w { way = Some (way_to w backward (change w.switched)) }))
    begun-workflows =
        changed-workflows p (with_way p name backward change) name (with_way_to backward change) (λ v. record { name = refl; source = refl; target = refl; tables = refl; cuts = refl }) refl refl elsewhere
        workflows are live w is_live found (with_way_to backward change live) refl refl
        (Some (way_to w backward (change w.switched))) w.switched w.lanes
        (ap (λ n. Some (record { back = backward; shards = n; before = w.switched; after = change w.switched; done = 0; undoing = false }))
        (lanes_alike p live w for ∙ lane_count live (reached_numbered p reached live (live_in p name live is_live)))
        ∙ ap (λ (types : TypeSet). Some (record { back = backward; shards = shard_count live.cuts; before = types; after = change types; done = 0; undoing = false })) for.switched)
        for.switched
        (for.lanes ∙ map-in (lane_state live) (lane_state (with_way_to backward change live)) live.lanes (λ lane is.
        lane-same (lane_state live lane) (lane_state (with_way_to backward change live) lane) refl (same lane)))
      where
        same : (lane : Lane) (stream : StreamName) → lane_slot stream (lane_state live lane) ≡ lane_slot stream (lane_state (with_way_to backward change live) lane)
        same lane forward = ap (option_map (stream_of live lane)) (sym (begun-slot live lane rests backward (change live.switched) forward))
        same lane back = ap (option_map (stream_of live lane)) (sym (begun-slot live lane rests backward (change live.switched) back))

  module _ (way : Way) (opens : live.way ≡ Some way) where
    -- a step
    module _ (reached : IsReached p) (left : next_step way < behind_last way) (elsewhere : (n : List ℕ) → name ≢ n → live_at (with_step p name) n ≡ live_at p n)
        (slots : (lane : Lane) (stream : StreamName) → plain.slot_of (live_stepped p live way) (lane_stepped p live way lane) stream
        ≡ slot_stepped way stream (log_end_for p live lane) (plain.slot_of live lane stream)) where
      abbrev next_one : Step
      next_one = step_at (next_step way)

      below : next_step way < 12
      below = let last : behind_last way ≤ 12 = by (changes_primary way) in omega (arith, left, last)
        where
          by : (t : Bool) → cond {A = ℕ} t 12 1 ≤ 12
          by true = omega arith
          by false = omega arith

      numbered : number next_one ≡ next_step way
      numbered = number-step_at (next_step way) below

      abbrev now : Live
      now = live_stepped p live way

      -- a lane behind the step
      module _ (lane : Lane) (is_in : IsIn lane live.lanes) where
        abbrev on : Lane
        on = lane_stepped p live way lane

        abbrev made : LaneState
        made = lane_with_streams live.tables way next_one (log_end_for p live lane) (lane_state live lane)

        same-stream : (o : Option Slot) → option_map (stream_of live lane) o ≡ option_map (stream_of now on) o
        same-stream None = refl
        same-stream (Some s) = ap Some (by on.shard (shard-stepped p live way lane) on.copied (copied-stepped p live way lane))
          where
            by : (n : ℕ) → n ≡ lane.shard → (c : Copied) → c ≡ lane.copied
                → stream_of live lane s ≡ record { tables = live.tables; range = range_at live.cuts n; copied = c; position = s.position; state = s.state }
            by n d c e = rw (d, e) refl

        lane-stepped : made ≡ lane_state now on
        lane-stepped = lane-same made (lane_state now on) (range-stepped live.tables way next_one (log_end_for p live lane) (lane_state live lane) ∙ ap (range_at live.cuts) (sym (shard-stepped p live way lane))) same
          where
            made-slot : (stream : StreamName) → lane_slot stream made ≡ option_map (stream_of now on) (plain.slot_of now on stream)
            made-slot stream =
                stepped-slots live lane way (log_end_for p live lane) (all_copied p reached name live way is_live opens lane is_in) (next_step way) below stream
                ∙ ap (option_map (stream_of live lane)) (sym (slots lane stream))
                ∙ same-stream (plain.slot_of now on stream)

            same : (stream : StreamName) → lane_slot stream made ≡ lane_slot stream (lane_state now on)
            same forward = made-slot forward
            same back = made-slot back

      lanes_are : map (λ lane. lane_with_streams w.tables way next_one (log_end_for p live lane) (lane_state live lane)) live.lanes ≡ map (lane_state now) now.lanes
      lanes_are =
          ap (λ ts. map (λ lane. lane_with_streams ts way next_one (log_end_for p live lane) (lane_state live lane)) live.lanes) (sym for.sides.tables)
          ∙ map-in (λ lane. lane_with_streams live.tables way next_one (log_end_for p live lane) (lane_state live lane)) (λ lane. lane_state now (lane_stepped p live way lane)) live.lanes lane-stepped
          ∙ sym (map-map (lane_state now) (lane_stepped p live way) live.lanes)

      abbrev made_lanes : List LaneState
      made_lanes = map (λ lane. lane_with_streams w.tables way next_one (log_end_for p live lane) (lane_state live lane)) live.lanes

      stepped : AreWorkflows (with_step p name) (set_value (same_text w.name) workflows
          (with_traffic w (way_after way next_one) (types_after w.switched way next_one) made_lanes))
      stepped =
          changed-workflows p (with_step p name) name (λ v. on_way_of (live_stepped p v) v) (λ v. sides-on_way v (live_stepped p v) (sides-live_stepped p v) v.way) refl refl elsewhere
          workflows are live w is_live found now (ap (λ o. option_map_or (live_stepped p live) o live) opens)
          (map-map (λ lane. lane.shard) (lane_stepped p live way) live.lanes ∙ map-in (λ lane. (lane_stepped p live way lane).shard) (λ lane. lane.shard) live.lanes (λ lane is_in. shard-stepped p live way lane))
          (way_after way next_one) (types_after w.switched way next_one) made_lanes
          (ap (λ n. cond (eqb (suc n) (behind_last way)) None (Some (more way))) numbered)
          (ap (λ n. cond (eqb (suc n) (behind_last way) || eqb n write_journal) way.after w.switched) numbered
          ∙ ap (cond (closes way || eqb (next_step way) write_journal) way.after) for.switched)
          lanes_are

      pub stepped-workflows : AreWorkflows (with_step p name) (set_value (same_text w.name) workflows (workflow_stepped w way next_one (ends_of p live)))
      stepped-workflows =
          subst (λ v. AreWorkflows (with_step p name) (set_value (same_text w.name) workflows v))
          (sym (ap (λ (v : WorkflowState). record v { way = way_after way next_one; switched = types_after w.switched way next_one })
          (lanes-stepped w way (lane_state live) live.lanes for.lanes (log_end_for p live) (next_step way) below))) stepped

    -- an undo, before the journal
    module _ (before : stands_done way write_journal ≡ false) (elsewhere : (n : List ℕ) → name ≢ n → live_at (with_undo p name) n ≡ live_at p n)
        (slots : (lane : Lane) (stream : StreamName) → plain.slot_of (live_undone live way) lane stream
        ≡ slot_undone way stream (slot_before_way live lane stream) (plain.slot_of live lane stream)) where
      abbrev left : Live
      left = live_undone live way

      -- the workflow with the way that is left, and with lanes
      with_left : (v : Option Way) (lanes : List LaneState) → v ≡ left.way → lanes ≡ map (lane_state left) left.lanes
          → AreWorkflows (with_undo p name) (set_value (same_text w.name) workflows (with_traffic w v w.switched lanes))
      with_left v lanes is =
          changed-workflows p (with_undo p name) name (λ x. on_way_of (live_undone x) x) (λ x. sides-on_way x (live_undone x) (sides-undone x) x.way) refl refl elsewhere
          workflows are live w is_live found left (ap (λ o. option_map_or (live_undone live) o live) opens) refl
          v w.switched lanes is for.switched

      -- the stream that a lane had before the way
      abbrev saved : Lane → Option StreamValue
      saved lane = option_map (stream_of live lane) (slot_before_way live lane (other_name way))

      module _ (kept : List (Option StreamValue)) (gives_back : stands_done way create_back ≡ true → kept ≡ map saved live.lanes) where
        abbrev last_one : Step
        last_one = step_at (last_step way)

        early : last_step way < 6
        early = by (last_on way) (repeated_either way)
          where
            few : next_step way ≤ 6
            few = few_done way before

            by : (next_place way ≡ 0) ⊎ OneOn (next_step way) (last_step way) (repeated_step way) → (repeated_step way ≡ refresh_source) ⊎ (repeated_step way ≡ refresh_target) → last_step way < 6
            by (inl none) r = let is = step-first way (next_place way - 1) (let ge = repeated-ge way in omega (arith, none, ge)) in omega (arith, is, none)
            by (inr (inl e)) r = omega (arith, e, few)
            by (inr (inr e)) (inl r) = let is = e.1 in omega (arith, is, r)
            by (inr (inr e)) (inr r) = let same = e.0 in let is = e.1 in absurd (omega (arith, same, is, r, few))

        was_made : last_step way ≡ create_back → kept ≡ map saved live.lanes
        was_made is = gives_back (by (last_on way) (repeated_either way))
          where
            by : (next_place way ≡ 0) ⊎ OneOn (next_step way) (last_step way) (repeated_step way) → (repeated_step way ≡ refresh_source) ⊎ (repeated_step way ≡ refresh_target) → stands_done way create_back ≡ true
            by (inl none) r = let first = step-first way (next_place way - 1) (let ge = repeated-ge way in omega (arith, none, ge)) in absurd (omega (arith, is, first, none))
            by (inr (inl e)) r = done_by way create_back 6 (omega (arith, is, e)) (omega arith) (omega arith)
            by (inr (inr e)) (inl r) = let same = e.1 in absurd (omega (arith, is, same, r))
            by (inr (inr e)) (inr r) = let same = e.1 in absurd (omega (arith, is, same, r))

        lane-undone : (lane : Lane) → IsIn lane live.lanes → lane_undone way last_one (saved lane) (lane_state live lane) ≡ lane_state left lane
        lane-undone lane is_in = lane-same (lane_undone way last_one (saved lane) (lane_state live lane)) (lane_state left lane) (range-undone way last_one (saved lane) (lane_state live lane)) same
          where
            undone-slot : (stream : StreamName) → lane_slot stream (lane_undone way last_one (saved lane) (lane_state live lane)) ≡ option_map (stream_of live lane) (plain.slot_of left lane stream)
            undone-slot stream =
                undone-slots live lane way (saved lane) (slot_before_way live lane) (last_step way) early (λ is. refl) stream
                ∙ ap (option_map (stream_of live lane)) (sym (slots lane stream))

            same : (stream : StreamName) → lane_slot stream (lane_undone way last_one (saved lane) (lane_state live lane)) ≡ lane_slot stream (lane_state left lane)
            same forward = undone-slot forward
            same back = undone-slot back

        pub undone-workflows : AreWorkflows (with_undo p name) (set_value (same_text w.name) workflows (workflow_undone w way last_one kept))
        undone-workflows =
            subst (λ v. AreWorkflows (with_undo p name) (set_value (same_text w.name) workflows v))
            (sym (ap (λ (v : WorkflowState). record v { way = way_undone way })
            (lanes-undone w way (lane_state live) live.lanes for.lanes saved kept (last_step way) early was_made)))
            (with_left (way_undone way) (map (λ lane. lane_undone way last_one (saved lane) (lane_state live lane)) live.lanes) refl
            (map-in (λ lane. lane_undone way last_one (saved lane) (lane_state live lane)) (lane_state left) live.lanes lane-undone))

      -- where no step stands done
      module _ (none : way.done ≡ 0) where
        same_slot : (lane : Lane) (stream : StreamName) → plain.slot_of live lane stream ≡ plain.slot_of left lane stream
        same_slot lane stream =
            sym (slots lane stream
            ∙ ap (λ n. cond (is_feeding way stream) (cond (eqb n stop_feeding) (in_state running (plain.slot_of live lane stream)) (plain.slot_of live lane stream))
            (cond (eqb n create_back) (slot_before_way live lane stream) (plain.slot_of live lane stream))) (none_last way none)
            ∙ either-same (is_feeding way stream) (plain.slot_of live lane stream))

        pub closed-workflows : AreWorkflows (with_undo p name) (set_value (same_text w.name) workflows (record w { way = None }))
        closed-workflows =
            with_left None w.lanes (sym (ap (λ n. cond (eqb (n - 1) 0) None (Some (fewer way))) none))
            (for.lanes ∙ map-in (lane_state live) (lane_state left) live.lanes (λ lane is. lane-same (lane_state live lane) (lane_state left lane) refl (same lane)))
          where
            same : (lane : Lane) (stream : StreamName) → lane_slot stream (lane_state live lane) ≡ lane_slot stream (lane_state left lane)
            same lane forward = ap (option_map (stream_of live lane)) (same_slot lane forward)
            same lane back = ap (option_map (stream_of live lane)) (same_slot lane back)
