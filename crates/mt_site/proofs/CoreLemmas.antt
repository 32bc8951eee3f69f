-- What the calls on a core ask for follows from what is true of every core.
use Rattle.std.proofs.Common.{◌≡◌, ◌≢◌, ◌≤◌, ◌<◌, ℕ, zero, suc, true, List, [], ◌∷◌, Some, length, refl, sym, subst, ◌∙◌, arith}
use Rattle.std.specs.Prelude.{option_and_then, slice_get}
use Rattle.mt_plain.specs.Events.{StreamName, forward, back, running, frozen}
use Rattle.mt_plain.specs.Plain.{among}
use Rattle.mt_plain.specs.Slots.{read_side}
use Rattle.mt_primary.specs.Primaries.{count_of, primary_of}
use Rattle.mt_primary.specs.Primary.{end_of, has_table}
use Rattle.mt_stream.specs.Streams.{StreamValue}
use Rattle.mt_workflow.specs.Workflows.{LaneState, WorkflowState, lane_slot, live_of, slot_of}
use Rattle.mt_stands.specs.Base.{BaseState, workflow_at}
use Rattle.mt_stands.specs.Workflows.{shard_read}
use Rattle.mt_site.specs.Advance.{CanAdvance, IsBetween}

-- a stream stands in one of the lanes
pub lane_below : (w : WorkflowState) (shard : ℕ) (stream : StreamName) (s : StreamValue) → slot_of w shard stream ≡ Some s → shard < length w.lanes
lane_below w shard stream s there = by w.lanes shard there
  where
    by : (lanes : List LaneState) (n : ℕ) → option_and_then (lane_slot stream) (slice_get lanes n) ≡ Some s → n < length lanes
    by [] n there = absurd cc
    by (lane ∷ lanes) zero there = omega arith
    by (lane ∷ lanes) (suc n) there = let below = by lanes n there in omega (arith, below)

-- a stream of a workflow stands between the primaries of its sides
pub can_advance : (core : BaseState) (name : List ℕ) (stream : StreamName) (shard : ℕ)
    → ((name : List ℕ) (w : WorkflowState) → workflow_at core.workflows name ≡ Some w → w.name ≡ name)
    → ((name : List ℕ) (w : WorkflowState) → workflow_at core.workflows name ≡ Some w → count_of core.primaries w.source ≡ 1)
    → ((name : List ℕ) (w : WorkflowState) → workflow_at core.workflows name ≡ Some w → length w.lanes ≡ count_of core.primaries w.target)
    → ((name : List ℕ) (w : WorkflowState) → workflow_at core.workflows name ≡ Some w → w.source ≢ w.target)
    → ((name : List ℕ) (w : WorkflowState) → workflow_at core.workflows name ≡ Some w → (table : List ℕ) → among w.tables table ≡ true → has_table (primary_of core.primaries w.source 0) table ≡ true)
    → ((name : List ℕ) (w : WorkflowState) → workflow_at core.workflows name ≡ Some w → (shard : ℕ) → shard < length w.lanes → (table : List ℕ) → among w.tables table ≡ true
    → has_table (primary_of core.primaries w.target shard) table ≡ true)
    → ((name : List ℕ) (w : WorkflowState) (shard : ℕ) (stream : StreamName) (s : StreamValue) → workflow_at core.workflows name ≡ Some w → slot_of w shard stream ≡ Some s → s.tables ≡ w.tables)
    → ((name : List ℕ) (w : WorkflowState) (shard : ℕ) (stream : StreamName) (s : StreamValue) → workflow_at core.workflows name ≡ Some w → slot_of w shard stream ≡ Some s
    → s.position ≤ end_of (primary_of core.primaries (read_side (live_of w) stream) (shard_read stream shard)))
    → ((name : List ℕ) (w : WorkflowState) (shard : ℕ) (stream : StreamName) (s : StreamValue) → workflow_at core.workflows name ≡ Some w → slot_of w shard stream ≡ Some s → s.state ≢ frozen
    → (primary_of core.primaries (read_side (live_of w) stream) (shard_read stream shard)).log.purged ≤ s.position)
    → CanAdvance core.primaries core.workflows name stream shard
can_advance core name stream shard named source target apart at_source at_target tables position kept = record { named = named name; between = λ w found s there. between w found s there stream refl_of }
  where
    refl_of : stream ≡ stream
    refl_of = refl

    between : (w : WorkflowState) → workflow_at core.workflows name ≡ Some w → (s : StreamValue) → slot_of w shard stream ≡ Some s → (which : StreamName) → which ≡ stream → IsBetween core.primaries w stream shard s
    between w found s there forward is = subst (λ n. IsBetween core.primaries w n shard s) is (record {
      source = source name w found;
      target = sym (target name w found);
      apart = apart name w found;
      within = position name w shard forward s found (subst (λ n. slot_of w shard n ≡ Some s) (sym is) there);
      kept = λ runs. kept name w shard forward s found (subst (λ n. slot_of w shard n ≡ Some s) (sym is) there) (λ e. absurd (let never : running ≡ frozen = sym runs ∙ e in cc));
      there = λ table among_s. at_target name w found shard (lane_below w shard stream s there) table (subst (λ ts. among ts table ≡ true) (tables name w shard stream s found there) among_s);
    })
    between w found s there back is = subst (λ n. IsBetween core.primaries w n shard s) is (record {
      source = source name w found;
      target = sym (target name w found);
      apart = apart name w found;
      within = position name w shard back s found (subst (λ n. slot_of w shard n ≡ Some s) (sym is) there);
      kept = λ runs. kept name w shard back s found (subst (λ n. slot_of w shard n ≡ Some s) (sym is) there) (λ e. absurd (let never : running ≡ frozen = sym runs ∙ e in cc));
      there = λ table among_s. at_source name w found table (subst (λ ts. among ts table ≡ true) (tables name w shard stream s found there) among_s);
    })
