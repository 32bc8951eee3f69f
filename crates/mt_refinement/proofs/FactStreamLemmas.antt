-- The streams of a workflow, and those of the live workflow for which it stands.
use Rattle.std.proofs.Common.{◌≡◌, ◌≢◌, ℕ, ◌<◌, ◌≤◌, true, List, Option, None, Some, is_some, length, refl, sym, ap, ◌∙◌, subst}
use Rattle.std.proofs.lemmas.List.Sums.{length-filter}
use Rattle.std.specs.Option.{option_map}
use Rattle.mt_plain.specs.Events.{StreamName, forward, Slot, frozen}
use Rattle.mt_plain.specs.Plain.{Lane, Live, Plain, lane_at, live_at}
use Rattle.mt_plain.specs.Slots.{is_entry_at, log_length, log_of, read_shard, read_side}
use Rattle.mt_plain.specs.Slots as plain
use Rattle.mt_laws.proofs.LaneLemmas.{IsNumbered}
use Rattle.mt_primary.specs.Primaries.{primary_of}
use Rattle.mt_primary.specs.Primary.{end_of}
use Rattle.mt_stands.specs.Rows.{stream_of}
use Rattle.mt_stands.proofs.LogLemmas.{log-length}
use Rattle.mt_stream.specs.Streams.{StreamValue}
use Rattle.mt_workflow.specs.Workflows.{WorkflowState, live_of, slot_of}
use Rattle.mt_stands.specs.Base.{BaseState}
use Rattle.mt_stands.specs.Stands.{HasState, StandsFor}
use Rattle.mt_stands.specs.Workflows.{shard_read}
use Rattle.mt_stands.proofs.LaneLemmas.{lane_of_slot, slot_is}
use Rattle.mt_refinement.proofs.ShardLemmas.{lane_below, read_is, sides_read}
use Rattle.mt_refinement.proofs.ShowLemmas.{forward_there}

some_slot : (live : Live) (lane : Lane) (o : Option Slot) (s : StreamValue) → option_map (stream_of live lane) o ≡ Some s → (slot : Slot) × (o ≡ Some slot) × (s ≡ stream_of live lane slot)
some_slot live lane None s e = absurd cc
some_slot live lane (Some slot) s e = let same : stream_of live lane slot ≡ s = cc in (slot, refl, sym same)

-- a stream of a workflow is that of a lane
pub record IsSlotOf (live : Live) (n : ℕ) (stream : StreamName) (s : StreamValue) : Type 0 where
  pub lane : Lane
  pub laned : lane_at live n ≡ Some lane
  pub slot : Slot
  pub there : plain.slot_of live lane stream ≡ Some slot
  pub is : s ≡ stream_of live lane slot

module _ (p : Plain) (live : Live) (w : WorkflowState) (stands : StandsFor p live w) (numbered : IsNumbered live) where
  pub has_forward : (n : ℕ) → n < length w.lanes → is_some (slot_of w n forward) ≡ true
  has_forward n within =
      let (lane, found) = lane_below p live w stands numbered n within in
      ap is_some (slot_is p live w stands numbered n lane found forward) ∙ by lane (plain.slot_of live lane forward) (forward_there live lane live.way)
    where
      by : (lane : Lane) (o : Option Slot) → is_some o ≡ true → is_some (option_map (stream_of live lane) o) ≡ true
      by lane None e = e
      by lane (Some slot) e = refl

  pub slot_from : (n : ℕ) (stream : StreamName) (s : StreamValue) → slot_of w n stream ≡ Some s → IsSlotOf live n stream s
  slot_from n stream s at =
      let (lane, laned) = lane_of_slot p live w stands numbered n stream s at in
      let (slot, there, is) = some_slot live lane (plain.slot_of live lane stream) s (sym (slot_is p live w stands numbered n lane laned stream) ∙ at) in
      record { lane = lane; laned = laned; slot = slot; there = there; is = is }

  pub stream_tables : (n : ℕ) (stream : StreamName) (s : StreamValue) → slot_of w n stream ≡ Some s → s.tables ≡ w.tables
  stream_tables n stream s at = ap (λ x. x.tables) (slot_from n stream s at).is ∙ stands.sides.tables

module _ (base : BaseState) (h : HasState base) (live : Live) (w : WorkflowState) (stands : StandsFor h.state live w) (n : ℕ) (stream : StreamName) (s : StreamValue)
    (from : IsSlotOf live n stream s) where
  log_is : (keyspace : List ℕ) (shard : ℕ) → log_length h.state keyspace shard ≡ end_of (primary_of base.primaries keyspace shard)
  log_is keyspace shard =
      sym (length-filter (is_entry_at keyspace shard) h.state.log)
      ∙ log-length (log_of h.state keyspace shard) keyspace shard (primary_of base.primaries keyspace shard).log (h.stands.rows.log keyspace shard)

  side_is : read_side live stream ≡ read_side (live_of w) stream
  side_is = sides_read live (live_of w) stands.sides stream

  shard_is : read_shard from.lane stream ≡ shard_read stream n
  shard_is = read_is live n from.lane from.laned stream

  pub stream_within : ((slot : Slot) → plain.slot_of live from.lane stream ≡ Some slot → slot.position ≤ log_length h.state (read_side live stream) (read_shard from.lane stream))
      → s.position ≤ end_of (primary_of base.primaries (read_side (live_of w) stream) (shard_read stream n))
  stream_within within =
      let q : log_length h.state (read_side live stream) (read_shard from.lane stream) ≡ end_of (primary_of base.primaries (read_side (live_of w) stream) (shard_read stream n))
      = log_is (read_side live stream) (read_shard from.lane stream) ∙ ap (λ k. end_of (primary_of base.primaries k (read_shard from.lane stream))) side_is
      ∙ ap (λ m. end_of (primary_of base.primaries (read_side (live_of w) stream) m)) shard_is in
      subst (λ m. s.position ≤ m) q (subst (λ m. m ≤ log_length h.state (read_side live stream) (read_shard from.lane stream)) (sym (ap (λ x. x.position) from.is)) (within from.slot from.there))

  -- what it has still to read is kept
  pub stream_kept : (name : List ℕ) → live_at h.state name ≡ Some live → s.state ≢ frozen
      → (primary_of base.primaries (read_side (live_of w) stream) (shard_read stream n)).log.purged ≤ s.position
  stream_kept name there moves =
      let held : (primary_of base.primaries (read_side live stream) (shard_read stream n)).log.purged ≤ from.slot.position
      = h.stands.rows.unread (read_side live stream) (shard_read stream n) name live there n from.lane from.laned stream from.slot from.there (λ e. moves (ap (λ x. x.state) from.is ∙ e)) refl shard_is in
      subst (λ m. (primary_of base.primaries (read_side (live_of w) stream) (shard_read stream n)).log.purged ≤ m) (sym (ap (λ x. x.position) from.is))
      (subst (λ k. (primary_of base.primaries k (shard_read stream n)).log.purged ≤ from.slot.position) side_is held)
