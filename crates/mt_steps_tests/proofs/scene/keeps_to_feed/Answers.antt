-- One shard more; and a stream is of one of the shards.
use Rattle.std.proofs.Common.{◌≡◌, ◌≢◌, ℕ, zero, suc, ◌<◌, ◌≤◌, ◌⊎◌, inl, inr, true, false, List, [], ◌∷◌, Some, length, slice_get, option_and_then, sym, subst, arith}
use Rattle.std.proofs.lemmas.Bool.Decides.{eqb_tells}
use Rattle.std.proofs.lemmas.Option.{none-some}
use Rattle.std.proofs.Math.Dec.{eqb}
use Rattle.mt_plain.specs.Events.{StreamName}
use Rattle.mt_stream.specs.Streams.{StreamValue}
use Rattle.mt_workflow.specs.Workflows.{LaneState, lane_slot, slot_of, way_from}
use Rattle.mt_steps.specs.Streams.{feeding_name, read_for}
use Rattle.mt_steps_tests.proofs.scene.keeps_to_feed.Goals as goal

within : (name : StreamName) (s : StreamValue) (lanes : List LaneState) (k : ℕ) → option_and_then (lane_slot name) (slice_get lanes k) ≡ Some s → k < length lanes
within name s [] k there = absurd (none-some s there)
within name s (lane ∷ lanes) zero there = omega arith
within name s (lane ∷ lanes) (suc k) there = let here = within name s lanes k there in omega arith

pub loop-shard-preserved : goal.loop-shard-preserved
loop-shard-preserved c k s below there = by (eqb_tells k c.loop-shard.shard)
  where
    by : (((eqb k c.loop-shard.shard) ≡ true) × (k ≡ c.loop-shard.shard)) ⊎ (((eqb k c.loop-shard.shard) ≡ false) × (k ≢ c.loop-shard.shard))
        → (read_for (way_from c.args.way) c.args.source.now c.args.targets.now k).log.purged ≤ s.position
    by (inl same) =
        subst (λ n. (read_for (way_from c.args.way) c.args.source.now c.args.targets.now n).log.purged ≤ s.position) (sym same.1)
        (c.keeps_at.ensures c.if-not-keeps_at.false s (subst (λ n. slot_of c.args.workflow.now n (feeding_name (way_from c.args.way)) ≡ Some s) same.1 there))
    by (inr other) = c.loop-shard.invariant k s (omega (arith, below, other.1)) there

pub returns : goal.returns
returns c is k s there = c.loop-shard.invariant k s (let here = within (feeding_name (way_from c.args.way)) s c.args.workflow.now.lanes k there in omega arith) there
