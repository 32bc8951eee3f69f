-- The shards of the keyspaces that stand, and the lanes of a workflow beside the primaries of its sides.
use Rattle.std.proofs.Common.{◌≡◌, ℕ, suc, ◌+◌, ◌<◌, true, List, [], ◌∷◌, Option, Some, length, map, refl, sym, ap, ◌∙◌, subst, arith}
use Rattle.std.proofs.lemmas.Bool.{lt-ltb, ltb-true}
use Rattle.std.specs.List.{range_with_len}
use Rattle.std.specs.Prelude.{is_some, slice_get, unwrap_or}
use Rattle.mt_names.specs.Shards.{AreCuts, shard_count, shard_of}
use Rattle.mt_names.proofs.EntryLemmas.{some_from}
use Rattle.mt_plain.specs.Events.{StreamName, forward, back}
use Rattle.mt_plain.specs.Plain.{Lane, Live, Plain, cuts_of, has_keyspace, lane_at, live_at, shard_at}
use Rattle.mt_plain.specs.Slots.{read_shard, read_side, written_shard, written_side}
use Rattle.mt_laws.specs.Changes.{HasSides}
use Rattle.mt_laws.specs.WayBack.{IsReached}
use Rattle.mt_laws.proofs.CutLemmas.{IsCut, reached_cut}
use Rattle.mt_laws.proofs.InPlaceLemmas.{live_in}
use Rattle.mt_laws.proofs.LaneLemmas.{IsNumbered, lane_found, reached_numbered}
use Rattle.mt_primary.specs.Primaries.{Primaries, count_of, place_of_key, shards_of}
use Rattle.mt_primary.proofs.PrimariesLemmas.{shard_below}
use Rattle.mt_stands.specs.Stands.{ArePrimaries, StandsFor}
use Rattle.mt_stands.specs.Workflows.{shard_read, shard_written}
use Rattle.mt_stands.proofs.LaneLemmas.{has_lane, lane_count, lanes_alike}
use Rattle.mt_workflow.specs.Workflows.{WorkflowState}

-- ---- keys

module _ (p : Plain) (primaries : Primaries) (are : ArePrimaries p primaries) (keyspace : List ℕ) where
  -- a key stands in the shard that the primaries say
  pub place_is : (key : ℕ) → place_of_key (shards_of primaries keyspace) key ≡ shard_at p keyspace key
  place_is key = ap (λ cuts. shard_of cuts key) (are.cuts keyspace)

  -- it is one of those of the keyspace
  pub key_within : has_keyspace p keyspace ≡ true → (key : ℕ) → shard_at p keyspace key < count_of primaries keyspace
  key_within there key = subst (λ n. shard_at p keyspace key < n) (sym (are.shards keyspace there)) (shard_below (cuts_of p keyspace) key)

-- ---- lists

-- a list by its places
pub each_at : {A : Type 0} (default : A) (xs : List A) → xs ≡ map (λ n. unwrap_or (slice_get xs n) default) (range_with_len 0 (length xs))
each_at {A} default xs = sym (from 0 xs (λ n. slice_get xs n) (λ n. ap (slice_get xs) (let e : 0 + n ≡ n = omega arith in e)))
  where
    from : (a : ℕ) (ys : List A) (at : ℕ → Option A) → ((n : ℕ) → at (a + n) ≡ slice_get ys n) → map (λ n. unwrap_or (at n) default) (range_with_len a (length ys)) ≡ ys
    from a [] at is = refl
    from a (y ∷ ys) at is =
        ap (λ o. unwrap_or o default ∷ map (λ n. unwrap_or (at n) default) (range_with_len (a + 1) (length ys))) (ap at (let e : a ≡ a + 0 = omega arith in e) ∙ is 0)
        ∙ ap (λ rest. y ∷ rest) (from (a + 1) ys at (λ n. ap at (let e : (a + 1) + n ≡ a + suc n = omega arith in e) ∙ is (suc n)))

-- ---- the sides of a stream

-- the shards that a stream of a lane reads and writes
pub read_is : (live : Live) (n : ℕ) (lane : Lane) → lane_at live n ≡ Some lane → (stream : StreamName) → read_shard lane stream ≡ shard_read stream n
read_is live n lane found forward = refl
read_is live n lane found back = (lane_found live n lane found).1

pub written_is : (live : Live) (n : ℕ) (lane : Lane) → lane_at live n ≡ Some lane → (stream : StreamName) → written_shard lane stream ≡ shard_written stream n
written_is live n lane found forward = (lane_found live n lane found).1
written_is live n lane found back = refl

-- and the keyspaces
pub sides_read : (v w : Live) → HasSides v w → (stream : StreamName) → read_side v stream ≡ read_side w stream
sides_read v w same forward = same.source
sides_read v w same back = same.target

pub sides_written : (v w : Live) → HasSides v w → (stream : StreamName) → written_side v stream ≡ written_side w stream
sides_written v w same forward = same.target
sides_written v w same back = same.source

-- ---- the lanes of a live workflow

module _ (p : Plain) (reached : IsReached p) (name : List ℕ) (live : Live) (is_live : live_at p name ≡ Some live) where
  pub lanes_numbered : IsNumbered live
  lanes_numbered = reached_numbered p reached live (live_in p name live is_live)

  pub has_cuts : IsCut p live
  has_cuts = reached_cut p reached live (live_in p name live is_live)

  module _ (primaries : Primaries) (are : ArePrimaries p primaries) where
    -- the bounds between its shards ascend
    pub cuts_ascend : AreCuts live.cuts
    cuts_ascend = subst AreCuts (sym has_cuts.target) (are.ascend live.target)

    -- the source has one shard, and the target one for each lane
    pub source_count : has_keyspace p live.source ≡ true → count_of primaries live.source ≡ 1
    source_count there = are.shards live.source there ∙ ap shard_count has_cuts.source

    pub target_count : has_keyspace p live.target ≡ true → count_of primaries live.target ≡ length live.lanes
    target_count there = are.shards live.target there ∙ ap shard_count (sym has_cuts.target) ∙ sym (lane_count live lanes_numbered)

-- ---- the lanes of a workflow that stands for a live one

module _ (p : Plain) (live : Live) (w : WorkflowState) (stands : StandsFor p live w) (numbered : IsNumbered live) where
  pub lane_below : (n : ℕ) → n < length w.lanes → (lane : Lane) × (lane_at live n ≡ Some lane)
  lane_below n within = some_from (lane_at live n) (sym (has_lane p live w stands numbered n) ∙ lt-ltb n (length w.lanes) within)

  pub below_lanes : (n : ℕ) (lane : Lane) → lane_at live n ≡ Some lane → n < length live.lanes
  below_lanes n lane found =
      subst (λ m. n < m) (lanes_alike p live w stands) (ltb-true n (length w.lanes) (has_lane p live w stands numbered n ∙ ap is_some found))
