-- The lanes of a workflow, and those of the live one that it stands for.
use Rattle.std.proofs.Common.{◌≡◌, ℕ, zero, suc, ◌+◌, ◌<◌, ◌≤◌, Bool, true, false, cond, eqb, leb, List, [], ◌∷◌, find, fold, length, map, Option, None, Some, is_some, refl, sym, ap, ◌∙◌, subst, arith}
use Rattle.std.proofs.lemmas.Bool.{eq-eqb, eqb-true, false_from_ne_true, lt-ltb, ltb-true, ltb_from_iff}
use Rattle.std.proofs.lemmas.List.{length-map}
use Rattle.std.specs.List.{list_all, list_any, range_with_len}
use Rattle.std.specs.Prelude.{◌&&◌, nat_lt, option_and_then, option_map, slice_get}
use Rattle.mt_names.specs.Shards.{shard_count}
use Rattle.mt_plain.specs.Events.{StreamName, forward, back}
use Rattle.mt_plain.specs.Plain.{Lane, Live, Plain, lane_at}
use Rattle.mt_plain.specs.Slots.{slot_of}
use Rattle.mt_laws.proofs.LaneLemmas.{IsNumbered, lane_found}
use Rattle.mt_stands.specs.Rows.{stream_of}
use Rattle.mt_stands.specs.Stands.{StandsFor, lane_state}
use Rattle.mt_steps.specs.Shards.{shards_of}
use Rattle.mt_stream.specs.Streams.{StreamValue}
use Rattle.mt_workflow.specs.Workflows.{WorkflowState, lane_slot}
use Rattle.mt_workflow.specs.Workflows as workflow

-- ---- lanes by their places

-- what is found by its number, from one on, stands at that place
found_at : (a n : ℕ) (lanes : List Lane) → map (λ lane. lane.shard) lanes ≡ range_with_len a n → (i : ℕ) → find (λ lane. eqb lane.shard (a + i)) lanes ≡ slice_get lanes i
found_at a n [] numbers i = refl
found_at a zero (x ∷ xs) numbers i = absurd cc
found_at a (suc n) (x ∷ xs) numbers zero = by (eqb x.shard (a + 0)) (here x.shard head)
  where
    head : x.shard ≡ a
    head = cc

    here : (s : ℕ) → s ≡ a → eqb s (a + 0) ≡ true
    here s e = eq-eqb s (a + 0) (omega (arith, e))

    by : (b : Bool) → b ≡ true → cond b (Some x) (find (λ lane. eqb lane.shard (a + 0)) xs) ≡ Some x
    by b e = ap (λ c. cond c (Some x) (find (λ lane. eqb lane.shard (a + 0)) xs)) e
found_at a (suc n) (x ∷ xs) numbers (suc i) =
    ap (λ c. cond c (Some x) (find (λ lane. eqb lane.shard (a + suc i)) xs)) (apart x.shard head)
    ∙ ap (λ m. find (λ lane. eqb lane.shard m) xs) (let e : a + suc i ≡ (a + 1) + i = omega arith in e)
    ∙ found_at (a + 1) n xs rest i
  where
    head : x.shard ≡ a
    head = cc

    rest : map (λ lane. lane.shard) xs ≡ range_with_len (a + 1) n
    rest = cc

    apart : (s : ℕ) → s ≡ a → eqb s (a + suc i) ≡ false
    apart s e = false_from_ne_true (eqb s (a + suc i)) (λ t. let same = eqb-true s (a + suc i) t in omega (arith, e, same))

-- so a lane is found by its shard where it stands by its place
pub lane_in_place : (live : Live) → IsNumbered live → (n : ℕ) → lane_at live n ≡ slice_get live.lanes n
lane_in_place live numbered n =
    let from : n ≡ 0 + n = omega arith in
    ap (λ m. find (λ (lane : Lane). eqb lane.shard m) live.lanes) from ∙ found_at 0 (shard_count live.cuts) live.lanes numbered n

-- there are as many as shards
pub lane_count : (live : Live) → IsNumbered live → length live.lanes ≡ shard_count live.cuts
lane_count live numbered = sym (length-map live.lanes (λ lane. lane.shard)) ∙ ap length numbered ∙ counted 0 (shard_count live.cuts)
  where
    counted : (a n : ℕ) → length (range_with_len a n) ≡ n
    counted a zero = refl
    counted a (suc n) = ap suc (counted (a + 1) n)

-- a place has something if it is below the length
there_below : {A : Type 0} (xs : List A) (n : ℕ) → is_some (slice_get xs n) ≡ nat_lt n (length xs)
there_below [] n = sym (false_from_ne_true (nat_lt n 0) (λ t. let below = ltb-true n 0 t in omega (arith, below)))
there_below (x ∷ xs) zero = sym (lt-ltb 0 (length (x ∷ xs)) (omega arith))
there_below (x ∷ xs) (suc n) = there_below xs n ∙ ltb_from_iff ((λ t. let below = ltb-true n (length xs) t in omega (arith, below)), (λ below. lt-ltb n (length xs) (omega (arith, below))))

-- what is at a place of a list is so, changed, of the list's image
get_map : {A B : Type 0} (f : A → B) (xs : List A) (n : ℕ) → slice_get (map f xs) n ≡ option_map f (slice_get xs n)
get_map f [] n = refl
get_map f (x ∷ xs) zero = refl
get_map f (x ∷ xs) (suc n) = get_map f xs n

-- ---- the lanes of a workflow

module _ (p : Plain) (live : Live) (w : WorkflowState) (for : StandsFor p live w) where
  -- there are as many as the live one has
  pub lanes_alike : length w.lanes ≡ length live.lanes
  lanes_alike = ap length for.lanes ∙ length-map live.lanes (lane_state live)

  module _ (numbered : IsNumbered live) where
    -- a shard is one of the target's if it has a lane
    pub has_lane : (n : ℕ) → nat_lt n (length w.lanes) ≡ is_some (lane_at live n)
    has_lane n = ap (nat_lt n) lanes_alike ∙ sym (there_below live.lanes n) ∙ ap is_some (sym (lane_in_place live numbered n))

    -- a stream of a lane is that of the live one's
    pub slot_in : (n : ℕ) (stream : StreamName) → workflow.slot_of w n stream ≡ option_and_then (λ lane. option_map (stream_of live lane) (slot_of live lane stream)) (lane_at live n)
    slot_in n stream =
        ap (λ lanes. option_and_then (lane_slot stream) (slice_get lanes n)) for.lanes
        ∙ ap (option_and_then (lane_slot stream)) (get_map (lane_state live) live.lanes n)
        ∙ ap (λ o. option_and_then (lane_slot stream) (option_map (lane_state live) o)) (sym (lane_in_place live numbered n))
        ∙ by stream (lane_at live n)
      where
        by : (stream : StreamName) (o : Option Lane) → option_and_then (lane_slot stream) (option_map (lane_state live) o) ≡ option_and_then (λ lane. option_map (stream_of live lane) (slot_of live lane stream)) o
        by stream None = refl
        by forward (Some lane) = refl
        by back (Some lane) = refl

    pub slot_is : (n : ℕ) (lane : Lane) → lane_at live n ≡ Some lane → (stream : StreamName) → workflow.slot_of w n stream ≡ option_map (stream_of live lane) (slot_of live lane stream)
    slot_is n lane found stream = slot_in n stream ∙ ap (option_and_then (λ lane. option_map (stream_of live lane) (slot_of live lane stream))) found

    -- where there is a stream, there is a lane
    pub lane_of_slot : (n : ℕ) (stream : StreamName) (s : StreamValue) → workflow.slot_of w n stream ≡ Some s → (lane : Lane) × (lane_at live n ≡ Some lane)
    lane_of_slot n stream s there = by (lane_at live n) refl
      where
        by : (o : Option Lane) → lane_at live n ≡ o → (lane : Lane) × (lane_at live n ≡ Some lane)
        by (Some lane) found = (lane, found)
        by None none = absurd (let e : None ≡ Some s = sym (slot_in n stream ∙ ap (option_and_then (λ lane. option_map (stream_of live lane) (slot_of live lane stream))) none) ∙ there in cc)

    -- the numbers of the shards are those of the lanes
    pub shards_are : shards_of w ≡ map (λ lane. lane.shard) live.lanes
    shards_are = ap (range_with_len 0) (lanes_alike ∙ lane_count live numbered) ∙ sym numbered

    -- so what is true of each shard is true of each lane
    pub all_lanes : (test : ℕ → Bool) → list_all test (shards_of w) ≡ list_all (λ lane. test lane.shard) live.lanes
    all_lanes test = ap (list_all test) shards_are ∙ by live.lanes
      where
        by : (lanes : List Lane) → list_all test (map (λ lane. lane.shard) lanes) ≡ list_all (λ lane. test lane.shard) lanes
        by [] = refl
        by (lane ∷ lanes) = ap (λ b. test lane.shard && b) (by lanes)
