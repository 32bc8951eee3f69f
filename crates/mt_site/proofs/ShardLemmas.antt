-- The shard of a workflow's target that is found by its range.
use Rattle.std.proofs.Common.{◌≡◌, ◌<◌, ◌≤◌, ◌+◌, ⊎_elim, ℕ, Bool, true, false, cond, List, [], ◌∷◌, get_or, length, map, nat_lt, Option, None, Some, Ok, Err, slice_get, refl, sym, ap, ◌∙◌, arith}
use Rattle.std.proofs.lemmas.Bool.{cases_lt, lt-ltb, ltb-true}
use Rattle.std.proofs.lemmas.List.{length-map}
use Rattle.std.proofs.lemmas.List.Sums.{position_or_len_is}
use Rattle.std.proofs.lemmas.Option.{get_or_from_slice_get, slice_get-get_or}
use Rattle.std.specs.List.{position_or_len, range_with_len}
use Rattle.std.specs.Prelude.{not, option_map, position}
use Rattle.mt_names.specs.Shards.{AreCuts, KeyRange, place_of_range, ranges_of, same_range, shard_count, whole}
use Rattle.mt_names.proofs.ShardLemmas.{count_ranges, place-counted}
use Rattle.mt_model.specs.declared.entries.Scope.{Scope}
use Rattle.mt_plain.specs.Answers.{range_at}
use Rattle.mt_plain.specs.Events.{no_shard}
use Rattle.mt_plain.specs.Plain.{Lane, Live, Plain, live_at}
use Rattle.mt_plain.specs.Refuse.{shard_of_range}
use Rattle.mt_laws.proofs.LaneLemmas.{IsNumbered}
use Rattle.mt_refinement.proofs.ShardLemmas.{cuts_ascend, each_at, lanes_numbered}
use Rattle.mt_stands.specs.Base.{workflow_at}
use Rattle.mt_stands.specs.Stands.{StandsForAny, lane_state}
use Rattle.mt_stands.specs.Ways.{CoreStands, CoreState}
use Rattle.mt_workflow.specs.Workflows.{LaneState, WorkflowState}
use Rattle.mt_site.specs.Shards.{shard_in, shard_or_none}

module _ {A : Type 0} (test : A → Bool) (xs : List A) where
  -- none before a place passes
  abbrev pub NoneBefore : ℕ → Type 0
  NoneBefore i = (k : ℕ) → k < i → (x : A) → slice_get xs k ≡ Some x → test x ≡ false

  pub none-more : (i : ℕ) → NoneBefore i → (x : A) → slice_get xs i ≡ Some x → test x ≡ false → NoneBefore (i + 1)
  none-more i before x at fails k within y there =
      ⊎_elim (λ less. before k less y there) (λ past. here (let same : k ≡ i = omega (arith, within, past) in same)) (cases_lt k i)
    where
      here : k ≡ i → test y ≡ false
      here same = let found : Some x ≡ Some y = sym at ∙ ap (slice_get xs) (sym same) ∙ there in let is : x ≡ y = cc in ap test (sym is) ∙ fails

  -- the first one that does
  pub first-found : (i : ℕ) → i < length xs → NoneBefore i → (x : A) → slice_get xs i ≡ Some x → test x ≡ true → Some i ≡ position test xs
  first-found i within before x at passes =
      let is : position_or_len test xs ≡ i =
      position_or_len_is test xs i x (omega (arith, within)) (λ k less. before k less (get_or xs k x) (slice_get-get_or xs k x (omega (arith, less, within))))
      (λ inside. ap test (get_or_from_slice_get xs i x x at) ∙ passes) in
      sym (ap (λ n. cond (nat_lt n (length xs)) (Some n) None) is ∙ ap (λ b. cond b (Some i) None) (lt-ltb i (length xs) within))

  -- or none does
  pub none-found : (end : ℕ) → length xs ≤ end → NoneBefore end → None ≡ position test xs
  none-found end all before = by (nat_lt (position_or_len test xs) (length xs)) refl
    where
      by : (t : Bool) → nat_lt (position_or_len test xs) (length xs) ≡ t → None ≡ position test xs
      by false e = sym (ap (λ b. cond b (Some (position_or_len test xs)) None) e)
      by true e = absurd (some xs refl)
        where
          some : (ys : List A) → xs ≡ ys → ⊥
          some [] is = let less : position_or_len test xs < length xs = ltb-true (position_or_len test xs) (length xs) e in let l = ap length is in omega (arith, less, l)
          some (y ∷ ys) is =
              let less : position_or_len test xs < length xs = ltb-true (position_or_len test xs) (length xs) e in
              let last : position_or_len test xs ≡ length xs = position_or_len_is test xs (length xs) y (omega arith)
              (λ k within. before k (omega (arith, within, all)) (get_or xs k y) (slice_get-get_or xs k y within)) (λ inside. absurd (omega (arith, inside))) in
              omega (arith, less, last)

-- the same of lanes and their ranges
module _ (lanes : List LaneState) (range : KeyRange) where
  abbrev pub has_range : LaneState → Bool
  has_range lane = same_range range lane.range

  pub range-found : (i : ℕ) → i < length lanes → NoneBefore has_range lanes i → (r : KeyRange) → option_map (λ (lane : LaneState). lane.range) (slice_get lanes i) ≡ Some r → same_range range r ≡ true
      → Some i ≡ position has_range lanes
  range-found i within before r at passes = by (slice_get lanes i) refl at
    where
      by : (o : Option LaneState) → slice_get lanes i ≡ o → option_map (λ (lane : LaneState). lane.range) o ≡ Some r → Some i ≡ position has_range lanes
      by None found is = absurd cc
      by (Some lane) found is = let same : lane.range ≡ r = cc in first-found has_range lanes i within before lane found (ap (same_range range) same ∙ passes)

  pub range-next : (i : ℕ) → NoneBefore has_range lanes i → (r : KeyRange) → option_map (λ (lane : LaneState). lane.range) (slice_get lanes i) ≡ Some r → same_range range r ≡ false
      → NoneBefore has_range lanes (i + 1)
  range-next i before r at fails = by (slice_get lanes i) refl at
    where
      by : (o : Option LaneState) → slice_get lanes i ≡ o → option_map (λ (lane : LaneState). lane.range) o ≡ Some r → NoneBefore has_range lanes (i + 1)
      by None found is = absurd cc
      by (Some lane) found is = let same : lane.range ≡ r = cc in none-more has_range lanes i before lane found (ap (same_range range) same ∙ fails)

-- ---- the shard that a state knows

-- what is found by its image stands where it does
position-image : {A B : Type 0} (test : B → Bool) (f : A → B) (xs : List A) → position (λ x. test (f x)) xs ≡ position test (map f xs)
position-image {A} test f xs = ap (λ n. placed n (length xs)) (image xs) ∙ ap (placed (position_or_len test (map f xs))) (sym (length-map xs f))
  where
    placed : ℕ → ℕ → Option ℕ
    placed n long = cond (nat_lt n long) (Some n) None

    image : (ys : List A) → position_or_len (λ x. test (f x)) ys ≡ position_or_len test (map f ys)
    image [] = refl
    image (y ∷ ys) = ap (λ n. cond (not (test (f y))) (1 + n) 0) (image ys)

-- the lanes of a live workflow have the ranges of its shards
ranges_told : (live : Live) → IsNumbered live → AreCuts live.cuts → map (λ lane. lane.range) (map (lane_state live) live.lanes) ≡ ranges_of live.cuts
ranges_told live numbered are =
    by live.lanes ∙ ap (map (range_at live.cuts)) numbered ∙ ap (λ n. map (range_at live.cuts) (range_with_len 0 n)) (sym (count_ranges live.cuts are))
    ∙ sym (each_at whole (ranges_of live.cuts))
  where
    by : (lanes : List Lane) → map (λ lane. lane.range) (map (lane_state live) lanes) ≡ map (range_at live.cuts) (map (λ (lane : Lane). lane.shard) lanes)
    by [] = refl
    by (lane ∷ lanes) = ap (λ rest. range_at live.cuts lane.shard ∷ rest) (by lanes)

-- so a range is found among them as the state finds it
pub shard_told : (p : Plain) (scopes : List Scope) (s : CoreState) (name : List ℕ) (range : KeyRange) → CoreStands p scopes s
    → shard_in (workflow_at s.base.workflows name) range ≡ shard_of_range (live_at p name) range
shard_told p scopes s name range stands = by (live_at p name) refl (workflow_at s.base.workflows name) (stands.base.workflows.each name)
  where
    either : (b : Bool) (place : ℕ) → shard_or_none (cond b (Some place) None) ≡ cond b (Ok place) (Err no_shard)
    either true place = refl
    either false place = refl

    by : (o : Option Live) → live_at p name ≡ o → (found : Option WorkflowState) → StandsForAny p o found → shard_in found range ≡ shard_of_range o range
    by None there None is = refl
    by None there (Some w) is = absurd is
    by (Some live) there None is = absurd is
    by (Some live) there (Some w) is =
        let numbered : IsNumbered live = lanes_numbered p stands.base.reached name live there in
        let are : AreCuts live.cuts = cuts_ascend p stands.base.reached name live there s.base.primaries stands.base.primaries in
        ap shard_or_none (position-image (same_range range) (λ (lane : LaneState). lane.range) w.lanes
        ∙ ap (λ lanes. position (same_range range) (map (λ (lane : LaneState). lane.range) lanes)) is.lanes
        ∙ ap (position (same_range range)) (ranges_told live numbered are)
        ∙ place-counted live.cuts are range)
        ∙ either (nat_lt (place_of_range live.cuts range) (shard_count live.cuts)) (place_of_range live.cuts range)
