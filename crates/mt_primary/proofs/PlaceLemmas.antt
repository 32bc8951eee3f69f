-- What stands at the place of a keyspace is what it has, and what is written there is written at the keyspace.
use Rattle.std.proofs.Common.{◌≡◌, ◌≢◌, ℕ, zero, suc, ◌-◌, ◌<◌, List, [], ◌∷◌, ◌++◌, length, get_or, set, take, drop, slice_get, position, MatchOption, Option, Some, None, false, refl, sym, ap, ap₂, ◌∙◌, subst, arith, append-nil, drop_of_length-le, length-append, length-drop, length-set, length-take, zip, unwrap_or}
use Rattle.std.proofs.lemmas.List.{get_or-append_right, get_or_append_left, length_push, set-append_left, set-append_right, set_comm, take_all}
use Rattle.std.proofs.lemmas.Map.Entries.{length-keys_of, length-values_of}
use Rattle.std.proofs.lemmas.Map.{keys-set_value}
use Rattle.std.proofs.lemmas.Map.Made.{keys_of-zip}
use Rattle.std.proofs.lemmas.Option.{get_or_from_slice_get, slice_get-get_or}
use Rattle.std.specs.List.{AllByRecursion, IsDistinct}
use Rattle.std.specs.Map.{keys_of, values_of}
use Rattle.indexmap.proofs.MapLemmas.{Missing-position}
use Rattle.indexmap.proofs.ReorderLemmas.{zip-take, zip_of_parts, zip_push}
use Rattle.indexmap.specs.IndexMap.{set_value_at}
use Rattle.mt_names.proofs.EntryLemmas.{IsDistinct-push, absent_from_lookup, none_from}
use Rattle.mt_names.proofs.SameLemmas.{same_text_decides}
use Rattle.mt_names.specs.Names.{same_text}
use Rattle.mt_primary.proofs.PlacedLemmas.{found-at, lookup-at, set_value-at}
use Rattle.mt_primary.proofs.PrimariesLemmas.{cuts-with_shards}
use Rattle.mt_primary.specs.Primary.{PrimaryState}
use Rattle.mt_primary.specs.Kept.{AreKept}
use Rattle.mt_primary.specs.Places.{AreSides, IsAt, keyspace_at, shards_in, with_each, with_one, with_places, with_sides, with_state, with_two, written_over}
use Rattle.mt_primary.specs.Primaries.{Primaries, ShardsState, has_primaries, no_shards, shards_at, shards_of, with_primary, with_shards}

-- ---- what is written over others

-- as many are just those
pub written_over-same : {A : Type 0} (old new : List A) → length new ≡ length old → written_over old new ≡ new
written_over-same old new long =
    ap (λ l. take (length old) (new ++ l)) (drop_of_length-le old (omega (arith, long)))
    ∙ ap (take (length old)) (append-nil new)
    ∙ take_all (length old) new (omega (arith, long))

pub with_each-same : (shards : ShardsState) (each : List PrimaryState) → length each ≡ length shards.each → with_each shards each ≡ record { cuts = shards.cuts; each = each }
with_each-same shards each long = ap (λ l. record { cuts = shards.cuts; each = l }) (written_over-same shards.each each long)

pub with_state-each : (ps : Primaries) (k : List ℕ) (each : List PrimaryState) → length each ≡ length (shards_of ps k).each
    → with_state ps k (with_each (shards_of ps k) each) ≡ with_shards ps k each
with_state-each ps k each long = ap (with_state ps k) (with_each-same (shards_of ps k) each long)

-- whatever is written, they stay as many
pub length-written_over : {A : Type 0} (old new : List A) → length (written_over old new) ≡ length old
length-written_over {A = A} old new =
    let a = length-take (length old) (new ++ drop (length new) old) in
    let b = length-append new (drop (length new) old) in
    omega (arith, a, b, length-drop {A = A})

-- ---- where a keyspace stands

pub at_keyspace : (ps : Primaries) (place : ℕ) → place < length ps → IsAt ps (keyspace_at ps place) place
at_keyspace ps place within = slice_get-get_or (keys_of ps) place [] (let l = length-keys_of ps in omega (arith, l, within))

pub keyspace_at-is : (ps : Primaries) (k : List ℕ) (place : ℕ) → IsAt ps k place → keyspace_at ps place ≡ k
keyspace_at-is ps k place at = get_or_from_slice_get (keys_of ps) place k [] at

below-get : {A : Type 0} (xs : List A) (i : ℕ) (x : A) → slice_get xs i ≡ Some x → i < length xs
below-get [] i x is = absurd cc
below-get (y ∷ xs) zero x is = omega arith
below-get (y ∷ xs) (suc i) x is = let below = below-get xs i x is in omega (arith, below)

pub at_within : (ps : Primaries) (k : List ℕ) (place : ℕ) → IsAt ps k place → place < length ps
at_within ps k place at = let below = below-get (keys_of ps) place k at in let l = length-keys_of ps in omega (arith, l, below)

-- ---- names and shards beside one another

values_of-zip : {K V : Type 0} (ks : List K) (vs : List V) → length vs ≡ length ks → values_of (zip ks vs) ≡ vs
values_of-zip [] [] long = refl
values_of-zip [] (v ∷ vs) long = absurd (omega (arith, long))
values_of-zip (k ∷ ks) [] long = absurd (omega (arith, long))
values_of-zip (k ∷ ks) (v ∷ vs) long = ap (λ l. v ∷ l) (values_of-zip ks vs (omega (arith, long)))

zip-set : {K V : Type 0} (ks : List K) (vs : List V) (i : ℕ) (v : V) → zip ks (set vs i v) ≡ set_value_at (zip ks vs) i v
zip-set [] vs i v = refl
zip-set (k ∷ ks) [] i v = refl
zip-set (k ∷ ks) (x ∷ vs) zero v = refl
zip-set (k ∷ ks) (x ∷ vs) (suc i) v = ap (λ l. (k, x) ∷ l) (zip-set ks vs i v)

pub keys_of-take : {K V : Type 0} (n : ℕ) (es : List (K × V)) → keys_of (take n es) ≡ take n (keys_of es)
keys_of-take zero es = refl
keys_of-take (suc n) [] = refl
keys_of-take (suc n) (e ∷ es) = ap (λ l. e.0 ∷ l) (keys_of-take n es)

pub keys_of-push : {K V : Type 0} (es : List (K × V)) (k : K) (v : V) → keys_of (es ++ (k, v) ∷ []) ≡ keys_of es ++ k ∷ []
keys_of-push [] k v = refl
keys_of-push (e ∷ es) k v = ap (λ l. e.0 ∷ l) (keys_of-push es k v)

-- the primaries, as they are kept
module _ (ps : Primaries) (names : List (List ℕ)) (shards : List ShardsState) (view : zip names shards ≡ ps) (kept : AreKept names shards) where
  pub kept_names : keys_of ps ≡ names
  kept_names = ap keys_of (sym view) ∙ keys_of-zip names shards kept.long

  pub kept_shards : values_of ps ≡ shards
  kept_shards = ap values_of (sym view) ∙ values_of-zip names shards kept.long

  pub kept_distinct : IsDistinct same_text (keys_of ps)
  kept_distinct = subst (IsDistinct same_text) (sym kept_names) kept.distinct

  pub kept_length : length ps ≡ length shards
  kept_length = sym (length-values_of ps) ∙ ap length kept_shards

  -- a place among the keyspaces is one among the shards
  pub kept_within : (place n : ℕ) → n ≡ length shards → place < length ps → place < n
  kept_within place n long within = let l = kept_length in omega (arith, l, long, within)

  -- where a name is found, the keyspace stands
  pub kept_found : (k : List ℕ) (r : Option ℕ) → r ≡ position (same_text k) names → MatchOption r (shards_at ps k ≡ None) (λ place. IsAt ps k place)
  kept_found k (Some place) is = found-at (keys_of ps) k place (ap (position (same_text k)) kept_names ∙ sym is)
  kept_found k None is = (Missing-position (same_text k) ps (ap (position (same_text k)) kept_names ∙ sym is)).value

  pub kept_at : (k : List ℕ) (place : ℕ) → slice_get names place ≡ Some k → IsAt ps k place
  kept_at k place is = ap (λ l. slice_get l place) kept_names ∙ is

  -- what stands at a place, with the shards that are read there
  module _ (place : ℕ) (here : ShardsState) (is : here ≡ get_or shards place here) (within : place < length ps) where
    pub kept_here : (k : List ℕ) → IsAt ps k place → shards_at ps k ≡ Some here
    kept_here k at =
        lookup-at same_text same_text_decides ps place k here kept_distinct at
        (ap (λ l. slice_get l place) kept_shards ∙ slice_get-get_or shards place here (kept_within place (length shards) refl within) ∙ ap Some (sym is))

    pub kept_of : (k : List ℕ) → IsAt ps k place → shards_of ps k ≡ here
    kept_of k at = ap (λ o. unwrap_or o no_shards) (kept_here k at)

    pub kept_there : shards_of ps (keyspace_at ps place) ≡ here
    kept_there = kept_of (keyspace_at ps place) (at_keyspace ps place within)

    pub kept_set : (put : ShardsState) → zip names (set shards place put) ≡ with_state ps (keyspace_at ps place) put
    kept_set put =
        zip-set names shards place put ∙ ap (λ es. set_value_at es place put) view
        ∙ set_value-at same_text same_text_decides ps place (keyspace_at ps place) put kept_distinct (at_keyspace ps place within)

    pub kept_set_one : (shard : ℕ) (p : PrimaryState) → zip names (set shards place (with_one here shard p)) ≡ with_primary ps (keyspace_at ps place) shard p
    kept_set_one shard p = kept_set (with_one here shard p) ∙ ap (λ s. with_state ps (keyspace_at ps place) (with_one s shard p)) (sym kept_there)

    pub kept_set_each : (each : List PrimaryState)
        → zip names (set shards place (with_each here each)) ≡ with_state ps (keyspace_at ps place) (with_each (shards_of ps (keyspace_at ps place)) each)
    kept_set_each each = kept_set (with_each here each) ∙ ap (λ s. with_state ps (keyspace_at ps place) (with_each s each)) (sym kept_there)

  -- and all of them
  pub kept_places : (n : ℕ) (w : List ShardsState) → n ≡ length shards → zip names (take n (w ++ drop (length w) shards)) ≡ with_places ps w
  kept_places n w long =
      ap (λ m. zip names (take m (w ++ drop (length w) shards))) long
      ∙ ap₂ (λ ks vs. zip ks (written_over vs w)) (sym kept_names) (sym kept_shards)

  pub kept_take : (n : ℕ) → zip (take n names) (take n shards) ≡ take n ps
  kept_take n = zip-take n names shards ∙ ap (take n) view

  -- a keyspace that isn't there, and is added
  module _ (k : List ℕ) (put : ShardsState) (absent : has_primaries ps k ≡ false) where
    -- its name isn't among those that are kept
    pub kept_lacks : AllByRecursion (λ j. same_text k j ≡ false) names
    kept_lacks = subst (AllByRecursion (λ j. same_text k j ≡ false)) kept_names (absent_from_lookup same_text same_text_decides ps k (none_from (shards_at ps k) absent))

    pub kept_push : zip (names ++ k ∷ []) (shards ++ put ∷ []) ≡ ps ++ (k, put) ∷ []
    kept_push = zip_push names shards k put kept.long ∙ ap (λ l. l ++ (k, put) ∷ []) view

    pub kept_more : AreKept (names ++ k ∷ []) (shards ++ put ∷ [])
    kept_more = record {
      long = let a = length_push shards put in let b = length_push names k in let c = kept.long in omega (arith, a, b, c);
      distinct =
          subst (IsDistinct same_text) (keys_of-push ps k put ∙ ap (λ l. l ++ k ∷ []) kept_names)
          (IsDistinct-push same_text same_text_decides ps k put (none_from (shards_at ps k) absent) kept_distinct);
    }

-- ---- two places

-- of a list that is cut before the one behind
module _ {A : Type 0} (all before rest : List A) (high low : ℕ) (cut : all ≡ before ++ rest) (long : length before ≡ high) (under : low < high) where
  pub set-low_high : (x y : A) → set before low x ++ set rest 0 y ≡ with_two all low high x y
  set-low_high x y =
      let here : low < length before = subst (λ n. low < n) (sym long) under in
      let none : high - high ≡ 0 = omega arith in
      sym (ap (λ l. with_two l low high x y) cut
      ∙ ap (λ l. set l high y) (set-append_left before rest low x here)
      ∙ set-append_right (set before low x) rest high high y (length-set before low x ∙ long) (omega arith)
      ∙ ap (λ n. set before low x ++ set rest n y) none)

  pub set-high_low : (x y : A) → set before low y ++ set rest 0 x ≡ with_two all high low x y
  set-high_low x y = set-low_high y x ∙ set_comm all low high y x (λ e. omega (arith, e, under))

  pub get-low : (x : A) → x ≡ get_or before low x → slice_get all low ≡ Some x
  get-low x is =
      let here : low < length before = subst (λ n. low < n) (sym long) under in
      let within : low < length (before ++ rest) = let l = length-append before rest in omega (arith, l, here) in
      ap (λ l. slice_get l low) cut ∙ slice_get-get_or (before ++ rest) low x within ∙ ap Some (get_or_append_left before rest x low here ∙ sym is)

  pub get-high : high < length all → (x : A) → x ≡ get_or rest 0 x → slice_get all high ≡ Some x
  get-high within x is =
      let none : high - high ≡ 0 = omega arith in
      slice_get-get_or all high x within
      ∙ ap (λ l. Some (get_or l high x)) cut
      ∙ ap Some (get_or-append_right before rest high high x long (omega arith) ∙ ap (λ n. get_or rest n x) none ∙ sym is)

-- what two keyspaces have stands at their places, and is written there
module _ (ps : Primaries) (distinct : IsDistinct same_text (keys_of ps)) (places : List ShardsState) (are : places ≡ values_of ps) where
  side_within : (k : List ℕ) (place : ℕ) → IsAt ps k place → place < length places
  side_within k place at =
      let here = at_within ps k place at in
      let long = ap length are ∙ length-values_of ps in
      omega (arith, here, long)

  side_there : (k : List ℕ) (place : ℕ) → IsAt ps k place → shards_in places place ≡ shards_of ps k
  side_there k place at =
      let here = slice_get-get_or places place no_shards (side_within k place at) in
      let found = lookup-at same_text same_text_decides ps place k (shards_in places place) distinct at (ap (λ l. slice_get l place) (sym are) ∙ here) in
      sym (ap (λ o. unwrap_or o no_shards) found)

  module _ (k j : List ℕ) (first second : ℕ) (at_k : IsAt ps k first) (at_j : IsAt ps j second) where
    two_written : (x y : ShardsState) → with_places ps (with_two places first second x y) ≡ with_state (with_state ps k x) j y
    two_written x y =
        let vs = values_of ps in
        let ks = keys_of ps in
        let long : length (with_two vs first second x y) ≡ length vs = length-set (set vs first x) second y ∙ length-set vs first x in
        ap (λ l. with_places ps (with_two l first second x y)) are
        ∙ ap (zip ks) (written_over-same vs (with_two vs first second x y) long)
        ∙ zip-set ks (set vs first x) second y
        ∙ ap (λ es. set_value_at es second y) (zip-set ks vs first x ∙ ap (λ es. set_value_at es first x) (zip_of_parts ps) ∙ set_value-at same_text same_text_decides ps first k x distinct at_k)
        ∙ set_value-at same_text same_text_decides (with_state ps k x) second j y
        (subst (IsDistinct same_text) (sym (keys-set_value (same_text k) ps x)) distinct)
        (ap (λ l. slice_get l second) (keys-set_value (same_text k) ps x) ∙ at_j)

    sides_written : (p : PrimaryState) (each : List PrimaryState) → length each ≡ length (shards_of ps j).each
        → with_places ps (with_sides places first second p each) ≡ with_shards (with_primary ps k 0 p) j each
    sides_written p each long =
        two_written (with_one (shards_in places first) 0 p) (with_each (shards_in places second) each)
        ∙ ap₂ (λ (x y : ShardsState). with_state (with_state ps k (with_one x 0 p)) j (with_each y each)) (side_there k first at_k) (side_there j second at_j)
        ∙ ap (with_state (with_primary ps k 0 p) j) (with_each-same (shards_of ps j) each long)
        ∙ ap (λ cuts. with_state (with_primary ps k 0 p) j (record { cuts = cuts; each = each })) (sym (cuts-with_shards ps k (set (shards_of ps k).each 0 p) j))

    pub are_sides : k ≢ j → AreSides ps k j places first second
    are_sides apart = record {
      first_within = side_within k first at_k;
      second_within = side_within j second at_j;
      apart = λ same. apart (sym (keyspace_at-is ps k first at_k) ∙ ap (keyspace_at ps) same ∙ keyspace_at-is ps j second at_j);
      source_there = side_there k first at_k;
      target_there = side_there j second at_j;
      written = sides_written;
    }
