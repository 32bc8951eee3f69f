-- A shard's range holds the keys that the bounds give it.
use Rattle.std.proofs.Common.{◌≡◌, ℕ, zero, suc, ◌+◌, ◌<◌, ◌≤◌, Bool, true, false, ◌&&◌, ◌||◌, cond, eqb, nat_le, nat_lt, [], ◌∷◌, length, min, slice_get, Some, refl, sym, ap, ◌∙◌, arith}
use Rattle.std.proofs.lemmas.Bool.{and_parts, and_right, eq-eqb, eqb-false, eqb-true, le-leb, le-ltb, leb-true, leb-false, lt-ltb, ltb-true, ne_eqb}
use Rattle.std.proofs.lemmas.List.Sums.{count_by-le-length}
use Rattle.std.proofs.lemmas.List.Recursion.{is_count_by}
use Rattle.std.specs.List.{count_by}
use Rattle.mt_names.specs.Shards.{AreCuts, Bound, Cuts, KeyRange, ascend_from, bound_value, holds, is_bound, is_open, ranges_from, ranges_of, shard_of}

-- how many bounds are not above a key
abbrev pub passed : Cuts → ℕ → ℕ
passed [] key = 0
passed (cut ∷ cuts) key = cond (nat_le (bound_value cut) key) (1 + passed cuts key) (passed cuts key)

counted : (key : ℕ) (cuts : Cuts) → passed cuts key ≡ count_by (λ cut. nat_le (bound_value cut) key) cuts
counted key cuts = is_count_by (λ (cs : Cuts). passed cs key) (λ (cut : Bound). nat_le (bound_value cut) key) refl (λ cut more. refl) cuts

-- the parts of what ascends
pub ascend_parts : (low : ℕ) (cut : Bound) (cuts : Cuts) → ascend_from low (cut ∷ cuts) ≡ true → (is_bound cut ≡ true) × (nat_lt low (bound_value cut) ≡ true) × (ascend_from (bound_value cut) cuts ≡ true)
ascend_parts low cut cuts up =
    let both = and_parts (is_bound cut && nat_lt low (bound_value cut)) (ascend_from (bound_value cut) cuts) up in
    let first = and_parts (is_bound cut) (nat_lt low (bound_value cut)) both.0 in
    (first.0, first.1, both.1)

ascends : (low : ℕ) (cut : Bound) (cuts : Cuts) → ascend_from low (cut ∷ cuts) ≡ true → (nat_lt low (bound_value cut) ≡ true) × (ascend_from (bound_value cut) cuts ≡ true)
ascends low cut cuts up = let parts = ascend_parts low cut cuts up in (parts.1, parts.2)

-- a key that isn't above the first of them has passed none
none-passed : (low : ℕ) (cuts : Cuts) (key : ℕ) → ascend_from low cuts ≡ true → key ≤ low → passed cuts key ≡ 0
none-passed low [] key up below = refl
none-passed low (cut ∷ cuts) key up below =
    let both = ascends low cut cuts up in
    let more = ltb-true low (bound_value cut) both.0 in
    ap (λ b. cond b (1 + passed cuts key) (passed cuts key)) (not_le (bound_value cut) key (omega (arith, more, below)))
    ∙ none-passed (bound_value cut) cuts key both.1 (omega (arith, more, below))
  where
    not_le : (a b : ℕ) → b < a → nat_le a b ≡ false
    not_le a b l = by (nat_le a b) refl
      where
        by : (t : Bool) → nat_le a b ≡ t → nat_le a b ≡ false
        by true e = let h = leb-true a b e in absurd (omega (arith, h, l))
        by false e = e

same-suc : (a b : ℕ) → eqb (1 + a) (suc b) ≡ eqb a b
same-suc a b = by (eqb a b) refl
  where
    by : (t : Bool) → eqb a b ≡ t → eqb (1 + a) (suc b) ≡ eqb a b
    by true e = let h = eqb-true a b e in eq-eqb (1 + a) (suc b) (omega (arith, h)) ∙ sym e
    by false e = let h = eqb-false a b e in ne_eqb (1 + a) (suc b) (λ g. h (omega (arith, g))) ∙ sym e

open-low : (start : Bound) (key : ℕ) → (is_open start || nat_le (bound_value start) key) ≡ nat_le (bound_value start) key
open-low [] key = sym (le-leb 0 key (omega arith))
open-low (digit ∷ digits) key = refl

pub closed : (low : ℕ) (cut : Bound) → low < bound_value cut → is_open cut ≡ false
closed low [] less = absurd (omega (arith, less))
closed low (digit ∷ digits) less = refl

-- in each range from a start on stand the keys from that start on that have passed as many bounds
pub held : (start : Bound) (cuts : Cuts) → ascend_from (bound_value start) cuts ≡ true → (n : ℕ) (range : KeyRange) → slice_get (ranges_from start cuts) n ≡ Some range
    → (key : ℕ) → holds range key ≡ (nat_le (bound_value start) key && eqb (passed cuts key) n)
held start [] up zero range e key =
    let is : range ≡ record { start = start; end = [] } = cc in
    ap (λ r. holds r key) is ∙ ap (λ b. b && true) (open-low start key)
held start [] up (suc zero) range e key = absurd cc
held start [] up (suc (suc n)) range e key = absurd cc
held start (cut ∷ cuts) up zero range e key =
    let is : range ≡ record { start = start; end = cut } = cc in
    ap (λ r. holds r key) is
    ∙ ap (λ b. b && (is_open cut || nat_lt key (bound_value cut))) (open-low start key)
    ∙ ap (λ b. nat_le (bound_value start) key && (b || nat_lt key (bound_value cut))) (closed (bound_value start) cut (ltb-true (bound_value start) (bound_value cut) both.0))
    ∙ ap (λ b. nat_le (bound_value start) key && b) (by (nat_le (bound_value cut) key) refl)
  where
    both : (nat_lt (bound_value start) (bound_value cut) ≡ true) × (ascend_from (bound_value cut) cuts ≡ true)
    both = ascends (bound_value start) cut cuts up

    by : (b : Bool) → nat_le (bound_value cut) key ≡ b → nat_lt key (bound_value cut) ≡ eqb (passed (cut ∷ cuts) key) 0
    by true e =
        let l = leb-true (bound_value cut) key e in
        le-ltb key (bound_value cut) l ∙ sym (ap (λ b. eqb (cond b (1 + passed cuts key) (passed cuts key)) 0) e ∙ ne_eqb (1 + passed cuts key) 0 (λ h. omega (arith, h)))
    by false e =
        let l = leb-false (bound_value cut) key e in
        lt-ltb key (bound_value cut) l
        ∙ sym (ap (λ b. eqb (cond b (1 + passed cuts key) (passed cuts key)) 0) e ∙ ap (λ c. eqb c 0) (none-passed (bound_value cut) cuts key both.1 (omega (arith, l))))
held start (cut ∷ cuts) up (suc n) range e key = held cut cuts both.1 n range e key ∙ by (nat_le (bound_value cut) key) refl
  where
    both : (nat_lt (bound_value start) (bound_value cut) ≡ true) × (ascend_from (bound_value cut) cuts ≡ true)
    both = ascends (bound_value start) cut cuts up

    by : (b : Bool) → nat_le (bound_value cut) key ≡ b → (nat_le (bound_value cut) key && eqb (passed cuts key) n) ≡ (nat_le (bound_value start) key && eqb (passed (cut ∷ cuts) key) (suc n))
    by true e =
        let l = leb-true (bound_value cut) key e in
        let m = ltb-true (bound_value start) (bound_value cut) both.0 in
        ap (λ b. b && eqb (passed cuts key) n) e
        ∙ sym (ap (λ b. b && eqb (passed (cut ∷ cuts) key) (suc n)) (le-leb (bound_value start) key (omega (arith, l, m)))
        ∙ ap (λ b. eqb (cond b (1 + passed cuts key) (passed cuts key)) (suc n)) e ∙ same-suc (passed cuts key) n)
    by false e =
        let l = leb-false (bound_value cut) key e in
        ap (λ b. b && eqb (passed cuts key) n) e
        ∙ sym (ap (λ b. nat_le (bound_value start) key && eqb (cond b (1 + passed cuts key) (passed cuts key)) (suc n)) e
        ∙ ap (λ c. nat_le (bound_value start) key && eqb c (suc n)) (none-passed (bound_value cut) cuts key both.1 (omega (arith, l)))
        ∙ ap (λ b. nat_le (bound_value start) key && b) (ne_eqb 0 (suc n) (λ h. omega (arith, h))) ∙ and_right (nat_le (bound_value start) key) false refl)

pub shard-holds : (cuts : Cuts) → AreCuts cuts → (n : ℕ) (range : KeyRange) → slice_get (ranges_of cuts) n ≡ Some range → (key : ℕ) → holds range key ≡ eqb (shard_of cuts key) n
shard-holds cuts are n range e key =
    held [] cuts are.ascend n range e key
    ∙ ap (λ b. b && eqb (passed cuts key) n) (le-leb 0 key (omega arith))
    ∙ ap (λ c. eqb c n) (counted key cuts ∙ few (count_by (λ cut. nat_le (bound_value cut) key) cuts) (let a = count_by-le-length (λ (cut : Bound). nat_le (bound_value cut) key) cuts in let b = are.few in omega (arith, a, b)))
  where
    few : (c : ℕ) → c ≤ 7 → c ≡ min 7 c
    few c le = omega (arith, le)

-- each shard below the count has a range
pub range-there : (start : Bound) (cuts : Cuts) (n : ℕ) → n < suc (length cuts) → (range : KeyRange) × (slice_get (ranges_from start cuts) n ≡ Some range)
range-there start [] zero l = (record { start = start; end = [] }, refl)
range-there start [] (suc n) l = absurd (omega (arith, l))
range-there start (cut ∷ cuts) zero l = (record { start = start; end = cut }, refl)
range-there start (cut ∷ cuts) (suc n) l = range-there cut cuts n (omega (arith, l))

-- there is one more than there are bounds
pub ranges-long : (start : Bound) (cuts : Cuts) → length (ranges_from start cuts) ≡ suc (length cuts)
ranges-long start [] = refl
ranges-long start (cut ∷ cuts) = ap suc (ranges-long cut cuts)

-- the shard of a key is among those that there are
pub shard-low : (cuts : Cuts) → AreCuts cuts → (key : ℕ) → shard_of cuts key < suc (length cuts)
shard-low cuts are key = let a = count_by-le-length (λ (cut : Bound). nat_le (bound_value cut) key) cuts in low (count_by (λ cut. nat_le (bound_value cut) key) cuts) a
  where
    low : (c : ℕ) → c ≤ length cuts → min 7 c < suc (length cuts)
    low c le = omega (arith, le)
