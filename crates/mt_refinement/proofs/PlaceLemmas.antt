-- The places of a plan: that of a step for a shard of its side, and the step and the shard of a place.
use Rattle.std.proofs.Common.{◌≡◌, ◌≢◌, ◌⊎◌, inl, inr, ℕ, zero, suc, ◌+◌, ◌-◌, ◌≤◌, ◌<◌, Bool, true, false, cond, eqb, leb, min, ltb, lt-ltb, ◌&&◌, List, refl, sym, ap, ◌∙◌, subst, arith, eqb-true, le-leb, true≢false}
use Rattle.std.proofs.lemmas.Bool.{and_from, and_parts, eq-eqb, eqb-false, false_from_ne_true, leb-false, leb-true, ltb-true}
use Rattle.std.specs.Cmp.{both_ways}
use Rattle.mt_laws.proofs.EffectLemmas.{place-ge}
use Rattle.mt_laws.proofs.WayStepLemmas.{OneOn, fewer, first-le, more, one_on, repeated-ge}
use Rattle.mt_plain.proofs.PlaceLemmas.{step-behind, step-first}
use Rattle.mt_plain.specs.Events.{Way}
use Rattle.mt_plain.specs.Plain.{Live, first_step, last_step, next_place, next_step, place_of_refresh, refresh_source, refresh_target, repeated_step, shard_at_place, stands_done, stands_done_at, step_at_place}
use Rattle.mt_plain.specs.Serve.{owned_before, step_of_list}
use Rattle.mt_stands.specs.Ways.{lists_of}

-- how many shards the side of a refresh has: the target those of the plan, the source one
abbrev pub shards_at : Way → (step : ℕ) → ℕ
shards_at way step = cond (eqb step (repeated_step way)) way.shards 1

-- ---- the place of a step

differs : (n m : ℕ) → n ≢ m → eqb n m ≡ false
differs n m ne = false_from_ne_true (eqb n m) (λ t. ne (eqb-true n m t))

place_early : (way : Way) (step shard : ℕ) → step < repeated_step way → place_of_refresh way step shard ≡ step
place_early way step shard lt =
    let le : leb step (repeated_step way) ≡ true = le-leb step (repeated_step way) (omega arith) in
    let other : eqb step (repeated_step way) ≡ false = differs step (repeated_step way) (λ e. omega arith) in
    ap (λ n. n + cond (eqb step (repeated_step way)) (min shard (way.shards - 1)) 0) (ap (λ b. cond b step (step + (way.shards - 1))) le)
    ∙ ap (λ b. step + cond b (min shard (way.shards - 1)) 0) other ∙ omega arith

place_repeated : (way : Way) (step shard : ℕ) → step ≡ repeated_step way → shard ≤ way.shards - 1 → place_of_refresh way step shard ≡ step + shard
place_repeated way step shard is few =
    let le : leb step (repeated_step way) ≡ true = le-leb step (repeated_step way) (omega arith) in
    let same : eqb step (repeated_step way) ≡ true = eq-eqb step (repeated_step way) is in
    ap (λ n. n + cond (eqb step (repeated_step way)) (min shard (way.shards - 1)) 0) (ap (λ b. cond b step (step + (way.shards - 1))) le)
    ∙ ap (λ b. step + cond b (min shard (way.shards - 1)) 0) same ∙ omega arith

place_late : (way : Way) (step shard : ℕ) → repeated_step way < step → place_of_refresh way step shard ≡ step + (way.shards - 1)
place_late way step shard lt =
    let le : leb step (repeated_step way) ≡ false = false_from_ne_true (leb step (repeated_step way)) (λ t. let h = leb-true step (repeated_step way) t in absurd (omega arith)) in
    let other : eqb step (repeated_step way) ≡ false = differs step (repeated_step way) (λ e. omega arith) in
    ap (λ n. n + cond (eqb step (repeated_step way)) (min shard (way.shards - 1)) 0) (ap (λ b. cond b step (step + (way.shards - 1))) le)
    ∙ ap (λ b. step + (way.shards - 1) + cond b (min shard (way.shards - 1)) 0) other ∙ omega arith

-- ---- the step and the shard of a place

pub shard_once : (way : Way) (place n : ℕ) → step_at_place way place ≡ n → n ≢ repeated_step way → shard_at_place way place ≡ 0
shard_once way place n is other =
    ap (λ m. cond {A = ℕ} (eqb m (repeated_step way)) (place - repeated_step way) 0) is ∙ ap (λ b. cond {A = ℕ} b (place - repeated_step way) 0) (differs n (repeated_step way) other)

shard_repeated : (way : Way) (place n : ℕ) → step_at_place way place ≡ n → n ≡ repeated_step way → shard_at_place way place ≡ place - repeated_step way
shard_repeated way place n is same =
    ap (λ m. cond {A = ℕ} (eqb m (repeated_step way)) (place - repeated_step way) 0) is ∙ ap (λ b. cond {A = ℕ} b (place - repeated_step way) 0) (eq-eqb n (repeated_step way) same)

-- it comes before the step that is repeated, is one of its places, or comes behind them
abbrev Early : Way → ℕ → Type 0
Early way place = (place < repeated_step way) × (step_at_place way place ≡ place) × (shard_at_place way place ≡ 0)

abbrev Repeated : Way → ℕ → Type 0
Repeated way place =
    (repeated_step way ≤ place) × (place ≤ repeated_step way + (way.shards - 1)) × (step_at_place way place ≡ repeated_step way) × (shard_at_place way place ≡ place - repeated_step way)

abbrev Late : Way → ℕ → Type 0
Late way place = (repeated_step way + (way.shards - 1) < place) × (step_at_place way place ≡ place - (way.shards - 1)) × (shard_at_place way place ≡ 0)

abbrev Lies : Way → ℕ → Type 0
Lies way place = Early way place ⊎ Repeated way place ⊎ Late way place

lies : (way : Way) (place : ℕ) → Lies way place
lies way place = by (leb (repeated_step way) place) refl (leb place (repeated_step way + (way.shards - 1))) refl
  where
    by : (a : Bool) → leb (repeated_step way) place ≡ a → (b : Bool) → leb place (repeated_step way + (way.shards - 1)) ≡ b → Lies way place
    by false s b t =
        let lt : place < repeated_step way = leb-false (repeated_step way) place s in
        let is = step-first way place (omega arith) in
        inl (lt, is, shard_once way place place is (λ e. omega arith))
    by true s true t =
        let ge = leb-true (repeated_step way) place s in
        let le = leb-true place (repeated_step way + (way.shards - 1)) t in
        let far = step-behind way place ge in
        let is : step_at_place way place ≡ repeated_step way = omega arith in
        inr (inl (ge, le, is, shard_repeated way place (repeated_step way) is refl))
    by true s false t =
        let ge = leb-true (repeated_step way) place s in
        let lt : repeated_step way + (way.shards - 1) < place = leb-false place (repeated_step way + (way.shards - 1)) t in
        let far = step-behind way place ge in
        let is : step_at_place way place ≡ place - (way.shards - 1) = omega arith in
        inr (inr (lt, is, shard_once way place (place - (way.shards - 1)) is (λ e. omega arith)))

-- its step has that place for its shard
pub place_back : (way : Way) (place : ℕ) → place_of_refresh way (step_at_place way place) (shard_at_place way place) ≡ place
place_back way place = by (lies way place)
  where
    at : (step shard : ℕ) → step_at_place way place ≡ step → shard_at_place way place ≡ shard → place_of_refresh way step shard ≡ place
        → place_of_refresh way (step_at_place way place) (shard_at_place way place) ≡ place
    at step shard s n is = ap (λ m. place_of_refresh way m (shard_at_place way place)) s ∙ ap (place_of_refresh way step) n ∙ is

    by : Lies way place → place_of_refresh way (step_at_place way place) (shard_at_place way place) ≡ place
    by (inl (lt, s, n)) = at place 0 s n (place_early way place 0 lt)
    by (inr (inl (ge, le, s, n))) =
        at (repeated_step way) (place - repeated_step way) s n (place_repeated way (repeated_step way) (place - repeated_step way) refl (omega (arith, ge, le)) ∙ omega (arith, ge, le))
    by (inr (inr (lt, s, n))) =
        at (place - (way.shards - 1)) 0 s n (place_late way (place - (way.shards - 1)) 0 (omega (arith, lt)) ∙ omega (arith, lt))

-- and its shard is one of the step's side
pub shard_below : (way : Way) (place : ℕ) → 1 ≤ way.shards → shard_at_place way place < shards_at way (step_at_place way place)
shard_below way place some = by (lies way place)
  where
    at : (step shard : ℕ) → step_at_place way place ≡ step → shard_at_place way place ≡ shard → (b : Bool) → eqb step (repeated_step way) ≡ b → shard < cond b way.shards 1
        → shard_at_place way place < shards_at way (step_at_place way place)
    at step shard s n b e lt =
        subst (λ m. shard_at_place way place < shards_at way m) (sym s)
        (subst (λ c. shard_at_place way place < cond c way.shards 1) (sym e) (subst (λ m. m < cond b way.shards 1) (sym n) lt))

    by : Lies way place → shard_at_place way place < shards_at way (step_at_place way place)
    by (inl (lt, s, n)) = at place 0 s n false (differs place (repeated_step way) (λ e. omega (arith, lt, e))) (omega arith)
    by (inr (inl (ge, le, s, n))) = at (repeated_step way) (place - repeated_step way) s n true (eq-eqb (repeated_step way) (repeated_step way) refl) (omega (arith, ge, le, some))
    by (inr (inr (lt, s, n))) =
        at (place - (way.shards - 1)) 0 s n false (differs (place - (way.shards - 1)) (repeated_step way) (λ e. omega (arith, lt, e))) (omega arith)

lt_of_ne : (n m : ℕ) → n ≤ m → n ≢ m → n < m
lt_of_ne n m le ne = by (eqb n m) refl
  where
    by : (b : Bool) → eqb n m ≡ b → n < m
    by true e = absurd (ne (eqb-true n m e))
    by false e = omega (arith, le, eqb-false n m e)

-- at the place of a step for a shard of its side are that step and that shard
pub place_is : (way : Way) (step shard : ℕ) → shard < shards_at way step
    → (step_at_place way (place_of_refresh way step shard) ≡ step) × (shard_at_place way (place_of_refresh way step shard) ≡ shard)
place_is way step shard within = by (eqb step (repeated_step way)) refl (leb step (repeated_step way)) refl
  where
    bound : (b : Bool) → eqb step (repeated_step way) ≡ b → shard < cond b way.shards 1
    bound b e = subst (λ c. shard < cond c way.shards 1) e within

    by : (b : Bool) → eqb step (repeated_step way) ≡ b → (l : Bool) → leb step (repeated_step way) ≡ l
        → (step_at_place way (place_of_refresh way step shard) ≡ step) × (shard_at_place way (place_of_refresh way step shard) ≡ shard)
    by true e l t =
        let same : step ≡ repeated_step way = eqb-true step (repeated_step way) e in
        let few : shard < way.shards = bound true e in
        let place : place_of_refresh way step shard ≡ step + shard = place_repeated way step shard same (omega arith) in
        let far = step-behind way (step + shard) (omega arith) in
        let is : step_at_place way (step + shard) ≡ step = omega arith in
        subst (λ m. (step_at_place way m ≡ step) × (shard_at_place way m ≡ shard)) (sym place) (is, shard_repeated way (step + shard) step is same ∙ omega arith)
    by false e true t =
        let le = leb-true step (repeated_step way) t in
        let lt : step < repeated_step way = below le in
        let none : shard < 1 = bound false e in
        let is = step-first way step (omega arith) in
        subst (λ m. (step_at_place way m ≡ step) × (shard_at_place way m ≡ shard)) (sym (place_early way step shard lt))
        (is, shard_once way step step is other ∙ omega arith)
      where
        other : step ≢ repeated_step way
        other s = true≢false (sym (eq-eqb step (repeated_step way) s) ∙ e)

        below : step ≤ repeated_step way → step < repeated_step way
        below le = lt_of_ne step (repeated_step way) le other
    by false e false t =
        let gt : repeated_step way < step = leb-false step (repeated_step way) t in
        let none : shard < 1 = bound false e in
        let far = step-behind way (step + (way.shards - 1)) (omega arith) in
        let is : step_at_place way (step + (way.shards - 1)) ≡ step = omega arith in
        subst (λ m. (step_at_place way m ≡ step) × (shard_at_place way m ≡ shard)) (sym (place_late way step shard gt))
        (is, shard_once way (step + (way.shards - 1)) step is (λ s. omega arith) ∙ omega arith)

-- so a place is that of a step for a shard of its side just where it has that step and that shard
pub at_place : (way : Way) (place step shard : ℕ) → shard < shards_at way step
    → eqb place (place_of_refresh way step shard) ≡ (eqb (step_at_place way place) step && eqb (shard_at_place way place) shard)
at_place way place step shard within =
    both_ways (eqb place (place_of_refresh way step shard)) (eqb (step_at_place way place) step && eqb (shard_at_place way place) shard)
    (λ t.
    let same = eqb-true place (place_of_refresh way step shard) t in
    let is = place_is way step shard within in
    and_from (eqb (step_at_place way place) step) (eqb (shard_at_place way place) shard)
    (eq-eqb (step_at_place way place) step (ap (step_at_place way) same ∙ is.0)) (eq-eqb (shard_at_place way place) shard (ap (shard_at_place way) same ∙ is.1)))
    (λ t.
    let parts = and_parts (eqb (step_at_place way place) step) (eqb (shard_at_place way place) shard) t in
    eq-eqb place (place_of_refresh way step shard)
    (sym (place_back way place) ∙ ap (λ m. place_of_refresh way m (shard_at_place way place)) (eqb-true (step_at_place way place) step parts.0)
    ∙ ap (place_of_refresh way step) (eqb-true (shard_at_place way place) shard parts.1)))

-- a place with one of the first two steps isn't behind them
pub early_place : (way : Way) (place : ℕ) → step_at_place way place < 2 → place < 2
early_place way place few = by (lies way place)
  where
    by : Lies way place → place < 2
    by (inl (lt, s, n)) = omega (arith, s, few)
    by (inr (inl (ge, le, s, n))) = let r = repeated-ge way in absurd (omega (arith, s, few, r))
    by (inr (inr (lt, s, n))) = let r = repeated-ge way in absurd (omega (arith, lt, s, few, r))

-- ---- the place of an own list's refresh

pub step-ge : (b : Bool) → 2 ≤ cond {A = ℕ} b refresh_source refresh_target
step-ge true = omega arith
step-ge false = omega arith

pub at_list : (live : Live) (way : Way) (place : ℕ) (keyspace : List ℕ) (shard : ℕ) → (shard < shards_at way (step_of_list live keyspace)) ⊎ (step_at_place way place < 2)
    → eqb place (place_of_refresh way (step_of_list live keyspace) shard) ≡ (eqb (step_at_place way place) (step_of_list live keyspace) && eqb (shard_at_place way place) shard)
at_list live way place keyspace shard (inl within) = at_place way place (step_of_list live keyspace) shard within
at_list live way place keyspace shard (inr few) =
    let low = early_place way place few in
    let ge = step-ge (owned_before live keyspace) in
    let far = place-ge way (step_of_list live keyspace) shard ge in
    differs place (place_of_refresh way (step_of_list live keyspace) shard) (λ e. omega arith)
    ∙ sym (ap (λ b. b && eqb (shard_at_place way place) shard) (differs (step_at_place way place) (step_of_list live keyspace) (λ e. omega arith)))

-- ---- the place that was done last

-- the step there is just before the next one, or it is the one that is repeated and the next one too, or no place stands done
pub last_on : (way : Way) → (next_place way ≡ 0) ⊎ OneOn (next_step way) (last_step way) (repeated_step way)
last_on way = by (next_place way) refl
  where
    by : (n : ℕ) → next_place way ≡ n → (next_place way ≡ 0) ⊎ OneOn (next_step way) (last_step way) (repeated_step way)
    by zero e = inl e
    by (suc n) e =
        let k : next_place way - 1 ≡ n = omega arith in
        inr (subst (λ m. OneOn (next_step way) (step_at_place way m) (repeated_step way)) (sym k)
        (subst (λ m. OneOn (step_at_place way m) (step_at_place way n) (repeated_step way)) (sym e) (one_on way n)))

pub repeated_either : (way : Way) → (repeated_step way ≡ refresh_source) ⊎ (repeated_step way ≡ refresh_target)
repeated_either way = by way.back
  where
    by : (b : Bool) → (cond {A = ℕ} b refresh_source refresh_target ≡ refresh_source) ⊎ (cond {A = ℕ} b refresh_source refresh_target ≡ refresh_target)
    by true = inl refl
    by false = inr refl

-- with one place less done the step there is next
pub last_fewer : (way : Way) → eqb way.done 0 ≡ false → next_step (fewer way) ≡ last_step way
last_fewer way some =
    let ne : way.done ≢ 0 = eqb-false way.done 0 some in
    let e : first_step way + (way.done - 1) ≡ next_place way - 1 = omega (arith, ne) in
    ap (step_at_place way) e

-- it stands done, unless it is the one that is repeated
pub last_stands : (way : Way) → eqb way.done 0 ≡ false → last_step way ≢ repeated_step way → stands_done way (last_step way) ≡ true
last_stands way some other = by (last_on way)
  where
    le : first_step way ≤ last_step way
    le = subst (λ n. first_step way ≤ n) (last_fewer way some) (first-le (fewer way))

    by : (next_place way ≡ 0) ⊎ OneOn (next_step way) (last_step way) (repeated_step way) → stands_done way (last_step way) ≡ true
    by (inl none) = let ne : way.done ≢ 0 = eqb-false way.done 0 some in absurd (omega (arith, none, ne))
    by (inr (inl e)) = and_from (leb (first_step way) (last_step way)) (ltb (last_step way) (next_step way)) (le-leb (first_step way) (last_step way) le) (lt-ltb (last_step way) (next_step way) (omega (arith, e)))
    by (inr (inr e)) = absurd (other e.1)

-- ---- the refreshes of the old owner's primaries

-- the first refresh has as many places as the old owner has primaries
pub first_shards : (way : Way) → shards_at way refresh_source ≡ lists_of way
first_shards way = by way.back
  where
    by : (b : Bool) → cond {A = ℕ} (eqb refresh_source (cond {A = ℕ} b refresh_source refresh_target)) way.shards 1 ≡ cond b way.shards 1
    by true = refl
    by false = refl

-- one that is not at the next place stood done if it does with one place more done
pub before_at : (way : Way) (shard : ℕ) → shard < lists_of way → (eqb (next_step way) refresh_source && eqb (shard_at_place way (next_place way)) shard) ≡ false
    → stands_done_at (more way) refresh_source shard ≡ true → stands_done_at way refresh_source shard ≡ true
before_at way shard below other now =
    let lt = ltb-true (place_of_refresh way refresh_source shard) (next_place (more way)) now in
    let ne : next_place way ≢ place_of_refresh way refresh_source shard
    = eqb-false (next_place way) (place_of_refresh way refresh_source shard) (at_place way (next_place way) refresh_source shard (subst (λ c. shard < c) (sym (first_shards way)) below) ∙ other) in
    lt-ltb (place_of_refresh way refresh_source shard) (next_place way) (omega (arith, lt, ne))

-- and one that stands done with one place less done is not at the last place
pub not_last : (way : Way) (shard : ℕ) → way.done ≢ 0 → shard < lists_of way → stands_done_at (fewer way) refresh_source shard ≡ true
    → (eqb (last_step way) refresh_source && eqb (shard_at_place way (next_place way - 1)) shard) ≡ false
not_last way shard some below now =
    let lt = ltb-true (place_of_refresh way refresh_source shard) (next_place (fewer way)) now in
    sym (at_place way (next_place way - 1) refresh_source shard (subst (λ c. shard < c) (sym (first_shards way)) below))
    ∙ differs (next_place way - 1) (place_of_refresh way refresh_source shard) (λ e. absurd (omega (arith, lt, e, some)))

-- where the last place is one of them, it is for a primary that the old owner has, and stands done
pub last_refresh : (way : Way) → 1 ≤ way.shards → eqb way.done 0 ≡ false → last_step way ≡ refresh_source
    → (shard_at_place way (next_place way - 1) < lists_of way) × (stands_done_at way refresh_source (shard_at_place way (next_place way - 1)) ≡ true)
last_refresh way some done last =
    let ne : way.done ≢ 0 = eqb-false way.done 0 done in
    let place = ap (λ n. place_of_refresh way n (shard_at_place way (next_place way - 1))) (sym last) ∙ place_back way (next_place way - 1) in (
      subst (λ c. shard_at_place way (next_place way - 1) < c) (first_shards way)
          (subst (λ n. shard_at_place way (next_place way - 1) < shards_at way n) last (shard_below way (next_place way - 1) some)),
      lt-ltb (place_of_refresh way refresh_source (shard_at_place way (next_place way - 1))) (next_place way) (omega (arith, ne, place)),
    )
