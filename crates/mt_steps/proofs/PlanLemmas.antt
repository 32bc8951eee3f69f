-- The places of plans: what is done at each, and that a plan is that of its way.
use Rattle.std.proofs.Common.{◌≡◌, ℕ, zero, suc, ◌+◌, ◌-◌, ◌<◌, ◌≤◌, Bool, true, false, ◌||◌, cond, eqb, leb, min, List, [], ◌∷◌, ◌++◌, slice_get, length, map, Option, None, Some, option_map, refl, sym, ap, ◌∙◌, arith, le-leb}
use Rattle.std.proofs.lemmas.Bool.{eqb-true, eq-eqb, leb-false, leb-true}
use Rattle.std.proofs.lemmas.List.FromFn.{length-map-range_with_len}
use Rattle.std.proofs.lemmas.Option.{slice_get-map}
use Rattle.std.specs.List.{range_with_len}
use Rattle.mt_plain.specs.Events.{Way}
use Rattle.mt_plain.specs.Plain.{behind_last, changed_types, changes_primary, first_step, last_place_of, next_place, next_step, place_of_refresh, repeated_step, shard_at_place, step_at_place}
use Rattle.mt_plain.proofs.PlaceLemmas.{one-step, step-behind, step-first}
use Rattle.mt_steps.specs.declared.plan.PlannedStep.{PlannedStep}
use Rattle.mt_steps.specs.declared.step.Step.TheVariants.{SwitchReads}
use Rattle.mt_steps.specs.Plans.{later_shards, number, planned_at, plan_of, step_at, steps_of, steps_of_writes}

-- ---- what is done at a place

small : (way : Way) → (2 ≤ repeated_step way) × (repeated_step way ≤ 8)
small way = by way.back
  where
    by : (t : Bool) → (2 ≤ cond t 2 8) × (cond t 2 8 ≤ 8)
    by true = (omega arith, omega arith)
    by false = (omega arith, omega arith)

of_parts : (way : Way) (place n shard : ℕ) → step_at_place way place ≡ n → shard_at_place way place ≡ shard → planned_at way place ≡ record { step = step_at n; shard = shard }
of_parts way place n shard is for =
    ap (λ m. record { step = step_at m; shard = shard_at_place way place }) is ∙ ap (λ (s : ℕ). record { step = step_at n; shard = s }) for

-- at the refreshes of the target its shards
place-refresh : (way : Way) (place : ℕ) → repeated_step way ≤ place → place ≤ repeated_step way + (way.shards - 1)
    → planned_at way place ≡ record { step = step_at (repeated_step way); shard = place - repeated_step way }
place-refresh way place low high = of_parts way place (repeated_step way) (place - repeated_step way) is (ap (λ t. cond t (place - repeated_step way) 0) (eq-eqb (step_at_place way place) (repeated_step way) is))
  where
    is : step_at_place way place ≡ repeated_step way
    is = let e = step-behind way place low in omega arith

-- the shard of a place is one of those of the plan
pub shard-within : (way : Way) (place : ℕ) → 1 ≤ way.shards → shard_at_place way place < way.shards
shard-within way place some = by (eqb (step_at_place way place) (repeated_step way)) refl
  where
    by : (t : Bool) → eqb (step_at_place way place) (repeated_step way) ≡ t → cond t (place - repeated_step way) 0 < way.shards
    by false t = some
    by true t = here (leb place (repeated_step way)) refl
      where
        here : (u : Bool) → leb place (repeated_step way) ≡ u → place - repeated_step way < way.shards
        here true u = let low = leb-true place (repeated_step way) u in omega arith
        here false u =
            let high = leb-false place (repeated_step way) u in
            let is = step-behind way place (omega arith) in
            let same = eqb-true (step_at_place way place) (repeated_step way) t in omega arith

-- ---- a plan is that of its way

pub number-step_at : (n : ℕ) → n < 12 → number (step_at n) ≡ n
number-step_at zero below = refl
number-step_at (suc zero) below = refl
number-step_at (suc (suc zero)) below = refl
number-step_at (suc (suc (suc zero))) below = refl
number-step_at (suc (suc (suc (suc zero)))) below = refl
number-step_at (suc (suc (suc (suc (suc zero))))) below = refl
number-step_at (suc (suc (suc (suc (suc (suc zero)))))) below = refl
number-step_at (suc (suc (suc (suc (suc (suc (suc zero))))))) below = refl
number-step_at (suc (suc (suc (suc (suc (suc (suc (suc zero)))))))) below = refl
number-step_at (suc (suc (suc (suc (suc (suc (suc (suc (suc zero))))))))) below = refl
number-step_at (suc (suc (suc (suc (suc (suc (suc (suc (suc (suc zero)))))))))) below = refl
number-step_at (suc (suc (suc (suc (suc (suc (suc (suc (suc (suc (suc zero))))))))))) below = refl
number-step_at (suc (suc (suc (suc (suc (suc (suc (suc (suc (suc (suc (suc n)))))))))))) below = absurd (omega (arith, below))

range_get : (a n i x : ℕ) → slice_get (range_with_len a n) i ≡ Some x → (x ≡ a + i) × (i < n)
range_get a zero i x is = absurd cc
range_get a (suc n) zero x is = let same : a ≡ x = cc in (omega (arith, same), omega arith)
range_get a (suc n) (suc i) x is = let r = range_get (a + 1) n i x is in (omega (arith, r.0), omega (arith, r.1))

-- a place of a plan is that of a step
below : (way : Way) (place : ℕ) → place < behind_last way + later_shards way → step_at_place way place < 12
below way place lt = by (leb place (repeated_step way)) refl
  where
    most : (t : Bool) → cond {A = ℕ} t 12 1 + cond t (way.shards - 1) 0 ≤ 12 + (way.shards - 1)
    most true = omega arith
    most false = omega arith

    by : (t : Bool) → leb place (repeated_step way) ≡ t → step_at_place way place < 12
    by true t = let le = leb-true place (repeated_step way) t in let e = step-first way place le in let s = (small way).1 in omega arith
    by false t =
        let high = leb-false place (repeated_step way) t in
        let e = step-behind way place (omega arith) in
        let s = (small way).1 in
        let m = most (changes_primary way) in
        omega arith

pub plan_next : (way : Way) (place : PlannedStep) → slice_get (plan_of way) way.done ≡ Some place → (number place.step ≡ next_step way) × (place.shard ≡ shard_at_place way (next_place way))
plan_next way place is = by (slice_get numbers way.done) refl (sym (slice_get-map (planned_at way) numbers way.done) ∙ is)
  where
    numbers : List ℕ
    numbers = range_with_len (first_step way) (behind_last way + later_shards way - first_step way)

    by : (o : Option ℕ) → slice_get numbers way.done ≡ o → option_map (planned_at way) o ≡ Some place → (number place.step ≡ next_step way) × (place.shard ≡ shard_at_place way (next_place way))
    by None e f = absurd cc
    by (Some n) e f =
        let r = range_get (first_step way) (behind_last way + later_shards way - first_step way) way.done n e in
        let at : place ≡ planned_at way (next_place way) = one_place place (planned_at way n) f ∙ ap (planned_at way) r.0 in
        (ap (λ (q : PlannedStep). number q.step) at ∙ number-step_at (next_step way) (below way (next_place way) (omega (arith, r.1))), ap (λ (q : PlannedStep). q.shard) at)
      where
        one_place : (a b : PlannedStep) → Some b ≡ Some a → a ≡ b
        one_place a b g = cc

pub plan_last : (way : Way) → first_step way + length (plan_of way) ≡ suc (last_place_of way (behind_last way - 1))
plan_last way =
    let e : length (plan_of way) ≡ behind_last way + later_shards way - first_step way = length-map-range_with_len (planned_at way) (first_step way) (behind_last way + later_shards way - first_step way) in
    let some = at_least (changes_primary way) (way.shards - 1) in
    let low = one_at_most (changed_types way).replica (changed_types way).rdonly in
    let last = by way.back (changes_primary way) (way.shards - 1) in
    omega (arith, e, some, low, last)
  where
    at_least : (t : Bool) (more : ℕ) → 1 ≤ cond {A = ℕ} t 12 1 + cond t more 0
    at_least true more = omega arith
    at_least false more = omega arith

    one_at_most : (a b : Bool) → cond {A = ℕ} (a || b) 0 1 ≤ 1
    one_at_most true b = omega arith
    one_at_most false true = omega arith
    one_at_most false false = omega arith

    by : (backward changes : Bool) (more : ℕ) → cond {A = ℕ} changes 12 1 + cond changes more 0
        ≡ suc (cond (leb (cond {A = ℕ} changes 12 1 - 1) (cond backward 2 8)) (cond {A = ℕ} changes 12 1 - 1) (cond {A = ℕ} changes 12 1 - 1 + more)
        + cond (eqb (cond {A = ℕ} changes 12 1 - 1) (cond backward 2 8)) (min more more) 0)
    by true true more = omega arith
    by true false more = refl
    by false true more = omega arith
    by false false more = refl

-- each refresh of the target is at the place of its shard
pub plan_refresh : (way : Way) (shard : ℕ) → shard < way.shards → planned_at way (place_of_refresh way (repeated_step way) shard) ≡ record { step = step_at (repeated_step way); shard = shard }
plan_refresh way shard lt =
    ap (planned_at way) is ∙ place-refresh way (repeated_step way + shard) (omega arith) (omega arith)
    ∙ ap (λ (s : ℕ). record { step = step_at (repeated_step way); shard = s }) (let e : repeated_step way + shard - repeated_step way ≡ shard = omega arith in e)
  where
    is : place_of_refresh way (repeated_step way) shard ≡ repeated_step way + shard
    is = rw (le-leb (repeated_step way) (repeated_step way) (omega arith), eq-eqb (repeated_step way) (repeated_step way) refl) (omega arith)

-- with one shard the places are the steps
pub plan_one : (way : Way) → way.shards ≤ 1 → map (λ (place : PlannedStep). place.step) (plan_of way) ≡ steps_of (changed_types way)
plan_one way few =
    each (range_with_len (first_step way) (behind_last way + later_shards way - first_step way))
    ∙ ap (λ more. map step_at (range_with_len (first_step way) (behind_last way + cond (changes_primary way) more 0 - first_step way))) none
    ∙ by ((changed_types way).replica || (changed_types way).rdonly) (changes_primary way)
  where
    none : way.shards - 1 ≡ 0
    none = omega arith

    each : (ns : List ℕ) → map (λ (place : PlannedStep). place.step) (map (planned_at way) ns) ≡ map step_at ns
    each [] = refl
    each (n ∷ ns) = ap (λ m. step_at m ∷ map (λ (place : PlannedStep). place.step) (map (planned_at way) ns)) (one-step way n few) ∙ ap (λ l. step_at n ∷ l) (each ns)

    by : (reads primary : Bool) → map step_at (range_with_len (cond {A = ℕ} reads 0 1) (cond {A = ℕ} primary 12 1 + cond primary 0 0 - cond reads 0 1))
        ≡ cond reads (SwitchReads ∷ []) [] ++ cond primary steps_of_writes []
    by true true = refl
    by true false = refl
    by false true = refl
    by false false = refl
