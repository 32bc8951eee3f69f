-- The places of a plan: which step is done at a place, and that with one shard of the target they are the numbers of the steps.
use Rattle.std.proofs.Common.{◌≡◌, ℕ, ◌-◌, ◌≤◌, Bool, true, false, leb, max, refl, sym, ◌∙◌, le-leb, arith}
use Rattle.std.proofs.lemmas.Bool.{leb-false, leb-true}
use Rattle.mt_plain.specs.Events.{Way}
use Rattle.mt_plain.specs.Plain.{last_step, next_place, next_step, repeated_step, step_at_place}

-- up to the refresh of the target a place is the number of its step; behind it come the later shards, and then the other steps
pub step-first : (way : Way) (place : ℕ) → place ≤ repeated_step way → step_at_place way place ≡ place
step-first way place le = rw (le-leb place (repeated_step way) le) refl

pub step-behind : (way : Way) (place : ℕ) → repeated_step way ≤ place → step_at_place way place ≡ max (repeated_step way) (place - (way.shards - 1))
step-behind way place le = by (leb place (repeated_step way)) refl
  where
    by : (t : Bool) → leb place (repeated_step way) ≡ t → step_at_place way place ≡ max (repeated_step way) (place - (way.shards - 1))
    by true t =
        let here = leb-true place (repeated_step way) t in
        let e = step-first way place here in
        let is : place ≡ repeated_step way = omega arith in
        let f : max (repeated_step way) (place - (way.shards - 1)) ≡ repeated_step way = omega arith in
        e ∙ is ∙ sym f
    by false t = rw t refl

-- where the target has one shard the places are the steps
pub one-step : (way : Way) (place : ℕ) → way.shards ≤ 1 → step_at_place way place ≡ place
one-step way place few = by (leb place (repeated_step way)) refl
  where
    by : (t : Bool) → leb place (repeated_step way) ≡ t → step_at_place way place ≡ place
    by true t = step-first way place (leb-true place (repeated_step way) t)
    by false t =
        let high = leb-false place (repeated_step way) t in
        let is = step-behind way place (omega arith) in
        omega arith

pub one-next : (way : Way) → way.shards ≤ 1 → next_step way ≡ next_place way
one-next way few = one-step way (next_place way) few

pub one-last : (way : Way) → way.shards ≤ 1 → last_step way ≡ next_place way - 1
one-last way few = one-step way (next_place way - 1) few
