-- The open way of a workflow, with one step more done or one less: how it goes on, and which of its steps stand done.
use Rattle.std.proofs.Common.{◌≡◌, ◌≢◌, ◌⊎◌, inl, inr, ℕ, zero, suc, ◌+◌, ◌-◌, ◌≤◌, Bool, true, false, cond, eqb, ltb, leb, min, ◌<◌, Option, None, Some, refl, sym, ap, ◌∙◌, subst, arith, eqb-true, ltb-true, lt-ltb, le-leb}
use Rattle.std.proofs.lemmas.Bool.{true≢false, and_from, and_parts, eq-eqb, false_from_ne_true, leb-false, leb-true, ltb-false}
use Rattle.std.specs.Cmp.{both_ways}
use Rattle.mt_plain.specs.Events.{Way}
use Rattle.mt_plain.specs.Next.{closes, live_stepped, live_undone}
use Rattle.mt_plain.specs.Plain.{Live, Plain, first_step, next_place, next_step, place_of_refresh, place_of_step, repeated_step, stands_done, stands_done_at, step_at_place, last_step}
use Rattle.mt_plain.proofs.PlaceLemmas.{step-behind, step-first}
use Rattle.mt_laws.proofs.ListLemmas.{cond-either}
use Rattle.mt_laws.proofs.PlainWords.{changes_reads}

-- ---- the way that is open, where one is

pub one_way : (o : Option Way) (a b : Way) → o ≡ Some a → o ≡ Some b → a ≡ b
one_way o a b e f = let g : Some a ≡ Some b = sym e ∙ f in let h : a ≡ b = cc in h

pub no_way : {X : Type 0} (o : Option Way) (a : Way) → o ≡ None → o ≡ Some a → X
no_way o a e f = let g : None ≡ Some a = sym e ∙ f in absurd cc

-- what holds of each open way of a workflow
module _ (Q : Way → Type 0) (w : Live) where
  pub no_way_holds : w.way ≡ None → (way : Way) → w.way ≡ Some way → Q way
  no_way_holds rests way opens = no_way w.way way rests opens

  pub way_holds : (way : Way) → w.way ≡ Some way → Q way → (other : Way) → w.way ≡ Some other → Q other
  way_holds way opens holds other now = subst Q (one_way w.way way other opens now) holds

  pub way_holds-by : (ends : Bool) (way : Way) → w.way ≡ cond ends None (Some way) → (ends ≡ false → Q way) → (other : Way) → w.way ≡ Some other → Q other
  way_holds-by true way now holds = no_way_holds now
  way_holds-by false way now holds = way_holds way now (holds refl)

-- ---- one step more, or one less

abbrev pub more : Way → Way
more way = record way { done = suc way.done }

abbrev pub fewer : Way → Way
fewer way = record way { done = way.done - 1; undoing = true }

-- a step closes the way, or one step more stands done; an undo closes it, or one step less does
pub way-stepped : (p : Plain) (w : Live) (way : Way) → (live_stepped p w way).way ≡ cond (closes way) None (Some (more way))
way-stepped p w way = refl

pub way-undone : (w : Live) (way : Way) → (live_undone w way).way ≡ cond (eqb (way.done - 1) 0) None (Some (fewer way))
way-undone w way = refl

-- ---- the places of the plan

-- the refresh that is repeated is the second step of a way's writes, or the eighth
pub repeated-ge : (way : Way) → 2 ≤ repeated_step way
repeated-ge way = cond-either (λ n. 2 ≤ n) way.back 2 8 (omega arith) (omega arith)

-- a place further on, there is the next step, or the same one, which is the one that is repeated
abbrev pub OneOn : (next now repeated : ℕ) → Type 0
OneOn next now repeated = (next ≡ suc now) ⊎ ((next ≡ now) × (now ≡ repeated))

pub one_on : (way : Way) (place : ℕ) → OneOn (step_at_place way (suc place)) (step_at_place way place) (repeated_step way)
one_on way place = by (ltb place (repeated_step way)) refl
  where
    r : ℕ
    r = repeated_step way

    more_shards : ℕ
    more_shards = way.shards - 1

    behind : r ≤ place → (t : Bool) → leb (suc place - more_shards) r ≡ t → OneOn (step_at_place way (suc place)) (step_at_place way place) r
    behind le true t =
        let h = leb-true (suc place - more_shards) r t in
        let a = step-behind way (suc place) (omega arith) in
        let b = step-behind way place le in
        inr (omega arith, omega arith)
    behind le false t =
        let h : suc r ≤ suc place - more_shards = leb-false (suc place - more_shards) r t in
        let a = step-behind way (suc place) (omega arith) in
        let b = step-behind way place le in
        inl (omega arith)

    by : (t : Bool) → ltb place r ≡ t → OneOn (step_at_place way (suc place)) (step_at_place way place) r
    by true t = let lt = ltb-true place r t in inl (step-first way (suc place) (omega arith) ∙ ap suc (sym (step-first way place (omega arith))))
    by false t = let le : r ≤ place = ltb-false place r t in behind le (leb (suc place - more_shards) r) refl

pub next_on : (way : Way) → OneOn (next_step (more way)) (next_step way) (repeated_step way)
next_on way =
    let e : next_place (more way) ≡ suc (next_place way) = omega arith in
    subst (λ n. OneOn (step_at_place way n) (next_step way) (repeated_step way)) (sym e) (one_on way (next_place way))

-- ---- which steps stand done

pub first_step-le : (way : Way) → first_step way ≤ 1
first_step-le way = cond-either (λ n. n ≤ 1) (changes_reads way) 0 1 (omega arith) (omega arith)

early : (way : Way) (n : ℕ) → 1 ≤ n → leb (first_step way) n ≡ true
early way n le = let first = first_step-le way in le-leb (first_step way) n (omega arith)

pub done_by : (way : Way) (n m : ℕ) → next_step way ≡ m → 1 ≤ n → suc n ≤ m → stands_done way n ≡ true
done_by way n m is le lt = and_from (leb (first_step way) n) (ltb n (next_step way)) (early way n le) (lt-ltb n (next_step way) (omega arith))

pub undone_by : (way : Way) (n m : ℕ) → next_step way ≡ m → m ≤ n → stands_done way n ≡ false
undone_by way n m is le =
    false_from_ne_true (stands_done way n)
    (λ t. let h = ltb-true n (next_step way) (and_parts (leb (first_step way) n) (ltb n (next_step way)) t).1 in absurd (omega arith))

-- where no step is done, the first is next
pub at_first : (way : Way) → way.done ≡ 0 → next_step way ≡ first_step way
at_first way none =
    let first = first_step-le way in
    let r = repeated-ge way in
    let e = step-first way (next_place way) (omega arith) in
    omega arith

-- and none but it may stand done
pub none_done : (way : Way) (n : ℕ) → way.done ≡ 0 → stands_done way (suc n) ≡ false
none_done way n none = let first = first_step-le way in undone_by way (suc n) (first_step way) (at_first way none) (omega arith)

-- where a step stands done, so does each one before it, step 0 aside
pub done_in_order : (way : Way) (m n : ℕ) → suc m ≤ n → stands_done way n ≡ true → stands_done way (suc m) ≡ true
done_in_order way m n le e =
    let h = ltb-true n (next_step way) (and_parts (leb (first_step way) n) (ltb n (next_step way)) e).1 in
    and_from (leb (first_step way) (suc m)) (ltb (suc m) (next_step way)) (early way (suc m) (omega arith)) (lt-ltb (suc m) (next_step way) (omega arith))

-- the step that is next comes no earlier with one more done, and no later with one less
pub next-le : (way : Way) → next_step way ≤ next_step (more way)
next-le way = by (next_on way)
  where
    by : OneOn (next_step (more way)) (next_step way) (repeated_step way) → next_step way ≤ next_step (more way)
    by (inl e) = omega arith
    by (inr e) = let f = e.0 in omega arith

pub fewer-le : (way : Way) → next_step (fewer way) ≤ next_step way
fewer-le way = by way.done refl
  where
    by : (n : ℕ) → way.done ≡ n → step_at_place way (first_step way + (way.done - 1)) ≤ step_at_place way (first_step way + way.done)
    by zero e = subst (λ d. step_at_place way (first_step way + (d - 1)) ≤ step_at_place way (first_step way + d)) (sym e) (omega arith)
    by (suc n) e =
        let k : suc n - 1 ≡ n = omega arith in
        subst (λ d. step_at_place way (first_step way + (d - 1)) ≤ step_at_place way (first_step way + d)) (sym e)
        (subst (λ m. step_at_place way (first_step way + m) ≤ step_at_place way (first_step way + suc n)) (sym k) (next-le (record way { done = n })))

-- the step at the place that was done last isn't behind the next one
pub last-le : (way : Way) → last_step way ≤ next_step way
last-le way = by (next_place way) refl
  where
    by : (n : ℕ) → next_place way ≡ n → step_at_place way (next_place way - 1) ≤ step_at_place way (next_place way)
    by zero e = let k : next_place way - 1 ≡ next_place way = omega arith in subst (λ m. step_at_place way m ≤ step_at_place way (next_place way)) (sym k) (omega arith)
    by (suc n) e =
        let k : next_place way - 1 ≡ n = omega arith in
        subst (λ m. step_at_place way m ≤ step_at_place way (next_place way)) (sym k) (subst (λ m. step_at_place way n ≤ step_at_place way m) (sym e) (on (one_on way n)))
      where
        on : OneOn (step_at_place way (suc n)) (step_at_place way n) (repeated_step way) → step_at_place way n ≤ step_at_place way (suc n)
        on (inl f) = omega arith
        on (inr f) = let g = f.0 in omega arith

-- with one step more, those that stood done do, and the next one, unless it is repeated
pub still_done : (way : Way) (n : ℕ) → stands_done way n ≡ true → stands_done (more way) n ≡ true
still_done way n e =
    let r = and_parts (leb (first_step way) n) (ltb n (next_step way)) e in
    let h = ltb-true n (next_step way) r.1 in
    let le = next-le way in
    and_from (leb (first_step way) n) (ltb n (next_step (more way))) r.0 (lt-ltb n (next_step (more way)) (omega arith))

pub not_before : (way : Way) (n : ℕ) → stands_done (more way) n ≡ false → stands_done way n ≡ false
not_before way n e = false_from_ne_true (stands_done way n) (λ t. true≢false (sym (still_done way n t) ∙ e))

pub before_then : (way : Way) (n : ℕ) → eqb (next_step way) n ≡ false → stands_done (more way) n ≡ true → stands_done way n ≡ true
before_then way n other e =
    let r = and_parts (leb (first_step way) n) (ltb n (next_step (more way))) e in
    let h = ltb-true n (next_step (more way)) r.1 in
    let ne : next_step way ≡ n → ⊥ = λ is. true≢false (sym (eq-eqb (next_step way) n is) ∙ other) in
    and_from (leb (first_step way) n) (ltb n (next_step way)) r.0 (lt-ltb n (next_step way) (by h ne (next_on way)))
  where
    by : suc n ≤ next_step (more way) → (next_step way ≡ n → ⊥) → OneOn (next_step (more way)) (next_step way) (repeated_step way) → suc n ≤ next_step way
    by h ne (inl e) = omega arith
    by h ne (inr e) = let f = e.0 in omega arith

pub same_done : (way : Way) (n : ℕ) → eqb (next_step way) n ≡ false → stands_done (more way) n ≡ stands_done way n
same_done way n other = both_ways (stands_done (more way) n) (stands_done way n) (before_then way n other) (still_done way n)

pub now_done : (way : Way) (n : ℕ) → 1 ≤ n → n ≢ repeated_step way → eqb (next_step way) n ≡ true → stands_done (more way) n ≡ true
now_done way n le once here =
    let is : next_step way ≡ n = eqb-true (next_step way) n here in
    and_from (leb (first_step way) n) (ltb n (next_step (more way))) (early way n le) (lt-ltb n (next_step (more way)) (by is (next_on way)))
  where
    by : next_step way ≡ n → OneOn (next_step (more way)) (next_step way) (repeated_step way) → suc n ≤ next_step (more way)
    by is (inl e) = omega arith
    by is (inr e) = absurd (once (sym is ∙ e.1))

-- the next step is none before the first
pub first-le : (way : Way) → first_step way ≤ next_step way
first-le way = by (leb (next_place way) (repeated_step way)) refl
  where
    by : (t : Bool) → leb (next_place way) (repeated_step way) ≡ t → first_step way ≤ next_step way
    by true t = let here = leb-true (next_place way) (repeated_step way) t in let is = step-first way (next_place way) here in omega arith
    by false t =
        let behind = leb-false (next_place way) (repeated_step way) t in
        let is = step-behind way (next_place way) (omega arith) in
        let low = first_step-le way in let ge = repeated-ge way in omega arith

pub now_done-in : (way : Way) (n : ℕ) → n ≢ repeated_step way → eqb (next_step way) n ≡ true → stands_done (more way) n ≡ true
now_done-in way n once here =
    let is : next_step way ≡ n = eqb-true (next_step way) n here in
    let low = first-le way in
    and_from (leb (first_step way) n) (ltb n (next_step (more way))) (le-leb (first_step way) n (omega arith)) (lt-ltb n (next_step (more way)) (by is (next_on way)))
  where
    by : next_step way ≡ n → OneOn (next_step (more way)) (next_step way) (repeated_step way) → suc n ≤ next_step (more way)
    by is (inl e) = omega arith
    by is (inr e) = absurd (once (sym is ∙ e.1))

-- with one step less, those that stand done did
pub was_done : (way : Way) (n : ℕ) → stands_done (fewer way) n ≡ true → stands_done way n ≡ true
was_done way n e =
    let r = and_parts (leb (first_step way) n) (ltb n (next_step (fewer way))) e in
    let h = ltb-true n (next_step (fewer way)) r.1 in
    let le = fewer-le way in
    and_from (leb (first_step way) n) (ltb n (next_step way)) r.0 (lt-ltb n (next_step way) (omega arith))

-- ---- the refreshes of shards

-- a refresh that stands done stands done for each shard
pub done_at_all : (way : Way) (step shard : ℕ) → stands_done way step ≡ true → stands_done_at way step shard ≡ true
done_at_all way step shard done = by (leb step r) refl (eqb step r) refl (leb (next_place way) r) refl
  where
    r : ℕ
    r = repeated_step way

    more_shards : ℕ
    more_shards = way.shards - 1

    lt : suc step ≤ next_step way
    lt = ltb-true step (next_step way) (and_parts (leb (first_step way) step) (ltb step (next_step way)) done).1

    by : (t : Bool) → leb step r ≡ t → (u : Bool) → eqb step r ≡ u → (v : Bool) → leb (next_place way) r ≡ v → stands_done_at way step shard ≡ true
    by t e u f true g =
        let here = leb-true (next_place way) r g in
        let below = lt in
        let is = step-first way (next_place way) here in
        let low : eqb step r ≡ false = false_from_ne_true (eqb step r) (λ x. let y = eqb-true step r x in absurd (omega arith)) in
        let le : leb step r ≡ true = le-leb step r (omega arith) in
        rw (le, low) (lt-ltb (step + 0) (next_place way) (omega arith))
    by true e true f false g =
        let behind = leb-false (next_place way) r g in
        let below = lt in
        let is = step-behind way (next_place way) (omega arith) in
        let same = eqb-true step r f in
        rw (e, f) (lt-ltb (step + min shard more_shards) (next_place way) (omega arith))
    by true e false f false g =
        let behind = leb-false (next_place way) r g in
        let le = leb-true step r e in
        rw (e, f) (lt-ltb (step + 0) (next_place way) (omega arith))
    by false e true f false g = let behind = leb-false step r e in let same = eqb-true step r f in absurd (omega arith)
    by false e false f false g =
        let behind = leb-false (next_place way) r g in
        let high = leb-false step r e in
        let below = lt in
        let is = step-behind way (next_place way) (omega arith) in
        rw (e, f) (lt-ltb (step + more_shards + 0) (next_place way) (omega arith))

-- where it stands done for one, each step before it stands done, step 0 aside
pub done_at_some : (way : Way) (step shard m : ℕ) → stands_done_at way step shard ≡ true → suc m < step → stands_done way (suc m) ≡ true
done_at_some way step shard m done lt = by (leb step r) refl
  where
    r : ℕ
    r = repeated_step way

    more_shards : ℕ
    more_shards = way.shards - 1

    before : step ≤ next_step way → stands_done way (suc m) ≡ true
    before le = and_from (leb (first_step way) (suc m)) (ltb (suc m) (next_step way)) (early way (suc m) (omega arith)) (lt-ltb (suc m) (next_step way) (omega arith))

    h : suc (place_of_refresh way step shard) ≤ next_place way
    h = ltb-true (place_of_refresh way step shard) (next_place way) done

    next-ge : (n : ℕ) → n ≤ r → suc n ≤ next_place way → (t : Bool) → leb (next_place way) r ≡ t → n ≤ next_step way
    next-ge n le lt true e = let here = leb-true (next_place way) r e in let is = step-first way (next_place way) here in omega arith
    next-ge n le lt false e = let here = leb-false (next_place way) r e in let is = step-behind way (next_place way) (omega arith) in omega arith

    by : (t : Bool) → leb step r ≡ t → stands_done way (suc m) ≡ true
    by true e =
        let le = leb-true step r e in
        let first = h in
        let place : place_of_step way step ≡ step = ap (λ t. cond t step (step + more_shards)) e in
        before (next-ge step le (omega arith) (leb (next_place way) r) refl)
    by false e =
        let high = leb-false step r e in
        let first = h in
        let place : place_of_step way step ≡ step + more_shards = ap (λ t. cond t step (step + more_shards)) e in
        let is = step-behind way (next_place way) (omega arith) in
        before (omega arith)

-- one that doesn't stand done with one step more didn't, and none stands done before its number comes
pub not_before_at : (way : Way) (step shard : ℕ) → stands_done_at (more way) step shard ≡ false → stands_done_at way step shard ≡ false
not_before_at way step shard e =
    false_from_ne_true (stands_done_at way step shard)
    (λ t. let h = ltb-true (place_of_refresh way step shard) (next_place way) t in
    true≢false (sym (lt-ltb (place_of_refresh way step shard) (next_place (more way)) (omega arith)) ∙ e))

pub was_done_at : (way : Way) (step shard : ℕ) → stands_done_at (fewer way) step shard ≡ true → stands_done_at way step shard ≡ true
was_done_at way step shard e =
    let h = ltb-true (place_of_refresh way step shard) (next_place (fewer way)) e in
    lt-ltb (place_of_refresh way step shard) (next_place way) (omega arith)

pub undone_at : (way : Way) (step shard m : ℕ) → next_step way ≡ suc m → suc m < step → stands_done_at way step shard ≡ false
undone_at way step shard m is lt =
    false_from_ne_true (stands_done_at way step shard) (λ t. true≢false (sym (done_at_some way step shard m t lt) ∙ undone_by way (suc m) (suc m) is (omega arith)))
