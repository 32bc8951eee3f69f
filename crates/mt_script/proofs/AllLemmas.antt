-- A test of all bytes that looks at one after the other, or at the first and the last ones.
use native.Mathlib.Omega.{arith}
use Rattle.std.proofs.Common.{◌≡◌, ◌≤◌, ◌+◌, ◌-◌, ℕ, Option, Bool, true, false, ◌&&◌, List, [], ◌∷◌, ◌++◌, take, drop, length, ap, ◌∙◌, sym, subst, refl}
use Rattle.std.proofs.lemmas.Bool.{and_parts, false_from_ne_true, true≢false}
use Rattle.std.proofs.lemmas.Fn.{fold_over}
use Rattle.std.proofs.lemmas.List.{drop-drop, take-append-drop}
use Rattle.std.proofs.lemmas.List.Folds.{list_all-append}
use Rattle.std.specs.Fn.{Called, Mut}
use Rattle.std.specs.Iterator.{AlwaysYields, Drains}
use Rattle.std.specs.List.{FoldsTo, list_all}

-- one more
all_and_one : (test : ℕ → Bool) (ys : List ℕ) (y : ℕ) (a b : Bool) → a ≡ list_all test ys → b ≡ (a && test y) → b ≡ list_all test (ys ++ y ∷ [])
all_and_one test ys y a b before is = is ∙ ap (λ t. t && test y) before ∙ sym (list_all-append test ys (y ∷ []) ∙ ap (λ t. list_all test ys && t) (last (test y)))
  where
    last : (t : Bool) → (t && true) ≡ t
    last true = refl
    last false = refl

-- a fold that keeps whether all bytes so far pass says whether all of them do
pub all_by_fold : {S A F : Type 0} (steps : S → Option A → S → Type 0) (v : A → ℕ) (g : Mut F (Bool × (A × Unit {0})) Bool) (test : ℕ → Bool) (f : F)
    → ((a : Bool) (x : A) (b : Bool) (f' : F) → Called g f (a, (x, tt)) b f' → (b ≡ (a && test (v x))) × (f' ≡ f))
    → (s : S) (all : List ℕ) (r : Bool) → AlwaysYields steps v s all
    → (xs : List A) × (f' : F) × Drains steps s xs × FoldsTo {P = F × Bool} (λ p x q. Called g p.0 (p.1, (x, tt)) q.1 q.0) (f, true) xs (f', r) → r ≡ list_all test all
all_by_fold steps v g test f step s all r gives ran =
    fold_over steps v g (λ ys a. a ≡ list_all test ys) f
    (λ ys a x b f' before k. let one = step a x b f' k in (all_and_one test ys (v x) a b before one.0, one.1)) s all true r gives refl ran

-- what all pass, those behind some pass
behind : (test : ℕ → Bool) (k : ℕ) (ys : List ℕ) → list_all test ys ≡ true → list_all test (drop k ys) ≡ true
behind test k ys all =
    (and_parts (list_all test (take k ys)) (list_all test (drop k ys)) (sym (list_all-append test (take k ys) (drop k ys)) ∙ ap (list_all test) (take-append-drop k ys) ∙ all)).1

-- the first and the last ones, of which there are enough
pub all_by_ends : (test : ℕ → Bool) (n : ℕ) (ys : List ℕ) → n ≤ length ys → length ys ≤ n + n → (list_all test (take n ys) && list_all test (drop (length ys - n) ys)) ≡ list_all test ys
all_by_ends test n ys long short = by (list_all test (take n ys)) (list_all test (drop (length ys - n) ys)) refl refl
  where
    whole : list_all test ys ≡ (list_all test (take n ys) && list_all test (drop n ys))
    whole = sym (ap (list_all test) (take-append-drop n ys)) ∙ list_all-append test (take n ys) (drop n ys)

    last : list_all test (drop (length ys - n) ys) ≡ true → list_all test (drop n ys) ≡ true
    last back =
        let k : ℕ = n - (length ys - n) in
        let sum : (length ys - n) + k ≡ n = omega (arith, long, short) in
        subst (λ l. list_all test l ≡ true) (drop-drop k (length ys - n) ys ∙ ap (λ i. drop i ys) sum) (behind test k (drop (length ys - n) ys) back)

    some_fails : list_all test (drop (length ys - n) ys) ≡ false → list_all test ys ≡ false
    some_fails fails = false_from_ne_true (list_all test ys) (λ all. true≢false (sym (behind test (length ys - n) ys all) ∙ fails))

    by : (a b : Bool) → list_all test (take n ys) ≡ a → list_all test (drop (length ys - n) ys) ≡ b → (a && b) ≡ list_all test ys
    by true true front back = sym (whole ∙ rw (front, last back) refl)
    by true false front back = sym (some_fails back)
    by false b front back = sym (whole ∙ rw front refl)
