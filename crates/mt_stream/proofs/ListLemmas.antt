-- Lists: what stands from a place on, and what a test finds.
use Rattle.std.proofs.Common.{◌≡◌, ℕ, zero, suc, ◌<◌, ◌+◌, Bool, true, false, ◌||◌, cond, List, [], ◌∷◌, ◌++◌, take, drop, filter, slice_get, Some, None, refl, ap, arith, add-one}
use Rattle.std.specs.List.{find, list_any}

-- an entry at a place, and the list from there on
pub drop_from : {X : Type 0} (xs : List X) (i : ℕ) (x : X) → slice_get xs i ≡ Some x → drop i xs ≡ x ∷ drop (i + 1) xs
drop_from {X} xs i x e = rw (add-one i) (by xs i e)
  where
    by : (xs : List X) (i : ℕ) → slice_get xs i ≡ Some x → drop i xs ≡ x ∷ drop (suc i) xs
    by [] i e = absurd cc
    by (y ∷ xs) zero e = let same : y ≡ x = cc in ap (λ z. z ∷ xs) same
    by (y ∷ xs) (suc i) e = by xs i e

pub take_next : {X : Type 0} (xs : List X) (i : ℕ) (x : X) → slice_get xs i ≡ Some x → take (i + 1) xs ≡ take i xs ++ x ∷ []
take_next {X} xs i x e = rw (add-one i) (by xs i e)
  where
    by : (xs : List X) (i : ℕ) → slice_get xs i ≡ Some x → take (suc i) xs ≡ take i xs ++ x ∷ []
    by [] i e = absurd cc
    by (y ∷ xs) zero e = let same : y ≡ x = cc in ap (λ z. z ∷ []) same
    by (y ∷ xs) (suc i) e = ap (λ l. y ∷ l) (by xs i e)

-- no entry at a place: the list ends before it
pub drop_end : {X : Type 0} (xs : List X) (i : ℕ) → slice_get xs i ≡ None → drop i xs ≡ []
drop_end [] zero e = refl
drop_end [] (suc i) e = refl
drop_end (x ∷ xs) zero e = absurd cc
drop_end (x ∷ xs) (suc i) e = drop_end xs i e

pub take_end : {X : Type 0} (xs : List X) (i : ℕ) → slice_get xs i ≡ None → take i xs ≡ xs
take_end [] zero e = refl
take_end [] (suc i) e = refl
take_end (x ∷ xs) zero e = absurd cc
take_end (x ∷ xs) (suc i) e = ap (λ l. x ∷ l) (take_end xs i e)

-- a place of the list from another place on
pub get_from : {X : Type 0} (xs : List X) (from i : ℕ) → slice_get (drop from xs) i ≡ slice_get xs (from + i)
get_from {X} xs from i = by xs from (from + i) (omega arith)
  where
    by : (xs : List X) (from n : ℕ) → n ≡ from + i → slice_get (drop from xs) i ≡ slice_get xs n
    by [] zero n e = refl
    by [] (suc from) n e = refl
    by (x ∷ xs) zero n e = let at : n ≡ i = omega (arith, e) in rw at refl
    by (x ∷ xs) (suc from) zero e = absurd (omega (arith, e))
    by (x ∷ xs) (suc from) (suc n) e = by xs from n (omega (arith, e))

pub or-false : (b : Bool) → (b || false) ≡ b
or-false true = refl
or-false false = refl

pub any-push : {X : Type 0} (test : X → Bool) (xs : List X) (x : X) → list_any test (xs ++ x ∷ []) ≡ (list_any test xs || test x)
any-push test [] x = or-false (test x)
any-push test (y ∷ xs) x = by (any-push test xs x) (test y)
  where
    by : list_any test (xs ++ x ∷ []) ≡ (list_any test xs || test x) → (b : Bool) → (b || list_any test (xs ++ x ∷ [])) ≡ (b || list_any test xs || test x)
    by again true = refl
    by again false = again

-- an entry that passes is found among the first of them
pub any-take : {X : Type 0} (test : X → Bool) (xs : List X) (i n : ℕ) (x : X) → slice_get xs i ≡ Some x → test x ≡ true → i < n → list_any test (take n xs) ≡ true
any-take test [] i n x e t l = absurd cc
any-take test (y ∷ xs) i zero x e t l = absurd (omega arith)
any-take test (y ∷ xs) zero (suc n) x e t l = let same : y ≡ x = cc in rw (same, t) refl
any-take test (y ∷ xs) (suc i) (suc n) x e t l = by (any-take test xs i n x e t (omega arith)) (test y)
  where
    by : list_any test (take n xs) ≡ true → (b : Bool) → (b || list_any test (take n xs)) ≡ true
    by again true = refl
    by again false = again

pub filter-push : {X : Type 0} (test : X → Bool) (xs : List X) (x : X) → filter test (xs ++ x ∷ []) ≡ filter test xs ++ cond (test x) (x ∷ []) []
filter-push test [] x = refl
filter-push test (y ∷ xs) x = by (filter-push test xs x) (test y)
  where
    by : filter test (xs ++ x ∷ []) ≡ filter test xs ++ cond (test x) (x ∷ []) [] → (b : Bool) → cond b (y ∷ filter test (xs ++ x ∷ [])) (filter test (xs ++ x ∷ [])) ≡ cond b (y ∷ filter test xs) (filter test xs) ++ cond (test x) (x ∷ []) []
    by again true = ap (λ l. y ∷ l) again
    by again false = again

-- every entry passes, or none
pub filter-all : {X : Type 0} (test : X → Bool) (xs : List X) → ((x : X) → test x ≡ true) → filter test xs ≡ xs
filter-all test [] all = refl
filter-all test (x ∷ xs) all = rw (all x) (ap (λ l. x ∷ l) (filter-all test xs all))

pub filter-none : {X : Type 0} (test : X → Bool) (xs : List X) → ((x : X) → test x ≡ false) → filter test xs ≡ []
filter-none test [] none = refl
filter-none test (x ∷ xs) none = rw (none x) (filter-none test xs none)

pub find-none : {X : Type 0} (test : X → Bool) (xs : List X) → find test xs ≡ None → filter test xs ≡ []
find-none test [] e = refl
find-none test (y ∷ xs) e = by (find-none test xs) (test y) refl
  where
    by : (find test xs ≡ None → filter test xs ≡ []) → (t : Bool) → test y ≡ t → filter test (y ∷ xs) ≡ []
    by again true t = absurd (let h = rw t at e in cc)
    by again false t = rw t (again (rw t at e))

pub drop_end_next : {X : Type 0} (xs : List X) (i : ℕ) → slice_get xs i ≡ None → drop (i + 1) xs ≡ []
drop_end_next {X} xs i e = rw (add-one i) (by xs i e)
  where
    by : (xs : List X) (i : ℕ) → slice_get xs i ≡ None → drop (suc i) xs ≡ []
    by [] i e = refl
    by (x ∷ xs) zero e = absurd cc
    by (x ∷ xs) (suc i) e = by xs i e
