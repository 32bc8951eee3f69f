-- Beginnings of one list, and fronts that never fall.
use Rattle.std.proofs.Common.{◌≡◌, ℕ, ◌≤◌, Bool, true, false, nat_lt, List, [], ◌∷◌, ◌++◌, length, Option, None, Some, is_some, refl, ap, sym, subst, ◌∙◌, arith, append_assoc}
use Rattle.std.proofs.lemmas.Bool.Decides.{nat_tests}
use Rattle.std.specs.List.{last_or}
use mathlib.Core.List.{IsPrefix}
use Rattle.mt_routes.specs.declared.publication.Publication.{Publication}
use Rattle.mt_routes.specs.Places.{Agrees, AreRoutes, PlacesState, Shows}
use Rattle.mt_routes.specs.Publications.{entries_of, front_of, last_routes, rises_from, last_front, Rises}

-- each list begins with itself
pub prefix_self : {A : Type 0} (xs : List A) → IsPrefix xs xs
prefix_self [] = ([], refl)
prefix_self (x ∷ xs) = (let r = prefix_self xs in r.0, ap (λ ys. x ∷ ys) (prefix_self xs).1)

pub prefix_trans : {A : Type 0} (xs ys zs : List A) → IsPrefix xs ys → IsPrefix ys zs → IsPrefix xs zs
prefix_trans xs ys zs p q = (p.0 ++ q.0, sym (append_assoc xs p.0 q.0) ∙ (ap (λ w. w ++ q.0) p.1 ∙ q.1))

-- of two beginnings of one list the shorter begins the longer
pub prefix_shorter : {A : Type 0} (xs ys zs : List A) → IsPrefix xs zs → IsPrefix ys zs → length xs ≤ length ys → IsPrefix xs ys
prefix_shorter [] ys zs p q le = (ys, refl)
prefix_shorter (x ∷ xs) [] zs p q le = absurd (omega arith)
prefix_shorter (x ∷ xs) (y ∷ ys) [] p q le = absurd (cc (p.1))
prefix_shorter (x ∷ xs) (y ∷ ys) (z ∷ zs) p q le =
    let heads : x ≡ y = cc (p.1, q.1) in
    let rest = prefix_shorter xs ys zs (p.0, cc (p.1)) (q.0, cc (q.1)) (omega arith) in
    (rest.0, cc (heads, rest.1))

-- a beginning as long as the whole is the whole
pub prefix_whole : {A : Type 0} (xs ys : List A) → IsPrefix xs ys → length ys ≤ length xs → xs ≡ ys
prefix_whole [] [] p le = refl
prefix_whole [] (y ∷ ys) p le = absurd (omega arith)
prefix_whole (x ∷ xs) [] p le = absurd (cc (p.1))
prefix_whole (x ∷ xs) (y ∷ ys) p le =
    let rest = prefix_whole xs ys (p.0, cc (p.1)) (omega arith) in cc (p.1, rest)

-- the last of a list with one more is that one
pub last-added : (o : Option Publication) (xs : List Publication) (e : Publication) → last_or o (xs ++ e ∷ []) ≡ Some e
last-added o [] e = refl
last-added o (x ∷ xs) e = last-added (Some x) xs e

pub front-added : (xs : List Publication) (e : Publication) → last_front (xs ++ e ∷ []) ≡ e.front
front-added xs e = ap front_of (last-added None xs e)

not-below : (a b : ℕ) → a ≤ b → nat_lt b a ≡ false
not-below a b le = grind (arith, nat_tests, le)

-- one more, whose front is no less than the last one
pub rises-added : (o : Option Publication) (xs : List Publication) (e : Publication) → rises_from (front_of o) xs ≡ true → front_of (last_or o xs) ≤ e.front → rises_from (front_of o) (xs ++ e ∷ []) ≡ true
rises-added o [] e rises le = rw (not-below (front_of o) e.front le) refl
rises-added o (x ∷ xs) e rises le = rises-first (nat_lt x.front (front_of o)) refl rises (λ r. rises-added (Some x) xs e r le)
  where
    rises-first : (b : Bool) → nat_lt x.front (front_of o) ≡ b → rises_from (front_of o) (x ∷ xs) ≡ true → (rises_from x.front xs ≡ true → rises_from x.front (xs ++ e ∷ []) ≡ true) → rises_from (front_of o) (x ∷ xs ++ e ∷ []) ≡ true
    rises-first true is r more = absurd (cc (is, r))
    rises-first false is r more = rw is (more (cc (is, r)))

-- a front that isn't below another is no less
splits : (front : ℕ) (y : Publication) (ys : List Publication) → rises_from front (y ∷ ys) ≡ true → (front ≤ y.front) × (rises_from y.front ys ≡ true)
splits front y ys rises = by (nat_lt y.front front) refl rises
  where
    by : (b : Bool) → nat_lt y.front front ≡ b → rises_from front (y ∷ ys) ≡ true → (front ≤ y.front) × (rises_from y.front ys ≡ true)
    by true is r = absurd (cc (is, r))
    by false is r = (grind (arith, nat_tests, is), cc (is, r))

first-below : (o : Option Publication) (ys : List Publication) → rises_from (front_of o) ys ≡ true → front_of o ≤ front_of (last_or o ys)
first-below o [] rises = omega arith
first-below o (y ∷ ys) rises = let s = splits (front_of o) y ys rises in omega (arith, s.0, first-below (Some y) ys s.1)

fronts-below : (o : Option Publication) (xs ys : List Publication) → IsPrefix xs ys → rises_from (front_of o) ys ≡ true → front_of (last_or o xs) ≤ front_of (last_or o ys)
fronts-below o [] ys p rises = first-below o ys rises
fronts-below o (x ∷ xs) [] p rises = absurd (cc (p.1))
fronts-below o (x ∷ xs) (y ∷ ys) p rises =
    let heads : x ≡ y = cc (p.1) in
    let tails : xs ++ p.0 ≡ ys = cc (p.1) in
    let s = splits (front_of o) y ys rises in
    subst (λ (z : Publication). front_of (last_or (Some z) xs) ≤ front_of (last_or (Some y) ys)) (sym heads) (fronts-below (Some y) xs ys (p.0, tails) s.1)

-- a longer list's last front is no less
pub fronts_never_fall : (shorter list : List Publication) → IsPrefix shorter list → Rises list → last_front shorter ≤ last_front list
fronts_never_fall shorter list p rises = fronts-below None shorter list p rises

-- a list's last publication, behind one more, is that one; so places that say what its routes say show the list
pub shows-added : (before : List Publication) (e : Publication) (list : List Publication) (places : PlacesState) → list ≡ before ++ e ∷ [] → AreRoutes e.entries → Agrees places e.entries → Shows list places
shows-added before e list places is are agrees =
    let last : last_routes list ≡ e.entries = ap last_routes is ∙ ap entries_of (last-added None before e) in
    record {
      any = ap (λ l. is_some (last_or None l)) is ∙ ap is_some (last-added None before e);
      routes = subst AreRoutes (sym last) are;
      agrees = subst (Agrees places) (sym last) agrees;
    }
