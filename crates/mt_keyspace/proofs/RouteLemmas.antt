-- Tables that are there, counted and found by their index.
use Rattle.std.proofs.Common.{◌≡◌, ℕ, ◌+◌, ◌-◌, ◌<◌, ◌≤◌, Bool, true, false, cond, List, [], ◌∷◌, ◌++◌, length, flat_map, slice_get, is_some, zero, suc, refl, ap, ◌∙◌, arith, length-append}
use Rattle.mt_model.specs.declared.entries.Entry.TheVariants as entry
use Rattle.mt_model.specs.Documents.{marked}
use Rattle.mt_model.specs.Part.{table_routes}
use Rattle.mt_model.specs.Topology.{Keyspaces, KeyspaceState, Marks}

-- there are no more than places
pub marked_few : (marks : Marks) → length (marked marks) ≤ length marks
marked_few [] = omega arith
marked_few (m ∷ marks) = by (marked_few marks) m.1
  where
    by : length (marked marks) ≤ length marks → (b : Bool) → length (cond b (m.0 ∷ []) [] ++ marked marks) ≤ suc (length marks)
    by again false = omega (arith, again)
    by again true = omega (arith, again)

-- as many entries as names
pub routes_as_many : (name : List ℕ) (marks denied : Marks) → length (table_routes (name, record { cuts = []; tables = marks; denied = denied })) ≡ length (marked marks)
routes_as_many name [] denied = refl
routes_as_many name (m ∷ marks) denied = by (routes_as_many name marks denied) m.1
  where
    by : length (table_routes (name, record { cuts = []; tables = marks; denied = denied })) ≡ length (marked marks) → (b : Bool)
        → length (cond b (entry.Present name m.0 true ∷ []) [] ++ table_routes (name, record { cuts = []; tables = marks; denied = denied })) ≡ length (cond b (m.0 ∷ []) [] ++ marked marks)
    by again false = again
    by again true = ap suc again

-- the routes of a keyspace, and those of the others
pub one_more : (k : List ℕ × KeyspaceState) (keyspaces : Keyspaces) → length (flat_map table_routes (k ∷ keyspaces)) ≡ length (marked k.1.tables) + length (flat_map table_routes keyspaces)
one_more k keyspaces = length-append (table_routes k) (flat_map table_routes keyspaces) ∙ ap (λ n. n + length (flat_map table_routes keyspaces)) (routes_as_many k.0 k.1.tables k.1.denied)

pub slice_get-front : {A : Type 0} (xs ys : List A) (n : ℕ) → n < length xs → slice_get (xs ++ ys) n ≡ slice_get xs n
slice_get-front [] ys n inside = absurd (omega (arith, inside))
slice_get-front (x ∷ xs) ys zero inside = refl
slice_get-front (x ∷ xs) ys (suc n) inside = slice_get-front xs ys n (omega (arith, inside))

pub slice_get-back : {A : Type 0} (xs ys : List A) (n : ℕ) → length xs ≤ n → slice_get (xs ++ ys) n ≡ slice_get ys (n - length xs)
slice_get-back [] ys n past = let same : n ≡ n - 0 = omega arith in ap (slice_get ys) same
slice_get-back (x ∷ xs) ys zero past = absurd (omega (arith, past))
slice_get-back (x ∷ xs) ys (suc n) past = let same : n - length xs ≡ suc n - suc (length xs) = omega arith in slice_get-back xs ys n (omega (arith, past)) ∙ ap (slice_get ys) same

pub slice_get-inside : {A : Type 0} (xs : List A) (n : ℕ) → n < length xs → is_some (slice_get xs n) ≡ true
slice_get-inside [] n inside = absurd (omega (arith, inside))
slice_get-inside (x ∷ xs) zero inside = refl
slice_get-inside (x ∷ xs) (suc n) inside = slice_get-inside xs n (omega (arith, inside))

pub route_here : (k : List ℕ × KeyspaceState) (keyspaces : Keyspaces) (n : ℕ) → n < length (marked k.1.tables) → slice_get (flat_map table_routes (k ∷ keyspaces)) n ≡ slice_get (table_routes k) n
route_here k keyspaces n inside = slice_get-front (table_routes k) (flat_map table_routes keyspaces) n (omega (arith, inside, routes_as_many k.0 k.1.tables k.1.denied))

pub route_later : (k : List ℕ × KeyspaceState) (keyspaces : Keyspaces) (n : ℕ) → length (marked k.1.tables) ≤ n → slice_get (flat_map table_routes (k ∷ keyspaces)) n ≡ slice_get (flat_map table_routes keyspaces) (n - length (marked k.1.tables))
route_later k keyspaces n past =
    let many = routes_as_many k.0 k.1.tables k.1.denied in
    slice_get-back (table_routes k) (flat_map table_routes keyspaces) n (omega (arith, past, many)) ∙ ap (λ m. slice_get (flat_map table_routes keyspaces) (n - m)) many
