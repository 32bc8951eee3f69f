-- The rows of a table, read one after the other.
use Rattle.std.proofs.Common.{◌≡◌, ℕ, Bool, true, false, nat_lt, List, [], ◌∷◌, filter, Option, Some, None, refl, sym, ap, ◌∙◌, arith}
use Rattle.std.proofs.lemmas.Bool.{le-ltb, lt-ltb, ltb-true}
use Rattle.std.specs.List.{AllByRecursion, find}
use Rattle.std.specs.List.Sorted.{IsStrictlySortedBy}
use Rattle.std.specs.Map.{keys_of}
use Rattle.std.specs.Ordering.{is_lt, nat_cmp}
use Rattle.std.specs.declared.cmp.Ordering.TheVariants.{Less}
use Rattle.mt_model.specs.Rows.{RowValue}
use Rattle.mt_store.proofs.OrderLemmas.{is_lt-nat_cmp}
use Rattle.mt_primary.specs.Reads.{is_above}

-- ---- rows in the order of their keys

less-lt : (a b : ℕ) → nat_cmp a b ≡ Less → nat_lt a b ≡ true
less-lt a b e = sym (is_lt-nat_cmp a b) ∙ ap is_lt e

not-before : (a b : ℕ) → nat_lt a b ≡ true → nat_lt b a ≡ false
not-before a b e = let below = ltb-true a b e in le-ltb b a (omega arith)

above-then : (last : Option ℕ) (a b : ℕ) → is_above last a ≡ true → nat_lt a b ≡ true → is_above last b ≡ true
above-then None a b e f = refl
above-then (Some key) a b e f = let low = ltb-true key a e in let high = ltb-true a b f in lt-ltb key b (omega arith)

-- rows of which each lies above a key that does
all-above : (last : Option ℕ) (key : ℕ) (rows : List (ℕ × RowValue)) → is_above last key ≡ true → AllByRecursion (λ k. nat_cmp key k ≡ Less) (keys_of rows) → filter (λ row. is_above last row.0) rows ≡ rows
all-above last key [] is all = refl
all-above last key (row ∷ rows) is all =
    rw (above-then last key row.0 is (less-lt key row.0 all.0)) (ap (λ l. row ∷ l) (all-above last key rows is all.1))

-- a row that is found lies where all do
found-among : (last : Option ℕ) (key : ℕ) (rows : List (ℕ × RowValue)) (row : ℕ × RowValue) → AllByRecursion (λ k. nat_cmp key k ≡ Less) (keys_of rows) → find (λ r. is_above last r.0) rows ≡ Some row → nat_lt key row.0 ≡ true
found-among last key [] row all e = absurd cc
found-among last key (r ∷ rows) row all e = by (found-among last key rows row all.1) (is_above last r.0) refl
  where
    by : (find (λ r. is_above last r.0) rows ≡ Some row → nat_lt key row.0 ≡ true) → (t : Bool) → is_above last r.0 ≡ t → nat_lt key row.0 ≡ true
    by again true t = let h = rw t at e in let same : r ≡ row = cc in rw (← same) (less-lt key r.0 all.0)
    by again false t = again (rw t at e)

all-behind : (key : ℕ) (rows : List (ℕ × RowValue)) → AllByRecursion (λ k. nat_cmp key k ≡ Less) (keys_of rows) → filter (λ row. nat_lt key row.0) rows ≡ rows
all-behind key [] all = refl
all-behind key (row ∷ rows) all = rw (less-lt key row.0 all.0) (ap (λ l. row ∷ l) (all-behind key rows all.1))

-- what lies above the key of a row that stands first
above-first : (row : ℕ × RowValue) (rows : List (ℕ × RowValue)) → AllByRecursion (λ k. nat_cmp row.0 k ≡ Less) (keys_of rows) → filter (λ r. nat_lt row.0 r.0) (row ∷ rows) ≡ rows
above-first row rows all = rw (le-ltb row.0 row.0 (omega arith)) (all-behind row.0 rows all)

pub rows-next : (last : Option ℕ) (rows : List (ℕ × RowValue)) (row : ℕ × RowValue) → IsStrictlySortedBy nat_cmp (keys_of rows) → find (λ r. is_above last r.0) rows ≡ Some row
    → filter (λ r. is_above last r.0) rows ≡ row ∷ filter (λ r. nat_lt row.0 r.0) rows
unfolding IsStrictlySortedBy
rows-next last [] row sorted e = absurd cc
rows-next last (r ∷ rows) row sorted e = by (rows-next last rows row sorted.1) (is_above last r.0) refl
  where
    by : (find (λ r. is_above last r.0) rows ≡ Some row → filter (λ r. is_above last r.0) rows ≡ row ∷ filter (λ r. nat_lt row.0 r.0) rows) → (t : Bool) → is_above last r.0 ≡ t
        → filter (λ r. is_above last r.0) (r ∷ rows) ≡ row ∷ filter (λ r. nat_lt row.0 r.0) (r ∷ rows)
    by again true t =
        let h = rw t at e in
        let same : r ≡ row = cc in
        rw t (ap (λ l. r ∷ l) (all-above last r.0 rows t sorted.0 ∙ sym (above-first r rows sorted.0)) ∙ ap (λ (q : ℕ × RowValue). q ∷ filter (λ x. nat_lt q.0 x.0) (r ∷ rows)) same)
    by again false t =
        let found = rw t at e in
        rw (t, not-before r.0 row.0 (found-among last r.0 rows row sorted.0 found)) (again found)

pub rows-end : (last : Option ℕ) (rows : List (ℕ × RowValue)) → find (λ r. is_above last r.0) rows ≡ None → filter (λ r. is_above last r.0) rows ≡ []
rows-end last [] e = refl
rows-end last (r ∷ rows) e = by (rows-end last rows) (is_above last r.0) refl
  where
    by : (find (λ r. is_above last r.0) rows ≡ None → filter (λ r. is_above last r.0) rows ≡ []) → (t : Bool) → is_above last r.0 ≡ t → filter (λ r. is_above last r.0) (r ∷ rows) ≡ []
    by again true t = absurd (let h = rw t at e in cc)
    by again false t = rw t (again (rw t at e))
