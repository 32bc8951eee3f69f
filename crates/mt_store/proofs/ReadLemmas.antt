-- A log read one entry after the other.
use Rattle.std.proofs.Common.{◌≡◌, ℕ, zero, suc, ◌+◌, ◌-◌, ◌<◌, ◌≤◌, Bool, true, false, nat_lt, List, [], ◌∷◌, length, drop, slice_get, Option, Some, None, Ok, refl, ap, ◌∙◌, arith}
use Rattle.std.proofs.lemmas.Bool.{le-ltb, ltb-false}
use Rattle.std.proofs.lemmas.List.{drop-drop}
use Rattle.mt_model.specs.declared.rows.RowChange.{RowChange}
use Rattle.mt_store.specs.Log.{LogState, entries_past, entry_in, log_end, purged_by, read_entry, without_first}

-- ---- lists

drop_from : (xs : List RowChange) (i : ℕ) (x : RowChange) → slice_get xs i ≡ Some x → drop i xs ≡ x ∷ drop (i + 1) xs
drop_from [] i x e = absurd cc
drop_from (y ∷ xs) zero x e = let same : y ≡ x = cc in ap (λ z. z ∷ xs) same
drop_from (y ∷ xs) (suc i) x e = let next : suc (i + 1) ≡ suc i + 1 = omega arith in drop_from xs i x e ∙ ap (λ n. x ∷ drop n (y ∷ xs)) next

drop_end : (xs : List RowChange) (i : ℕ) → slice_get xs i ≡ None → drop i xs ≡ []
drop_end [] zero e = refl
drop_end [] (suc i) e = refl
drop_end (x ∷ xs) zero e = absurd cc
drop_end (x ∷ xs) (suc i) e = drop_end xs i e

drop_next : (xs : List RowChange) (i : ℕ) → slice_get xs i ≡ None → drop (suc i) xs ≡ []
drop_next [] i e = refl
drop_next (x ∷ xs) zero e = absurd cc
drop_next (x ∷ xs) (suc i) e = drop_next xs i e

get_within : (xs : List RowChange) (i : ℕ) → i < length xs → (x : RowChange) × (slice_get xs i ≡ Some x)
get_within [] i within = absurd (omega (arith, within))
get_within (x ∷ xs) zero within = (x, refl)
get_within (x ∷ xs) (suc i) within = get_within xs i (omega (arith, within))

get_from : (xs : List RowChange) (k i : ℕ) → slice_get (drop k xs) i ≡ slice_get xs (k + i)
get_from xs zero i = let same : 0 + i ≡ i = omega arith in rw same refl
get_from [] (suc k) i = none (suc k + i)
  where
    none : (m : ℕ) → None ≡ slice_get {X = RowChange} [] m
    none zero = refl
    none (suc m) = refl
get_from (x ∷ xs) (suc k) i = let next : suc k + i ≡ suc (k + i) = omega arith in rw next (get_from xs k i)

-- ---- what is answered

-- of a position that is kept, the entry there
pub read_kept : (l : LogState) (p : ℕ) → l.purged ≤ p → read_entry l p ≡ Ok (entry_in l p)
read_kept l p kept = rw (le-ltb p l.purged kept) refl

pub read_within : (l : LogState) (p : ℕ) → l.purged ≤ p → p < log_end l → (x : RowChange) × (read_entry l p ≡ Ok (Some x))
read_within l p kept within =
    let found = get_within l.entries (p - l.purged) (omega (arith, kept, within)) in
    (found.0, read_kept l p kept ∙ ap (λ (o : Option RowChange). Ok o) found.1)

-- what is answered of no position that is purged
pub is_kept : (l : LogState) (p : ℕ) (o : Option RowChange) → read_entry l p ≡ Ok o → (l.purged ≤ p) × (entry_in l p ≡ o)
is_kept l p o e = by (nat_lt p l.purged) refl
  where
    by : (b : Bool) → nat_lt p l.purged ≡ b → (l.purged ≤ p) × (entry_in l p ≡ o)
    by true below = absurd (let h = rw below at e in cc)
    by false above = (ltb-false p l.purged above, let h = rw above at e in cc)

-- ---- the entries from a position on

pub from_entry : (l : LogState) (p : ℕ) (x : RowChange) → l.purged ≤ p → entry_in l p ≡ Some x → entries_past l p ≡ x ∷ entries_past l (p + 1)
from_entry l p x kept e = let next : (p + 1) - l.purged ≡ (p - l.purged) + 1 = omega (arith, kept) in rw next (drop_from l.entries (p - l.purged) x e)

pub from_end : (l : LogState) (p : ℕ) → entry_in l p ≡ None → entries_past l p ≡ []
from_end l p e = drop_end l.entries (p - l.purged) e

pub from_end_next : (l : LogState) (p : ℕ) → l.purged ≤ p → entry_in l p ≡ None → entries_past l (p + 1) ≡ []
from_end_next l p kept e = let next : (p + 1) - l.purged ≡ suc (p - l.purged) = omega (arith, kept) in rw next (drop_next l.entries (p - l.purged) e)

-- an entry that stands first stands at its position
pub stands_at : (l : LogState) (p : ℕ) (x : RowChange) (rest : List RowChange) → entries_past l p ≡ x ∷ rest → entry_in l p ≡ Some x
stands_at l p x rest e = first l.entries (p - l.purged) e
  where
    first : (xs : List RowChange) (i : ℕ) → drop i xs ≡ x ∷ rest → slice_get xs i ≡ Some x
    first [] zero e = absurd cc
    first [] (suc i) e = absurd cc
    first (y ∷ xs) zero e = let same : y ≡ x = cc in ap Some same
    first (y ∷ xs) (suc i) e = first xs i e

pub get_past : (l : LogState) (p i : ℕ) → l.purged ≤ p → slice_get (entries_past l p) i ≡ entry_in l (p + i)
get_past l p i kept = let sum : (p + i) - l.purged ≡ (p - l.purged) + i = omega (arith, kept) in rw sum (get_from l.entries (p - l.purged) i)

pub past_more : (l : LogState) (p n : ℕ) → l.purged ≤ p → drop n (entries_past l p) ≡ entries_past l (p + n)
past_more l p n kept = let sum : (p + n) - l.purged ≡ (p - l.purged) + n = omega (arith, kept) in rw sum (drop-drop n (p - l.purged) l.entries)

-- ---- a log purged

-- no more goes than there is
pub purged_within : (l : LogState) (p : ℕ) → p ≤ log_end l → purged_by l p ≤ length l.entries
purged_within l p within = omega (arith, within)

-- what is kept is as it was
pub entry_purged : (l : LogState) (n p : ℕ) → l.purged + n ≤ p → entry_in (without_first n l) p ≡ entry_in l p
entry_purged l n p kept = let sum : n + (p - (l.purged + n)) ≡ p - l.purged = omega (arith, kept) in get_from l.entries n (p - (l.purged + n)) ∙ ap (slice_get l.entries) sum

pub past_purged : (l : LogState) (n p : ℕ) → l.purged + n ≤ p → entries_past (without_first n l) p ≡ entries_past l p
past_purged l n p kept = let sum : n + (p - (l.purged + n)) ≡ p - l.purged = omega (arith, kept) in drop-drop (p - (l.purged + n)) n l.entries ∙ ap (λ k. drop k l.entries) sum
