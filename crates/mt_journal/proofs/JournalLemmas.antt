-- An entry behind the others, and the look-up of a number.
use Rattle.std.proofs.Common.{◌≡◌, ◌≢◌, ℕ, ◌≤◌, ◌<◌, ◌==◌, Bool, true, false, List, [], ◌∷◌, ◌++◌, length, map, AllPairs, refl, sym, ap, subst, suc}
use Rattle.std.proofs.lemmas.Bool.Decides.{Decides-eqb}
use Rattle.std.proofs.lemmas.Map.Made.{AllPairs-from_IsDistinct}
use Rattle.std.specs.List.{AllByRecursion, IsDistinct}
use Rattle.std.specs.Map.{keys_of, lookup}
use Rattle.mt_plain.specs.Refuse.{most_journal_entries}
use Rattle.mt_journal.specs.declared.entry.JournalEntry.{JournalEntry}
use Rattle.mt_journal.specs.Journal.{IsKept, entries_in, entry_of}

abbrev pub Places : Type 0
Places = List (ℕ × JournalEntry)

abbrev pub AreNumbered : Places → Type 0
AreNumbered places = AllByRecursion (λ place. place.0 ≡ place.1.id) places

-- a place behind the others
abbrev pub with_place : Places → JournalEntry → Places
with_place places entry = places ++ (entry.id, entry) ∷ []

pub entries-with_place : (places : Places) (entry : JournalEntry) → entries_in (with_place places entry) ≡ entries_in places ++ entry ∷ []
entries-with_place [] entry = refl
entries-with_place (p ∷ ps) entry = ap (λ es. p.1 ∷ es) (entries-with_place ps entry)

numbered-with_place : (places : Places) (entry : JournalEntry) → AreNumbered places → AreNumbered (with_place places entry)
numbered-with_place [] entry numbered = (refl, tt)
numbered-with_place (p ∷ ps) entry numbered = (numbered.0, numbered-with_place ps entry numbered.1)

-- what a look-up in the map finds
pub found : (places : Places) (id : ℕ) → AreNumbered places → lookup (λ k. id == k) places ≡ entry_of (entries_in places) id
found [] id numbered = refl
found (p ∷ ps) id numbered = by (found ps id numbered.1) (id == p.1.id) refl
  where
    by : lookup (λ k. id == k) ps ≡ entry_of (entries_in ps) id → (t : Bool) → id == p.1.id ≡ t → lookup (λ k. id == k) (p ∷ ps) ≡ entry_of (entries_in (p ∷ ps)) id
    by again true t = rw (numbered.0, t) refl
    by again false t = rw (numbered.0, t) again

-- the numbers are the map's keys
numbers : (places : Places) → AreNumbered places → keys_of places ≡ map (λ e. e.id) (entries_in places)
numbers [] numbered = refl
numbers (p ∷ ps) numbered = rw (numbered.0) (ap (λ ns. p.1.id ∷ ns) (numbers ps numbered.1))

pub length-entries : (places : Places) → length (entries_in places) ≡ length places
length-entries [] = refl
length-entries (p ∷ ps) = ap suc (length-entries ps)

length-with_place : (places : Places) (entry : JournalEntry) → length (entries_in (with_place places entry)) ≡ suc (length (entries_in places))
length-with_place [] entry = refl
length-with_place (p ∷ ps) entry = ap suc (length-with_place ps entry)

-- a map with one place more
pub kept : (places new : Places) (entry : JournalEntry) → new ≡ with_place places entry → IsKept places → IsDistinct (λ a b. a == b) (keys_of new)
    → length (entries_in places) < most_journal_entries → IsKept new
kept places new entry is old distinct room = subst IsKept (sym is) (record {
  journal = record {
    distinct = subst (λ ids. AllPairs ◌≢◌ ids) (numbers all numbered) (AllPairs-from_IsDistinct Decides-eqb (keys_of all) (subst (λ es. IsDistinct (λ a b. a == b) (keys_of es)) is distinct));
    few = subst (λ n. n ≤ most_journal_entries) (sym (length-with_place places entry)) room;
  };
  numbered = numbered;
})
  where
    all : Places
    all = with_place places entry

    numbered : AreNumbered all
    numbered = numbered-with_place places entry old.numbered
