-- The journal: a list of entries with distinct numbers that only grows at its end.
use Rattle.std.specs.Prelude.{◌≡◌, ◌≢◌, ℕ, ◌≤◌, ◌<◌, ◌==◌, List, [], ◌∷◌, ◌++◌, find, length, map, AllPairs, true, Option, None, is_some, Result, Ok, Err}
use Rattle.std.specs.List.{AllByRecursion}
use Rattle.mt_plain.specs.Refuse.{most_journal_entries}
use Rattle.mt_journal.specs.declared.entry.JournalEntry.{JournalEntry}
use Rattle.mt_journal.specs.declared.fault.JournalFault.{JournalFault}
use Rattle.mt_journal.specs.declared.fault.JournalFault.TheVariants.{Memory, Full, Repeated}

-- the entry of a number, if there is one (this profile's own)
abbrev pub entry_of : List JournalEntry → (id : ℕ) → Option JournalEntry
entry_of entries id = find (λ e. id == e.id) entries

-- what holds of every journal: no two entries have one number, and there are not too many (this profile's own)
pub record IsJournal (entries : List JournalEntry) : Type 0 where
  pub distinct : AllPairs ◌≢◌ (map (λ e. e.id) entries)
  pub few : length entries ≤ most_journal_entries

-- what becomes of a journal to which an entry is appended: it is the last one; or its number is there, or there are as many entries as
-- there may be, or no memory for one more, and nothing changed (How traffic is switched: the journal)
abbrev pub Appends : List JournalEntry → JournalEntry → Result Unit JournalFault → List JournalEntry → Type 0
Appends old entry (Ok done) new = (entry_of old entry.id ≡ None) × (length old < most_journal_entries) × (new ≡ old ++ entry ∷ [])
Appends old entry (Err Repeated) new = (is_some (entry_of old entry.id) ≡ true) × (new ≡ old)
Appends old entry (Err Full) new = (entry_of old entry.id ≡ None) × (length old ≡ most_journal_entries) × (new ≡ old)
Appends old entry (Err Memory) new = (entry_of old entry.id ≡ None) × (length old < most_journal_entries) × (new ≡ old)

-- ---- how the code keeps them

-- the entries of a map
abbrev pub entries_in : List (ℕ × JournalEntry) → List JournalEntry
entries_in places = map (λ place. place.1) places

-- a map keeps the entries of a journal, each under its number
pub record IsKept (places : List (ℕ × JournalEntry)) : Type 0 where
  pub journal : IsJournal (entries_in places)
  pub numbered : AllByRecursion (λ place. place.0 ≡ place.1.id) places
