-- A log of changes, of which the first may be purged. A position counts all entries that it ever had, from 0.
use Rattle.std.specs.Prelude.{◌≡◌, ℕ, ◌+◌, ◌-◌, ◌*◌, ◌/◌, Bool, true, List, [], ◌∷◌, ◌++◌, drop, length, nat_lt, slice_get, if◌then◌else◌, Option, Result, Ok, Err}
use Rattle.mt_model.specs.declared.faults.PrimaryFault.{PrimaryFault}
use Rattle.mt_model.specs.declared.faults.PrimaryFault.TheVariants.{Memory, LogFull, Purged}
use Rattle.mt_model.specs.declared.rows.RowChange.{RowChange}
use Rattle.mt_model.specs.Limits.{longest_log}

-- how many entries are purged, which is the first position that is kept, and the entries from there on
pub record LogState : Type 0 where
  pub purged : ℕ
  pub entries : List RowChange

abbrev pub empty_log : LogState
empty_log = record { purged = 0; entries = [] }

-- the position behind the last entry
abbrev pub log_end : LogState → ℕ
log_end log = log.purged + length log.entries

-- ---- what is read

-- the entry at a position from the first kept one on, if the log has one there
abbrev pub entry_in : LogState → ℕ → Option RowChange
entry_in log position = slice_get log.entries (position - log.purged)

-- what is answered of any position
abbrev pub read_entry : LogState → ℕ → Result (Option RowChange) PrimaryFault
read_entry log position = if nat_lt position log.purged then Err Purged else Ok (entry_in log position)

-- the entries from a position on, which is none below the first kept one
abbrev pub entries_past : LogState → ℕ → List RowChange
entries_past log position = drop (position - log.purged) log.entries

-- ---- what is entered

-- whether it can take one entry more
abbrev pub has_room : LogState → Bool
has_room log = nat_lt (log_end log) longest_log

abbrev pub with_entry : LogState → RowChange → LogState
with_entry log change = record log { entries = log.entries ++ change ∷ [] }

-- whether it has room for an entry, by what making it answered
abbrev pub TellsRoom : {A : Type 0} → LogState → Result A PrimaryFault → Type 0
TellsRoom log (Ok done) = has_room log ≡ true
TellsRoom log (Err fault) = fault ≡ (if has_room log then Memory else LogFull)

-- a log, and whether the next entry needs no memory
pub record LogRoom : Type 0 where
  pub log : LogState
  pub spare : Bool

-- ---- what is purged

-- how many entries go where those below a position are purged: as many whole segments of 256 as lie below it
abbrev pub purged_by : LogState → ℕ → ℕ
purged_by log position = 256 * ((position - log.purged) / 256)

-- without its first entries, so many
abbrev pub without_first : ℕ → LogState → LogState
without_first count log = record { purged = log.purged + count; entries = drop count log.entries }

abbrev pub without_below : LogState → ℕ → LogState
without_below log position = without_first (purged_by log position) log
