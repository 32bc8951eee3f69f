-- A primary's own denied list: what a refresh makes of it, and how that is taken back.
use Rattle.std.specs.Prelude.{◌≡◌, ℕ, Bool, ◌&&◌, List, map, fold, if◌then◌else◌, Option, None, Some, unwrap_or}
use Rattle.std.specs.List.{list_any}
use Rattle.mt_names.specs.Names.{same_text}
use Rattle.mt_model.specs.declared.entries.Entry.{Entry}
use Rattle.mt_model.specs.declared.entries.Entry.TheVariants as entry
use Rattle.mt_model.specs.Topology.{Marks}
use Rattle.mt_primary.specs.Primary.{PrimaryState, TableState, is_denied_at}

-- ---- what is told of a table, if anything is

-- by one entry more of a notice, which counts where it is a denial of the table at the keyspace
abbrev pub told_by_entry : List ℕ → List ℕ → Option Bool → Entry → Option Bool
told_by_entry keyspace name told (entry.Denied at table mark) = if same_text keyspace at && same_text table name then Some mark else told
told_by_entry keyspace name told other = told

-- by a notice: of several entries the last one counts, as it was written last
abbrev pub told_by_notice : List ℕ → List Entry → List ℕ → Option Bool
told_by_notice keyspace notice name = fold (told_by_entry keyspace name) None notice

-- whether a table is among those named
abbrev pub is_named : List (List ℕ) → List ℕ → Bool
is_named tables name = list_any (λ table. same_text table name) tables

-- by a refresh of the tables named
abbrev pub told_by_refresh : List ℕ → List Entry → List (List ℕ) → List ℕ → Option Bool
told_by_refresh keyspace notice tables name = if is_named tables name then told_by_notice keyspace notice name else None

-- by one mark more
abbrev pub told_by_mark : List ℕ → Option Bool → List ℕ × Bool → Option Bool
told_by_mark name told mark = if same_text mark.0 name then Some mark.1 else told

-- by marks: of several of a table the last one counts
abbrev pub told_by_marks : Marks → List ℕ → Option Bool
told_by_marks marks name = fold (told_by_mark name) None marks

-- ---- what becomes of a primary

-- what stands on the own list for each of the tables
abbrev pub marks_of : PrimaryState → List (List ℕ) → Marks
marks_of p tables = map (λ name. (name, is_denied_at p name)) tables

-- a table is denied or not as is told, or as before where nothing is told
abbrev pub with_told : Option Bool → TableState → TableState
with_told told table = record table { denied = unwrap_or told table.denied }

-- each table in its place is denied or not as is told of it; all else is as it was
abbrev pub with_denials : (List ℕ → Option Bool) → PrimaryState → PrimaryState
with_denials told p = record p { tables = map (λ t. (t.0, with_told (told t.0) t.1)) p.tables }

abbrev pub AreDenialsSet : PrimaryState → (List ℕ → Option Bool) → PrimaryState → Type 0
AreDenialsSet old told new = new ≡ with_denials told old
