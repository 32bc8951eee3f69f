-- The keyspaces of a dump of either version: which a value says, however many and however large, or none.
use Rattle.std.specs.Prelude.{◌≡◌, ◌⊎◌, ℕ, nat_lt, Bool, true, is_some, if◌then◌else◌, List, [], ◌∷◌, ◌++◌, length, codes, Option, None, Some, option_map, option_and_then, Result, Ok, Err}
use Rattle.std.specs.Map.{lookup, set_value}
use Rattle.arrayvec.specs.ArrayVec.{ArrayVec}
use Rattle.indexmap.specs.IndexMap.{IndexMap}
use Rattle.serde_json.specs.Data.{Data, null, boolean, number, string, array, object, Items, no_items, item}
use Rattle.serde_json.specs.Find.{get, as_str}
use Rattle.mt_names.specs.declared.keys.RuleTarget.{RuleTarget}
use Rattle.mt_names.specs.Keys.{read_target}
use Rattle.mt_names.specs.Names.{read_keyspace, read_table, same_text}
use Rattle.mt_names.specs.Shards.{Cuts, KeyRange, read_range, shards_from, with_range}
use Rattle.mt_model.specs.declared.faults.TopologyFault.{TopologyFault}
use Rattle.mt_model.specs.declared.faults.TopologyFault.TheVariants.{Memory, BadDump}
use Rattle.mt_model.specs.Limits.{most_tables_in_keyspace}
use Rattle.mt_model.specs.Topology.{Keyspaces, KeyspaceState, Marks, is_marked, keyspace_at}
use Rattle.mt_keyspace.specs.declared.load.DumpVersion.{DumpVersion}
use Rattle.mt_keyspace.specs.declared.load.DumpVersion.TheVariants.{One, Two}
use Rattle.mt_rules.specs.Member.{unless_fault}
pub use Rattle.mt_rules.specs.Read.{answer_with}

-- a map's entries, or a fault
abbrev pub listed : {K V S E : Type 0} → Result (IndexMap K V S) E → Result (List (K × V)) E
listed (Ok map) = Ok map.entries
listed (Err fault) = Err fault

-- the list of a member, which may be missing
abbrev pub list_of : Option Data → Option Items
list_of None = Some no_items
list_of (Some null) = None
list_of (Some (boolean b)) = None
list_of (Some (number n)) = None
list_of (Some (string s)) = None
list_of (Some (array ds)) = Some ds
list_of (Some (object ms)) = None

-- the items of a list that was read, or a fault
abbrev pub ranges_read_of : Result (ArrayVec KeyRange) TopologyFault → Result (List KeyRange) TopologyFault
ranges_read_of (Ok ranges) = Ok ranges.items
ranges_read_of (Err fault) = Err fault

-- ---- tables

-- the name of a table that a value is
abbrev pub table_of : Data → Option (List ℕ)
table_of d = option_and_then (λ text. unless_fault (read_table text)) (as_str d)

-- marks with one more, of a name that has none yet
abbrev pub with_new_mark : Marks → List ℕ → Option Marks
with_new_mark marks name = if is_some (lookup (same_text name) marks) then None else Some (marks ++ (name, true) ∷ [])

-- tables with one more, that is there
abbrev pub with_table_of : Marks → Data → Option Marks
with_table_of marks d = option_and_then (with_new_mark marks) (table_of d)

-- tables of a list of texts, each a name and none of them twice; all are there
abbrev pub tables_of : Marks → Items → Option Marks
tables_of marks no_items = Some marks
tables_of marks (item d ds) = option_and_then (λ more. tables_of more ds) (with_table_of marks d)

-- ---- shards

-- the key range that a value is
abbrev pub range_of : Data → Option KeyRange
range_of d = option_and_then (λ text. unless_fault (read_range text)) (as_str d)

-- ranges with one more, where there is room for it
abbrev pub with_range_of : List KeyRange → Data → Option (List KeyRange)
with_range_of ranges d = option_and_then (λ range. unless_fault (with_range ranges range)) (range_of d)

-- key ranges of a list of texts
abbrev pub ranges_read : List KeyRange → Items → Option (List KeyRange)
ranges_read ranges no_items = Some ranges
ranges_read ranges (item d ds) = option_and_then (λ more. ranges_read more ds) (with_range_of ranges d)

-- the bounds between the shards that a list of texts names, which cover all keys
abbrev pub cuts_in : Items → Option Cuts
cuts_in ds = option_and_then (λ ranges. unless_fault (shards_from ranges)) (ranges_read [] ds)

-- the shards of the keyspace that a value tells of: the one of all keys in version 1, whatever it says of them, and where it says nothing
abbrev pub cuts_of_member : DumpVersion → Option Data → Option Cuts
cuts_of_member One found = Some []
cuts_of_member Two None = Some []
cuts_of_member Two (Some d) = option_and_then cuts_in (list_of (Some d))

-- ---- keyspaces

-- the name of the keyspace that a value tells of
abbrev pub name_of : Data → Option (List ℕ)
name_of d = option_and_then (λ text. unless_fault (read_keyspace text)) (option_and_then as_str (get (codes "name") d))

-- its shards and its tables; none is denied yet
abbrev pub state_of : DumpVersion → Data → Option KeyspaceState
state_of version d =
    option_and_then (λ cuts. option_map (λ tables. record { cuts = cuts; tables = tables; denied = [] }) (option_and_then (tables_of []) (list_of (get (codes "tables") d))))
    (cuts_of_member version (get (codes "shards") d))

-- a keyspace more, of a name that has none yet
abbrev pub with_new_keyspace : Keyspaces → List ℕ → KeyspaceState → Option Keyspaces
with_new_keyspace keyspaces name state = if is_some (keyspace_at keyspaces name) then None else Some (keyspaces ++ (name, state) ∷ [])

-- that of a value
abbrev pub with_keyspace_of : DumpVersion → Keyspaces → Data → Option Keyspaces
with_keyspace_of version keyspaces d = option_and_then (λ name. option_and_then (with_new_keyspace keyspaces name) (state_of version d)) (name_of d)

-- keyspaces of a list, none of them twice
abbrev pub keyspaces_of : DumpVersion → Keyspaces → Items → Option Keyspaces
keyspaces_of version keyspaces no_items = Some keyspaces
keyspaces_of version keyspaces (item d ds) = option_and_then (λ more. keyspaces_of version more ds) (with_keyspace_of version keyspaces d)

-- ---- denials

-- a keyspace with one denial more, of a table that is there and isn't denied yet
abbrev pub with_new_denial : List ℕ → KeyspaceState → Option KeyspaceState
with_new_denial table state =
    if is_marked state.tables table then option_map (λ denied. record state { denied = denied }) (with_new_mark state.denied table) else None

-- the keyspaces with one denial more, at the keyspace that it names
abbrev pub with_denial : Keyspaces → RuleTarget → Option Keyspaces
with_denial keyspaces target =
    option_and_then (λ state. option_map (set_value (same_text target.keyspace) keyspaces) (with_new_denial target.table state))
    (keyspace_at keyspaces target.keyspace)

-- that of a value
abbrev pub with_denial_of : Keyspaces → Data → Option Keyspaces
with_denial_of keyspaces d = option_and_then (λ text. option_and_then (with_denial keyspaces) (unless_fault (read_target text))) (as_str d)

-- denials of a list of texts
abbrev pub denials_of : Keyspaces → Items → Option Keyspaces
denials_of keyspaces no_items = Some keyspaces
denials_of keyspaces (item d ds) = option_and_then (λ more. denials_of more ds) (with_denial_of keyspaces d)

-- ---- the whole

-- the keyspaces of a document, with their denials
abbrev pub keyspaces_in : DumpVersion → Data → Option Keyspaces
keyspaces_in version d =
    option_and_then (λ keyspaces. option_and_then (denials_of keyspaces) (list_of (get (codes "denied") d)))
    (option_and_then (keyspaces_of version []) (list_of (get (codes "keyspaces") d)))

-- a keyspace has more tables than it may have
abbrev pub has_too_many_tables : List ℕ × KeyspaceState → Bool
has_too_many_tables k = nat_lt most_tables_in_keyspace (length k.1.tables)

-- ---- what a reading step answers

-- an answer is this one, out of memory aside
abbrev pub IsUnlessMemory : {A : Type 0} → Result A TopologyFault → Result A TopologyFault → Type 0
IsUnlessMemory answer due = (answer ≡ Err Memory) ⊎ (answer ≡ due)

-- what was read, or that the text is no dump
abbrev pub or_bad_dump : {A : Type 0} → Option A → Result A TopologyFault
or_bad_dump (Some x) = Ok x
or_bad_dump None = Err BadDump
