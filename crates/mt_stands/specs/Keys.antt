-- Keys of entries, those of a part, and the entries that a workflow writes there. All of this page is this profile's own, unless a
-- comment names a page of Vitess's documentation.
use Rattle.std.specs.Prelude.{◌≡◌, ℕ, Bool, true, false, ◌==◌, List, [], ◌++◌, filter, map, None}
use Rattle.std.specs.List.{list_any}
use Rattle.mt_names.specs.Names.{same_text}
use Rattle.mt_names.specs.declared.types.TypeSet.{TypeSet}
use Rattle.mt_model.specs.contracts.entries.EntryKeyPartialEq.TheImpl as of_about
use Rattle.mt_model.specs.declared.entries.Entry.{Entry}
use Rattle.mt_model.specs.declared.entries.Entry.TheVariants as entry
use Rattle.mt_model.specs.declared.entries.EntryKey.{EntryKey}
use Rattle.mt_model.specs.declared.entries.EntryKey.TheVariants as about
use Rattle.mt_model.specs.Part.{part_keys}
use Rattle.mt_model.specs.Topology.{Rules, TopologyState, rule_at, value_of}
use Rattle.mt_plain.specs.Next.{all_fed, created}
use Rattle.mt_plain.specs.Plain.{Live, Plain, cuts_of, has_part, rule_keys}
use Rattle.mt_plain.specs.Serve.{serve, step_of_entry}
use Rattle.mt_plain.specs.Slots.{log_length}

-- ---- keys

-- the test of two keys that `==` computes
abbrev pub same_about : EntryKey → EntryKey → Bool
same_about = of_about.ghosts.eq

-- whether a key stands in a list of keys
abbrev pub lists : List EntryKey → EntryKey → Bool
lists keys key = list_any (λ k. same_about k key) keys

-- the keys of the part of a live workflow, table by table
abbrev pub keys_of_part : Live → List EntryKey
keys_of_part w = part_keys w.source w.target w.tables

-- those of them that change with a step (How traffic is switched)
abbrev pub step_keys : Live → ℕ → List EntryKey
step_keys w n = filter (λ key. n == step_of_entry w key) (keys_of_part w)

-- ---- the rules from before Create

-- some rules as a topology without keyspaces
abbrev pub rules_only : Rules → TopologyState
rules_only kept = record { rules = kept; keyspaces = [] }

-- the rule that stands at each rule key of a part (Routing Rules)
abbrev pub kept_of : Rules → Live → Rules
kept_of rules w = map (λ key. (key, rule_at rules key)) (rule_keys w)

-- what is kept of the rules says in the part of a workflow what a topology says there
abbrev pub IsKept : TopologyState → Live → Rules → Type 0
IsKept u w kept = (key : EntryKey) → has_part w key ≡ true → value_of (rules_only kept) key ≡ value_of u key

-- ---- the entries that are written

-- the entries that change with a step, as they are once some types are switched (How traffic is switched)
abbrev pub step_entries : Rules → Live → TypeSet → ℕ → List Entry
step_entries kept w types n = map (serve (rules_only kept) w types) (step_keys w n)

-- the whole part, as it is once some types are switched (MoveTables: Create)
abbrev pub part_entries : Rules → Live → TypeSet → List Entry
part_entries kept w types = map (serve (rules_only kept) w types) (keys_of_part w)

-- the whole part as it was before Create (MoveTables: Cancel)
abbrev pub kept_entries : Rules → Live → List Entry
kept_entries kept w = map (value_of (rules_only kept)) (keys_of_part w)

-- ---- Create

-- the live workflow that Create makes (MoveTables: Create)
abbrev pub created_live : Plain → (name source target : List ℕ) → List (List ℕ) → Live
created_live p name source target tables = all_fed p (created name source target tables (cuts_of p target) (log_length p source 0))

-- ---- Complete

-- the keys of the part, and the tables at the source (MoveTables: Complete)
abbrev pub end_keys : Live → List EntryKey
end_keys w = keys_of_part w ++ map (about.Present w.source) w.tables

-- what Complete leaves there: no rule, no denial, and the tables at the target alone (MoveTables: Complete)
abbrev pub end_entry : (target : List ℕ) → EntryKey → Entry
end_entry target (about.Rule key) = entry.Rule key None
end_entry target (about.Denied keyspace table) = entry.Denied keyspace table false
end_entry target (about.Present keyspace table) = entry.Present keyspace table (same_text target keyspace)

-- all of them
abbrev pub end_entries : Live → List Entry
end_entries w = map (end_entry w.target) (end_keys w)
