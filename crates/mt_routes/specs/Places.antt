-- Routes as routers keep them, each under the key by which it is looked up.
use Rattle.std.specs.Prelude.{◌≡◌, ℕ, Bool, true, false, not, List, [], ◌∷◌, ◌++◌, All, filter, Option, None, Some, is_some, unwrap_or, cond, Result, Ok}
use Rattle.std.specs.List.{IsDistinct, last_or, list_any}
use Rattle.std.specs.Map.{keys_of, lookup, values_of}
use Rattle.std.specs.Option.{option_map_or}
use Rattle.indexmap.specs.IndexMap.{insert_entry}
use Rattle.mt_names.specs.declared.keys.RuleKey.{RuleKey}
use Rattle.mt_names.specs.declared.keys.RuleTarget.{RuleTarget}
use Rattle.mt_names.specs.Names.{same_text}
use Rattle.mt_names.specs.Same.{same_key}
use Rattle.mt_model.specs.declared.entries.Entry.{Entry}
use Rattle.mt_model.specs.declared.entries.Entry.TheVariants as entry
use Rattle.mt_model.specs.declared.entries.EntryKey.{EntryKey}
use Rattle.mt_model.specs.declared.entries.EntryKey.TheVariants as about
use Rattle.mt_names.specs.declared.types.TabletType.{TabletType}
use Rattle.mt_model.specs.declared.faults.TopologyFault.{TopologyFault}
use Rattle.mt_model.specs.Topology.{Rules, key_of, rule_at, rule_for, sole_holder}
use Rattle.mt_routes.specs.declared.publication.Publication.{Publication}
use Rattle.mt_routes.specs.LookUp.{AreListedOnce, said_by}
use Rattle.mt_routes.specs.Publications.{last_routes}

-- keys, each with a rule or none, and tables, each with the keyspaces that have it
pub record PlacesState : Type 0 where
  pub rules : Rules
  pub tables : List (List ℕ × List (List ℕ))

abbrev pub no_places : PlacesState
no_places = record { rules = []; tables = [] }

-- the keyspaces that have a table
abbrev pub holders_of : PlacesState → (table : List ℕ) → List (List ℕ)
holders_of places table = unwrap_or (lookup (same_text table) places.tables) []

-- ---- an entry written

-- keyspaces with one among them, or without it
abbrev pub with_holder : List (List ℕ) → (keyspace : List ℕ) → Bool → List (List ℕ)
with_holder holders keyspace false = filter (λ k. not (same_text keyspace k)) holders
with_holder holders keyspace true = cond (list_any (same_text keyspace) holders) holders (holders ++ keyspace ∷ [])

-- a rule is set or taken away, a table is there or not. Of denials nothing is kept
abbrev pub with_entry : PlacesState → Entry → PlacesState
with_entry places (entry.Rule key target) = record places { rules = insert_entry same_key places.rules key target }
with_entry places (entry.Denied keyspace table mark) = places
with_entry places (entry.Present keyspace table mark) =
    record places { tables = insert_entry same_text places.tables table (with_holder (holders_of places table) keyspace mark) }

-- ---- what stands

-- whether there are any
abbrev pub are_any : List (List ℕ) → Bool
are_any [] = false
are_any (keyspace ∷ keyspaces) = true

-- without the keys that have no rule, and the tables that no keyspace has
abbrev pub standing : PlacesState → PlacesState
standing places = record { rules = filter (λ e. is_some e.1) places.rules; tables = filter (λ e. are_any e.1) places.tables }

-- ---- what is said

-- whether a keyspace has a table
abbrev pub is_held : PlacesState → (keyspace table : List ℕ) → Bool
is_held places keyspace table = list_any (same_text keyspace) (holders_of places table)

-- what is said at a key: where nothing stands there is no rule, or no table
abbrev pub said_in : PlacesState → EntryKey → Entry
said_in places (about.Rule key) = entry.Rule key (rule_at places.rules key)
said_in places (about.Denied keyspace table) = entry.Denied keyspace table false
said_in places (about.Present keyspace table) = entry.Present keyspace table (is_held places keyspace table)

-- ---- look-up

-- a name without a rule: a qualified one is itself, another the table of the one keyspace that has it
abbrev pub unruled_at : PlacesState → Option (List ℕ) → (table : List ℕ) → Result RuleTarget TopologyFault
unruled_at places (Some keyspace) table = Ok (record { keyspace = keyspace; table = table })
unruled_at places None table = sole_holder (holders_of places table) table

-- where a name leads for a type
abbrev pub found_in : PlacesState → RuleKey → TabletType → Result RuleTarget TopologyFault
found_in places key tablet_type = option_map_or Ok (rule_for places.rules key tablet_type) (unruled_at places key.keyspace key.table)

-- ---- what is true of all places, and of those that show a publication

-- no key and no table stands twice, and no keyspace twice at a table
pub record ArePlaces (places : PlacesState) : Type 0 where
  pub rules : IsDistinct same_key (keys_of places.rules)
  pub tables : IsDistinct same_text (keys_of places.tables)
  pub holders : All (IsDistinct same_text) (values_of places.tables)

-- routes say each of themselves, and no table twice in one keyspace
pub record AreRoutes (routes : List Entry) : Type 0 where
  pub each : All (λ e. said_by routes (key_of e) ≡ e) routes
  pub once : AreListedOnce routes

-- places say what routes say
abbrev pub Agrees : PlacesState → List Entry → Type 0
Agrees places routes = (key : EntryKey) → said_in places key ≡ said_by routes key

-- there is a last publication, and the places say what its routes say
pub record Shows (list : List Publication) (places : PlacesState) : Type 0 where
  pub any : is_some (last_or None list) ≡ true
  pub routes : AreRoutes (last_routes list)
  pub agrees : Agrees places (last_routes list)
