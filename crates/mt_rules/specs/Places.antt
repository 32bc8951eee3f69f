-- Names, each with the places of its four keys, and the rules that stand at these in the order of their keys.
use Rattle.std.specs.Prelude.{ℕ, ◌+◌, ◌||◌, Bool, true, false, List, [], ◌∷◌, ◌++◌, flat_map, find, is_some, unwrap_or, Option, None, Some, option_and_then, option_map}
use Rattle.std.specs.Hash as fed
use Rattle.std.specs.Int.{from_bool}
use Rattle.std.specs.Map.{lookup, set_value}
use Rattle.std.specs.Option.{option_map_or}
use Rattle.mt_names.specs.declared.keys.RuleKey.{RuleKey}
use Rattle.mt_names.specs.declared.keys.RuleTarget.{RuleTarget}
use Rattle.mt_names.specs.declared.types.TabletType.{TabletType}
use Rattle.mt_names.specs.declared.types.TabletType.TheVariants.{Primary, Replica, Rdonly}
use Rattle.mt_names.specs.Hashes.{keyspace_input}
use Rattle.mt_names.specs.Same.{same_key}
use Rattle.mt_model.specs.Order.{key_before, ordered}
use Rattle.mt_model.specs.Topology.{Rules}
use Rattle.mt_rules.specs.declared.name.RuleName.{RuleName}
use Rattle.mt_rules.specs.declared.four.FourPlaces.{FourPlaces}
use Rattle.mt_rules.specs.contracts.name.RuleNamePartialEq.TheImpl as of_name

-- ---- four places

-- what a place has, if there is one: a rule or none
abbrev pub Place : Type 0
Place = Option (Option RuleTarget)

-- the place of the key for a type or for all
abbrev pub place_at : FourPlaces → Option TabletType → Place
place_at four None = four.all
place_at four (Some Primary) = four.primary
place_at four (Some Replica) = four.replica
place_at four (Some Rdonly) = four.rdonly

abbrev pub with_place_at : FourPlaces → Option TabletType → Place → FourPlaces
with_place_at four None place = record four { all = place }
with_place_at four (Some Primary) place = record four { primary = place }
with_place_at four (Some Replica) place = record four { replica = place }
with_place_at four (Some Rdonly) place = record four { rdonly = place }

-- a place without a rule
abbrev pub is_blank : Place → Bool
is_blank None = false
is_blank (Some None) = true
is_blank (Some (Some rule)) = false

-- what is left of a place that is dropped if it has no rule
abbrev pub released : Place → Place
released None = None
released (Some None) = None
released (Some (Some rule)) = Some (Some rule)

-- the four places, those dropped that have no rule; and how many those are
abbrev pub released_at : FourPlaces → Option TabletType → FourPlaces
released_at four type = with_place_at four type (released (place_at four type))

abbrev pub released_four : FourPlaces → FourPlaces
released_four four = released_at (released_at (released_at (released_at four (Some Rdonly)) (Some Replica)) (Some Primary)) None

abbrev pub blank_count : FourPlaces → ℕ
blank_count four = from_bool (is_blank four.all) + from_bool (is_blank four.primary) + from_bool (is_blank four.replica) + from_bool (is_blank four.rdonly)

-- whether a place has a rule, whether one of the four has one, and how many have
abbrev pub is_ruled : Place → Bool
is_ruled place = is_some (unwrap_or place None)

abbrev pub any_ruled : FourPlaces → Bool
any_ruled four = is_ruled four.all || is_ruled four.primary || is_ruled four.replica || is_ruled four.rdonly

abbrev pub ruled_count : FourPlaces → ℕ
ruled_count four = from_bool (is_ruled four.all) + from_bool (is_ruled four.primary) + from_bool (is_ruled four.replica) + from_bool (is_ruled four.rdonly)

-- no place
abbrev pub no_places : FourPlaces
no_places = record { all = None; primary = None; replica = None; rdonly = None }

-- ---- names

-- the name that a key is for
abbrev pub name_of : RuleKey → RuleName
name_of key = record { keyspace = key.keyspace; table = key.table }

-- the key of a name for a type or for all
abbrev pub key_of : RuleName → Option TabletType → RuleKey
key_of name type = record { keyspace = name.keyspace; table = name.table; tablet_type = type }

-- what a name feeds a hasher
abbrev pub name_input : RuleName → fed.HashWrites
name_input name = name.table ∷ keyspace_input name.keyspace

-- the test that `==` of two names computes
abbrev pub same_name : RuleName → RuleName → Bool
same_name = of_name.ghosts.eq

abbrev pub Names : Type 0
Names = List (RuleName × FourPlaces)

-- the place of a key
abbrev pub place_in : Names → RuleKey → Place
place_in names key = option_and_then (λ four. place_at four key.tablet_type) (lookup (same_name (name_of key)) names)

-- the places of a name changed, where there is the name
abbrev pub with_name : Names → RuleName → (FourPlaces → FourPlaces) → Names
with_name names name change = option_map_or (λ four. set_value (same_name name) names (change four)) (lookup (same_name name) names) names

-- ---- the rules

-- a key with what its place has, if there is one
abbrev pub entry_at : RuleKey → Place → Rules
entry_at key None = []
entry_at key (Some rule) = (key, rule) ∷ []

-- those of a name's four keys
abbrev pub four_entries : RuleName × FourPlaces → Rules
four_entries n =
    entry_at (key_of n.0 None) n.1.all
    ++ (entry_at (key_of n.0 (Some Primary)) n.1.primary ++ (entry_at (key_of n.0 (Some Replica)) n.1.replica ++ entry_at (key_of n.0 (Some Rdonly)) n.1.rdonly))

-- those of all names
abbrev pub listed : Names → Rules
listed names = flat_map four_entries names

-- the same in the order of the keys
abbrev pub rules_in : Names → Rules
rules_in names = ordered key_before same_key (listed names)

-- ---- a walk over them

-- a key comes after another, or there is no other
abbrev pub is_after : Option RuleKey → RuleKey → Bool
is_after None key = true
is_after (Some last) key = key_before last key

-- the first key after another
abbrev pub first_after : Option RuleKey → Rules → Option RuleKey
first_after last rules = option_map (λ r. r.0) (find (λ r. is_after last r.0) rules)
