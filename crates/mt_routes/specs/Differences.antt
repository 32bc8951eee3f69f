-- What routes say otherwise than the routes before them.
use Rattle.std.specs.Prelude.{◌≡◌, ◌≢◌, ◌&&◌, ◌++◌, ◌↔◌, ℕ, Bool, true, false, cond, filter, is_some, not, Contains, List, [], ◌∷◌, Option, None, Some}
use Rattle.std.specs.List.{flat_map}
use Rattle.mt_names.specs.declared.keys.RuleKey.{RuleKey}
use Rattle.mt_names.specs.declared.keys.RuleTarget.{RuleTarget}
use Rattle.mt_names.specs.Same.{same_target}
use Rattle.mt_model.specs.declared.entries.Entry.{Entry}
use Rattle.mt_model.specs.declared.entries.Entry.TheVariants as entry
use Rattle.mt_model.specs.Topology.{key_of, rule_at}
use Rattle.mt_routes.specs.LookUp.{said_by}
use Rattle.mt_routes.specs.Places.{PlacesState, is_held}

-- an entry that routes say otherwise than those before them, as they say it
abbrev pub IsDifference : (before routes : List Entry) → Entry → Type 0
IsDifference before routes e = (said_by routes (key_of e) ≡ e) × (said_by before (key_of e) ≢ e)

-- all of these, and no others
abbrev pub AreDifferences : (before routes entries : List Entry) → Type 0
AreDifferences before routes entries = (e : Entry) → Contains entries e ↔ IsDifference before routes e

-- ---- the same as a list, in no order

-- whether a rule is as it is to be
abbrev pub is_rule : Option RuleTarget → Option RuleTarget → Bool
is_rule None None = true
is_rule None (Some target) = false
is_rule (Some found) None = false
is_rule (Some found) (Some target) = same_target found target

-- whether an entry is what places say at its key
abbrev pub is_said : PlacesState → Entry → Bool
is_said places (entry.Rule key target) = is_rule (rule_at places.rules key) target
is_said places (entry.Denied keyspace table mark) = not mark
is_said places (entry.Present keyspace table mark) = cond (is_held places keyspace table) mark (not mark)

-- a rule that is to be taken away, since the key has none
abbrev pub rule_gone : (has_rule : RuleKey → Bool) → RuleKey × Option RuleTarget → List Entry
rule_gone has_rule rule = cond (is_some rule.1 && not (has_rule rule.0)) (entry.Rule rule.0 None ∷ []) []

-- a table that is to be taken away from a keyspace, since that hasn't it
abbrev pub table_gone : (has_table : List ℕ → List ℕ → Bool) → (table keyspace : List ℕ) → List Entry
table_gone has_table table keyspace = cond (has_table keyspace table) [] (entry.Present keyspace table false ∷ [])

-- and from all keyspaces that haven't it
abbrev pub tables_gone : (has_table : List ℕ → List ℕ → Bool) → List ℕ × List (List ℕ) → List Entry
tables_gone has_table table = flat_map (table_gone has_table table.0) table.1

-- all that is to be taken away, and all else that isn't said
abbrev pub differences : (has_rule : RuleKey → Bool) → (has_table : List ℕ → List ℕ → Bool) → PlacesState → (routes : List Entry) → List Entry
differences has_rule has_table places routes =
    flat_map (rule_gone has_rule) places.rules ++ (flat_map (tables_gone has_table) places.tables ++ filter (λ e. not (is_said places e)) routes)
