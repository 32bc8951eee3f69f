-- What Create makes, and states whose next event asks watchers.
use Rattle.std.specs.List.{flat_map}
use Rattle.std.specs.Prelude.{◌++◌, ◌∷◌, [], Bool, List, None, Option, Some, true, ℕ}
use Rattle.mt_names.specs.declared.keys.RuleTarget.{RuleTarget}
use Rattle.mt_names.specs.declared.types.TabletType.TheVariants.{Primary, Rdonly, Replica}
use Rattle.mt_names.specs.Types.{all_types}
use Rattle.mt_model.specs.declared.entries.Entry.{Entry}
use Rattle.mt_plain.specs.Asks.{asked_change}
use Rattle.mt_plain.specs.Events.{Event, advance, begin_switch, create, edit_rule, forward}
use Rattle.mt_plain.specs.Plain.{Plain, in_keyspace}
use Rattle.mt_worked.specs.States.{after_events, at_source, begun, commerce, corder, customer, mv, other, steps_from}
use Rattle.mt_model.specs.declared.entries.Entry.TheVariants as entry

-- the rules of a name for all types, for primaries, for replicas and for batch reads
abbrev pub rules_of : Option (List ℕ) → (table : List ℕ) → (to reads : Option RuleTarget) → List Entry
rules_of keyspace table to reads =
    entry.Rule (record { keyspace = keyspace; table = table; tablet_type = None }) to
    ∷ entry.Rule (record { keyspace = keyspace; table = table; tablet_type = Some Primary }) None
    ∷ entry.Rule (record { keyspace = keyspace; table = table; tablet_type = Some Replica }) reads
    ∷ entry.Rule (record { keyspace = keyspace; table = table; tablet_type = Some Rdonly }) reads
    ∷ []

-- what Create makes of a table that moves from commerce to customer, where the source's own name has this rule
abbrev pub created_rules : (table : List ℕ) → (own : Option RuleTarget) → List Entry
created_rules table own =
    let source = Some (in_keyspace commerce table) in
    rules_of None table source source ++ rules_of (Some commerce) table own source
    ++ rules_of (Some customer) table source source

abbrev pub created_marks : (table : List ℕ) → List Entry
created_marks table = entry.Denied customer table true ∷ entry.Present customer table true ∷ []

-- a Create of two tables, the second one named twice
abbrev pub two_made : Event
two_made = create mv commerce customer (other ∷ corder ∷ other ∷ [])

-- a state with a rule of the source's own name
abbrev pub own_ruled : Plain
own_ruled = after_events begun (edit_rule (at_source corder) (Some (in_keyspace commerce corder)) ∷ [])

-- a way of two tables with two steps done
abbrev pub two_stepped : Plain
two_stepped = after_events begun (two_made ∷ advance mv forward 0 1 100 ∷ begin_switch mv all_types ∷ steps_from 0 2)

-- an entry of a denial at a side
abbrev pub denial : (keyspace : List ℕ) → Bool → List Entry
denial keyspace mark = entry.Denied keyspace corder mark ∷ []

-- what watchers are asked with by any of some events
abbrev pub asked_by_any : Plain → List Event → List Entry
asked_by_any p events = flat_map (asked_change p) events
