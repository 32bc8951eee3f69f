-- Names, events and states that the rows speak of.
use Rattle.std.specs.Prelude.{◌∷◌, ◌+◌, [], List, None, Some, codes, suc, zero, ℕ}
use Rattle.mt_names.specs.declared.keys.RuleKey.{RuleKey}
use Rattle.mt_names.specs.Types.{all_types}
use Rattle.mt_model.specs.declared.rows.Op.TheVariants.{Insert}
use Rattle.mt_model.specs.Rows.{RowValue}
use Rattle.mt_plain.specs.Answers.{answer_of}
use Rattle.mt_plain.specs.Events.{Event, add_keyspace, add_table, advance, advanced, begin_reverse, begin_switch}
use Rattle.mt_plain.specs.Events.{create, edit_rule, forward, step, undo, write}
use Rattle.mt_plain.specs.Next.{next}
use Rattle.mt_plain.specs.Output.{watchers_of}
use Rattle.mt_plain.specs.Plain.{Plain, in_keyspace, opening}

abbrev pub commerce : List ℕ
commerce = codes "commerce"

abbrev pub customer : List ℕ
customer = codes "customer"

abbrev pub corder : List ℕ
corder = codes "corder"

abbrev pub other : List ℕ
other = codes "other"

-- a name of nothing
abbrev pub nosuch : List ℕ
nosuch = codes "nosuch"

-- the name of the workflow
abbrev pub mv : List ℕ
mv = codes "mv"

abbrev pub value : List ℕ → RowValue
value bytes = record { items = bytes }

-- a row is put at a side
abbrev pub put : (keyspace table : List ℕ) → (key : ℕ) → List ℕ → Event
put keyspace table key bytes = write keyspace table (Insert key (value bytes))

-- a workflow of this name is made, which moves the table
abbrev pub made : List ℕ → Event
made name = create name commerce customer (corder ∷ [])

-- another one is made, which moves the other table
abbrev pub made_of_other : Event
made_of_other = create nosuch commerce customer (other ∷ [])

-- the key of a name's rule for all types, of the name alone or at a keyspace
abbrev pub plain : List ℕ → RuleKey
plain table = record { keyspace = None; table = table; tablet_type = None }

abbrev pub at_source : List ℕ → RuleKey
at_source table = record { keyspace = Some commerce; table = table; tablet_type = None }

abbrev pub at_target : List ℕ → RuleKey
at_target table = record { keyspace = Some customer; table = table; tablet_type = None }

-- the state after events that meet no free answer
abbrev pub after_events : Plain → List Event → Plain
after_events p [] = p
after_events p (event ∷ events) = after_events (next p event (answer_of p event)) events

-- steps one after the other, from this number up
abbrev pub steps_from : (first count : ℕ) → List Event
steps_from first zero = []
steps_from first (suc count) = step mv first ∷ steps_from (first + 1) count

-- ---- before the move

-- the state in which all begins, with watchers of both primaries
abbrev pub watched : Plain
watched = opening (watchers_of (commerce ∷ customer ∷ []))

-- two keyspaces, of which the first has two tables, and one of these a row
abbrev pub keyspaces_and_tables : List Event
keyspaces_and_tables =
    add_keyspace commerce [] ∷ add_keyspace customer [] ∷ add_table commerce corder ∷ add_table commerce other
    ∷ put commerce corder 1 (codes "a") ∷ []

abbrev pub begun : Plain
begun = after_events watched keyspaces_and_tables

abbrev pub unwatched : Plain
unwatched = after_events (opening (watchers_of (commerce ∷ []))) keyspaces_and_tables

-- a rule leads elsewhere
abbrev pub ruled : Plain
ruled = after_events begun (edit_rule (at_target corder) (Some (in_keyspace customer corder)) ∷ [])

-- ---- on the move

-- a workflow; its copy at the end; a way of all types, with no step done, with two, with two undone to one, and with
-- three, six, seven and eight; and all switched
abbrev pub live : Plain
live = after_events begun (made mv ∷ [])

abbrev pub copied : Plain
copied = after_events live (advance mv forward 0 1 100 ∷ [])

abbrev pub opened : Plain
opened = after_events copied (begin_switch mv all_types ∷ [])

abbrev pub stepped : Plain
stepped = after_events opened (steps_from 0 2)

abbrev pub undone : Plain
undone = after_events stepped (undo mv 2 ∷ [])

abbrev pub refreshed : Plain
refreshed = after_events stepped (steps_from 2 1)

abbrev pub before_journal : Plain
before_journal = after_events stepped (steps_from 2 4)

abbrev pub journalled : Plain
journalled = after_events before_journal (steps_from 6 1)

abbrev pub allowed : Plain
allowed = after_events journalled (steps_from 7 1)

abbrev pub switched : Plain
switched = after_events journalled (steps_from 7 5)

-- a way back of all types, with no step done, with two, and with eight
abbrev pub reversing : Plain
reversing = after_events switched (begin_reverse mv all_types ∷ [])

abbrev pub back_stepped : Plain
back_stepped = after_events reversing (steps_from 0 2)

abbrev pub back_allowed : Plain
back_allowed = after_events back_stepped (steps_from 2 6)

-- a way with no step done, behind which a write was acknowledged
abbrev pub behind : Plain
behind = after_events opened (put commerce corder 2 (codes "b") ∷ [])

-- two rows to copy, and one of them copied; two entries to apply, and one behind one of another table
abbrev pub live_of_two : Plain
live_of_two = after_events begun (put commerce corder 2 (codes "b") ∷ made mv ∷ [])

abbrev pub cut : Plain
cut = next live_of_two (advance mv forward 0 2 100) (advanced 0 1)

abbrev pub behind_by_two : Plain
behind_by_two = after_events copied (put commerce corder 2 (codes "b") ∷ put commerce corder 3 (codes "c") ∷ [])

abbrev pub behind_by_others : Plain
behind_by_others = after_events copied (put commerce other 2 (codes "b") ∷ put commerce corder 3 (codes "c") ∷ [])
