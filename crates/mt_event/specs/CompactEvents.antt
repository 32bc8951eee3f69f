-- Events, as they are kept (this profile's own).
use Rattle.std.specs.Prelude.{◌≡◌, ⊤, Bool, true, false, List, ℕ}
use Rattle.mt_event.specs.declared.event.Event.{Event}
use Rattle.mt_event.specs.declared.event.Event.TheVariants as event
use Rattle.mt_event.specs.declared.compact.events.Asked.{Asked}
use Rattle.mt_event.specs.declared.compact.events.Asked.TheVariants as asked
use Rattle.mt_event.specs.Asks.{is_on_a_workflow, owned_on}

-- what is asked, wherever it stands
abbrev pub event_from : Asked → Event
event_from (asked.Write keyspace table op) = event.Write keyspace table op
event_from (asked.Read type_of key keyspace table) = event.Read keyspace table key type_of
event_from (asked.OnWorkflow workflow what) = owned_on workflow what
event_from (asked.Other all) = all.value

-- no other event takes memory of its own
abbrev pub IsApart : Asked → Type 0
IsApart (asked.Other all) = is_on_a_workflow all.value ≡ false
IsApart other = ⊤
