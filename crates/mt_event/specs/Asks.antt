-- What is asked of the controller with its names lent, and what is told of it, in the words of the definitions.
use Rattle.std.specs.Prelude.{ℕ, Bool, true, false, List, Result, Ok, Err}
use Rattle.std.specs.Option.{option_copied}
use Rattle.mt_event.specs.declared.ask.Ask.{Ask}
use Rattle.mt_event.specs.declared.ask.Ask.TheVariants as ask
use Rattle.mt_event.specs.declared.ask.Verb.{Verb}
use Rattle.mt_event.specs.declared.ask.Verb.TheVariants as verb
use Rattle.mt_event.specs.declared.event.Event.{Event}
use Rattle.mt_event.specs.declared.event.Event.TheVariants as event
use Rattle.mt_event.specs.declared.reason.Reason.{Reason}
use Rattle.mt_event.specs.declared.refusal.Refusal.{Refusal}
use Rattle.mt_event.specs.declared.reply.Told.{Told}
use Rattle.mt_event.specs.declared.reply.Told.TheVariants as told
use Rattle.mt_event.specs.Events.{event_of, refusal_from}
use Rattle.mt_event.specs.Reasons.{reason_from}
use Rattle.mt_plain.specs.Events as plain

-- ---- what is asked

-- of a workflow that is there, as the event with a name of its own
abbrev pub owned_on : (workflow : List ℕ) → Verb → Event
owned_on workflow (verb.Advance stream shard at max) = event.Advance workflow stream shard at max
owned_on workflow (verb.BeginSwitch types) = event.BeginSwitch workflow types
owned_on workflow (verb.BeginReverse types) = event.BeginReverse workflow types
owned_on workflow (verb.Step at) = event.Step workflow at
owned_on workflow (verb.Undo at) = event.Undo workflow at
owned_on workflow verb.Cancel = event.Cancel workflow
owned_on workflow verb.Complete = event.Complete workflow
owned_on workflow verb.Show = event.Show workflow

-- of the controller, as the event with names of its own
abbrev pub owned : Ask → Event
owned (ask.Write keyspace table op) = event.Write keyspace.now table.now op.now
owned (ask.Read keyspace table key type_of) = event.Read keyspace.now table.now key type_of
owned (ask.AddKeyspace keyspace shards) = event.AddKeyspace keyspace.now shards.now
owned (ask.AddTable keyspace table) = event.AddTable keyspace.now table.now
owned (ask.EditRule key target) = event.EditRule key.now (option_copied target)
owned (ask.Create workflow source target tables) = event.Create workflow.now source.now target.now tables.now
owned (ask.On workflow what) = owned_on workflow.now what

-- in the words of the definitions
abbrev pub event_on : (workflow : List ℕ) → Verb → plain.Event
event_on workflow what = event_of (owned_on workflow what)

abbrev pub event_of_ask : Ask → plain.Event
event_of_ask asked = event_of (owned asked)

-- whether it asks of a workflow that is there
abbrev pub asks_a_workflow : Ask → Bool
asks_a_workflow (ask.On workflow what) = true
asks_a_workflow other = false

-- so of an event
abbrev pub is_on_a_workflow : Event → Bool
is_on_a_workflow (event.Write keyspace table op) = false
is_on_a_workflow (event.Read keyspace table key type_of) = false
is_on_a_workflow (event.AddKeyspace keyspace shards) = false
is_on_a_workflow (event.AddTable keyspace table) = false
is_on_a_workflow (event.EditRule key target) = false
is_on_a_workflow (event.Create workflow source target tables) = false
is_on_a_workflow other = true

-- ---- what is told

-- as an answer, where a Show is answered so
abbrev pub answer_told : (lent : plain.Answer) → Result Told Refusal → plain.Answer
answer_told lent (Ok told.Done) = plain.done
answer_told lent (Ok (told.Row row)) = plain.row row
answer_told lent (Ok (told.Advanced counts)) = plain.advanced counts.events counts.rows
answer_told lent (Ok told.Shown) = lent
answer_told lent (Err why) = plain.refused (refusal_from why)

-- the same where no name is told
abbrev pub answer_told_by : (lent : plain.Answer) → Result Told Reason → plain.Answer
answer_told_by lent (Ok told.Done) = plain.done
answer_told_by lent (Ok (told.Row row)) = plain.row row
answer_told_by lent (Ok (told.Advanced counts)) = plain.advanced counts.events counts.rows
answer_told_by lent (Ok told.Shown) = lent
answer_told_by lent (Err why) = plain.refused (reason_from why)
