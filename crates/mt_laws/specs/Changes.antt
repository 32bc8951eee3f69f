-- Which events change what: the table of the next states, read from the side of what stays the same.
use Rattle.std.specs.Prelude.{◌≡◌, ℕ, List, ⊤}
use Rattle.mt_plain.specs.Events.{Event, write, read, add_keyspace, add_table, edit_rule, create, advance, begin_switch, begin_reverse, step, undo, cancel, complete, show}
use Rattle.mt_plain.specs.Plain.{Copied, Lane, Live}

-- the topology as if no workflow were live
abbrev pub ChangesTopology : Event → Type 0
ChangesTopology (add_keyspace keyspace cuts) = ⊤
ChangesTopology (add_table keyspace table) = ⊤
ChangesTopology (edit_rule key target) = ⊤
ChangesTopology (complete workflow) = ⊤
ChangesTopology other = ⊥

-- the numbers of the tables
abbrev pub ChangesNumbers : Event → Type 0
ChangesNumbers (add_table keyspace table) = ⊤
ChangesNumbers (complete workflow) = ⊤
ChangesNumbers other = ⊥

-- the acknowledged writes
abbrev pub ChangesWrites : Event → Type 0
ChangesWrites (write keyspace table op) = ⊤
ChangesWrites other = ⊥

-- the logs
abbrev pub ChangesLogs : Event → Type 0
ChangesLogs (write keyspace table op) = ⊤
ChangesLogs (advance workflow name shard at at_most) = ⊤
ChangesLogs other = ⊥

-- how many ways were begun
abbrev pub BeginsWay : Event → Type 0
BeginsWay (begin_switch workflow types) = ⊤
BeginsWay (begin_reverse workflow types) = ⊤
BeginsWay other = ⊥

-- the journal, and the types that a workflow has switched
abbrev pub IsStep : Event → Type 0
IsStep (step workflow at) = ⊤
IsStep other = ⊥

-- the way that a workflow has open
abbrev pub ChangesWay : Event → Type 0
ChangesWay (begin_switch workflow types) = ⊤
ChangesWay (begin_reverse workflow types) = ⊤
ChangesWay (step workflow at) = ⊤
ChangesWay (undo workflow at) = ⊤
ChangesWay other = ⊥

-- how much of the writes has reached the other side, and how far the copy has come
abbrev pub IsAdvance : Event → Type 0
IsAdvance (advance workflow name shard at at_most) = ⊤
IsAdvance other = ⊥

-- the positions of its streams
abbrev pub MovesStream : Event → Type 0
MovesStream (advance workflow name shard at at_most) = ⊤
MovesStream (step workflow at) = ⊤
MovesStream other = ⊥

-- what was fed to a lane, and its copied range
abbrev pub fed_and_copied : Lane → ℕ × Copied
fed_and_copied lane = (lane.fed, lane.copied)

-- which workflows are live
abbrev pub ChangesLives : Event → Type 0
ChangesLives (create workflow source target tables) = ⊤
ChangesLives (cancel workflow) = ⊤
ChangesLives (complete workflow) = ⊤
ChangesLives other = ⊥

-- the events that ask of the workflow of a name
abbrev pub IsOf : (name : List ℕ) → Event → Type 0
IsOf name (create workflow source target tables) = workflow ≡ name
IsOf name (advance workflow stream shard at at_most) = workflow ≡ name
IsOf name (begin_switch workflow types) = workflow ≡ name
IsOf name (begin_reverse workflow types) = workflow ≡ name
IsOf name (step workflow at) = workflow ≡ name
IsOf name (undo workflow at) = workflow ≡ name
IsOf name (cancel workflow) = workflow ≡ name
IsOf name (complete workflow) = workflow ≡ name
IsOf name other = ⊥

-- the events on rows and streams, and those that only tell
abbrev pub IsOfRows : Event → Type 0
IsOfRows (write keyspace table op) = ⊤
IsOfRows (read keyspace table key tablet_type) = ⊤
IsOfRows (advance workflow name shard at at_most) = ⊤
IsOfRows (show workflow) = ⊤
IsOfRows other = ⊥

-- reads and Show
abbrev pub OnlyTells : Event → Type 0
OnlyTells (read keyspace table key tablet_type) = ⊤
OnlyTells (show workflow) = ⊤
OnlyTells other = ⊥

-- a workflow's name, sides and tables, and the shards of its target
pub record HasSides (w v : Live) : Type 0 where
  pub name : w.name ≡ v.name
  pub source : w.source ≡ v.source
  pub target : w.target ≡ v.target
  pub tables : w.tables ≡ v.tables
  pub cuts : w.cuts ≡ v.cuts
