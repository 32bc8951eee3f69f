-- What is promised of a run from each state that is reached, an opening among them. Its lines are counted from 0: each asks for an event, and
-- has the answer to it.
use Rattle.std.specs.Prelude.{◌≡◌, ◌≢◌, ◌↔◌, ◌⊎◌, ℕ, suc, ◌+◌, ◌<◌, ◌≤◌, true, false, List, count_by, fold, length, take, slice_get, Option, None, Some, is_some, option_map}
use Rattle.mt_names.specs.declared.types.TabletType.{TabletType}
use Rattle.mt_names.specs.declared.types.TabletType.TheVariants.{Primary}
use Rattle.mt_names.specs.declared.types.TypeSet.{TypeSet}
use Rattle.mt_model.specs.declared.entries.EntryKey.{EntryKey}
use Rattle.mt_model.specs.declared.rows.Op.{Op}
use Rattle.mt_model.specs.Rows.{Row}
use Rattle.mt_plain.specs.Answers.{after}
use Rattle.mt_plain.specs.Drive.{way_of}
use Rattle.mt_plain.specs.Events.{Event, write, read, create, begin_switch, begin_reverse, step, undo, cancel, complete, StreamName, Answer, done, row, Way}
use Rattle.mt_plain.specs.Plain.{Lane, Live, Plain, changed_types, lane_at, is_side, live_at, mover, moves, next_step, owner, write_journal}
use Rattle.mt_plain.specs.Serve.{IsWritable, refuses, served_entry}
use Rattle.mt_plain.specs.Slots.{is_for, past, read_side, running_at, slot_of}
use Rattle.mt_plain.specs.Writes.{client_number, client_row, other_row, lane_writes, row_after_writes}
use Rattle.mt_laws.specs.Acknowledged.{acknowledged, row_with_op}
use Rattle.mt_laws.specs.Copies.{tests_level}
use Rattle.mt_laws.specs.WayBack.{IsBegin, ends_way, ends_workflow, in_part}

-- the state before a line
abbrev pub state_at : Plain → List Event → List Answer → ℕ → Plain
state_at p events answers i = after p (take i events) (take i answers)

-- a line asks for this event, and this is its answer
abbrev pub IsLine : List Event → List Answer → ℕ → Event → Answer → Type 0
IsLine events answers i event answer = (slice_get events i ≡ Some event) × (slice_get answers i ≡ Some answer)

-- no line between two ended the workflow
abbrev pub LivesBetween : (name : List ℕ) → List Event → List Answer → (i j : ℕ) → Type 0
LivesBetween name events answers i j =
    (k : ℕ) (event : Event) (answer : Answer) → i < k → k < j → IsLine events answers k event answer → ends_workflow name event answer ≡ false

-- no line between two was the last step of a way of the workflow
abbrev pub NoWayEndsBetween : (name : List ℕ) → Plain → List Event → List Answer → (i j : ℕ) → Type 0
NoWayEndsBetween name p events answers i j =
    (k : ℕ) (event : Event) (answer : Answer) → i < k → k < j → IsLine events answers k event answer
    → ends_way name (state_at p events answers k) event answer ≡ false

-- a way of the workflow, from the line that began it to the one that closed it
pub record IsWay (name : List ℕ) (begin last : Event) (p : Plain) (events : List Event) (answers : List Answer) (i j : ℕ) : Type 0 where
  pub order : i < j
  pub begins : IsLine events answers i begin done
  pub ends : IsLine events answers j last done
  pub stays_open : (k : ℕ) → i < k → k ≤ j → is_some (way_of (state_at p events answers k) name) ≡ true
  pub closed : way_of (state_at p events answers (suc j)) name ≡ None

-- the types that the way changes that a line began
abbrev pub types_changed : (name : List ℕ) → Plain → List Event → List Answer → ℕ → Option TypeSet
types_changed name p events answers i = option_map changed_types (way_of (state_at p events answers (suc i)) name)

-- whatever client calls, stream steps, rule edits and workflow commands the run has, in whatever order
pub record Headline (p : Plain) (events : List Event) (answers : List Answer) : Type 0 where
  -- Cancel gives back the workflow's part of the topology from before Create
  pub cancel_gives_back : (name source target : List ℕ) (tables : List (List ℕ)) (i j : ℕ) → i < j
      → IsLine events answers i (create name source target tables) done → IsLine events answers j (cancel name) done
      → LivesBetween name events answers i j → (key : EntryKey) → in_part (state_at p events answers j) name key ≡ true
      → served_entry (state_at p events answers (suc j)) key ≡ served_entry (state_at p events answers i) key
  -- and leaves every other entry as it was just before
  pub cancel_leaves_others : (name : List ℕ) (i : ℕ) → IsLine events answers i (cancel name) done → (key : EntryKey)
      → in_part (state_at p events answers i) name key ≡ false
      → served_entry (state_at p events answers (suc i)) key ≡ served_entry (state_at p events answers i) key
  -- ReverseTraffic gives back that from before SwitchTraffic
  pub reverse_gives_back : (name : List ℕ) (types back_types : TypeSet) (at at_back i j k l : ℕ) → j < k
      → IsWay name (begin_switch name types) (step name at) p events answers i j
      → IsWay name (begin_reverse name back_types) (step name at_back) p events answers k l
      → LivesBetween name events answers j k → NoWayEndsBetween name p events answers j k
      → types_changed name p events answers i ≡ types_changed name p events answers k
      → (key : EntryKey) → in_part (state_at p events answers i) name key ≡ true
      → served_entry (state_at p events answers (suc l)) key ≡ served_entry (state_at p events answers i) key
  -- an abandoned switch, or reversal, gives back that from its start
  pub undo_gives_back : (name : List ℕ) (begin : Event) (at i j : ℕ) → IsBegin name begin
      → IsWay name begin (undo name at) p events answers i j → (key : EntryKey)
      → in_part (state_at p events answers i) name key ≡ true
      → served_entry (state_at p events answers (suc j)) key ≡ served_entry (state_at p events answers i) key
  -- no moved table is ever writable in two keyspaces
  pub never_writable_in_two : (i : ℕ) (table : List ℕ) (w : Live) → mover (state_at p events answers i) table ≡ Some w
      → IsWritable (state_at p events answers i) w.source table → IsWritable (state_at p events answers i) w.target table → ⊥
  -- and where no way of its workflow is open, it is writable in the owner, and not in the other side
  pub writable_at_rest : (i : ℕ) (table : List ℕ) (w : Live) → mover (state_at p events answers i) table ≡ Some w → w.way ≡ None
      → (keyspace : List ℕ) → is_side w keyspace ≡ true → IsWritable (state_at p events answers i) keyspace table ↔ (keyspace ≡ owner w)
  -- there in each shard
  pub open_at_rest : (i : ℕ) (table : List ℕ) (w : Live) → mover (state_at p events answers i) table ≡ Some w → w.way ≡ None
      → (shard : ℕ) → refuses (state_at p events answers i) (owner w) shard table ≡ false
  -- each write to a moved table is acknowledged at the owner
  pub writes_at_the_owner : (i : ℕ) (keyspace table : List ℕ) (op : Op) (w : Live) → IsLine events answers i (write keyspace table op) done
      → mover (state_at p events answers i) table ≡ Some w → is_side w keyspace ≡ true → keyspace ≡ owner w
  -- a read at the side that isn't the owner answers, in the copied range, what the writes that were fed leave
  pub others_answer_what_was_fed : (i : ℕ) (keyspace table : List ℕ) (key : ℕ) (tablet_type : TabletType) (r : Row) (w : Live)
      → IsLine events answers i (read keyspace table key tablet_type) (row r) → mover (state_at p events answers i) table ≡ Some w
      → is_side w keyspace ≡ true → keyspace ≢ owner w → r ≡ other_row (state_at p events answers i) w table key
  -- the writes that aren't fed yet are those past the position of the stream that runs, which reads the owner
  pub no_write_is_skipped : (i : ℕ) (name : List ℕ) (w : Live) (shard : ℕ) (lane : Lane) (stream : StreamName) (at : ℕ) → live_at (state_at p events answers i) name ≡ Some w
      → lane_at w shard ≡ Some lane → running_at (slot_of w lane stream) ≡ Some at → (read_side w stream ≡ owner w)
      × (lane.fed + count_by (is_for w lane) (past (state_at p events answers i) w lane stream at) ≡ length (lane_writes (state_at p events answers i) w lane))
  -- where reads are switched to the side that isn't the owner, at the catch-up and at the journal, that side has every row of the owner
  pub no_row_is_lost : (i : ℕ) (name : List ℕ) (at : ℕ) (w : Live) (way : Way) → IsLine events answers i (step name at) done
      → live_at (state_at p events answers i) name ≡ Some w → w.way ≡ Some way
      → (tests_level w way ≡ true) ⊎ (next_step way ≡ write_journal) → (table : List ℕ) → moves w table ≡ true → (key : ℕ)
      → other_row (state_at p events answers i) w table key ≡ client_row (state_at p events answers i) (owner w) table key
  -- Complete leaves the target the rows that it answers
  pub completion_keeps_the_rows : (i : ℕ) (name : List ℕ) (w : Live) → IsLine events answers i (complete name) done
      → live_at (state_at p events answers i) name ≡ Some w → (table : List ℕ) → moves w table ≡ true → (key : ℕ)
      → client_row (state_at p events answers (suc i)) w.target table key ≡ client_row (state_at p events answers i) w.target table key
  -- each primary read answers what the writes acknowledged in the run, each once, make of the row that those before it had left
  pub reads_answer_the_writes : (i : ℕ) (keyspace table : List ℕ) (key : ℕ) (r : Row)
      → IsLine events answers i (read keyspace table key Primary) (row r)
      → r ≡ fold row_with_op (row_after_writes p.writes (client_number (state_at p events answers i) keyspace table) key)
      (acknowledged p (client_number (state_at p events answers i) keyspace table) key (take i events) (take i answers))
