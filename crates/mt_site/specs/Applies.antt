-- What an event does to the controller (this profile's own).
use Rattle.std.specs.Prelude.{◌≡◌, ⊤, ℕ, List}
use Rattle.mt_names.specs.Shards.{AreCuts}
use Rattle.mt_model.specs.declared.rows.Op.{Op}
use Rattle.mt_model.specs.Rows.{op_key}
use Rattle.mt_model.specs.declared.entries.Scope.{Scope}
use Rattle.mt_watch.specs.Asking.{Answering}
use Rattle.mt_plain.specs.Events.{Event, write, read, add_keyspace, add_table, edit_rule, create, advance, begin_switch, begin_reverse, step, undo, cancel, complete, show, Answer, StreamName}
use Rattle.mt_primary.specs.Primaries.{place_of_key, shards_of}
use Rattle.mt_stands.specs.ByHand.{AddsKeyspace, AddsTable, EditsRule, ReadsRow, WritesRow}
use Rattle.mt_stands.specs.Base.{BaseState}
use Rattle.mt_stands.specs.Purges.{PurgesAll, PurgesOne}
use Rattle.mt_stands.specs.Switching.{BeginsReverse, BeginsSwitch, Completes, StepsWorkflow, UndoesWorkflow}
use Rattle.mt_stands.specs.Ways.{CoreState}
use Rattle.mt_stands.specs.Workflows.{AdvancesWorkflow, Cancels, Creates, ShowsWorkflow}

-- an event that is of no way does what it does to the core, and leaves what is kept of the ways as it is
abbrev pub LeavesWays : (old new : CoreState) → Type 0
LeavesWays old new = new.ways ≡ old.ways

-- the bounds between shards that an event brings are written as they should
abbrev pub BringsBounds : Event → Type 0
BringsBounds (add_keyspace keyspace cuts) = AreCuts cuts
BringsBounds other = ⊤

-- each event does what it does
abbrev pub Applies : List Scope → Answering → CoreState → Event → Answer → CoreState → Type 0
Applies scopes may_answer old (write keyspace table op) answer new = WritesRow old.base keyspace table op answer new.base × LeavesWays old new
Applies scopes may_answer old (read keyspace table key tablet_type) answer new = ReadsRow old.base keyspace table key tablet_type answer new.base × LeavesWays old new
Applies scopes may_answer old (add_keyspace keyspace cuts) answer new = AddsKeyspace old.base keyspace cuts answer new.base × LeavesWays old new
Applies scopes may_answer old (add_table keyspace table) answer new = AddsTable old.base keyspace table answer new.base × LeavesWays old new
Applies scopes may_answer old (edit_rule key target) answer new = EditsRule old.base key target answer new.base × LeavesWays old new
Applies scopes may_answer old (create workflow source target tables) answer new =
    Creates old.base scopes may_answer workflow source target tables answer new.base × LeavesWays old new
Applies scopes may_answer old (advance workflow name shard at at_most) answer new =
    AdvancesWorkflow old.base workflow name shard at at_most answer new.base × LeavesWays old new
Applies scopes may_answer old (begin_switch workflow types) answer new = BeginsSwitch old workflow types answer new
Applies scopes may_answer old (begin_reverse workflow types) answer new = BeginsReverse old workflow types answer new
Applies scopes may_answer old (step workflow at) answer new = StepsWorkflow old scopes may_answer workflow at answer new
Applies scopes may_answer old (undo workflow at) answer new = UndoesWorkflow old workflow at answer new
Applies scopes may_answer old (cancel workflow) answer new = Cancels old.base workflow answer new.base × LeavesWays old new
Applies scopes may_answer old (complete workflow) answer new = Completes old workflow answer new
Applies scopes may_answer old (show workflow) answer new = ShowsWorkflow old.base workflow answer new.base × LeavesWays old new

-- ---- and the purge behind it

-- the shard that the row of a write stands in
abbrev pub shard_of_row : BaseState → (keyspace : List ℕ) → Op → ℕ
shard_of_row core keyspace op = place_of_key (shards_of core.primaries keyspace) (op_key op)

-- behind an event that is taken all logs are purged, behind a client's write the one that it is entered in, and behind a read or a Show none
abbrev pub Purges : Event → Answer → (old new : CoreState) → Type 0
Purges (write keyspace table op) answer old new = PurgesOne keyspace (shard_of_row old.base keyspace op) answer old.base new.base × LeavesWays old new
Purges (read keyspace table key tablet_type) answer old new = new ≡ old
Purges (show workflow) answer old new = new ≡ old
Purges other answer old new = PurgesAll answer old.base new.base × LeavesWays old new

-- each event does what it does, and then logs are purged
abbrev pub AppliesAndPurges : List Scope → Answering → CoreState → Event → Answer → CoreState → Type 0
AppliesAndPurges scopes may_answer old event answer new = (made : CoreState) × Applies scopes may_answer old event answer made × Purges event answer made new

-- so of a write
abbrev pub WritesAndPurges : BaseState → (keyspace table : List ℕ) → Op → Answer → BaseState → Type 0
WritesAndPurges old keyspace table op answer new = (made : BaseState) × WritesRow old keyspace table op answer made × PurgesOne keyspace (shard_of_row made keyspace op) answer made new

-- and of an advance
abbrev pub AdvancesAndPurges : BaseState → (workflow : List ℕ) → StreamName → (shard at at_most : ℕ) → Answer → BaseState → Type 0
AdvancesAndPurges old workflow name shard at at_most answer new = (made : BaseState) × AdvancesWorkflow old workflow name shard at at_most answer made × PurgesAll answer made new
