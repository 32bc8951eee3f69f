-- What is so of a race that agrees (this profile's own).
use Rattle.std.specs.Prelude.{◌≡◌, ◌+◌, ◌*◌, ⊤, ℕ, Bool, true, false, List, [], ◌∷◌, ◌++◌, All, MatchBool, codes, is_ok, length, map, None, Some, Result, Ok}
use Rattle.std.specs.List.{count_by, flat_map, range_with_len, sum_by}
use Rattle.mt_desk.specs.declared.history.Call.{Call}
use Rattle.mt_desk.specs.Passes.{HaveOneHistory}
use Rattle.mt_event.specs.declared.driven.Driven.{Driven}
use Rattle.mt_event.specs.declared.driven.Driven.TheVariants as driven
use Rattle.mt_event.specs.declared.event.Event.{Event}
use Rattle.mt_event.specs.Events.{answer_from, event_of}
use Rattle.mt_event.specs.declared.refusal.Refusal.{Refusal}
use Rattle.mt_event.specs.declared.reply.Reply.{Reply}
use Rattle.mt_event.specs.declared.reply.Reply.TheVariants.{Done, Row}
use Rattle.mt_model.specs.declared.entries.Scope.{Scope}
use Rattle.mt_model.specs.declared.entries.Scope.TheVariants.{Primary, Routes}
use Rattle.mt_model.specs.declared.rows.Op.TheVariants.{Insert}
use Rattle.mt_model.specs.Rows.{RowValue}
use Rattle.mt_names.specs.declared.keys.RuleKey.{RuleKey}
use Rattle.mt_names.specs.declared.types.TypeSet.{TypeSet}
use Rattle.mt_plain.specs.Answers.{Run, after}
use Rattle.mt_plain.specs.Events as plain
use Rattle.mt_plain.specs.Plain.{Plain, opening}
use Rattle.mt_routes.specs.declared.publication.Publication.{Publication}
use Rattle.mt_stands.specs.Ways.{CoreStands, CoreState}
use Rattle.mt_workers.specs.Advances.{IsAdvancing}
use Rattle.mt_workers.specs.Controls.{Controls}
use Rattle.mt_workers.specs.declared.fault.ControlFault.{ControlFault}
use Rattle.mt_workers.specs.declared.line.Line.{Line}
use Rattle.mt_workers.specs.declared.line.Line.TheVariants.{Get, Put}
use Rattle.mt_workers.specs.Queries.{Queries}
use Rattle.mt_workflow.specs.declared.way.Slot.TheVariants.{Forward}
use Rattle.mt_race.specs.declared.racing.Raced.{Raced}

-- ---- what is counted

-- a write is acknowledged
abbrev pub is_done : Result Reply Refusal → Bool
is_done (Ok Done) = true
is_done other = false

-- a read finds a row
abbrev pub is_row : Result Reply Refusal → Bool
is_row (Ok (Row (Some value))) = true
is_row other = false

-- how many writes of some calls were acknowledged, and how many of their reads found a row
abbrev pub writes_acknowledged : List Call → ℕ
writes_acknowledged calls = count_by (λ call. is_done call.answer) calls

abbrev pub rows_found : List Call → ℕ
rows_found calls = count_by (λ call. is_row call.answer) calls

-- how many writes of some passes, each a client with its calls, were acknowledged
abbrev pub acknowledged_in : List (ℕ × List Call) → ℕ
acknowledged_in passes = sum_by (λ pass. writes_acknowledged pass.1) passes

-- ---- what is asked

-- the name by which the table is asked for, wherever it is
abbrev pub corder : RuleKey
corder = record { keyspace = None; table = codes "corder"; tablet_type = None }

-- the key of a row of a worker that writes: both are counted from 0
abbrev pub row_key : (worker row : ℕ) → ℕ
row_key worker row = worker * 1000 + row + 1

-- what is written
abbrev pub written : RowValue
written = record { items = codes "a" }

-- an insert of each row that such a worker writes, and a read of each
abbrev pub writes_of : (writes worker : ℕ) → List Line
writes_of writes worker = map (λ row. Put corder (Insert (row_key worker row) written)) (range_with_len 0 writes)

abbrev pub reads_of : (writes worker : ℕ) → List Line
reads_of writes worker = map (λ row. Get corder (row_key worker row)) (range_with_len 0 writes)

-- a read of each row that the clients write
abbrev pub all_reads : (clients writes : ℕ) → List Line
all_reads clients writes = flat_map (reads_of writes) (range_with_len 0 clients)

-- some calls are those of a worker that asked for all of some lines by name, and was answered each
abbrev pub AreAsked : List Line → List Call → Type 0
AreAsked lines calls = ∥ ((known : List Publication) × Queries known lines calls (length lines)) ∥₁

-- ---- the move

-- the workflow
abbrev pub mv : List ℕ
mv = codes "mv"

-- what is done before the workers begin: both keyspaces, the table without a row, the workflow, and its copy
abbrev pub set_up_events : List plain.Event
set_up_events =
    plain.add_keyspace (codes "commerce") [] ∷ plain.add_keyspace (codes "customer") [] ∷ plain.add_table (codes "commerce") (codes "corder")
    ∷ plain.create mv (codes "commerce") (codes "customer") (codes "corder" ∷ []) ∷ plain.advance mv plain.forward 0 0 100 ∷ []

-- each of these was taken by a controller, which then stands for what they lead to
abbrev pub SetsUp : List Scope → (old new : CoreState) → Type 0
SetsUp scopes old new = (results : List (Result Reply Refusal)) × All (λ result. is_ok result ≡ true) results × ((p : Plain) → CoreStands p scopes old
    → Run p set_up_events (map answer_from results) × CoreStands (after p set_up_events (map answer_from results)) scopes new)

-- and from the beginning on
abbrev pub IsSetUp : List Scope → (core : CoreState) → Type 0
IsSetUp scopes core = (results : List (Result Reply Refusal)) × All (λ result. is_ok result ≡ true) results
    × Run (opening scopes) set_up_events (map answer_from results) × CoreStands (after (opening scopes) set_up_events (map answer_from results)) scopes core

-- some calls are those of a worker that advances the forward stream
abbrev pub AreAdvancing : List Call → Type 0
AreAdvancing calls = ∥ ((taken : ℕ) × IsAdvancing mv Forward 1 100 200 calls taken) ∥₁

abbrev pub all_types : TypeSet
all_types = record { primary = true; replica = true; rdonly = true }

-- a controller has done all that it was to do
abbrev pub is_finished : Result Driven ControlFault → Bool
is_finished (Ok driven.Done) = true
is_finished other = false

-- some calls are those of a controller that switches the traffic of all types; and, if that is done, those of one that reverses it
abbrev pub AreControls : List Call → Type 0
AreControls calls = ∥ ((switch behind : List Call) × (switched : Result Driven ControlFault) × (calls ≡ switch ++ behind) × Controls mv all_types false 256 switch switched
    × MatchBool (is_finished switched) ((reversed : Result Driven ControlFault) × Controls mv all_types true 256 behind reversed) (behind ≡ [])) ∥₁

-- the scopes of the watchers of a race: the routers', and those of the primaries of both keyspaces
abbrev pub race_scopes : List Scope
race_scopes = Routes ∷ Primary (codes "commerce") ∷ Primary (codes "customer") ∷ []

-- ---- the passes of a race

-- some passes, each a client with its calls, are those of all clients that write, from a worker on
abbrev pub AreWriters : (writes worker : ℕ) → List (ℕ × List Call) → Type 0
AreWriters writes worker [] = ⊤
AreWriters writes worker (pass ∷ passes) = (pass.0 ≡ worker + 1) × AreAsked (writes_of writes worker) pass.1 × AreWriters writes (worker + 1) passes

-- the passes of all workers have one history: those of the clients that write, each of which asked for all of its rows, and behind them those of the
-- worker that advances the stream, of the controller, which switches the traffic and then reverses it, and of one client more, who reads each row
-- once. So many writes were acknowledged to the first, and the last found so many rows
pub record HaveRaced (scopes : List Scope) (opening : CoreState) (clients writes : ℕ) (raced : Raced) : Type 0 where
  pub writers : List (ℕ × List Call)
  pub advances : List Call
  pub steps : List Call
  pub reads : List Call
  pub many : length writers ≡ clients
  pub wrote : AreWriters writes 0 writers
  pub advanced : AreAdvancing advances
  pub controlled : AreControls steps
  pub read : AreAsked (all_reads clients writes) reads
  pub one : HaveOneHistory scopes opening (writers ++ (clients + 1, advances) ∷ (clients + 2, steps) ∷ (clients + 3, reads) ∷ [])
  pub acknowledged : raced.acknowledged ≡ acknowledged_in writers
  pub rows : raced.rows ≡ rows_found reads

-- so it was from an opening, and from one at which the move was set up
abbrev pub RacedFrom : List Scope → (opening : CoreState) → (clients writes : ℕ) → Raced → Type 0
RacedFrom scopes opening clients writes raced = ∥ HaveRaced scopes opening clients writes raced ∥₁

abbrev pub RacedAt : List Scope → (clients writes : ℕ) → Raced → Type 0
RacedAt scopes clients writes raced = ∥ ((opening : CoreState) × IsSetUp scopes opening × HaveRaced scopes opening clients writes raced) ∥₁
