-- The controller's core as a value, which is its whole state: its base, and what it keeps of the ways. Which state of the definitions it
-- stands for. All of this page is this profile's own, unless a comment names a page of Vitess's documentation.
use Rattle.std.specs.Prelude.{◌≡◌, ℕ, ◌≤◌, ◌<◌, if◌then◌else◌, Bool, true, false, List, [], length, map, Option, None, Some, is_some, option_map}
use Rattle.std.specs.List.{AllByRecursion, IsDistinct}
use Rattle.std.specs.Map.{keys_of, lookup}
use Rattle.std.specs.Option.{option_map_or}
use Rattle.mt_names.specs.Names.{same_text}
use Rattle.mt_model.specs.declared.entries.Scope.{Scope}
use Rattle.mt_journal.specs.declared.entry.JournalEntry.{JournalEntry}
use Rattle.mt_journal.specs.Journal.{entry_of}
use Rattle.mt_steps.specs.declared.log.OpenWay.{OpenWay}
use Rattle.mt_steps.specs.Entries.{recorded_of, step_entries}
use Rattle.mt_steps.specs.Streams.{other_name}
use Rattle.mt_steps.specs.Steps.{listed_at}
use Rattle.mt_steps.specs.Undo.{IsLogOf, UndoState}
use Rattle.mt_workflow.specs.Workflows.{WorkflowState}
use Rattle.mt_plain.specs.Answers.{Answers}
use Rattle.mt_plain.specs.Events.{Answer, Event, Way}
use Rattle.mt_plain.specs.Next.{next}
use Rattle.mt_plain.specs.Plain.{Live, Plain, create_back, live_at, refresh_source, stands_done, stands_done_at, write_journal}
use Rattle.mt_plain.specs.Slots.{slot_before_way}
use Rattle.mt_laws.specs.Texts.{BringsNames}
use Rattle.mt_laws.specs.WayBack.{IsReached}
use Rattle.mt_stands.specs.Rows.{stream_of}
use Rattle.mt_stands.specs.Base.{BaseState, Workflows, empty_base, workflow_at}
use Rattle.mt_stands.specs.Stands.{StandsWith}

-- the open ways by the names of their workflows
abbrev pub OpenWays : Type 0
OpenWays = List (List ℕ × OpenWay)

-- what is kept of the ways: those that are open, the journal, and how many were begun, which is the number of the last one, since numbers
-- count from 1 (How traffic is switched)
pub record WaysState : Type 0 where
  pub opened : OpenWays
  pub journal : List JournalEntry
  pub begun : ℕ

-- the core
pub record CoreState : Type 0 where
  pub base : BaseState
  pub ways : WaysState

-- no way was begun
abbrev pub no_ways : WaysState
no_ways = record { opened = []; journal = []; begun = 0 }

-- no keyspace, no workflow, no way
abbrev pub empty_core : CoreState
empty_core = record { base = empty_base; ways = no_ways }

-- what is kept of the way that is open on the workflow of a name
abbrev pub open_at : OpenWays → List ℕ → Option OpenWay
open_at ways name = lookup (same_text name) ways

-- whether a way is open on the workflow of a name
abbrev pub is_under_way : Workflows → List ℕ → Bool
is_under_way workflows name = option_map_or (λ w. is_some w.way) (workflow_at workflows name) false

-- numbers count the ways from 1: one that was given is at most as many as were begun
abbrev pub IsGiven : (begun : ℕ) → (number : ℕ) → Type 0
IsGiven begun number = (1 ≤ number) × (number ≤ begun)

-- ---- what is kept of an open way

-- how many primaries the old owner of a way's tables has: one at the source, one for each shard at the target
abbrev pub lists_of : Way → ℕ
lists_of way = if way.back then way.shards else 1

-- as long as the journal isn't written, what is kept gives back what stood before each step that stands done: the entries of the step as
-- they were before the way, for each of the old owner's primaries that was refreshed an own list without the tables, and for each lane the
-- stream that was there in place of the one that the way has made
pub record GivesBack (live : Live) (w : WorkflowState) (way : Way) (log : UndoState) : Type 0 where
  pub entries : (n : ℕ) → stands_done way n ≡ true → recorded_of w n log.entries ≡ step_entries w way.before n
  pub listed : (shard : ℕ) → shard < lists_of way → stands_done_at way refresh_source shard ≡ true
      → listed_at log shard ≡ Some (map (λ table. (table, false)) w.tables)
  pub slots : stands_done way create_back ≡ true
      → log.slots ≡ map (λ lane. option_map (stream_of live lane) (slot_before_way live lane (other_name way))) live.lanes

-- an open way is that of a workflow: what is kept is kept for it, and until the journal has the way's entry it gives back what stood before
pub record IsOpenOn (journal : List JournalEntry) (live : Live) (w : WorkflowState) (way : Way) (o : OpenWay) : Type 0 where
  pub kept : IsLogOf w o.log
  pub unused : stands_done way write_journal ≡ false → entry_of journal o.number ≡ None
  pub undo : stands_done way write_journal ≡ false → GivesBack live w way o.log

-- what is kept of the ways stands for a state: as many were begun, and the journal has as many entries; something is kept for just those
-- workflows on which a way is open, and once for each; each number of an entry or an open way was given, and none twice
pub record WaysStand (p : Plain) (base : BaseState) (ways : WaysState) : Type 0 where
  pub begun : ways.begun ≡ p.ways
  pub journal : length ways.journal ≡ p.journal
  pub distinct : IsDistinct same_text (keys_of ways.opened)
  pub there : (name : List ℕ) → is_some (open_at ways.opened name) ≡ is_under_way base.workflows name
  pub each : (name : List ℕ) (live : Live) (w : WorkflowState) (way : Way) (o : OpenWay) → live_at p name ≡ Some live
      → workflow_at base.workflows name ≡ Some w → w.way ≡ Some way → open_at ways.opened name ≡ Some o
      → IsOpenOn ways.journal live w way o
  pub written : AllByRecursion (λ e. IsGiven ways.begun e.id) ways.journal
  pub numbers : (name : List ℕ) (o : OpenWay) → open_at ways.opened name ≡ Some o → IsGiven ways.begun o.number
  pub apart : (name other : List ℕ) (o u : OpenWay) → open_at ways.opened name ≡ Some o → open_at ways.opened other ≡ Some u
      → o.number ≡ u.number → name ≡ other

-- ---- the whole

-- a core, with watchers of these scopes, stands for a state of the definitions
pub record CoreStands (p : Plain) (scopes : List Scope) (s : CoreState) : Type 0 where
  pub base : StandsWith p scopes s.base
  pub ways : WaysStand p s.base s.ways

-- what an event does leads from each state that it stands for to the next one: the answer is one that the event may get there
abbrev pub CoreSteps : List Scope → CoreState → Event → Answer → CoreState → Type 0
CoreSteps scopes old event answer new = (p : Plain) → CoreStands p scopes old
    → Answers p event answer × CoreStands (next p event answer) scopes new

-- a state that it stands for, reached by events that bring names alone
pub record HasCoreState (s : CoreState) : Type 0 where
  pub state : Plain
  pub reached : IsReached state
  pub named : AllByRecursion BringsNames reached.events
  pub stands : CoreStands state state.scopes s

-- there is one
abbrev pub IsCore : CoreState → Type 0
IsCore s = ∥ HasCoreState s ∥₁
