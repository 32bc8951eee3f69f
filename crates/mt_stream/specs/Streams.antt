-- A stream: its tables, the range of its keys, how far their rows are copied, the position up to which it has read its source's log, and what it does.
use Rattle.std.specs.Prelude.{◌≢◌, ℕ, ◌<◌, Bool, true, false, not, ◌&&◌, List, [], length, slice_index_or, AllPairs}
use Rattle.std.specs.List.{list_any}
use Rattle.mt_model.specs.declared.rows.RowChange.{RowChange}
use Rattle.mt_names.specs.Shards.{KeyRange, holds}
use Rattle.mt_plain.specs.Events.{StreamState, running, stopped, frozen}
use Rattle.mt_plain.specs.Plain.{Copied, not_begun, up_to, ended, among}
use Rattle.mt_primary.specs.Primary.{PrimaryState}
use Rattle.mt_primary.specs.Reads.{entries_from}
use Rattle.mt_stream.specs.declared.stream.CopiedRange.{CopiedRange}
use Rattle.mt_stream.specs.declared.stream.CopiedRange.TheVariants.{NotBegun, UpTo, Ended}
use Rattle.mt_stream.specs.declared.stream.StreamState as code
use Rattle.mt_stream.specs.declared.stream.StreamState.TheVariants as from

-- a stream, in the words of the definitions
pub record StreamValue : Type 0 where
  pub tables : List (List ℕ)
  pub range : KeyRange
  pub copied : Copied
  pub position : ℕ
  pub state : StreamState

-- ---- the code's words

-- the copied range: the code keeps the place of the last table among those named
abbrev pub copied_from : List (List ℕ) → CopiedRange → Copied
copied_from tables NotBegun = not_begun
copied_from tables (UpTo place key) = up_to (slice_index_or tables place []) key
copied_from tables Ended = ended

-- what a stream does
abbrev pub state_from : code.StreamState → StreamState
state_from from.Running = running
state_from from.Stopped = stopped
state_from from.Frozen = frozen

-- the place that a range names is that of a table
abbrev pub IsPlaced : List (List ℕ) → CopiedRange → Type 0
IsPlaced tables NotBegun = Unit {0}
IsPlaced tables (UpTo place key) = place < length tables
IsPlaced tables Ended = Unit {0}

-- what holds of every stream's fields: each table is named once, and the range is one of these tables
pub record IsStream (tables : List (List ℕ)) (range : CopiedRange) : Type 0 where
  pub distinct : AllPairs ◌≢◌ tables
  pub placed : IsPlaced tables range

-- ---- what is asked of a stream

-- whether the copy has ended
abbrev pub has_ended : Copied → Bool
has_ended ended = true
has_ended other = false

-- the entries of its source's log past its position
abbrev pub past : StreamValue → PrimaryState → List RowChange
past s source = entries_from source s.position

-- whether it is level with its source: no entry about one of its tables and a key in its range stands past its position
abbrev pub is_level : StreamValue → PrimaryState → Bool
is_level s source = not (list_any (λ change. holds s.range change.key && among s.tables change.table) (past s source))
