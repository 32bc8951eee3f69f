-- The segments in which the entries of a log stand.
use Rattle.std.specs.Prelude.{◌≡◌, ◌≤◌, ℕ, List, [], ◌∷◌, ◌++◌, length}
use Rattle.std.specs.List.{AllByRecursion}
use Rattle.mt_model.specs.declared.rows.RowChange.{RowChange}
use Rattle.mt_model.specs.Limits.{longest_log}
use Rattle.mt_store.specs.Log.{LogState, log_end}

abbrev pub SegmentState : Type 0
SegmentState = List RowChange

abbrev pub IsWhole : SegmentState → Type 0
IsWhole segment = length segment ≡ 256

-- the entries of all segments, one segment behind the other
abbrev pub entries_in : List SegmentState → List RowChange
entries_in [] = []
entries_in (segment ∷ segments) = segment ++ entries_in segments

-- the log of whole segments and of a last one behind them, which still grows
abbrev pub log_of : ℕ → List SegmentState → SegmentState → LogState
log_of purged segments last = record { purged = purged; entries = entries_in segments ++ last }

pub record AreSegments (purged : ℕ) (segments : List SegmentState) (last : SegmentState) : Type 0 where
  pub whole : AllByRecursion IsWhole segments
  pub open_one : length last ≤ 256
  pub within : log_end (log_of purged segments last) ≤ longest_log
