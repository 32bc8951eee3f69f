-- What a stream's sink has of its source.
use Rattle.std.specs.Prelude.{◌≡◌, ℕ, ◌≤◌, true, if◌then◌else◌, List, Some, None}
use Rattle.mt_names.specs.Shards.{holds}
use Rattle.mt_plain.specs.Plain.{among}
use Rattle.mt_plain.specs.Writes.{in_range}
use Rattle.mt_primary.specs.Primary.{PrimaryState, made_at, row_at, row_at_position}
use Rattle.mt_stream.specs.Streams.{StreamValue}

-- each table of the stream was made at the source no later than at its position, and of each the sink has, of the keys in the stream's
-- range, the rows of the copied range as they were at the source at that position, and no others
pub record FollowsSource (s : StreamValue) (source sink : PrimaryState) : Type 0 where
  pub made : (table : List ℕ) → among s.tables table ≡ true → (made : ℕ) × ((made_at source table ≡ Some made) × (made ≤ s.position))
  pub rows : (table : List ℕ) (key : ℕ) → among s.tables table ≡ true → holds s.range key ≡ true
      → row_at sink table key ≡ (if in_range s.tables s.copied table key then row_at_position source s.position table key else None)
