-- Where a table can be written (this profile's own).
use Rattle.std.specs.Prelude.{◌≡◌, ℕ, ◌<◌, false, true, List}
use Rattle.mt_primary.specs.Primaries.{count_of, primary_of}
use Rattle.mt_primary.specs.Primary.{has_table, is_denied_at}
use Rattle.mt_stands.specs.Base.{BaseState}

-- a shard's primary takes writes to a table: it has the table, and its own list doesn't refuse it
abbrev pub TakesWritesAt : BaseState → (keyspace : List ℕ) → (shard : ℕ) → (table : List ℕ) → Type 0
TakesWritesAt base keyspace shard table =
    (has_table (primary_of base.primaries keyspace shard) table ≡ true) × (is_denied_at (primary_of base.primaries keyspace shard) table ≡ false)

-- some primary of a keyspace does
abbrev pub TakesWrites : BaseState → (keyspace table : List ℕ) → Type 0
TakesWrites base keyspace table = (shard : ℕ) × (shard < count_of base.primaries keyspace) × TakesWritesAt base keyspace shard table
