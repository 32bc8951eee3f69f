-- The primaries of the keyspaces: each keyspace has one for each of its shards, in the order of their ranges (this profile's own; in
-- Vitess each shard has a primary tablet).
use Rattle.std.specs.Prelude.{ℕ, Bool, List, [], ◌∷◌, ◌++◌, length, map, replicate, slice_index_or, slice_set, Option, is_some, unwrap_or}
use Rattle.std.specs.Map.{lookup, set_value}
use Rattle.mt_names.specs.Names.{same_text}
use Rattle.mt_names.specs.Shards.{Cuts, shard_count, shard_of}
use Rattle.mt_primary.specs.Primary.{PrimaryState, empty_primary}

-- the primaries of a keyspace: the bounds between its shards, and a primary for each shard
pub record ShardsState : Type 0 where
  pub cuts : Cuts
  pub each : List PrimaryState

-- those of all keyspaces, by the keyspaces' names
abbrev pub Primaries : Type 0
Primaries = List (List ℕ × ShardsState)

-- ---- what is found

abbrev pub shards_at : Primaries → (keyspace : List ℕ) → Option ShardsState
shards_at primaries keyspace = lookup (same_text keyspace) primaries

abbrev pub has_primaries : Primaries → (keyspace : List ℕ) → Bool
has_primaries primaries keyspace = is_some (shards_at primaries keyspace)

-- a keyspace that isn't there has no shard
abbrev pub no_shards : ShardsState
no_shards = record { cuts = []; each = [] }

abbrev pub shards_of : Primaries → (keyspace : List ℕ) → ShardsState
shards_of primaries keyspace = unwrap_or (shards_at primaries keyspace) no_shards

-- how many shards it has
abbrev pub count_of : Primaries → (keyspace : List ℕ) → ℕ
count_of primaries keyspace = length (shards_of primaries keyspace).each

-- the place of the shard in which a key stands
abbrev pub place_of_key : ShardsState → (key : ℕ) → ℕ
place_of_key shards key = shard_of shards.cuts key

-- the primary of a shard among those of its keyspace, and among all; one that isn't there is as an empty one
abbrev pub primary_in : ShardsState → (shard : ℕ) → PrimaryState
primary_in shards shard = slice_index_or shards.each shard empty_primary

abbrev pub primary_of : Primaries → (keyspace : List ℕ) → (shard : ℕ) → PrimaryState
primary_of primaries keyspace shard = primary_in (shards_of primaries keyspace) shard

-- ---- what becomes of them

-- the primaries of a keyspace become others
abbrev pub with_shards : Primaries → (keyspace : List ℕ) → List PrimaryState → Primaries
with_shards primaries keyspace each =
    set_value (same_text keyspace) primaries (record { cuts = (shards_of primaries keyspace).cuts; each = each })

-- that of one shard does
abbrev pub with_primary : Primaries → (keyspace : List ℕ) → (shard : ℕ) → PrimaryState → Primaries
with_primary primaries keyspace shard primary =
    with_shards primaries keyspace (slice_set (shards_of primaries keyspace).each shard primary)

-- each of a keyspace becomes what a change makes of it
abbrev pub with_all : Primaries → (keyspace : List ℕ) → (PrimaryState → PrimaryState) → Primaries
with_all primaries keyspace change = with_shards primaries keyspace (map change (shards_of primaries keyspace).each)

-- the empty primaries of a new keyspace
abbrev pub new_shards : Cuts → ShardsState
new_shards cuts = record { cuts = cuts; each = replicate (shard_count cuts) empty_primary }

abbrev pub with_keyspace : Primaries → (keyspace : List ℕ) → Cuts → Primaries
with_keyspace primaries keyspace cuts = primaries ++ (keyspace, new_shards cuts) ∷ []
