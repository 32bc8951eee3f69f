-- The primaries by the places of their keyspaces, and what is written over others.
use Rattle.std.specs.Prelude.{◌≡◌, ◌≢◌, ◌<◌, ℕ, List, [], ◌++◌, drop, length, take, slice_get, slice_index_or, slice_set, Some, zip}
use Rattle.std.specs.Map.{keys_of, set_value, values_of}
use Rattle.mt_names.specs.Names.{same_text}
use Rattle.mt_primary.specs.Primary.{PrimaryState}
use Rattle.mt_primary.specs.Primaries.{Primaries, ShardsState, count_of, no_shards, shards_of, with_primary, with_shards}

-- ---- where a keyspace stands

-- a keyspace stands at a place among the others
abbrev pub IsAt : Primaries → (keyspace : List ℕ) → (place : ℕ) → Type 0
IsAt primaries keyspace place = slice_get (keys_of primaries) place ≡ Some keyspace

-- the one that does
abbrev pub keyspace_at : Primaries → (place : ℕ) → List ℕ
keyspace_at primaries place = slice_index_or (keys_of primaries) place []

-- the shards at a place among those of all
abbrev pub shards_in : List ShardsState → (place : ℕ) → ShardsState
shards_in places place = slice_index_or places place no_shards

-- ---- what is written over others

-- a list written over another one, which stays as long as it was: what is missing behind it stays too
abbrev pub written_over : {A : Type 0} → (old new : List A) → List A
written_over old new = take (length old) (new ++ drop (length new) old)

-- two of a list become others
abbrev pub with_two : {A : Type 0} → List A → (first second : ℕ) → A → A → List A
with_two list first second x y = slice_set (slice_set list first x) second y

-- the primary of a shard becomes another, among those of its keyspace
abbrev pub with_one : ShardsState → (shard : ℕ) → PrimaryState → ShardsState
with_one shards shard primary = record { cuts = shards.cuts; each = slice_set shards.each shard primary }

-- others are written over all of them
abbrev pub with_each : ShardsState → List PrimaryState → ShardsState
with_each shards each = record { cuts = shards.cuts; each = written_over shards.each each }

-- what a keyspace has becomes something else
abbrev pub with_state : Primaries → (keyspace : List ℕ) → ShardsState → Primaries
with_state primaries keyspace shards = set_value (same_text keyspace) primaries shards

-- others are written over what the keyspaces have, by their places
abbrev pub with_places : Primaries → List ShardsState → Primaries
with_places primaries places = zip (keys_of primaries) (written_over (values_of primaries) places)

-- ---- two keyspaces at once

-- of two places the first primary of the one, and all of the other, become others
abbrev pub with_sides : List ShardsState → (source target : ℕ) → PrimaryState → List PrimaryState → List ShardsState
with_sides places source target primary each =
    with_two places source target (with_one (shards_in places source) 0 primary) (with_each (shards_in places target) each)

-- what two keyspaces have stands at two places of a list of all, and what becomes of their primaries there becomes of the keyspaces'
pub record AreSides (primaries : Primaries) (source target : List ℕ) (places : List ShardsState) (first second : ℕ) : Type 0 where
  pub first_within : first < length places
  pub second_within : second < length places
  pub apart : first ≢ second
  pub source_there : shards_in places first ≡ shards_of primaries source
  pub target_there : shards_in places second ≡ shards_of primaries target
  pub written : (primary : PrimaryState) (each : List PrimaryState) → length each ≡ count_of primaries target
      → with_places primaries (with_sides places first second primary each) ≡ with_shards (with_primary primaries source 0 primary) target each
