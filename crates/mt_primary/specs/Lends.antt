-- What the primaries end as, once what was lent of them has ended.
use Rattle.std.specs.Prelude.{ℕ, List}
use Rattle.std.specs.Borrow.{Array, Fml, Lends, LendsBoth, MutBor}
use Rattle.mt_primary.specs.Primary.{PrimaryState}
use Rattle.mt_primary.specs.contracts.primary.Primary as one
use Rattle.mt_primary.specs.contracts.primaries.Primaries as all
use Rattle.mt_primary.specs.contracts.shards.Shards as shards
use Rattle.mt_primary.specs.Places.{keyspace_at, with_each, with_one, with_places, with_sides, with_state, with_two}
use Rattle.mt_primary.specs.Primaries.{Primaries, ShardsState, shards_of, with_primary}

-- ---- of a keyspace

-- the primary of a shard
abbrev pub LendsOne : MutBor ShardsState → (shard : ℕ) → MutBor PrimaryState → Fml
LendsOne s shard r = Lends shards.the_row one.the_row s r (with_one s.now shard)

-- all
abbrev pub LendsEach : MutBor ShardsState → MutBor (List PrimaryState) → Fml
LendsEach s r = Lends shards.the_row (Array one.the_row 0) s r (with_each s.now)

-- ---- of all keyspaces

-- the primary of a shard of the keyspace at a place
abbrev pub LendsPrimary : MutBor Primaries → (place shard : ℕ) → MutBor PrimaryState → Fml
LendsPrimary s place shard r = Lends all.the_row one.the_row s r (with_primary s.now (keyspace_at s.now place) shard)

-- all of that keyspace
abbrev pub LendsAll : MutBor Primaries → (place : ℕ) → MutBor (List PrimaryState) → Fml
LendsAll s place r =
    Lends all.the_row (Array one.the_row 0) s r
    (λ each. with_state s.now (keyspace_at s.now place) (with_each (shards_of s.now (keyspace_at s.now place)) each))

-- all of all keyspaces
abbrev pub LendsPlaces : MutBor Primaries → MutBor (List ShardsState) → Fml
LendsPlaces s r = Lends all.the_row (Array shards.the_row 0) s r (with_places s.now)

-- two of them
abbrev pub LendsTwo : MutBor (List ShardsState) → (first second : ℕ) → MutBor ShardsState × MutBor ShardsState → Fml
LendsTwo s first second r = LendsBoth (Array shards.the_row 0) shards.the_row shards.the_row s r (with_two s.now first second)

-- the first primary of one, and all of the other
abbrev pub LendsSides : MutBor (List ShardsState) → (source target : ℕ) → MutBor PrimaryState × MutBor (List PrimaryState) → Fml
LendsSides s source target r = LendsBoth (Array shards.the_row 0) one.the_row (Array one.the_row 0) s r (with_sides s.now source target)
