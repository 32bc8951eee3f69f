-- Where a primary takes writes to a table, the table is writable in the state that the base stands for.
use Rattle.std.proofs.Common.{◌≡◌, ℕ, ◌<◌, Bool, true, false, ◌||◌, if◌then◌else◌, List, refl, ap, sym, subst, ◌∙◌, ⊎_elim, arith}
use Rattle.std.proofs.lemmas.Bool.{or_cases, or_left, or_right}
use Rattle.mt_laws.specs.Changes.{HasSides}
use Rattle.mt_laws.specs.Reached.{IsInPlace}
use Rattle.mt_names.proofs.SameLemmas.{same_text_decides}
use Rattle.mt_names.specs.Names.{same_text}
use Rattle.mt_names.specs.declared.types.TypeSet.{TypeSet}
use Rattle.mt_plain.specs.Plain.{Live, Plain, has_keyspace, is_side, owner}
use Rattle.mt_plain.specs.Serve.{IsWritable, has_table, refuses}
use Rattle.mt_primary.proofs.PrimariesLemmas.{there_from_count}
use Rattle.mt_primary.specs.Primaries.{count_of}
use Rattle.mt_stands.specs.Base.{BaseState}
use Rattle.mt_stands.specs.Stands.{ArePrimaries}
use Rattle.mt_refinement.specs.Writable.{TakesWrites, TakesWritesAt}

pub writable : (p : Plain) (base : BaseState) (side keyspace table : List ℕ) → ArePrimaries p base.primaries → side ≡ keyspace → TakesWrites base keyspace table → IsWritable p side table
writable p base side keyspace table are same (shard, within, (has, allowed)) =
    subst (λ k. IsWritable p k table) (sym same) (
      sym (are.tables keyspace shard within table) ∙ has,
      (
        shard,
        subst (λ c. shard < c) (are.shards keyspace (sym (are.there keyspace) ∙ there_from_count base.primaries keyspace shard within)) within,
        sym (are.denials keyspace shard within table) ∙ allowed,
      ),
    )

-- a primary takes writes where the state has the table there and doesn't refuse it in that shard
pub taken : (p : Plain) (base : BaseState) (keyspace : List ℕ) (shard : ℕ) (table : List ℕ) → ArePrimaries p base.primaries → shard < count_of base.primaries keyspace
    → has_table p keyspace table ≡ true → refuses p keyspace shard table ≡ false → TakesWritesAt base keyspace shard table
taken p base keyspace shard table are within has allowed = (are.tables keyspace shard within table ∙ has, are.denials keyspace shard within table ∙ allowed)

-- a keyspace has a first shard
pub first_there : (p : Plain) (base : BaseState) (keyspace : List ℕ) → ArePrimaries p base.primaries → has_keyspace p keyspace ≡ true → 0 < count_of base.primaries keyspace
first_there p base keyspace are there = let shards = are.shards keyspace there in omega (arith, shards)

-- a side of a live workflow is a keyspace
pub side_there : (p : Plain) (live : Live) → IsInPlace p.topology live → (keyspace : List ℕ) → is_side live keyspace ≡ true → has_keyspace p keyspace ≡ true
side_there p live placed keyspace side =
    ⊎_elim (λ e. subst (λ k. has_keyspace p k ≡ true) ((same_text_decides live.source keyspace).0 e) placed.sides.source)
    (λ e. subst (λ k. has_keyspace p k ≡ true) ((same_text_decides live.target keyspace).0 e) placed.sides.target)
    (or_cases (same_text live.source keyspace) (same_text live.target keyspace) side)

-- the owner is one of its sides
pub owner_side : (live : Live) → is_side live (owner live) ≡ true
owner_side live = by live.switched.primary
  where
    by : (b : Bool) → is_side live (if b then live.target else live.source) ≡ true
    by true = or_right (same_text live.source live.target) (same_text live.target live.target) ((same_text_decides live.target live.target).1 refl)
    by false = or_left (same_text live.source live.source) (same_text live.target live.source) ((same_text_decides live.source live.source).1 refl)

-- two workflows with the same sides have a side in common, and if they have switched the same types the owner too
pub same_side : (w v : Live) (keyspace : List ℕ) → HasSides w v → is_side w keyspace ≡ is_side v keyspace
same_side w v keyspace sides =
    ap (λ k. same_text k keyspace || same_text w.target keyspace) sides.source ∙ ap (λ k. same_text v.source keyspace || same_text k keyspace) sides.target

pub same_owner : (w v : Live) → HasSides w v → w.switched ≡ v.switched → owner w ≡ owner v
same_owner w v sides types =
    ap (λ (t : TypeSet). if t.primary then w.target else w.source) types
    ∙ ap (λ k. if v.switched.primary then k else w.source) sides.target
    ∙ ap (λ k. if v.switched.primary then v.target else k) sides.source
