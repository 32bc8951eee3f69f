-- Logs that are purged, one shard and one keyspace after the other.
use Rattle.std.proofs.Common.{◌≡◌, ℕ, suc, zero, ◌+◌, ◌<◌, ◌≤◌, false, List, [], ◌∷◌, get_or, length, map, set, Some, slice_get, refl, sym, ap, ◌∙◌, subst, arith}
use Rattle.std.specs.List.{AllByRecursion, IsDistinct}
use Rattle.std.specs.Map.{keys_of, set_value}
use Rattle.mt_names.proofs.EntryLemmas.{same_turned}
use Rattle.mt_names.proofs.SameLemmas.{same_text_decides}
use Rattle.mt_names.specs.Names.{same_text}
use Rattle.mt_primary.specs.Primary.{PrimaryState}
use Rattle.mt_primary.specs.Places.{IsAt}
use Rattle.mt_primary.specs.Primaries.{Primaries, shards_of}
use Rattle.mt_stands.specs.Base.{Workflows}
use Rattle.mt_stands.specs.Purges.{purged_from, without_unneeded}
use Rattle.mt_moves.specs.Places.{purged_shards, with_purge_at}

-- ---- the shards of a keyspace

-- from a shard on, the first ones are purged
abbrev pub purged_to : Workflows → (keyspace : List ℕ) → (from count : ℕ) → List PrimaryState → List PrimaryState
purged_to workflows keyspace from zero primaries = primaries
purged_to workflows keyspace from (suc count) [] = []
purged_to workflows keyspace from (suc count) (primary ∷ primaries) =
    without_unneeded workflows keyspace from primary ∷ purged_to workflows keyspace (suc from) count primaries

module _ (workflows : Workflows) (keyspace : List ℕ) where
  -- the next one is as it was
  shard-still : (from n : ℕ) (ps : List PrimaryState) (d : PrimaryState) → get_or (purged_to workflows keyspace from n ps) n d ≡ get_or ps n d
  shard-still from zero ps d = refl
  shard-still from (suc n) [] d = refl
  shard-still from (suc n) (p ∷ ps) d = shard-still (suc from) n ps d

  -- and is purged then
  shard-more : (from n : ℕ) (ps : List PrimaryState) (d : PrimaryState) → n < length ps
      → set (purged_to workflows keyspace from n ps) n (without_unneeded workflows keyspace (from + n) (get_or ps n d)) ≡ purged_to workflows keyspace from (suc n) ps
  shard-more from n [] d within = absurd (omega (arith, within))
  shard-more from zero (p ∷ ps) d within =
      let here : from + 0 ≡ from = omega arith in
      ap (λ shard. without_unneeded workflows keyspace shard p ∷ ps) here
  shard-more from (suc n) (p ∷ ps) d within =
      let on : from + suc n ≡ suc from + n = omega arith in
      ap (λ l. without_unneeded workflows keyspace from p ∷ l)
      (ap (λ shard. set (purged_to workflows keyspace (suc from) n ps) n (without_unneeded workflows keyspace shard (get_or ps n d))) on
      ∙ shard-more (suc from) n ps d (omega (arith, within)))

  pub shard-next : (ps now : List PrimaryState) (n : ℕ) (d p : PrimaryState) → n < length ps → now ≡ purged_to workflows keyspace 0 n ps
      → p ≡ without_unneeded workflows keyspace n (get_or now n d) → set now n p ≡ purged_to workflows keyspace 0 (n + 1) ps
  shard-next ps now n d p within so_far is =
      let next : suc n ≡ n + 1 = omega arith in
      let here : n ≡ 0 + n = omega arith in
      let purged : ℕ → PrimaryState → PrimaryState = without_unneeded workflows keyspace in
      ap (set now n) is ∙ ap (λ l. set l n (purged n (get_or l n d))) so_far ∙ ap (λ q. set (purged_to workflows keyspace 0 n ps) n (purged n q)) (shard-still 0 n ps d)
      ∙ ap (λ shard. set (purged_to workflows keyspace 0 n ps) n (purged shard (get_or ps n d))) here
      ∙ shard-more 0 n ps d within ∙ ap (λ k. purged_to workflows keyspace 0 k ps) next

  pub shards-all : (from n : ℕ) (ps : List PrimaryState) → length ps ≤ n → purged_to workflows keyspace from n ps ≡ purged_from workflows keyspace from ps
  shards-all from zero [] all = refl
  shards-all from (suc n) [] all = refl
  shards-all from zero (p ∷ ps) all = absurd (omega (arith, all))
  shards-all from (suc n) (p ∷ ps) all = ap (λ l. without_unneeded workflows keyspace from p ∷ l) (shards-all (suc from) n ps (omega (arith, all)))

-- ---- the keyspaces

-- the first ones are purged
abbrev pub purged_places : Workflows → (count : ℕ) → Primaries → Primaries
purged_places workflows zero entries = entries
purged_places workflows (suc count) [] = []
purged_places workflows (suc count) (entry ∷ entries) = purged_shards workflows entry ∷ purged_places workflows count entries

-- a name that is apart from all is apart from the one at a place
apart-at : (names : List (List ℕ)) (place : ℕ) (k j : List ℕ) → AllByRecursion (λ name. same_text j name ≡ false) names → slice_get names place ≡ Some k → same_text j k ≡ false
apart-at [] place k j apart at = absurd cc
apart-at (name ∷ names) zero k j apart at = let is : name ≡ k = cc in subst (λ n. same_text j n ≡ false) is apart.0
apart-at (name ∷ names) (suc place) k j apart at = apart-at names place k j apart.1 at

-- what is set at a keyspace is set at its place
pub set-at : (workflows : Workflows) (ps : Primaries) (place : ℕ) (k : List ℕ) → IsDistinct same_text (keys_of ps) → IsAt ps k place
    → set_value (same_text k) ps (record { cuts = (shards_of ps k).cuts; each = purged_from workflows k 0 (shards_of ps k).each }) ≡ with_purge_at workflows place ps
unfolding IsDistinct
set-at workflows [] place k distinct at = absurd cc
set-at workflows (entry ∷ entries) zero k distinct at =
    let is : entry.0 ≡ k = cc in
    rw ((same_text_decides k entry.0).1 (sym is))
    (ap (λ name. (entry.0, record { cuts = entry.1.cuts; each = purged_from workflows name 0 entry.1.each }) ∷ entries) (sym is))
set-at workflows (entry ∷ entries) (suc place) k distinct at =
    rw (same_turned same_text same_text_decides k entry.0 ∙ apart-at (keys_of entries) place k entry.0 distinct.0 at)
    (ap (λ es. entry ∷ es) (set-at workflows entries place k distinct.1 at))

pub one-more : (workflows : Workflows) (entries : Primaries) (count : ℕ) → with_purge_at workflows count (purged_places workflows count entries) ≡ purged_places workflows (suc count) entries
one-more workflows [] zero = refl
one-more workflows [] (suc count) = refl
one-more workflows (entry ∷ entries) zero = refl
one-more workflows (entry ∷ entries) (suc count) = ap (λ es. purged_shards workflows entry ∷ es) (one-more workflows entries count)

pub as-many : (workflows : Workflows) (entries : Primaries) (count : ℕ) → length (purged_places workflows count entries) ≡ length entries
as-many workflows entries zero = refl
as-many workflows [] (suc count) = refl
as-many workflows (entry ∷ entries) (suc count) = ap suc (as-many workflows entries count)

pub purged-all : (workflows : Workflows) (entries : Primaries) → purged_places workflows (length entries) entries ≡ map (purged_shards workflows) entries
purged-all workflows [] = refl
purged-all workflows (entry ∷ entries) = ap (λ es. purged_shards workflows entry ∷ es) (purged-all workflows entries)
