-- The primaries of a keyspace that are lent at its place, and those of two keyspaces at once.
use Rattle.std.proofs.Common.{◌≡◌, ℕ, zero, suc, ◌<◌, Bool, true, false, List, [], ◌∷◌, length, Option, None, Some, is_some, MatchOption, refl, sym, ap, ap₂, ◌∙◌, arith}
use Rattle.mt_names.proofs.SameLemmas.{same_text_decides}
use Rattle.mt_names.specs.Names.{same_text}
use Rattle.mt_primary.specs.Primary.{PrimaryState}
use Rattle.mt_primary.proofs.PlaceLemmas.{keyspace_at-is, with_each-same}
use Rattle.mt_primary.specs.Places.{AreSides, IsAt, keyspace_at, shards_in, with_each, with_places, with_sides, with_state}
use Rattle.mt_primary.specs.Primaries.{Primaries, ShardsState, count_of, has_primaries, primary_in, primary_of, shards_at, shards_of, with_primary, with_shards}
use Rattle.mt_stands.specs.Switching.{with_primaries}
use Rattle.mt_workflow.specs.Workflows.{WorkflowState}

-- ---- where a keyspace stands

there-at : (ps : Primaries) (k : List ℕ) (place : ℕ) → IsAt ps k place → has_primaries ps k ≡ true
there-at [] k place at = absurd cc
there-at (e ∷ es) k zero at = let is : e.0 ≡ k = cc in rw ((same_text_decides k e.0).1 (sym is)) refl
there-at (e ∷ es) k (suc place) at = by (there-at es k place at) (same_text k e.0) refl
  where
    by : has_primaries es k ≡ true → (t : Bool) → same_text k e.0 ≡ t → has_primaries (e ∷ es) k ≡ true
    by there true t = rw t refl
    by there false t = rw t there

-- a keyspace has primaries where it has a place
pub there-or-not : (ps : Primaries) (k : List ℕ) (place : Option ℕ) → MatchOption place (shards_at ps k ≡ None) (λ p. IsAt ps k p) → is_some place ≡ has_primaries ps k
there-or-not ps k None none = sym (ap is_some none)
there-or-not ps k (Some place) at = sym (there-at ps k place at)

-- ---- what becomes of them

-- what was lent of the keyspace at a place becomes its own
pub lent-at : (ps : Primaries) (k : List ℕ) (place : ℕ) (each : List PrimaryState) → IsAt ps k place → length each ≡ count_of ps k
    → with_state ps (keyspace_at ps place) (with_each (shards_of ps (keyspace_at ps place)) each) ≡ with_shards ps k each
lent-at ps k place each at long =
    ap (λ name. with_state ps name (with_each (shards_of ps name) each)) (keyspace_at-is ps k place at)
    ∙ ap (with_state ps k) (with_each-same (shards_of ps k) each long)

-- the sides of a workflow, whose primaries are lent at their places: of the source the first, and all of the target
module _ (ps : Primaries) (w : WorkflowState) {s t : List ℕ} {places : List ShardsState} {a b : ℕ} (is_s : s ≡ w.source) (is_t : t ≡ w.target) (sides : AreSides ps s t places a b) where
  pub source-lent : (p : PrimaryState) → p ≡ primary_in (shards_in places a) 0 → p ≡ primary_of ps w.source 0
  source-lent p is = is ∙ ap (λ x. primary_in x 0) (sides.source_there ∙ ap (shards_of ps) is_s)

  pub targets-lent : (each : List PrimaryState) → each ≡ (shards_in places b).each → each ≡ (shards_of ps w.target).each
  targets-lent each is = is ∙ ap (λ (x : ShardsState). x.each) (sides.target_there ∙ ap (shards_of ps) is_t)

  pub some-lent : count_of ps w.source ≡ 1 → 0 < length (shards_in places a).each
  some-lent one = let all = ap (λ (x : ShardsState). length x.each) (sides.source_there ∙ ap (shards_of ps) is_s) ∙ one in omega (arith, all)

  -- what becomes of them
  pub sides-written : (p : PrimaryState) (each : List PrimaryState) → length each ≡ count_of ps w.target → with_places ps (with_sides places a b p each) ≡ with_primaries ps w p each
  sides-written p each long = sides.written p each (long ∙ ap (count_of ps) (sym is_t)) ∙ ap₂ (λ k j. with_shards (with_primary ps k 0 p) j each) is_s is_t
