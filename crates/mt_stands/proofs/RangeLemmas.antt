-- The key range of a lane has just the keys of its shard, where the bounds ascend.
use Rattle.std.proofs.Common.{◌≡◌, ℕ, zero, suc, ◌+◌, ◌<◌, Bool, true, false, cond, eqb, List, [], ◌∷◌, map, Option, Some, refl, ap, ◌∙◌, arith, eqb-true}
use Rattle.std.specs.List.{find, range_with_len}
use Rattle.std.specs.Prelude.{unwrap_or}
use Rattle.mt_names.specs.Shards.{AreCuts, KeyRange, holds, shard_count, whole}
use Rattle.mt_names.proofs.RangeLemmas.{range-there, shard-holds}
use Rattle.mt_plain.specs.Plain.{Lane, Live, lane_at}
use Rattle.mt_stands.specs.Rows.{HoldsItsKeys}
use Rattle.mt_stands.proofs.KnownLemmas.{numbered}

below : (ls : List Lane) (k count n : ℕ) (lane : Lane) → map (λ (l : Lane). l.shard) ls ≡ range_with_len k count → find (λ l. eqb l.shard n) ls ≡ Some lane → n < k + count
below [] k count n lane e f = absurd cc
below (l ∷ ls) k zero n lane e f = absurd cc
below (l ∷ ls) k (suc count) n lane e f = by (eqb l.shard n) refl f (below ls (k + 1) count n lane (tails e))
  where
    heads : {X : Type 0} {x y : X} {xs ys : List X} → x ∷ xs ≡ y ∷ ys → x ≡ y
    heads h = cc

    tails : {X : Type 0} {x y : X} {xs ys : List X} → x ∷ xs ≡ y ∷ ys → xs ≡ ys
    tails h = cc

    by : (b : Bool) → eqb l.shard n ≡ b → cond b (Some l) (find (λ l. eqb l.shard n) ls) ≡ Some lane → (find (λ l. eqb l.shard n) ls ≡ Some lane → n < k + 1 + count) → n < k + suc count
    by true is g later = let a = eqb-true l.shard n is in let b = heads e in omega (arith, a, b)
    by false is g later = let again = later g in omega (arith, again)

pub lane-holds : (w : Live) → AreCuts w.cuts → map (λ (l : Lane). l.shard) w.lanes ≡ range_with_len 0 (shard_count w.cuts) → (shard : ℕ) (lane : Lane) → lane_at w shard ≡ Some lane → HoldsItsKeys w lane
lane-holds w are numbers shard lane laned key =
    let low = below w.lanes 0 (shard_count w.cuts) shard lane numbers laned in
    let is = numbered w shard lane laned in
    let there = range-there [] w.cuts lane.shard (omega (arith, low, is)) in
    ap (λ (o : Option KeyRange). holds (unwrap_or o whole) key) there.1 ∙ shard-holds w.cuts are lane.shard there.0 there.1 key
