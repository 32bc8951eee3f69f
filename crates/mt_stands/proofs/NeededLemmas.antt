-- What of a log is needed, and a log that is purged below it.
use Rattle.std.proofs.Common.{◌≡◌, ◌⊎◌, inl, inr, ℕ, suc, ◌+◌, ◌-◌, ◌≤◌, ◌<◌, Bool, true, false, cond, List, [], ◌∷◌, drop, fold, Option, None, Some, leb, refl, sym, ap, subst, ◌∙◌, arith}
use Rattle.std.proofs.Math.Nat.{min-le_left, min-le_right}
use Rattle.std.proofs.lemmas.Bool.Decides.{leb_tells}
use Rattle.std.proofs.lemmas.List.{length-drop}
use Rattle.std.specs.Prelude.{min, ◌&&◌, ◌==◌}
use Rattle.mt_names.specs.Names.{same_text}
use Rattle.mt_store.specs.Log.{LogState, purged_by, without_first}
use Rattle.mt_primary.specs.Primary.{PrimaryState, end_of}
use Rattle.mt_primary.specs.Writes.{with_purge}
use Rattle.mt_stream.specs.Streams.{StreamValue}
use Rattle.mt_plain.specs.Events.{forward, back}
use Rattle.mt_workflow.specs.Workflows.{WorkflowState, slot_of}
use Rattle.mt_steps.specs.Shards as lanes
use Rattle.mt_stands.specs.Base.{Workflows, workflow_at}
use Rattle.mt_stands.specs.Purges.{first_needed, is_in_use, least_at, least_of, least_with}

-- ---- the least position

le-refl : (n : ℕ) → n ≤ n
le-refl n = omega arith

pub with-le : (keyspace : List ℕ) (shard : ℕ) (side : List ℕ) (read : ℕ) (o : Option StreamValue) (least : ℕ) → least_with keyspace shard side read o least ≤ least
with-le keyspace shard side read None least = le-refl least
with-le keyspace shard side read (Some stream) least = by (same_text keyspace side && (read == shard) && is_in_use stream.state)
  where
    by : (b : Bool) → cond b (min least stream.position) least ≤ least
    by true = min-le_left least stream.position
    by false = le-refl least

pub at-le : (keyspace : List ℕ) (shard : ℕ) (w : WorkflowState) (least lane : ℕ) → least_at keyspace shard w least lane ≤ least
at-le keyspace shard w least lane =
    let a = with-le keyspace shard w.source 0 (slot_of w lane forward) least in
    let b = with-le keyspace shard w.target lane (slot_of w lane back) (least_with keyspace shard w.source 0 (slot_of w lane forward) least) in
    omega (arith, a, b)

pub of-le : (keyspace : List ℕ) (shard least : ℕ) (w : WorkflowState) → least_of keyspace shard least w ≤ least
of-le keyspace shard least w = each (lanes.shards_of w) least
  where
    each : (numbers : List ℕ) (least : ℕ) → fold (least_at keyspace shard w) least numbers ≤ least
    each [] least = le-refl least
    each (lane ∷ numbers) least =
        let a = at-le keyspace shard w least lane in
        let b = each numbers (least_at keyspace shard w least lane) in
        omega (arith, a, b)

pub needed-le : (workflows : Workflows) (keyspace : List ℕ) (shard end : ℕ) → first_needed workflows keyspace shard end ≤ end
needed-le [] keyspace shard end = le-refl end
needed-le (entry ∷ workflows) keyspace shard end =
    let a = of-le keyspace shard end entry.1 in
    let b = needed-le workflows keyspace shard (least_of keyspace shard end entry.1) in
    omega (arith, a, b)

-- of a stream that reads the shard's log and is in use
pub with-stream : (keyspace : List ℕ) (shard : ℕ) (side : List ℕ) (read : ℕ) (stream : StreamValue) (least : ℕ) → same_text keyspace side ≡ true → (read == shard) ≡ true → is_in_use stream.state ≡ true
    → least_with keyspace shard side read (Some stream) least ≤ stream.position
with-stream keyspace shard side read stream least reads there moves =
    subst (λ b. cond b (min least stream.position) least ≤ stream.position)
    (sym (ap (λ b. b && (read == shard) && is_in_use stream.state) reads ∙ ap (λ b. b && is_in_use stream.state) there ∙ moves)) (min-le_right least stream.position)

-- what is least with a workflow is at least what is needed with all
pub needed-one : (workflows : Workflows) (keyspace : List ℕ) (shard : ℕ) (name : List ℕ) (end position : ℕ) (w : WorkflowState) → workflow_at workflows name ≡ Some w → ((least : ℕ) → least_of keyspace shard least w ≤ position)
    → first_needed workflows keyspace shard end ≤ position
needed-one [] keyspace shard name end position w found low = absurd cc
needed-one (entry ∷ workflows) keyspace shard name end position w found low = by (λ there. needed-one workflows keyspace shard name (least_of keyspace shard end entry.1) position w there low) (same_text name entry.0) refl
  where
    by : (workflow_at workflows name ≡ Some w → first_needed (entry ∷ workflows) keyspace shard end ≤ position) → (b : Bool) → same_text name entry.0 ≡ b → first_needed (entry ∷ workflows) keyspace shard end ≤ position
    by rest true is =
        let here : Some entry.1 ≡ Some w = sym (ap (λ b. cond b (Some entry.1) (workflow_at workflows name)) is) ∙ found in
        let one : entry.1 ≡ w = cc in
        let a : least_of keyspace shard end entry.1 ≤ position = subst (λ v. least_of keyspace shard end v ≤ position) (sym one) (low end) in
        let b = needed-le workflows keyspace shard (least_of keyspace shard end entry.1) in
        omega (arith, a, b)
    by rest false is = rest (sym (ap (λ b. cond b (Some entry.1) (workflow_at workflows name)) is) ∙ found)

-- ---- one entry more

-- of two positions, one entry apart or the same: so are they with a stream, and if they are apart, the second is that of the start
abbrev pub NextTo : (from low high : ℕ) → Type 0
NextTo from low high = (high ≡ low) ⊎ ((high ≡ suc low) × (high ≡ from))

with-next : (keyspace : List ℕ) (shard : ℕ) (side : List ℕ) (read : ℕ) (o : Option StreamValue) (from low high : ℕ) → NextTo from low high
    → NextTo from (least_with keyspace shard side read o low) (least_with keyspace shard side read o high)
with-next keyspace shard side read None from low high near = near
with-next keyspace shard side read (Some stream) from low high near = by (same_text keyspace side && (read == shard) && is_in_use stream.state)
  where
    both : NextTo from low high → NextTo from (min low stream.position) (min high stream.position)
    both (inl same) = inl (ap (λ n. min n stream.position) same)
    both (inr more) = cut (leb_tells stream.position low)
      where
        cut : ((leb stream.position low ≡ true) × (stream.position ≤ low)) ⊎ ((leb stream.position low ≡ false) × (low < stream.position)) → NextTo from (min low stream.position) (min high stream.position)
        cut (inl t) = let le = t.1 in let m = more.0 in inl (omega (arith, le, m))
        cut (inr t) = let lt = t.1 in let m = more.0 in inr (omega (arith, lt, m), let h : min high stream.position ≡ high = omega (arith, lt, m) in h ∙ more.1)

    by : (b : Bool) → NextTo from (cond b (min low stream.position) low) (cond b (min high stream.position) high)
    by true = both near
    by false = near

at-next : (keyspace : List ℕ) (shard : ℕ) (w : WorkflowState) (from low high lane : ℕ) → NextTo from low high → NextTo from (least_at keyspace shard w low lane) (least_at keyspace shard w high lane)
at-next keyspace shard w from low high lane near =
    with-next keyspace shard w.target lane (slot_of w lane back) from (least_with keyspace shard w.source 0 (slot_of w lane forward) low) (least_with keyspace shard w.source 0 (slot_of w lane forward) high)
    (with-next keyspace shard w.source 0 (slot_of w lane forward) from low high near)

of-next : (keyspace : List ℕ) (shard : ℕ) (w : WorkflowState) (from low high : ℕ) → NextTo from low high → NextTo from (least_of keyspace shard low w) (least_of keyspace shard high w)
of-next keyspace shard w from = each (lanes.shards_of w)
  where
    each : (numbers : List ℕ) (low high : ℕ) → NextTo from low high → NextTo from (fold (least_at keyspace shard w) low numbers) (fold (least_at keyspace shard w) high numbers)
    each [] low high near = near
    each (lane ∷ numbers) low high near = each numbers (least_at keyspace shard w low lane) (least_at keyspace shard w high lane) (at-next keyspace shard w from low high lane near)

fold-next : (workflows : Workflows) (keyspace : List ℕ) (shard from low high : ℕ) → NextTo from low high → NextTo from (first_needed workflows keyspace shard low) (first_needed workflows keyspace shard high)
fold-next [] keyspace shard from low high near = near
fold-next (entry ∷ workflows) keyspace shard from low high near = fold-next workflows keyspace shard from (least_of keyspace shard low entry.1) (least_of keyspace shard high entry.1) (of-next keyspace shard entry.1 from low high near)

pub needed-next : (workflows : Workflows) (keyspace : List ℕ) (shard end : ℕ) → NextTo (suc end) (first_needed workflows keyspace shard end) (first_needed workflows keyspace shard (suc end))
needed-next workflows keyspace shard end = fold-next workflows keyspace shard (suc end) end (suc end) (inr (refl, refl))

-- ---- a purge

pub purge-none : (p : PrimaryState) (position : ℕ) → position - p.log.purged < 256 → with_purge p position ≡ p
purge-none p position few = ap (λ (l : LogState). record p { log = l }) (by (purged_by p.log position) none)
  where
    none : purged_by p.log position ≡ 0
    none = omega (arith, few)

    by : (n : ℕ) → n ≡ 0 → without_first n p.log ≡ p.log
    by n e =
        let same : p.log.purged + n ≡ p.log.purged = omega (arith, e) in
        ap (λ m. let log : LogState = record { purged = m; entries = drop n p.log.entries } in log) same
        ∙ ap (λ m. let log : LogState = record { purged = p.log.purged; entries = drop m p.log.entries } in log) e

pub purge-purged : (p : PrimaryState) (position : ℕ) → position < (with_purge p position).log.purged + 256
purge-purged p position = omega arith

pub purge-end : (p : PrimaryState) (position : ℕ) → position ≤ end_of p → end_of (with_purge p position) ≡ end_of p
purge-end p position within =
    let l = length-drop (purged_by p.log position) p.log.entries in
    omega (arith, within, l)
