-- Bases whose logs are purged below what is needed.
use Rattle.std.proofs.Common.{◌≡◌, ◌≢◌, inl, inr, ℕ, zero, suc, ◌+◌, ◌-◌, ◌≤◌, ◌<◌, Bool, true, false, cond, List, [], ◌∷◌, fold, length, map, Option, None, Some, is_some, option_map, unwrap_or, refl, sym, ap, subst, ◌∙◌, arith}
use Rattle.std.proofs.lemmas.Bool.{eq-eqb}
use Rattle.std.proofs.lemmas.List.{length-map}
use Rattle.std.specs.Prelude.{slice_index_or}
use Rattle.mt_names.proofs.SameLemmas.{same_text_decides}
use Rattle.mt_names.specs.Names.{same_text}
use Rattle.mt_model.specs.declared.entries.Scope.{Scope}
use Rattle.mt_plain.specs.Events.{Answer, done, row, advanced, shown, refused, StreamName, forward, back, StreamState, running, stopped, frozen}
use Rattle.mt_plain.specs.Plain.{Lane, Plain, live_at}
use Rattle.mt_plain.specs.Slots.{read_side}
use Rattle.mt_primary.specs.Primary.{PrimaryState, empty_primary, end_of, has_table, is_denied_at}
use Rattle.mt_primary.specs.Writes.{with_purge}
use Rattle.mt_workflow.specs.Workflows.{WorkflowState}
use Rattle.mt_workflow.specs.Workflows as work
use Rattle.mt_steps.specs.Shards as lanes
use Rattle.mt_laws.proofs.LaneLemmas.{IsNumbered, lane_found}
use Rattle.mt_laws.proofs.LiveLemmas.{IsIn}
use Rattle.mt_stands.specs.Topologies.{TopologyStands}
use Rattle.mt_stands.specs.RowPurges.{ArePurged}
use Rattle.mt_stands.specs.Rows.{RowsStand, StandAbove, stream_of}
use Rattle.mt_stands.specs.Rows as rows
use Rattle.mt_primary.specs.Primaries.{Primaries, ShardsState, count_of, no_shards, primary_in, primary_of, shards_at, shards_of}
use Rattle.mt_primary.proofs.PrimariesLemmas.{count-with_primary, cuts-with_primary, has-with_primary, length-with_primary, with_primary-each}
use Rattle.mt_stands.specs.Base.{BaseState, Workflows, workflow_at}
use Rattle.mt_stands.specs.Purges.{PurgesAll, PurgesBase, PurgesOne, first_needed, has_whole_segments, is_in_use, least_at, least_of, least_with, purged_from, with_purge_of, with_purges, without_unneeded}
use Rattle.mt_stands.specs.Stands.{AreWorkflows, StandsFor, StandsWith}
use Rattle.mt_stands.specs.Workflows.{shard_read}
use Rattle.mt_stands.proofs.NeededLemmas.{at-le, needed-le, needed-one, purge-none, with-le, with-stream}
use Rattle.mt_stands.proofs.LaneLemmas.{shards_are, slot_is}
use Rattle.mt_refinement.proofs.FoundLemmas.{state_of_live}
use Rattle.mt_refinement.proofs.ShardLemmas.{lanes_numbered, read_is}

-- a purge below position 0 purges nothing
none-purged : (primary : PrimaryState) → primary ≡ with_purge primary 0
none-purged primary = let few : 0 - primary.log.purged < 256 = omega arith in sym (purge-none primary 0 few)

-- ---- what no purge passes

in-use : (state : StreamState) → state ≢ frozen → is_in_use state ≡ true
in-use running moves = refl
in-use stopped moves = refl
in-use frozen moves = absurd (moves refl)

-- what is low at one of the numbers is low behind all
module _ (keyspace : List ℕ) (shard : ℕ) (w : WorkflowState) where
  folded-le : (numbers : List ℕ) (least : ℕ) → fold (least_at keyspace shard w) least numbers ≤ least
  folded-le [] least = omega arith
  folded-le (m ∷ numbers) least =
      let a = at-le keyspace shard w least m in
      let b = folded-le numbers (least_at keyspace shard w least m) in
      omega (arith, a, b)

  low-in : (n position : ℕ) → ((least : ℕ) → least_at keyspace shard w least n ≤ position) → (numbers : List ℕ) → IsIn n numbers → (least : ℕ) → fold (least_at keyspace shard w) least numbers ≤ position
  low-in n position low [] is least = absurd is
  low-in n position low (m ∷ numbers) (inl same) least =
      let a : least_at keyspace shard w least m ≤ position = subst (λ i. least_at keyspace shard w least i ≤ position) (sym same) (low least) in
      let b = folded-le numbers (least_at keyspace shard w least m) in
      omega (arith, a, b)
  low-in n position low (m ∷ numbers) (inr is) least = low-in n position low numbers is (least_at keyspace shard w least m)

numbered-in : (lanes : List Lane) (lane : Lane) → IsIn lane lanes → IsIn lane.shard (map (λ l. l.shard) lanes)
numbered-in [] lane is = absurd is
numbered-in (x ∷ lanes) lane (inl same) = inl (ap (λ l. l.shard) same)
numbered-in (x ∷ lanes) lane (inr is) = inr (numbered-in lanes lane is)

module _ (p : Plain) (scopes : List Scope) (old : BaseState) (stands : StandsWith p scopes old) where
  -- a stream that is in use
  not-passed : (keyspace : List ℕ) (shard end : ℕ) → StandAbove p keyspace shard (first_needed old.workflows keyspace shard end)
  not-passed keyspace shard end name live is_live n lane laned stream slot there moves reads at =
      let (w, found, for) = state_of_live p (live_at p name) (workflow_at old.workflows name) live (stands.workflows.each name) is_live in
      needed-one old.workflows keyspace shard name end slot.position w found (low w for)
    where
      numbered : IsNumbered live
      numbered = lanes_numbered p stands.reached name live is_live

      low_at : (w : WorkflowState) (for : StandsFor p live w) (which : StreamName) → work.slot_of w n which ≡ Some (stream_of live lane slot) → read_side live which ≡ keyspace → shard_read which n ≡ shard
          → (least : ℕ) → least_at keyspace shard w least n ≤ slot.position
      low_at w for forward has side number least =
          let same : same_text keyspace w.source ≡ true = (same_text_decides keyspace w.source).1 (sym side ∙ for.sides.source) in
          let a : least_with keyspace shard w.source 0 (work.slot_of w n forward) least ≤ slot.position
          = subst (λ o. least_with keyspace shard w.source 0 o least ≤ slot.position) (sym has) (with-stream keyspace shard w.source 0 (stream_of live lane slot) least same (eq-eqb 0 shard number) (in-use slot.state moves)) in
          let b = with-le keyspace shard w.target n (work.slot_of w n back) (least_with keyspace shard w.source 0 (work.slot_of w n forward) least) in
          omega (arith, a, b)
      low_at w for back has side number least =
          let same : same_text keyspace w.target ≡ true = (same_text_decides keyspace w.target).1 (sym side ∙ for.sides.target) in
          subst (λ o. least_with keyspace shard w.target n o (least_with keyspace shard w.source 0 (work.slot_of w n forward) least) ≤ slot.position) (sym has)
          (with-stream keyspace shard w.target n (stream_of live lane slot) (least_with keyspace shard w.source 0 (work.slot_of w n forward) least) same (eq-eqb n shard number) (in-use slot.state moves))

      low : (w : WorkflowState) (for : StandsFor p live w) → (least : ℕ) → least_of keyspace shard least w ≤ slot.position
      low w for =
          let (is, number) = lane_found live n lane laned in
          low-in keyspace shard w n slot.position
          (low_at w for stream (slot_is p live w for numbered n lane laned stream ∙ ap (option_map (stream_of live lane)) there) reads (sym (read_is live n lane laned stream) ∙ at)) (lanes.shards_of w)
          (subst (IsIn n) (sym (shards_are p live w for numbered)) (subst (λ i. IsIn i (map (λ l. l.shard) live.lanes)) number (numbered-in live.lanes lane is)))

  module _ (new : BaseState) (purges : PurgesBase old new) where
    are-purged : ArePurged p (primary_of old.primaries) (primary_of new.primaries)
    are-purged keyspace shard =
        let (position, low, is) = purges.logs keyspace shard in
        let end = end_of (primary_of old.primaries keyspace shard) in
        record {
          position = position;
          within = (let a = needed-le old.workflows keyspace shard end in omega (arith, low, a));
          above = (λ name live is_live n lane laned stream slot there moves reads at. let a = not-passed keyspace shard end name live is_live n lane laned stream slot there moves reads at in omega (arith, low, a));
          is = is;
        }

    was-within : (k : List ℕ) (n : ℕ) → n < count_of new.primaries k → n < count_of old.primaries k
    was-within k n within = subst (λ m. n < m) (purges.shards k) within

    pub purged-stands : ((old_rows new_rows : rows.Primaries) → RowsStand p old_rows → ArePurged p old_rows new_rows → RowsStand p new_rows) → StandsWith p scopes new
    purged-stands law = record {
      reached = stands.reached;
      scopes_are = stands.scopes_are;
      topology = subst (TopologyStands p) (sym purges.topology) stands.topology;
      rows = law (primary_of old.primaries) (primary_of new.primaries) stands.rows are-purged;
      primaries = record {
        there = λ k. purges.there k ∙ stands.primaries.there k;
        count = purges.count ∙ stands.primaries.count;
        cuts = λ k. purges.cuts k ∙ stands.primaries.cuts k;
        ascend = stands.primaries.ascend;
        shards = λ k there. purges.shards k ∙ stands.primaries.shards k there;
        tables = λ k n within t. ap (λ s. has_table s t) (purges.logs k n).2 ∙ stands.primaries.tables k n (was-within k n within) t;
        denials = λ k n within t. ap (λ s. is_denied_at s t) (purges.logs k n).2 ∙ stands.primaries.denials k n (was-within k n within) t;
      };
      workflows = subst (AreWorkflows p) (sym purges.workflows) stands.workflows;
    }

-- ---- all logs

abbrev pub purged_shards : Workflows → (keyspace : List ℕ) → ShardsState → ShardsState
purged_shards workflows keyspace shards = record { cuts = shards.cuts; each = purged_from workflows keyspace 0 shards.each }

abbrev pub purged_entries : Workflows → Primaries → Primaries
purged_entries workflows primaries = map (λ entry. (entry.0, purged_shards workflows entry.0 entry.1)) primaries

entries-at : (workflows : Workflows) (primaries : Primaries) (keyspace : List ℕ) → shards_at (purged_entries workflows primaries) keyspace ≡ option_map (purged_shards workflows keyspace) (shards_at primaries keyspace)
entries-at workflows [] keyspace = refl
entries-at workflows (entry ∷ primaries) keyspace = by (entries-at workflows primaries keyspace) (same_text keyspace entry.0) refl
  where
    by : shards_at (purged_entries workflows primaries) keyspace ≡ option_map (purged_shards workflows keyspace) (shards_at primaries keyspace) → (b : Bool) → same_text keyspace entry.0 ≡ b
        → cond b (Some (purged_shards workflows entry.0 entry.1)) (shards_at (purged_entries workflows primaries) keyspace)
        ≡ option_map (purged_shards workflows keyspace) (cond b (Some entry.1) (shards_at primaries keyspace))
    by rest true is = ap (λ k. Some (purged_shards workflows k entry.1)) (sym ((same_text_decides keyspace entry.0).0 is))
    by rest false is = rest

shards-at : (base : BaseState) (keyspace : List ℕ) → shards_of (with_purges base).primaries keyspace ≡ purged_shards base.workflows keyspace (shards_of base.primaries keyspace)
shards-at base keyspace = ap (λ o. unwrap_or o no_shards) (entries-at base.workflows base.primaries keyspace) ∙ by (shards_at base.primaries keyspace)
  where
    by : (o : Option ShardsState) → unwrap_or (option_map (purged_shards base.workflows keyspace) o) no_shards ≡ purged_shards base.workflows keyspace (unwrap_or o no_shards)
    by None = refl
    by (Some shards) = refl

none-needed : (workflows : Workflows) (keyspace : List ℕ) (shard : ℕ) → empty_primary ≡ with_purge empty_primary (first_needed workflows keyspace shard (end_of empty_primary))
none-needed workflows keyspace shard =
    let low = needed-le workflows keyspace shard (end_of empty_primary) in
    let few : first_needed workflows keyspace shard (end_of empty_primary) - empty_primary.log.purged < 256 = omega (arith, low) in
    sym (purge-none empty_primary (first_needed workflows keyspace shard (end_of empty_primary)) few)

-- the primary of a place is purged as that shard's
module _ (workflows : Workflows) (keyspace : List ℕ) where
  purged-at : (start : ℕ) (each : List PrimaryState) (n : ℕ) → slice_index_or (purged_from workflows keyspace start each) n empty_primary ≡ without_unneeded workflows keyspace (start + n) (slice_index_or each n empty_primary)
  purged-at start [] n = none-needed workflows keyspace (start + n)
  purged-at start (primary ∷ each) zero = ap (λ m. without_unneeded workflows keyspace m primary) (let e : start ≡ start + 0 = omega arith in e)
  purged-at start (primary ∷ each) (suc n) =
      purged-at (suc start) each n ∙ ap (λ m. without_unneeded workflows keyspace m (slice_index_or each n empty_primary)) (let e : suc start + n ≡ start + suc n = omega arith in e)

  purged-count : (start : ℕ) (each : List PrimaryState) → length (purged_from workflows keyspace start each) ≡ length each
  purged-count start [] = refl
  purged-count start (primary ∷ each) = ap suc (purged-count (suc start) each)

pub all-at : (base : BaseState) (keyspace : List ℕ) (shard : ℕ)
    → primary_of (with_purges base).primaries keyspace shard ≡ without_unneeded base.workflows keyspace shard (primary_of base.primaries keyspace shard)
all-at base keyspace shard =
    ap (λ s. primary_in s shard) (shards-at base keyspace) ∙ purged-at base.workflows keyspace 0 (shards_of base.primaries keyspace).each shard
    ∙ ap (λ n. without_unneeded base.workflows keyspace n (primary_of base.primaries keyspace shard)) (let e : 0 + shard ≡ shard = omega arith in e)

le-refl : (n : ℕ) → n ≤ n
le-refl n = omega arith

all-purges : (base : BaseState) → PurgesBase base (with_purges base)
all-purges base = record {
  topology = refl;
  workflows = refl;
  there = λ k. ap is_some (entries-at base.workflows base.primaries k) ∙ by k (shards_at base.primaries k);
  count = length-map base.primaries (λ entry. (entry.0, purged_shards base.workflows entry.0 entry.1));
  cuts = λ k. ap (λ (s : ShardsState). s.cuts) (shards-at base k);
  shards = λ k. ap (λ (s : ShardsState). length s.each) (shards-at base k) ∙ purged-count base.workflows k 0 (shards_of base.primaries k).each;
  logs = λ k n. (
    first_needed base.workflows k n (end_of (primary_of base.primaries k n)),
    le-refl (first_needed base.workflows k n (end_of (primary_of base.primaries k n))),
    all-at base k n,
  );
}
  where
    by : (k : List ℕ) (o : Option ShardsState) → is_some (option_map (purged_shards base.workflows k) o) ≡ is_some o
    by k None = refl
    by k (Some shards) = refl

-- ---- one log

one-purges : (base : BaseState) (keyspace : List ℕ) (shard : ℕ) → PurgesBase base (with_purge_of keyspace shard base)
one-purges base keyspace shard =
    let before = primary_of base.primaries keyspace shard in
    let purged = without_unneeded base.workflows keyspace shard before in
    record {
      topology = refl;
      workflows = refl;
      there = has-with_primary base.primaries keyspace shard purged;
      count = length-with_primary base.primaries keyspace shard purged;
      cuts = cuts-with_primary base.primaries keyspace shard purged;
      shards = count-with_primary base.primaries keyspace shard purged;
      logs = with_primary-each base.primaries keyspace shard purged
          (λ k n was is. (position : ℕ) × (position ≤ first_needed base.workflows k n (end_of was)) × (is ≡ with_purge was position)) (λ k n q. (0, omega arith, none-purged q))
          (λ within. (first_needed base.workflows keyspace shard (end_of before), le-refl (first_needed base.workflows keyspace shard (end_of before)), refl));
    }

-- ---- behind an event

none-purges : (base : BaseState) → PurgesBase base base
none-purges base = record {
  topology = refl;
  workflows = refl;
  there = λ k. refl;
  count = refl;
  cuts = λ k. refl;
  shards = λ k. refl;
  logs = λ k n. (0, omega arith, none-purged (primary_of base.primaries k n));
}

same-purges : (old new : BaseState) → new ≡ old → PurgesBase old new
same-purges old new same = subst (PurgesBase old) (sym same) (none-purges old)

all-taken : (old new : BaseState) → new ≡ with_purges old → PurgesBase old new
all-taken old new is = subst (PurgesBase old) (sym is) (all-purges old)

pub all-behind : (old new : BaseState) (answer : Answer) → PurgesAll answer old new → PurgesBase old new
all-behind old new (refused refusal) is = same-purges old new is
all-behind old new done is = all-taken old new is
all-behind old new (row r) is = all-taken old new is
all-behind old new (advanced events rows) is = all-taken old new is
all-behind old new (shown s) is = all-taken old new is

pub one-behind : (old new : BaseState) (keyspace : List ℕ) (shard : ℕ) (answer : Answer) → PurgesOne keyspace shard answer old new → PurgesBase old new
one-behind old new keyspace shard (refused refusal) is = same-purges old new is
one-behind old new keyspace shard (row r) is = same-purges old new is
one-behind old new keyspace shard (advanced events rows) is = same-purges old new is
one-behind old new keyspace shard (shown s) is = same-purges old new is
one-behind old new keyspace shard done is = subst (PurgesBase old) (sym is) (by (has_whole_segments (primary_of old.primaries keyspace shard)))
  where
    by : (b : Bool) → PurgesBase old (cond b (with_purge_of keyspace shard old) old)
    by true = one-purges old keyspace shard
    by false = none-purges old
