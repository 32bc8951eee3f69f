-- A stream that advances between the primaries of its workflow's sides, and the workflow, which takes its place.
use Rattle.std.proofs.Common.{◌≡◌, ◌≢◌, ◌<◌, ℕ, Bool, true, false, List, Option, None, Some, Result, get_or, is_some, set, sym, ap, ap₂, subst, arith, ◌∙◌}
use Rattle.std.proofs.lemmas.List.{get_or_default}
use Rattle.std.proofs.lemmas.Map.Steps.{set_value_same}
use Rattle.std.specs.Map.{set_value}
use Rattle.mt_names.specs.Names.{same_text}
use Rattle.mt_model.specs.Topology.{TopologyState}
use Rattle.mt_plain.specs.Events.{StreamName, Answer}
use Rattle.mt_plain.specs.Slots.{read_side, written_side}
use Rattle.mt_primary.proofs.PrimariesLemmas.{of-with_shards_elsewhere, there_from_count, with_primary-same, with_shards-same}
use Rattle.mt_primary.specs.Primaries.{Primaries, ShardsState, count_of, has_primaries, primary_of, shards_of, with_primary, with_shards}
use Rattle.mt_primary.specs.Primary.{PrimaryState, empty_primary}
use Rattle.mt_stream.specs.declared.fault.StreamFault.{StreamFault}
use Rattle.mt_stream.specs.declared.stream.Advanced.{Advanced}
use Rattle.mt_stream.specs.Streams.{StreamValue}
use Rattle.mt_workflow.specs.Advance.{AdvancesSlot}
use Rattle.mt_workflow.specs.Workflows.{WorkflowState, live_of, slot_of, with_slot}
use Rattle.mt_stands.specs.Switching.{with_primaries}
use Rattle.mt_stands.specs.Base.{BaseState, Workflows, workflow_at}
use Rattle.mt_stands.specs.Workflows.{AdvancesStream, OrShardRefused, shard_read, shard_written}
use Rattle.mt_site.proofs.CoreLemmas.{lane_below}
use Rattle.mt_site.specs.Advance.{AdvancesBetween, AdvancesLane, AdvancesOne, IsBetween, answer_by_slot}

-- what an advance between two primaries does to a workflow that has the stream
pub one_from : (old new : Primaries) (w after : WorkflowState) (name : StreamName) (shard at at_most : ℕ) (answer : Answer) (result : Option (Result Advanced StreamFault)) (o moved : Option StreamValue) (sink : PrimaryState)
    → is_some o ≡ true → answer ≡ answer_by_slot result
    → AdvancesSlot o (primary_of old (read_side (live_of w) name) (shard_read name shard)) (primary_of old (written_side (live_of w) name) (shard_written name shard)) at at_most result moved sink
    → after ≡ with_slot w shard name moved → new ≡ with_primary old (written_side (live_of w) name) (shard_written name shard) sink
    → AdvancesOne o old w name shard at at_most answer after new
one_from old new w after name shard at at_most answer result None moved sink there told advances rest put = absurd cc
one_from old new w after name shard at at_most answer (Some result) (Some s) (Some advanced) sink there told advances rest put = (result, advanced, sink, advances, told, rest, put)
one_from old new w after name shard at at_most answer (Some result) (Some s) None sink there told advances rest put = absurd advances
one_from old new w after name shard at at_most answer None (Some s) moved sink there told advances rest put = absurd advances

-- the workflow that advances takes its place
pub advanced : (topology : TopologyState) (primaries new : Primaries) (workflows later : Workflows) (name : List ℕ) (w after : WorkflowState) (stream : StreamName) (shard at at_most : ℕ) (answer : Answer) (o : Option StreamValue)
    → w.name ≡ name → workflow_at workflows name ≡ Some w → later ≡ set_value (same_text name) workflows after → AdvancesOne o primaries w stream shard at at_most answer after new
    → AdvancesStream o (record { topology = topology; primaries = primaries; workflows = workflows }) w stream shard at at_most answer (record { topology = topology; primaries = new; workflows = later })
advanced topology primaries new workflows later name w after stream shard at at_most answer None named found is did =
    let kept : later ≡ workflows = is ∙ ap (set_value (same_text name) workflows) did.1 ∙ set_value_same (same_text name) workflows w found in
    let by_primaries : Primaries → BaseState = λ ps. record { topology = topology; primaries = ps; workflows = later } in
    let by_workflows : Workflows → BaseState = λ ws. record { topology = topology; primaries = primaries; workflows = ws } in
    (did.0, ap by_primaries did.2 ∙ ap by_workflows kept)
advanced topology primaries new workflows later name w after stream shard at at_most answer (Some s) named found is (result, moved, sink, advances, told, slot, put) =
    let there : WorkflowState = with_slot w shard stream (Some moved) in
    let here : later ≡ set_value (same_text w.name) workflows there = is ∙ ap (set_value (same_text name) workflows) slot ∙ ap (λ n. set_value (same_text n) workflows there) (sym named) in
    let by_primaries : Primaries → BaseState = λ ps. record { topology = topology; primaries = ps; workflows = later } in
    let by_workflows : Workflows → BaseState = λ ws. record { topology = topology; primaries = with_primary primaries (written_side (live_of w) stream) (shard_written stream shard) sink; workflows = ws } in
    (result, moved, sink, advances, told, ap by_primaries put ∙ ap by_workflows here)

-- the same, if the target has the shard
pub advanced_lane : (topology : TopologyState) (primaries new : Primaries) (workflows later : Workflows) (name : List ℕ) (w after : WorkflowState) (stream : StreamName) (shard at at_most : ℕ) (answer : Answer) (has_shard : Bool)
    → w.name ≡ name → workflow_at workflows name ≡ Some w → later ≡ set_value (same_text name) workflows after → AdvancesLane has_shard primaries w stream shard at at_most answer after new
    → (let old : BaseState = record { topology = topology; primaries = primaries; workflows = workflows } in let next : BaseState = record { topology = topology; primaries = new; workflows = later } in
    OrShardRefused has_shard old answer next (AdvancesStream (slot_of w shard stream) old w stream shard at at_most answer next))
advanced_lane topology primaries new workflows later name w after stream shard at at_most answer true named found is did =
    advanced topology primaries new workflows later name w after stream shard at at_most answer (slot_of w shard stream) named found is did
advanced_lane topology primaries new workflows later name w after stream shard at at_most answer false named found is did =
    let kept : later ≡ workflows = is ∙ ap (set_value (same_text name) workflows) did.1 ∙ set_value_same (same_text name) workflows w found in
    let by_primaries : Primaries → BaseState = λ ps. record { topology = topology; primaries = ps; workflows = later } in
    let by_workflows : Workflows → BaseState = λ ws. record { topology = topology; primaries = primaries; workflows = ws } in
    (did.0, ap by_primaries did.2 ∙ ap by_workflows kept)

-- ---- the primaries of both sides, lent at their places

-- a stream that advances between two of them
pub advanced-between : (ps new : Primaries) (w after : WorkflowState) (name : StreamName) (shard at at_most : ℕ) (answer : Option (Result Advanced StreamFault)) (read written sink : PrimaryState)
    → AdvancesSlot (slot_of w shard name) read written at at_most answer (slot_of after shard name) sink → after ≡ with_slot w shard name (slot_of after shard name)
    → read ≡ primary_of ps (read_side (live_of w) name) (shard_read name shard) → written ≡ primary_of ps (written_side (live_of w) name) (shard_written name shard)
    → new ≡ with_primary ps (written_side (live_of w) name) (shard_written name shard) sink
    → AdvancesBetween ps w name shard at at_most answer after new
advanced-between ps new w after name shard at at_most answer read written sink advances rest is_read is_written put =
    let between : PrimaryState → PrimaryState → Type 0 = λ p q. AdvancesSlot (slot_of w shard name) p q at at_most answer (slot_of after shard name) sink in
    (sink, subst (λ p. between p (primary_of ps (written_side (live_of w) name) (shard_written name shard))) is_read (subst (between read) is_written advances), rest, put)

-- what an advance asks for
module _ (ps : Primaries) (w : WorkflowState) (name : StreamName) (n : ℕ) (s : StreamValue) (is : IsBetween ps w name n s) where
  pub source-there : has_primaries ps w.source ≡ true
  source-there = let one = is.source in there_from_count ps w.source 0 (omega (arith, one))

  module _ (found : slot_of w n name ≡ Some s) where
    pub shard-there : n < count_of ps w.target
    shard-there =
        let below = lane_below w n name s found in
        let lanes = is.target in
        omega (arith, below, lanes)

    pub target-there : has_primaries ps w.target ≡ true
    target-there = there_from_count ps w.target n shard-there

-- a primary of a list is that of its shard
pub one-of : (ps : Primaries) (k : List ℕ) (each : List PrimaryState) (n i : ℕ) (p : PrimaryState) → each ≡ (shards_of ps k).each → i ≡ n → n < count_of ps k → get_or each i p ≡ primary_of ps k n
one-of ps k each n i p are same below = ap₂ (λ l m. get_or l m p) are same ∙ get_or_default (shards_of ps k).each n p empty_primary below

-- one primary is written, and all others stay as they were lent
module _ (ps : Primaries) (w : WorkflowState) (n i : ℕ) (one sink : PrimaryState) (all : List PrimaryState) (same : i ≡ n) (targets_are : all ≡ (shards_of ps w.target).each) where
  pub put-forward : one ≡ primary_of ps w.source 0 → with_primaries ps w one (set all i sink) ≡ with_primary ps w.target n sink
  put-forward is =
      ap₂ (λ p l. with_primaries ps w p (set l i sink)) is targets_are
      ∙ ap (λ m. with_primaries ps w (primary_of ps w.source 0) (set (shards_of ps w.target).each m sink)) same
      ∙ ap (λ l. with_shards l w.target (set (shards_of ps w.target).each n sink)) (with_primary-same ps w.source 0)

  pub put-back : w.source ≢ w.target → with_primaries ps w sink all ≡ with_primary ps w.source 0 sink
  put-back apart =
      let now = with_primary ps w.source 0 sink in
      ap (with_shards now w.target) (targets_are ∙ ap (λ (s : ShardsState). s.each) (sym (of-with_shards_elsewhere ps w.source (set (shards_of ps w.source).each 0 sink) w.target apart)))
      ∙ with_shards-same now w.target
