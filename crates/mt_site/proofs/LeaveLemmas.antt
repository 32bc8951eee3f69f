-- What is refused leaves the core as it was.
use Rattle.std.proofs.Common.{◌≡◌, ℕ, Bool, true, false, List, Option, None, Some, Result, Ok, Err, length, refl, sym, ap, ◌∙◌}
use Rattle.std.proofs.lemmas.Map.Steps.{set_value_same}
use Rattle.std.specs.Map.{set_value}
use Rattle.std.specs.Prelude.{⊤, nat_lt}
use Rattle.std.specs.Result.{OnErr}
use Rattle.mt_names.specs.Names.{same_text}
use Rattle.mt_model.specs.declared.faults.PrimaryFault.{PrimaryFault}
use Rattle.mt_model.specs.declared.faults.PrimaryFault.TheVariants as fault
use Rattle.mt_model.specs.declared.rows.Op.{Op}
use Rattle.mt_model.specs.Rows.{op_key}
use Rattle.mt_event.specs.declared.reason.Reason as code
use Rattle.mt_event.specs.Reasons.{done_by, reason_from}
use Rattle.mt_plain.specs.Events.{StreamName, Refusal, memory, refused}
use Rattle.mt_plain.specs.Refuse.{cancel_refusal}
use Rattle.mt_plain.specs.Slots.{written_side}
use Rattle.mt_primary.proofs.PrimariesLemmas.{shards_from_found, with_primary-same}
use Rattle.mt_primary.specs.Primary.{PrimaryState}
use Rattle.mt_primary.specs.Writes.{Writes}
use Rattle.mt_stream.specs.declared.fault.StreamFault.{StreamFault}
use Rattle.mt_stream.specs.declared.stream.Advanced.{Advanced}
use Rattle.mt_stream.specs.declared.fault.StreamFault.TheVariants as stream
use Rattle.mt_stream.specs.Advance.{Advances}
use Rattle.mt_stream.specs.Streams.{StreamValue}
use Rattle.mt_workflow.specs.Workflows.{WorkflowState, live_of, slot_of, with_slot}
use Rattle.mt_stands.specs.ByHand.{WritesAt}
use Rattle.mt_primary.specs.Primaries.{Primaries, ShardsState, place_of_key, primary_in, primary_of, shards_at, with_primary}
use Rattle.mt_stands.specs.Base.{BaseState, Does, Workflows, workflow_at}
use Rattle.mt_stands.specs.Workflows.{AdvancesAt, AdvancesStream, CancelsAt, OrShardRefused, cancelled, shard_written}
use Rattle.mt_refinement.proofs.MoveStreamLemmas.{slot_again}
use Rattle.mt_site.specs.Advance.{advanced_from}

-- ---- what is decided by one test

refused_leaves : (old new : BaseState) (refusal : Option Refusal) (grows : Bool) (made : BaseState) (r : Refusal) → Does old refusal grows made (refused r) new → new ≡ old
refused_leaves old new refusal grows made memory is = is.2
refused_leaves old new refusal grows made other is = is.1

pub does_leave : (old new : BaseState) (refusal : Option Refusal) (grows : Bool) (made : BaseState) (result : Result ⊤ code.Reason) → Does old refusal grows made (done_by result) new → OnErr result (new ≡ old)
does_leave old new refusal grows made (Ok reply) is = tt
does_leave old new refusal grows made (Err r) is = refused_leaves old new refusal grows made (reason_from r) is

-- ---- a write

write_leaves : (before after : PrimaryState) (table : List ℕ) (op : Op) (f : PrimaryFault) → Writes before table op (Err f) after → after ≡ before
write_leaves before after table op fault.Memory is = is.1
write_leaves before after table op other is = is.1

pub rows_leave : (old new : BaseState) (keyspace table : List ℕ) (op : Op) (result : Result ⊤ code.Reason) (o : Option ShardsState) → shards_at old.primaries keyspace ≡ o
    → WritesAt o old keyspace table op (done_by result) new → OnErr result (new ≡ old)
rows_leave old new keyspace table op (Ok is-done) o found is = tt
rows_leave old new keyspace table op (Err r) None found is = is.1
rows_leave old new keyspace table op (Err r) (Some shards) found (Ok position, after, writes, told, made) = absurd cc
rows_leave old new keyspace table op (Err r) (Some shards) found (Err f, after, writes, told, made) =
    let n = place_of_key shards (op_key op) in
    let with_primaries : Primaries → BaseState = λ ps. record old { primaries = ps } in
    let same : after ≡ primary_of old.primaries keyspace n =
    write_leaves (primary_in shards n) after table op f writes ∙ ap (λ s. primary_in s n) (sym (shards_from_found old.primaries keyspace shards found)) in
    made ∙ ap with_primaries (ap (with_primary old.primaries keyspace n) same ∙ with_primary-same old.primaries keyspace n)

-- ---- an advance

advance_leaves : (s after : StreamValue) (source sink now : PrimaryState) (at at_most : ℕ) (f : StreamFault) → Advances s source sink at at_most (Err f) after now → (after ≡ s) × (now ≡ sink)
advance_leaves s after source sink now at at_most stream.Memory is = (is.2, is.3)
advance_leaves s after source sink now at at_most other is = (is.1, is.2)

module _ (old new : BaseState) (workflow : List ℕ) (name : StreamName) (shard at at_most : ℕ)
    (named : (w : WorkflowState) → workflow_at old.workflows workflow ≡ Some w → w.name ≡ workflow) where
  stream_leaves : (w : WorkflowState) → workflow_at old.workflows workflow ≡ Some w → (r : code.Reason) (o : Option StreamValue) → slot_of w shard name ≡ o
      → AdvancesStream o old w name shard at at_most (refused (reason_from r)) new → new ≡ old
  stream_leaves w found r None slot is = is.1
  stream_leaves w found r (Some s) slot (Ok counts, after, sink, advances, told, made) = absurd cc
  stream_leaves w found r (Some s) slot (Err f, after, sink, advances, told, made) =
      let side = written_side (live_of w) name in
      let n = shard_written name shard in
      let kept = advance_leaves s after _ (primary_of old.primaries side n) sink at at_most f advances in
      let primaries_again : with_primary old.primaries side n sink ≡ old.primaries = ap (with_primary old.primaries side n) kept.1 ∙ with_primary-same old.primaries side n in
      let workflows_again : set_value (same_text w.name) old.workflows (with_slot w shard name (Some after)) ≡ old.workflows =
      ap (λ v. set_value (same_text w.name) old.workflows (with_slot w shard name (Some v))) kept.0 ∙ ap (set_value (same_text w.name) old.workflows) (ap (λ lanes. record w { lanes = lanes }) (slot_again name s shard w.lanes slot))
      ∙ set_value_same (same_text w.name) old.workflows w (ap (workflow_at old.workflows) (named w found) ∙ found) in
      let with_primaries : Primaries → BaseState = λ ps. record old { primaries = ps; workflows = set_value (same_text w.name) old.workflows (with_slot w shard name (Some after)) } in
      let with_workflows : Workflows → BaseState = λ ws. record old { workflows = ws } in
      made ∙ ap with_primaries primaries_again ∙ ap with_workflows workflows_again

  pub advances_leave : (result : Result Advanced code.Reason) (o : Option WorkflowState) → workflow_at old.workflows workflow ≡ o → AdvancesAt o old name shard at at_most (advanced_from result) new → OnErr result (new ≡ old)
  advances_leave (Ok reply) o found is = tt
  advances_leave (Err r) None found is = is.1
  advances_leave (Err r) (Some w) found is = by (nat_lt shard (length w.lanes)) is
    where
      by : (t : Bool) → OrShardRefused t old (refused (reason_from r)) new (AdvancesStream (slot_of w shard name) old w name shard at at_most (refused (reason_from r)) new) → new ≡ old
      by true is = stream_leaves w found r (slot_of w shard name) refl is
      by false is = is.1

-- ---- Cancel

pub cancels_leave : (old new : BaseState) (workflow : List ℕ) (result : Result ⊤ code.Reason) (o : Option WorkflowState) → workflow_at old.workflows workflow ≡ o → CancelsAt o old (done_by result) new → OnErr result (new ≡ old)
cancels_leave old new workflow (Ok reply) o found is = tt
cancels_leave old new workflow (Err r) None found is = is.1
cancels_leave old new workflow (Err r) (Some w) found is = refused_leaves old new (cancel_refusal (live_of w)) false (cancelled old w) (reason_from r) is
