-- Where a primary takes writes the table is writable in the state, and of the states the law holds.
use Rattle.std.proofs.Common.{◌≡◌, ℕ, ◌<◌, true, List, None, Some, ap, refl, sym, subst, ◌∙◌}
use Rattle.std.proofs.Math.Logic.{∥∥₁_elim}
use denote.Struct.Props.{props}
use Rattle.mt_model.specs.declared.entries.Scope.{Scope}
use Rattle.mt_plain.specs.Plain.{Plain, among, is_side, live_at, owner}
use Rattle.mt_plain.specs.Serve.{has_table, refuses}
use Rattle.mt_primary.specs.Primaries.{count_of}
use Rattle.mt_refinement.proofs.FoundLemmas.{live_of_state}
use Rattle.mt_stands.specs.Base.{BaseState, workflow_at}
use Rattle.mt_stands.specs.Stands.{IsBase, StandsWith}
use Rattle.mt_workflow.specs.Workflows.{WorkflowState, live_of}
use Rattle.mt_refinement.proofs.HeadlineLemmas.{first_there, owner_side, same_owner, same_side, side_there, taken, writable}
use Rattle.mt_refinement.proofs.headline.a_moved_table_of_a_base_is_never_writable_in_two.Goals as goal
use Rattle.mt_refinement.specs.Writable.{TakesWrites, TakesWritesAt}

pub returns : goal.returns
returns c =
    let never : (scopes : List Scope) (p : Plain) (base : BaseState) → StandsWith p scopes base → (name : List ℕ) (w : WorkflowState) → workflow_at base.workflows name ≡ Some w
    → (table : List ℕ) → among w.tables table ≡ true → TakesWrites base w.source table → TakesWrites base w.target table → ⊥
    = λ scopes p base stands name w found table moved at_source at_target.
    let (live, there, stood) = live_of_state p (live_at p name) (workflow_at base.workflows name) w (stands.workflows.each name) found in
    let mover = c.a_live_workflow_is_found_by_its_part.ensures.mover p stands.reached name live there table (ap (λ ts. among ts table) stood.sides.tables ∙ moved) in
    c.a_moved_table_is_never_writable_in_two.ensures.at_most_one p stands.reached table live mover
    (writable p base live.source w.source table stands.primaries stood.sides.source at_source)
    (writable p base live.target w.target table stands.primaries stood.sides.target at_target) in
    let at_owner : (scopes : List Scope) (p : Plain) (base : BaseState) → StandsWith p scopes base → (name : List ℕ) (w : WorkflowState) → workflow_at base.workflows name ≡ Some w
    → w.way ≡ None → (table : List ℕ) → among w.tables table ≡ true → (keyspace : List ℕ) → is_side (live_of w) keyspace ≡ true → TakesWrites base keyspace table → keyspace ≡ owner (live_of w)
    = λ scopes p base stands name w found rests table moved keyspace side takes.
    let (live, there, stood) = live_of_state p (live_at p name) (workflow_at base.workflows name) w (stands.workflows.each name) found in
    let mover = c.a_live_workflow_is_found_by_its_part.ensures.mover p stands.reached name live there table (ap (λ ts. among ts table) stood.sides.tables ∙ moved) in
    (c.a_moved_table_is_never_writable_in_two.ensures.the_owner p stands.reached table live mover (sym stood.way ∙ rests) keyspace (same_side live (live_of w) keyspace stood.sides ∙ side)).0
    (writable p base keyspace keyspace table stands.primaries refl takes) ∙ same_owner live (live_of w) stood.sides (sym stood.switched) in
    let owner_there : (scopes : List Scope) (p : Plain) (base : BaseState) → StandsWith p scopes base → (name : List ℕ) (w : WorkflowState) → workflow_at base.workflows name ≡ Some w
    → 0 < count_of base.primaries (owner (live_of w))
    = λ scopes p base stands name w found.
    let (live, there, stood) = live_of_state p (live_at p name) (workflow_at base.workflows name) w (stands.workflows.each name) found in
    let placed = c.live_workflows_stand_in_place.ensures.placed p stands.reached name live there in
    subst (λ k. 0 < count_of base.primaries k) (same_owner live (live_of w) stood.sides (sym stood.switched))
    (first_there p base (owner live) stands.primaries (side_there p live placed (owner live) (owner_side live))) in
    let each : (scopes : List Scope) (p : Plain) (base : BaseState) → StandsWith p scopes base → (name : List ℕ) (w : WorkflowState) → workflow_at base.workflows name ≡ Some w
    → w.way ≡ None → (table : List ℕ) → among w.tables table ≡ true → (shard : ℕ) → shard < count_of base.primaries (owner (live_of w)) → TakesWritesAt base (owner (live_of w)) shard table
    = λ scopes p base stands name w found rests table moved shard within.
    let (live, there, stood) = live_of_state p (live_at p name) (workflow_at base.workflows name) w (stands.workflows.each name) found in
    let mover = c.a_live_workflow_is_found_by_its_part.ensures.mover p stands.reached name live there table (ap (λ ts. among ts table) stood.sides.tables ∙ moved) in
    let owners : owner live ≡ owner (live_of w) = same_owner live (live_of w) stood.sides (sym stood.switched) in
    let law = c.a_moved_table_is_never_writable_in_two.ensures.the_owner p stands.reached table live mover (sym stood.way ∙ rests) (owner live) (owner_side live) in
    taken p base (owner (live_of w)) shard table stands.primaries within (ap (λ k. has_table p k table) (sym owners) ∙ (law.1 refl).0)
    (ap (λ k. refuses p k shard table) (sym owners) ∙ c.a_moved_table_is_never_writable_in_two.ensures.each_shard p stands.reached table live mover (sym stood.way ∙ rests) shard) in
    let each_base : (base : BaseState) → IsBase base → (name : List ℕ) (w : WorkflowState) → workflow_at base.workflows name ≡ Some w
    → w.way ≡ None → (table : List ℕ) → among w.tables table ≡ true → (shard : ℕ) → shard < count_of base.primaries (owner (live_of w)) → TakesWritesAt base (owner (live_of w)) shard table
    = λ base is name w found rests table moved shard within. ∥∥₁_elim is (hlevel props)
    (λ h. each h.state.scopes h.state base h.stands name w found rests table moved shard within) in
    record {
      stands = never;
      each_base = λ base is name w found table moved at_source at_target. ∥∥₁_elim is (hlevel props)
          (λ h. never h.state.scopes h.state base h.stands name w found table moved at_source at_target);
      at_rest = λ base is name w found rests table moved keyspace side. (
        λ takes. ∥∥₁_elim is (hlevel props) (λ h. at_owner h.state.scopes h.state base h.stands name w found rests table moved keyspace side takes),
        λ owns.
            let first : 0 < count_of base.primaries (owner (live_of w)) = ∥∥₁_elim is (hlevel props) (λ h. owner_there h.state.scopes h.state base h.stands name w found) in
            subst (λ k. TakesWrites base k table) (sym owns) (0, first, each_base base is name w found rests table moved 0 first),
      );
      each_shard = each_base;
    }
