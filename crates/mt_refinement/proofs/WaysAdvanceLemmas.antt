-- An advance keeps each way: a stream moves on where none is to be given back.
use Rattle.std.proofs.Common.{◌≡◌, ◌≢◌, ⊎_elim, ℕ, Bool, true, false, length, List, Option, None, Some, refl, sym, ap, ◌∙◌, subst}
use Rattle.std.specs.Map.{set_value}
use Rattle.std.specs.Prelude.{map, nat_lt, Result, Ok, Err}
use Rattle.mt_names.specs.Names.{same_text}
use Rattle.mt_names.proofs.EntryLemmas.{lookup-set_value_elsewhere, lookup-set_value_here, same_or_other}
use Rattle.mt_names.proofs.SameLemmas.{same_text_decides}
use Rattle.mt_model.specs.declared.entries.Scope.{Scope}
use Rattle.mt_stream.specs.declared.fault.StreamFault.{StreamFault}
use Rattle.mt_stream.specs.declared.stream.Advanced.{Advanced}
use Rattle.mt_stream.specs.Streams.{StreamValue}
use Rattle.mt_workflow.specs.Workflows as work
use Rattle.mt_workflow.specs.Workflows.{WorkflowState, with_slot}
use Rattle.mt_plain.specs.Answers.{Answers}
use Rattle.mt_plain.specs.Events.{Answer, StreamName, Way, Refusal, no_shard, no_workflow, stream_stopped, advance, refused}
use Rattle.mt_plain.specs.Next.{next}
use Rattle.mt_plain.specs.Plain.{Lane, Live, Plain, lane_at, live_at}
use Rattle.mt_plain.specs.Refuse.{advance_at, advance_refusal, in_lane_at, in_workflow, refusal_of}
use Rattle.mt_plain.specs.Slots.{running_at, slot_of}
use Rattle.mt_laws.specs.Reached.{IsOnCourse}
use Rattle.mt_stands.specs.Answers.{answer_by_stream}
use Rattle.mt_refinement.proofs.FoundLemmas.{live_of_state}
use Rattle.mt_stands.specs.Base.{BaseState, Workflows, workflow_at}
use Rattle.mt_stands.specs.Stands.{StandsFor, StandsWith}
use Rattle.mt_stands.specs.Ways.{IsOpenOn}
use Rattle.mt_stands.specs.Workflows.{AdvancesAt, AdvancesStream, AdvancesWorkflow, OrShardRefused}
use Rattle.mt_refinement.proofs.WholeOpenLemmas.{SameSlots, none_runs, open_with_slot, saved}
use Rattle.mt_refinement.proofs.WaysLemmas.{KeepsWay, Laws, WasOpen, is_under_way-found, same_keeps}

-- ---- a workflow with another stream

module _ (p q : Plain) (old : Workflows) (workflow : List ℕ) (w : WorkflowState) (found : workflow_at old workflow ≡ Some w) (before : Live) (is_before : live_at p workflow ≡ Some before)
    (shard : ℕ) (name : StreamName) (s : Option StreamValue) (same : (live : Live) (way : Way) → live_at q workflow ≡ Some live → w.way ≡ Some way → SameSlots before live way)
    (elsewhere : (n : List ℕ) → workflow ≢ n → live_at q n ≡ live_at p n) where
  abbrev new : Workflows
  new = set_value (same_text workflow) old (with_slot w shard name s)

  found_now : workflow_at new workflow ≡ Some (with_slot w shard name s)
  found_now = lookup-set_value_here same_text same_text_decides old workflow (with_slot w shard name s) w found

  was_open : (live : Live) (v : WorkflowState) (way : Way) → live_at q workflow ≡ Some live → workflow_at new workflow ≡ Some v → v.way ≡ Some way → WasOpen p old workflow live v way
  was_open live v way is_live found_v on =
      let is : with_slot w shard name s ≡ v = (let e : Some (with_slot w shard name s) ≡ Some v = sym found_now ∙ found_v in cc) in
      let on_w : w.way ≡ Some way = ap (λ (x : WorkflowState). x.way) is ∙ on in
      record {
        before = before;
        w = w;
        is_live = is_before;
        found = found;
        on = on_w;
        stays = λ journal o opened. subst (λ x. IsOpenOn journal live x way o) is (open_with_slot journal before live w way o (same live way is_live on_w) shard name s opened);
      }

  here : KeepsWay p q old new workflow
  here = record {
    there = is_under_way-found new workflow (with_slot w shard name s) w.way found_now refl ∙ sym (is_under_way-found old workflow w w.way found refl);
    each = was_open;
  }

  pub slot_keeps : (n : List ℕ) → KeepsWay p q old new n
  slot_keeps n =
      ⊎_elim (λ (e : workflow ≡ n). subst (KeepsWay p q old new) e here)
      (λ other. same_keeps p q old new n (elsewhere n other) (lookup-set_value_elsewhere same_text same_text_decides old workflow n (with_slot w shard name s) other))
      (same_or_other same_text same_text_decides workflow n)

-- ---- an advance that is not refused

-- it is of a stream that runs
stream_runs : (p : Plain) (live : Live) (workflow : List ℕ) (name : StreamName) (shard at at_most : ℕ) → live_at p workflow ≡ Some live
    → refusal_of p (advance workflow name shard at at_most) ≡ None → (lane : Lane) × (position : ℕ) × (running_at (slot_of live lane name) ≡ Some position)
stream_runs p live workflow name shard at at_most is_live none =
    in_lane (lane_at live shard) (sym (ap (λ o. in_workflow o (advance_refusal p name shard at at_most)) is_live) ∙ none)
  where
    by : (lane : Lane) (o : Option ℕ) → running_at (slot_of live lane name) ≡ o → advance_at p live lane name at at_most o ≡ None
        → (position : ℕ) × (running_at (slot_of live lane name) ≡ Some position)
    by lane None e taken = absurd cc
    by lane (Some position) e taken = (position, e)

    in_lane : (o : Option Lane) → in_lane_at o (λ lane. advance_at p live lane name at at_most (running_at (slot_of live lane name))) ≡ None
        → (lane : Lane) × (position : ℕ) × (running_at (slot_of live lane name) ≡ Some position)
    in_lane None taken = absurd cc
    in_lane (Some lane) taken = let (position, e) = by lane (running_at (slot_of live lane name)) refl taken in (lane, position, e)

-- ---- an advance

module _ (laws : Laws) (p : Plain) (scopes : List Scope) (old new : BaseState) (stands : StandsWith p scopes old) (workflow : List ℕ) (name : StreamName) (shard at at_most : ℕ)
    (named : (live : Live) → live_at p workflow ≡ Some live → live.name ≡ workflow)
    (course : (live : Live) → live_at p workflow ≡ Some live → (way : Way) → live.way ≡ Some way → IsOnCourse live way) where
  abbrev Kept : Answer → Type 0
  Kept answer = (n : List ℕ) → KeepsWay p (next p (advance workflow name shard at at_most) answer) old.workflows new.workflows n

  unchanged : (answer : Answer) (refusal : Refusal) → answer ≡ refused refusal → new ≡ old → Kept answer
  unchanged answer refusal is same =
      subst Kept (sym is) (λ n. same_keeps p p old.workflows new.workflows n refl (ap (λ (c : BaseState). workflow_at c.workflows n) same))

  module _ (w : WorkflowState) (found : workflow_at old.workflows workflow ≡ Some w) (live : Live) (is_live : live_at p workflow ≡ Some live) (for : StandsFor p live w) where
    -- no stream is to be given back while one advances
    by_result : (result : Result Advanced StreamFault) → Answers p (advance workflow name shard at at_most) (answer_by_stream result)
        → (v : Live) (way : Way) → live_at (next p (advance workflow name shard at at_most) (answer_by_stream result)) workflow ≡ Some v → w.way ≡ Some way → SameSlots live v way
    by_result (Err fault) given v way is_v on unwritten made =
        let same : live ≡ v = (let e : Some live ≡ Some v = sym is_live ∙ is_v in cc) in
        sym (ap (λ (l : Live). map (saved l way) l.lanes) same)
    by_result (Ok counts) given v way is_v on unwritten made =
        let on_live = sym for.way ∙ on in
        let (runner, position, runs) = stream_runs p live workflow name shard at at_most is_live given.0 in
        absurd (none_runs live way on_live (course live is_live way on_live).within unwritten made runner name position runs)

    stream_keeps : (answer : Answer) (o : Option StreamValue) → AdvancesStream o old w name shard at at_most answer new → Answers p (advance workflow name shard at at_most) answer → Kept answer
    stream_keeps answer None is given = unchanged answer stream_stopped is.0 is.1
    stream_keeps answer (Some stream) is given =
        subst Kept (sym is.4)
        (λ n. subst (λ workflows. KeepsWay p (next p (advance workflow name shard at at_most) (answer_by_stream is.0)) old.workflows workflows n) (sym workflows_are)
        (slot_keeps p (next p (advance workflow name shard at at_most) (answer_by_stream is.0)) old.workflows workflow w found live is_live shard name (Some is.1)
        (by_result is.0 (subst (Answers p (advance workflow name shard at at_most)) is.4 given)) (laws.elsewhere p (advance workflow name shard at at_most) (answer_by_stream is.0)) n))
      where
        workflows_are : new.workflows ≡ set_value (same_text workflow) old.workflows (with_slot w shard name (Some is.1))
        workflows_are =
            ap (λ (c : BaseState). c.workflows) is.5
            ∙ ap (λ k. set_value (same_text k) old.workflows (with_slot w shard name (Some is.1))) (sym for.sides.name ∙ named live is_live)

  workflow_keeps : (answer : Answer) (o : Option WorkflowState) → workflow_at old.workflows workflow ≡ o → AdvancesAt o old name shard at at_most answer new
      → Answers p (advance workflow name shard at at_most) answer → Kept answer
  workflow_keeps answer None none is given = unchanged answer no_workflow is.0 is.1
  workflow_keeps answer (Some w) found is given = by (nat_lt shard (length w.lanes)) is
    where
      by : (has : Bool) → OrShardRefused has old answer new (AdvancesStream (work.slot_of w shard name) old w name shard at at_most answer new) → Kept answer
      by true is =
          let (live, is_live, for) = live_of_state p (live_at p workflow) (workflow_at old.workflows workflow) w (stands.workflows.each workflow) found in
          stream_keeps w found live is_live for answer (work.slot_of w shard name) is given
      by false is = unchanged answer no_shard is.0 is.1

  pub advance_keeps : (answer : Answer) → AdvancesWorkflow old workflow name shard at at_most answer new → Answers p (advance workflow name shard at at_most) answer → Kept answer
  advance_keeps answer = workflow_keeps answer (workflow_at old.workflows workflow) refl
