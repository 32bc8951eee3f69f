-- What a step is answered.
use Rattle.std.proofs.Common.{◌≡◌, ℕ, zero, suc, ◌+◌, ◌<◌, Bool, true, false, not, cond, List, [], ◌∷◌, length, Option, None, Some, Result, Ok, Err, refl, sym, ap, ◌∙◌, subst, arith}
use Rattle.std.specs.Bool.{⊤}
use Rattle.std.specs.Option.{option_map_or}
use Rattle.std.specs.Prelude.{◌==◌, slice_index_or}
use Rattle.mt_model.specs.declared.entries.Scope.{Scope}
use Rattle.mt_model.specs.declared.entries.Scope.TheVariants as scope
use Rattle.mt_plain.specs.Answers.{Answers}
use Rattle.mt_plain.specs.Events.{StreamName, Slot, Answer, refused, Refusal, no_workflow, nothing_under_way, stale, step, undoing, Way}
use Rattle.mt_plain.specs.Plain.{Lane, lane_at, Live, Plain, changes_primary, live_at, next_step, owner}
use Rattle.mt_plain.specs.Refuse.{in_workflow, lane_is_behind, or_else, own_refusal, refusal_of, refuse_if}
use Rattle.mt_plain.specs.Refuse as plain
use Rattle.mt_plain.specs.Slots.{read_shard, read_side, slot_of}
use Rattle.mt_stream.specs.Streams.{is_level}
use Rattle.mt_watch.specs.Asking.{Answering}
use Rattle.mt_watch.specs.Scopes.{has_scope}
use Rattle.mt_workflow.specs.Workflows.{WorkflowState}
use Rattle.mt_steps.specs.declared.fault.StepFault.{StepFault}
use Rattle.mt_steps.specs.declared.log.OpenWay.{OpenWay}
use Rattle.mt_steps.specs.declared.step.Step.{Step}
use Rattle.mt_steps.specs.declared.step.Step.TheVariants.{SwitchReads}
use Rattle.mt_steps.specs.Faults as faults
use Rattle.mt_steps.specs.Plans.{all_steps, number, step_at}
use Rattle.mt_steps.specs.Steps.{SidesState, Steps}
use Rattle.mt_steps.specs.Undo.{UndoState}
use Rattle.mt_laws.proofs.AnswerLemmas.{refused_as_decided}
use Rattle.mt_laws.proofs.InPlaceLemmas.{live_in}
use Rattle.mt_laws.proofs.LaneLemmas.{IsNumbered, reached_numbered}
use Rattle.mt_laws.specs.Reached.{HandsOver, IsOnCourse}
use Rattle.mt_stands.specs.Rows.{HoldsItsKeys, stream_of}
use Rattle.mt_primary.specs.Primaries.{primary_of}
use Rattle.mt_stands.specs.Base.{workflow_at}
use Rattle.mt_stands.specs.Stands.{StandsFor}
use Rattle.mt_stands.specs.Switching.{OrRefused, StepsAt, StepsKept, StepsWay, StepsWorkflow, answer_by_step, sides_of, step_refusal}
use Rattle.mt_steps.specs.Shards.{next_shard}
use Rattle.mt_steps.specs.Steps.{listed_at}
use Rattle.mt_stands.specs.Ways.{CoreState, CoreStands, open_at}
use Rattle.mt_refinement.proofs.WaysFoundLemmas.{live_found, no_live}
use Rattle.mt_refinement.proofs.RefusalLemmas.{refused_before, refused_behind}
use Rattle.mt_refinement.proofs.TakenLemmas.{not_taken, taken}

-- ---- the step of a number

-- the steps of a list are numbered from here on
abbrev AreNumbered : ℕ → List Step → Type 0
AreNumbered n [] = ⊤
AreNumbered n (s ∷ ss) = (number s ≡ n) × AreNumbered (suc n) ss

numbered_at : (n i : ℕ) (ss : List Step) → AreNumbered n ss → i < length ss → number (slice_index_or ss i SwitchReads) ≡ n + i
numbered_at n i [] numbered inside = absurd (omega (arith, inside))
numbered_at n zero (s ∷ ss) numbered inside = omega (arith, numbered.0)
numbered_at n (suc i) (s ∷ ss) numbered inside = omega (arith, numbered_at (suc n) i ss numbered.1 (omega (arith, inside)))

number_at : (w : Live) (way : Way) → IsOnCourse w way → number (step_at (next_step way)) ≡ next_step way
number_at w way course =
    omega (arith, numbered_at 0 (next_step way) all_steps (refl, (refl, (refl, (refl, (refl, (refl, (refl, (refl, (refl, (refl, (refl, (refl, tt)))))))))))) (within (changes_primary way) course.within))
  where
    within : (c : Bool) → next_step way < cond c 12 1 → next_step way < 12
    within true less = less
    within false less = omega (arith, less)

-- ---- whatever it answers

module _ (p : Plain) (scopes mine : List Scope) (may_answer : Answering) (old new : CoreState) (stands : CoreStands p scopes old)
    (wide : (keyspace : List ℕ) → has_scope mine (scope.Primary keyspace) ≡ true → has_scope scopes (scope.Primary keyspace) ≡ true)
    (course : (name : List ℕ) (w : Live) → live_at p name ≡ Some w → (way : Way) → w.way ≡ Some way → IsOnCourse w way)
    (hands : (name : List ℕ) (w : Live) → live_at p name ≡ Some w → (way : Way) → w.way ≡ Some way → changes_primary way ≡ true → HandsOver w way)
    (level : (name : List ℕ) (w : Live) → live_at p name ≡ Some w → (shard : ℕ) (lane : Lane) → lane_at w shard ≡ Some lane → HoldsItsKeys w lane
    → (stream : StreamName) (slot : Slot) → slot_of w lane stream ≡ Some slot → read_side w stream ≡ owner w
    → is_level (stream_of w lane slot) (primary_of old.base.primaries (read_side w stream) (read_shard lane stream)) ≡ not (lane_is_behind p w lane))
    (keys : (name : List ℕ) (w : Live) → live_at p name ≡ Some w → (shard : ℕ) (lane : Lane) → lane_at w shard ≡ Some lane → HoldsItsKeys w lane)
    (workflow : List ℕ) (at : ℕ) (answer : Answer) (alone : (r : Refusal) → answer ≡ refused r → scopes ≡ mine) where
  as_decided : (r : Refusal) → answer ≡ refused r → refusal_of p (step workflow at) ≡ Some r → Answers p (step workflow at) answer
  as_decided r is refuses = subst (Answers p (step workflow at)) (sym is) (refused_as_decided p (step workflow at) r refuses)

  module _ (w : WorkflowState) (live : Live) (is_live : live_at p workflow ≡ Some live) (for : StandsFor p live w) where
    abbrev tests : Way → Option Refusal
    tests way = or_else (refuse_if way.undoing undoing) (or_else (refuse_if (not (at == way.done)) (stale way.done)) (own_refusal p live way (next_step way)))

    refusal_is : (o : Option Way) → w.way ≡ o → refusal_of p (step workflow at) ≡ option_map_or tests o (Some nothing_under_way)
    refusal_is o opens = ap (λ l. in_workflow l (plain.step_refusal p at)) is_live ∙ ap (λ way. option_map_or tests way (Some nothing_under_way)) (sym for.way ∙ opens)

    numbered : IsNumbered live
    numbered = reached_numbered p stands.base.reached live (live_in p workflow live is_live)

    level_here : (shard : ℕ) (lane : Lane) → lane_at live shard ≡ Some lane → (stream : StreamName) (slot : Slot) → slot_of live lane stream ≡ Some slot → read_side live stream ≡ owner live
        → is_level (stream_of live lane slot) (primary_of old.base.primaries (read_side live stream) (read_shard lane stream)) ≡ not (lane_is_behind p live lane)
    level_here shard lane laned = level workflow live is_live shard lane laned (keys workflow live is_live shard lane laned)

    module _ (way : Way) (opens : w.way ≡ Some way) where
      opened : live.way ≡ Some way
      opened = sym for.way ∙ opens

      stepped : refusal_of p (step workflow at) ≡ own_refusal p live way (next_step way) → (o : OpenWay) (result : Result ⊤ StepFault) (sides : SidesState) (log : UndoState)
          → Steps mine may_answer o.number way (step_at (next_step way)) (sides_of old w) o.log result sides log → answer ≡ answer_by_step result → Answers p (step workflow at) answer
      stepped own o (Ok made) sides log steps is =
          let n = number_at live way (course workflow live is_live way opened) in
          subst (Answers p (step workflow at)) (sym is) (
            own ∙ ap (own_refusal p live way) (sym n)
                ∙ taken p live w for numbered way opened (course workflow live is_live way opened) (hands workflow live is_live way opened) old.base.primaries level_here
                old.ways.journal stands.ways.journal mine may_answer o.number old.base.topology (listed_at o.log (next_shard way))
                (λ k has. subst (λ l. has_scope l (scope.Primary k) ≡ true) (sym stands.base.scopes_are) (wide k has)) (step_at (next_step way)) n _ steps.attempt,
            refl,
          )
      stepped own o (Err f) sides log steps is =
          subst (Answers p (step workflow at)) (sym is)
          (not_taken p live w for numbered way opened (course workflow live is_live way opened) (hands workflow live is_live way opened) old.base.primaries level_here
          old.ways.journal stands.ways.journal mine may_answer o.number old.base.topology (listed_at o.log (next_shard way))
          (stands.base.scopes_are ∙ alone (faults.refusal_of f) is) workflow at is_live own (step_at (next_step way)) (number_at live way (course workflow live is_live way opened)) f _ steps.0)

      kept : refusal_of p (step workflow at) ≡ own_refusal p live way (next_step way) → (k : Option OpenWay) → StepsKept k old mine may_answer w way answer new → Answers p (step workflow at) answer
      kept own None is = absurd is
      kept own (Some o) is = stepped own o is.0 is.1 is.2 is.3 is.4

      tested : (t : Option Refusal) → step_refusal at way ≡ t → OrRefused t old answer new (StepsKept (open_at old.ways.opened w.name) old mine may_answer w way answer new) → Answers p (step workflow at) answer
      tested None t is =
          kept (refusal_is (Some way) opens ∙ refused_behind (refuse_if way.undoing undoing) (refuse_if (not (at == way.done)) (stale way.done)) (own_refusal p live way (next_step way)) t)
          (open_at old.ways.opened w.name) is
      tested (Some r) t is =
          as_decided r is.0 (refusal_is (Some way) opens ∙ refused_before (refuse_if way.undoing undoing) (refuse_if (not (at == way.done)) (stale way.done)) (own_refusal p live way (next_step way)) r t)

    on_way : (o : Option Way) → w.way ≡ o → StepsWay o old mine may_answer w at answer new → Answers p (step workflow at) answer
    on_way None rests is = as_decided nothing_under_way is.0 (refusal_is None rests)
    on_way (Some way) opens is = tested way opens (step_refusal at way) refl is

  pub step_answers : StepsWorkflow old mine may_answer workflow at answer new → Answers p (step workflow at) answer
  step_answers = by (workflow_at old.base.workflows workflow) refl
    where
      by : (o : Option WorkflowState) → workflow_at old.base.workflows workflow ≡ o → StepsAt o old mine may_answer at answer new → Answers p (step workflow at) answer
      by None none is =
          as_decided no_workflow is.0
          (ap (λ l. in_workflow l (plain.step_refusal p at)) (no_live p (live_at p workflow) (workflow_at old.base.workflows workflow) none (stands.base.workflows.each workflow)))
      by (Some w) found is =
          let r = live_found p (live_at p workflow) (workflow_at old.base.workflows workflow) w found (stands.base.workflows.each workflow) in
          on_way w r.0 r.1 r.2 w.way refl is
