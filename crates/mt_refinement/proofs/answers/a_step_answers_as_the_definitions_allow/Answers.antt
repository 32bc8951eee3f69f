-- Each test of the controller is one of the definitions, on what stands for the state; with more watchers too, what is done passes all.
use Rattle.std.proofs.Common.{◌≡◌, ℕ, List, Some, refl, sym, subst}
use Rattle.mt_model.specs.declared.entries.Scope.{Scope}
use Rattle.mt_names.specs.Shards.{AreCuts}
use Rattle.mt_plain.specs.Events.{done}
use Rattle.mt_plain.specs.Plain.{Lane, Live, Plain, lane_at, live_at}
use Rattle.mt_primary.specs.Primaries.{primary_of}
use Rattle.mt_stands.specs.Rows.{HoldsItsKeys}
use Rattle.mt_stands.specs.Ways.{CoreState, CoreStands}
use Rattle.mt_refinement.proofs.SameLemmas.{step_same}
use Rattle.mt_refinement.proofs.AnswerStepLemmas.{step_answers}
use Rattle.mt_refinement.proofs.answers.a_step_answers_as_the_definitions_allow.Goals as goal

pub returns : goal.returns
returns g c =
    let mine = g.W.Asks.scopes c.args.watchers.now in
    let may_answer = g.W.Asks.may_answer c.args.watchers.now in
    let keys : (p : Plain) (scopes : List Scope) (s : CoreState) → CoreStands p scopes s → (name : List ℕ) (live : Live) → live_at p name ≡ Some live → (shard : ℕ) (lane : Lane) → lane_at live shard ≡ Some lane
    → HoldsItsKeys live lane
    = λ p scopes s stands name live is_live.
    c.a_lane_holds_its_keys.ensures p stands.base.reached name live is_live
    (subst AreCuts (sym (c.a_live_workflow_knows_its_shards.ensures.cuts p stands.base.reached name live is_live)) (stands.base.primaries.ascend live.target)) in
    record {
      answers = λ p old new stands workflow at answer steps.
          let reached = stands.base.reached in
          step_answers p mine mine may_answer old new stands (λ k has. has) (c.ways_keep_their_course.ensures.course p reached) (c.ways_keep_their_course.ensures.writes p reached)
          (c.a_stream_is_level_where_all_is_fed.ensures p reached (primary_of old.base.primaries) stands.base.rows) (keys p mine old stands) workflow at answer (λ r is. refl) steps;
      wider = λ p scopes old new stands wide workflow at steps.
          let reached = stands.base.reached in
          step_answers p scopes mine may_answer old new stands wide (c.ways_keep_their_course.ensures.course p reached) (c.ways_keep_their_course.ensures.writes p reached)
          (c.a_stream_is_level_where_all_is_fed.ensures p reached (primary_of old.base.primaries) stands.base.rows) (keys p scopes old stands) workflow at done (λ r is. absurd cc) steps;
      unchanged = λ old new workflow at r p scopes stands steps.
          step_same p scopes mine may_answer old new stands (c.a_live_workflow_is_found_by_its_part.ensures.named p) workflow at r steps;
    }
