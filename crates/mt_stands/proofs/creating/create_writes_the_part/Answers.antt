use Rattle.std.proofs.Common.{◌≡◌, ℕ, List, Some, None, is_some, refl, sym, subst, ◌∙◌}
use Rattle.mt_names.proofs.EntryLemmas.{none_from}
use Rattle.mt_names.specs.Types.{no_types}
use Rattle.mt_model.specs.Part.{with_entries, with_places}
use Rattle.mt_plain.specs.Answers.{Answers}
use Rattle.mt_plain.specs.Events.{create, done, workflow_exists}
use Rattle.mt_plain.specs.Next.{next}
use Rattle.mt_plain.specs.Plain.{Live, Plain, each_once, live_at}
use Rattle.mt_plain.specs.Refuse.{refuse_if}
use Rattle.mt_stands.specs.Keys.{IsKept, created_live, kept_of, keys_of_part, part_entries}
use Rattle.mt_stands.specs.Topologies.{TopologyStands}
use Rattle.mt_laws.proofs.RefusalLemmas.{or_else-none, refuse_if-none}
use Rattle.mt_stands.proofs.CreateLemmas.{create_stands, is_kept, live_next}
use Rattle.mt_stands.proofs.creating.create_writes_the_part.Goals as goal

fresh : (p : Plain) (name source target : List ℕ) (tables : List (List ℕ)) → Answers p (create name source target tables) done → live_at p name ≡ None
fresh p name source target tables given = none_from (live_at p name) (refuse_if-none (is_some (live_at p name)) workflow_exists (or_else-none (refuse_if (is_some (live_at p name)) workflow_exists) _ given.0).0)

is_new : (p : Plain) (name source target : List ℕ) (tables : List (List ℕ)) (w : Live) → Answers p (create name source target tables) done
    → live_at (next p (create name source target tables) done) name ≡ Some w → created_live p name source target (each_once tables) ≡ w
is_new p name source target tables w given live =
    let both : Some (created_live p name source target (each_once tables)) ≡ Some w =
    sym (live_next p (created_live p name source target (each_once tables)) (fresh p name source target tables given)) ∙ live in
    cc

pub returns : goal.returns
returns c = record {
  live = λ p name source target tables given. live_next p (created_live p name source target (each_once tables)) (fresh p name source target tables given);
  stands = λ p t name source target tables w reached given live stands.
      let v = created_live p name source target (each_once tables) in
      let q = next p (create name source target tables) done in
      let is = fresh p name source target tables given in
      let reached_next = c.each_next_state_is_reached.ensures.next p reached (create name source target tables) done given in
      subst (λ x. TopologyStands (next p (create name source target tables) done) (with_entries (with_places t (keys_of_part x)) (part_entries (kept_of t.rules x) x no_types)))
      (is_new p name source target tables w given live)
      (create_stands p v t is (c.a_live_workflow_is_found_by_its_part.ensures.owner_is_live p reached) (c.a_live_workflow_is_found_by_its_part.ensures.owner q reached_next)
      (c.live_workflows_stand_in_place.ensures.placed q reached_next name v (live_next p v is)) (c.live_workflows_stand_in_place.ensures.allowed p reached) refl refl stands);
  kept = λ p t name source target tables w reached given live stands.
      let v = created_live p name source target (each_once tables) in
      let q = next p (create name source target tables) done in
      let is = fresh p name source target tables given in
      let reached_next = c.each_next_state_is_reached.ensures.next p reached (create name source target tables) done given in
      subst (λ x. IsKept p.topology x (kept_of t.rules x)) (is_new p name source target tables w given live)
      (is_kept p v t is (c.a_live_workflow_is_found_by_its_part.ensures.owner_is_live p reached) (c.a_live_workflow_is_found_by_its_part.ensures.owner q reached_next)
      (c.live_workflows_stand_in_place.ensures.placed q reached_next name v (live_next p v is)) (c.live_workflows_stand_in_place.ensures.allowed p reached) refl refl stands);
}
