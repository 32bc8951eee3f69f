use Rattle.mt_plain.specs.Plain.{each_once}
use Rattle.mt_refinement.proofs.NamedLemmas.{same_moved}
use Rattle.mt_refinement.proofs.RefusedLemmas.{same_refusal}
use Rattle.mt_refinement.proofs.RoomLemmas.{Knows}
use Rattle.mt_refinement.proofs.create_refusals.a_create_is_refused_as_the_definitions_refuse_it.Goals as goal

pub returns : goal.returns
returns c = λ p scopes base stands workflow source target tables.
    let knows : Knows p = record {
      owner = c.a_live_workflow_is_found_by_its_part.ensures.owner p stands.reached;
      owned = c.a_live_workflow_is_found_by_its_part.ensures.owner_is_live p stands.reached;
      placed = c.live_workflows_stand_in_place.ensures.placed p stands.reached;
      tables = c.only_what_stands_has_a_place.ensures.tables p stands.reached;
      denials = c.only_what_stands_has_a_place.ensures.denials p stands.reached;
    } in
    same_refusal p scopes base stands knows (c.no_limit_is_passed.ensures p stands.reached)
    (same_moved p base.workflows stands.workflows (c.parts_are_apart.ensures.names p stands.reached)
    (c.a_live_workflow_is_found_by_its_part.ensures.mover p stands.reached) (c.a_live_workflow_is_found_by_its_part.ensures.mover_is_live p stands.reached))
    (c.places_are_as_many_as_the_definitions_count.ensures.rules p base.topology stands.reached stands.topology)
    (λ keyspace state found. c.tables_are_as_many_as_the_definitions_count.ensures p base.topology keyspace state stands.reached stands.topology found)
    workflow source target (each_once tables) (c.names_as_a_set_have_each_name_once.ensures.distinct tables)
