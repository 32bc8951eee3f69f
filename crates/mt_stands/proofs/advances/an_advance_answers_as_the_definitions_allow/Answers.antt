-- What stands past the position, what is left to copy and the room are those of the state.
use Rattle.mt_stands.proofs.KnownLemmas.{Known}
use Rattle.mt_stands.proofs.StreamLemmas.{client_rows, stream_answers}
use Rattle.mt_stands.proofs.advances.an_advance_answers_as_the_definitions_allow.Goals as goal
use Rattle.mt_plain.specs.Plain.{Plain}
use Rattle.mt_laws.specs.WayBack.{IsReached}

pub returns : goal.returns
returns c =
    let known : (p : Plain) → IsReached p → Known p = λ p reached.
    record {
      found = c.a_live_workflow_is_found_by_its_part.ensures.mover p reached;
      moving = c.a_live_workflow_is_found_by_its_part.ensures.mover_is_live p reached;
      placed = c.live_workflows_stand_in_place.ensures.placed p reached;
      fed = c.what_was_fed_stays_fed.ensures.never_more p reached;
      apart = c.each_table_has_a_number_of_its_own.ensures.apart p reached;
      writable = c.the_owner_alone_serves_the_primary.ensures.writable p reached;
      source_one = c.a_live_workflow_knows_its_shards.ensures.source p reached;
      target_by = c.a_live_workflow_knows_its_shards.ensures.target p reached;
    } in
    λ p reached at stands name w live shard lane laned split stream slot there is held.
    let reads = c.a_stream_that_runs_reads_the_owner.ensures.owner p reached in
    stream_answers p (known p reached) reads at stands name w live shard lane laned split stream slot there is held
    (λ runs. c.the_rows_left_are_the_uncopied_rows.ensures p w lane _ _ is (client_rows p (known p reached) reads at stands name w live shard lane laned split stream slot there is held runs) split)
