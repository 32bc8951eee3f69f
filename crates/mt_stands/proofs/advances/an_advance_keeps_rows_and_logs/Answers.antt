-- The writes that the stream reads, or the rows that it copies, are those of the state.
use Rattle.mt_stands.proofs.AdvanceKeepLemmas.{advance_keeps}
use Rattle.mt_stands.proofs.AdvanceLemmas.{KnownStreams}
use Rattle.mt_stands.proofs.KnownLemmas.{Known}
use Rattle.mt_stands.proofs.StreamLemmas.{client_rows}
use Rattle.mt_stands.proofs.advances.an_advance_keeps_rows_and_logs.Goals as goal
use Rattle.mt_plain.specs.Plain.{Plain}
use Rattle.mt_laws.specs.WayBack.{IsReached}

pub returns : goal.returns
returns c =
    let known : (p : Plain) → IsReached p → Known p = λ p reached.
    record {
      found = c.a_live_workflow_is_found_by_its_part.ensures.mover p reached;
      moving = c.a_live_workflow_is_found_by_its_part.ensures.mover_is_live p reached;
      placed = c.live_workflows_stand_in_place.ensures.placed p reached;
      fed = c.what_was_fed_stays_fed.ensures.never_more p reached;
      apart = c.each_table_has_a_number_of_its_own.ensures.apart p reached;
      writable = c.the_owner_alone_serves_the_primary.ensures.writable p reached;
      source_one = c.a_live_workflow_knows_its_shards.ensures.source p reached;
      target_by = c.a_live_workflow_knows_its_shards.ensures.target p reached;
    } in
    let streams : (p : Plain) → IsReached p → KnownStreams p = λ p reached.
    record {
      named = c.a_live_workflow_is_found_by_its_part.ensures.named p;
      reads = c.a_stream_that_runs_reads_the_owner.ensures.owner p reached;
      counted = c.what_is_pending_was_not_fed.ensures.counted p reached;
      catches = c.what_was_not_fed_makes_the_rows_of_the_owner.ensures.rows p reached;
    } in
    λ p reached old new stands name w live shard lane laned split stream slot there is held has others position at_most result value.
    let reads = c.a_stream_that_runs_reads_the_owner.ensures.owner p reached in
    advance_keeps p (known p reached) (streams p reached) old new stands name w live shard lane laned split stream slot there is held has others
    (λ runs. c.the_rows_left_are_the_uncopied_rows.ensures p w lane _ _ is (client_rows p (known p reached) reads old stands name w live shard lane laned split stream slot there is held runs) split)
    (λ event answer given. streams _ (c.each_next_state_is_reached.ensures.next p reached event answer given))
    (λ at most events rows. c.an_advance_writes_one_log.ensures p name w live stream shard at most events rows lane laned)
    c.the_copied_range_follows_the_source.ensures (c.what_is_in_use_goes_on.ensures p reached)
    position at_most value result
