-- The answer is told by the primary as by the state, and one row, one entry and one write are more.
use Rattle.mt_stands.proofs.RowWriteLemmas.{write_keeps}
use Rattle.mt_stands.proofs.writes.a_write_keeps_rows_and_logs.Goals as goal

pub returns : goal.returns
returns c = λ p reached old new stands keyspace table op there has denies others.
    write_keeps p
    (record {
      found = c.a_live_workflow_is_found_by_its_part.ensures.mover p reached;
      moving = c.a_live_workflow_is_found_by_its_part.ensures.mover_is_live p reached;
      placed = c.live_workflows_stand_in_place.ensures.placed p reached;
      fed = c.what_was_fed_stays_fed.ensures.never_more p reached;
      apart = c.each_table_has_a_number_of_its_own.ensures.apart p reached;
      writable = c.the_owner_alone_serves_the_primary.ensures.writable p reached;
      source_one = c.a_live_workflow_knows_its_shards.ensures.source p reached;
      target_by = c.a_live_workflow_knows_its_shards.ensures.target p reached;
    })
    old new stands keyspace table op there has denies others (c.what_is_in_use_goes_on.ensures p reached)
