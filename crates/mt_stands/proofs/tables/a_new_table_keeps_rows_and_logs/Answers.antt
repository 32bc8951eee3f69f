-- The new table's number has no write, and the other tables keep theirs.
use Rattle.mt_model.specs.declared.entries.EntryKey.TheVariants as about
use Rattle.mt_plain.specs.Events.{add_table, done}
use Rattle.mt_plain.specs.Plain.{Plain, has_keyspace}
use Rattle.mt_plain.specs.Serve.{has_table}
use Rattle.mt_laws.specs.WayBack.{IsReached}
use Rattle.mt_stands.proofs.KnownLemmas.{Known}
use Rattle.mt_stands.proofs.TableLemmas.{KnownNumbers, free_table, present_by, table_stands}
use Rattle.mt_stands.proofs.tables.a_new_table_keeps_rows_and_logs.Goals as goal

pub returns : goal.returns
returns c =
    let known : (p : Plain) → IsReached p → Known p = λ p reached.
    record {
      found = c.a_live_workflow_is_found_by_its_part.ensures.mover p reached;
      moving = c.a_live_workflow_is_found_by_its_part.ensures.mover_is_live p reached;
      placed = c.live_workflows_stand_in_place.ensures.placed p reached;
      fed = c.what_was_fed_stays_fed.ensures.never_more p reached;
      apart = c.each_table_has_a_number_of_its_own.ensures.apart p reached;
      writable = c.the_owner_alone_serves_the_primary.ensures.writable p reached;
      source_one = c.a_live_workflow_knows_its_shards.ensures.source p reached;
      target_by = c.a_live_workflow_knows_its_shards.ensures.target p reached;
    } in
    let numbers : (p : Plain) → IsReached p → KnownNumbers p = λ p reached.
    record {
      present = c.each_table_has_a_number_of_its_own.ensures.present p reached;
      unwritten = c.each_table_has_a_number_of_its_own.ensures.unwritten p reached;
      clients = c.each_table_has_a_number_of_its_own.ensures.clients p reached;
    } in
    λ p reached old new stands keyspace table given others stay empty.
    table_stands p (known p reached) (numbers p reached) keyspace table
    (record {
      free = free_table (has_keyspace p keyspace) (has_table p keyspace table) _ given.0;
      others = λ k t apart. present_by p keyspace table k t (c.what_is_made_by_hand.ensures.no_other_table p.topology keyspace table (about.Present k t) apart);
    })
    old new stands others stay empty (c.what_is_in_use_goes_on.ensures p reached (add_table keyspace table) done given)
