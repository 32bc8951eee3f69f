-- The source owns the tables, all writes to them count as fed, and nothing is copied yet.
use Rattle.mt_plain.specs.Events.{create, done}
use Rattle.mt_plain.specs.Next.{next}
use Rattle.mt_plain.specs.Plain.{Plain, each_once}
use Rattle.mt_laws.specs.WayBack.{IsReached}
use Rattle.mt_stands.proofs.RowCreateLemmas.{create_stands, free_name}
use Rattle.mt_stands.proofs.KnownLemmas.{Known}
use Rattle.mt_stands.proofs.ends.a_create_keeps_rows_and_logs.Goals as goal

pub returns : goal.returns
returns c =
    let known : (p : Plain) → IsReached p → Known p = λ p reached.
    record {
      found = c.a_live_workflow_is_found_by_its_part.ensures.mover p reached;
      moving = c.a_live_workflow_is_found_by_its_part.ensures.mover_is_live p reached;
      placed = c.live_workflows_stand_in_place.ensures.placed p reached;
      fed = c.what_was_fed_stays_fed.ensures.never_more p reached;
      apart = c.each_table_has_a_number_of_its_own.ensures.apart p reached;
      writable = c.the_owner_alone_serves_the_primary.ensures.writable p reached;
      source_one = c.a_live_workflow_knows_its_shards.ensures.source p reached;
      target_by = c.a_live_workflow_knows_its_shards.ensures.target p reached;
    } in
    λ p reached old new stands name source target tables given others stay empty.
    create_stands p (known p reached) old new stands name source target (each_once tables) (free_name p name _ given.0) others stay empty
    (known (next p (create name source target tables) done) (c.each_next_state_is_reached.ensures.next p reached (create name source target tables) done given))
    (λ n other. c.only_named_events_change_a_workflow.ensures.elsewhere p (create name source target tables) done n other)
    (c.what_is_in_use_goes_on.ensures p reached (create name source target tables) done given)
