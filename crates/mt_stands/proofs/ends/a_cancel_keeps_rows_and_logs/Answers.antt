-- The source owns the tables, and has them alone again.
use Rattle.std.proofs.Common.{sym, ap, ◌∙◌}
use Rattle.mt_plain.specs.Events.{cancel, done}
use Rattle.mt_plain.specs.Next.{next}
use Rattle.mt_plain.specs.Plain.{Plain}
use Rattle.mt_plain.specs.Refuse.{cancel_refusal, in_workflow}
use Rattle.mt_laws.specs.WayBack.{IsReached}
use Rattle.mt_stands.proofs.RowCancelLemmas.{cancel_stands}
use Rattle.mt_stands.proofs.KnownLemmas.{Known}
use Rattle.mt_stands.proofs.ends.a_cancel_keeps_rows_and_logs.Goals as goal

pub returns : goal.returns
returns c =
    let known : (p : Plain) → IsReached p → Known p = λ p reached.
    record {
      found = c.a_live_workflow_is_found_by_its_part.ensures.mover p reached;
      moving = c.a_live_workflow_is_found_by_its_part.ensures.mover_is_live p reached;
      placed = c.live_workflows_stand_in_place.ensures.placed p reached;
      fed = c.what_was_fed_stays_fed.ensures.never_more p reached;
      apart = c.each_table_has_a_number_of_its_own.ensures.apart p reached;
      writable = c.the_owner_alone_serves_the_primary.ensures.writable p reached;
      source_one = c.a_live_workflow_knows_its_shards.ensures.source p reached;
      target_by = c.a_live_workflow_knows_its_shards.ensures.target p reached;
    } in
    λ p reached old new stands name w live given others stay.
    cancel_stands p (known p reached) old new stands name w live (sym (ap (λ o. in_workflow o cancel_refusal) live) ∙ given.0)
    (λ n v is. c.a_live_workflow_is_found_by_its_part.ensures.named p n v is) others stay
    (known (next p (cancel name) done) (c.each_next_state_is_reached.ensures.next p reached (cancel name) done given))
    (λ n other. c.only_named_events_change_a_workflow.ensures.elsewhere p (cancel name) done n other)
    (c.what_is_in_use_goes_on.ensures p reached (cancel name) done given)
