-- The target owns the tables, and goes on with their numbers.
use Rattle.std.proofs.Common.{◌≡◌, Some, sym, ap, ◌∙◌, subst}
use Rattle.mt_plain.specs.Events.{complete, done}
use Rattle.mt_plain.specs.Next.{next, with_completed}
use Rattle.mt_plain.specs.Plain.{Plain, live_at}
use Rattle.mt_plain.specs.Refuse.{complete_refusal, in_workflow}
use Rattle.mt_plain.specs.Writes.{client_row}
use Rattle.mt_laws.specs.WayBack.{IsReached}
use Rattle.mt_laws.proofs.ReachLemmas.{reached_has_parts}
use Rattle.mt_stands.specs.Rows.{RowsStand}
use Rattle.mt_stands.proofs.KnownLemmas.{Known}
use Rattle.mt_stands.proofs.UnreadLemmas.{StreamsGoOn}
use Rattle.mt_refinement.proofs.RowLemmas.{complete_stands}
use Rattle.mt_refinement.proofs.rows.a_complete_keeps_rows_and_logs.Goals as goal

pub returns : goal.returns
returns c =
    let known : (p : Plain) → IsReached p → Known p = λ p reached.
    record {
      found = c.a_live_workflow_is_found_by_its_part.ensures.mover p reached;
      moving = c.a_live_workflow_is_found_by_its_part.ensures.mover_is_live p reached;
      placed = c.live_workflows_stand_in_place.ensures.placed p reached;
      fed = c.what_was_fed_stays_fed.ensures.never_more p reached;
      apart = c.each_table_has_a_number_of_its_own.ensures.apart p reached;
      writable = c.the_owner_alone_serves_the_primary.ensures.writable p reached;
      source_one = c.a_live_workflow_knows_its_shards.ensures.source p reached;
      target_by = c.a_live_workflow_knows_its_shards.ensures.target p reached;
    } in
    λ p reached old new stands name w live given others stay.
    let named = c.a_live_workflow_is_found_by_its_part.ensures.named p name w live in
    let is_next : next p (complete name) done ≡ with_completed p (Some w) = ap (with_completed p) live in
    subst (λ q. RowsStand q new) (sym is_next)
    (complete_stands p (known p reached) (reached_has_parts p reached).apart w (ap (live_at p) named ∙ live) (sym (ap (λ o. in_workflow o complete_refusal) live) ∙ given.0)
    (c.only_what_stands_has_a_place.ensures.lists p reached).places
    (subst Known is_next (known (next p (complete name) done) (c.each_next_state_is_reached.ensures.next p reached (complete name) done given)))
    (λ n other. sym (ap (λ q. live_at q n) is_next) ∙ c.only_named_events_change_a_workflow.ensures.elsewhere p (complete name) done n (λ e. other (named ∙ e)))
    (λ table moved key. sym (ap (λ q. client_row q w.target table key) is_next) ∙ c.a_moved_table_keeps_its_number.ensures.rows p reached name w live given table moved key)
    old new stands others stay (subst (StreamsGoOn p) is_next (c.what_is_in_use_goes_on.ensures p reached (complete name) done given)))
