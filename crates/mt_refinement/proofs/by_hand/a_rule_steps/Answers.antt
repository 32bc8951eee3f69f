-- A rule lies in the part of a workflow where the state says so, and no row hangs on it.
use Rattle.mt_refinement.proofs.HandLemmas.{rule_steps}
use Rattle.mt_refinement.proofs.by_hand.a_rule_steps.Goals as goal

pub returns : goal.returns
returns c =
    rule_steps
    (record {
      reached = c.each_next_state_is_reached.ensures.next;
      scopes = c.only_named_events_change_the_state.ensures.scopes;
      kept = c.what_is_kept_stays_what_stood.ensures;
    })
    (record {
      answered = c.answers_are_determined.ensures.one_at_least;
      limits = c.no_limit_is_passed.ensures;
      names = c.parts_are_apart.ensures.names;
      count = c.places_are_as_many_as_the_definitions_count.ensures.rules;
      topology = c.edits_by_hand_are_made_in_the_topology.ensures.rule;
      rows = c.events_that_change_no_row_keep_rows_and_logs.ensures.rule;
    })
