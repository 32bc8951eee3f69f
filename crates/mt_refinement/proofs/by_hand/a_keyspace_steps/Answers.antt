-- The keyspace is told by the base as by the state, and its primaries are empty, which is as none.
use Rattle.mt_refinement.proofs.HandLemmas.{keyspace_steps}
use Rattle.mt_refinement.proofs.by_hand.a_keyspace_steps.Goals as goal

pub returns : goal.returns
returns c =
    keyspace_steps
    (record {
      reached = c.each_next_state_is_reached.ensures.next;
      scopes = c.only_named_events_change_the_state.ensures.scopes;
      kept = c.what_is_kept_stays_what_stood.ensures;
    })
    (record {
      answered = c.answers_are_determined.ensures.one_at_least;
      limits = c.no_limit_is_passed.ensures;
      count = c.places_are_as_many_as_the_definitions_count.ensures.keyspaces;
      topology = c.edits_by_hand_are_made_in_the_topology.ensures.keyspace;
      rows = c.events_that_change_no_row_keep_rows_and_logs.ensures.keyspace;
    })
