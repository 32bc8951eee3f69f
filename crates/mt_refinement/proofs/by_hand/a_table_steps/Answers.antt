-- The table is told by the base as by the state, and each primary of its keyspace has it without rows.
use Rattle.mt_model.specs.declared.entries.EntryKey.TheVariants as about
use Rattle.mt_refinement.proofs.HandTableLemmas.{table_steps}
use Rattle.mt_refinement.proofs.by_hand.a_table_steps.Goals as goal

pub returns : goal.returns
returns c =
    table_steps
    (record {
      reached = c.each_next_state_is_reached.ensures.next;
      scopes = c.only_named_events_change_the_state.ensures.scopes;
      kept = c.what_is_kept_stays_what_stood.ensures;
    })
    (record {
      answered = c.answers_are_determined.ensures.one_at_least;
      limits = c.no_limit_is_passed.ensures;
      places = c.only_what_stands_has_a_place.ensures.tables;
      count = c.tables_are_as_many_as_the_definitions_count.ensures;
      made = c.what_is_made_by_hand.ensures.table;
      no_other = λ t keyspace table k n. c.what_is_made_by_hand.ensures.no_other_table t keyspace table (about.Present k n);
      topology = c.edits_by_hand_are_made_in_the_topology.ensures.table;
      keeps = c.a_new_table_keeps_rows_and_logs.ensures;
      stays = c.tables_made_and_dropped_leave_the_others.ensures.made;
      empty = c.tables_made_and_dropped_leave_the_others.ensures.empty;
      there = c.tables_made_and_dropped_leave_the_others.ensures.there;
      allowed = c.tables_made_and_dropped_leave_the_others.ensures.allowed;
    })
