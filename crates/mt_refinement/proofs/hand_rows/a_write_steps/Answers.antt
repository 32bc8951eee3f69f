-- The primary's answer is one that the definitions allow, and of tables, denials and workflows nothing changes.
use Rattle.mt_refinement.proofs.WriteLemmas.{write_steps}
use Rattle.mt_refinement.proofs.hand_rows.a_write_steps.Goals as goal

pub returns : goal.returns
returns c =
    write_steps
    (record {
      reached = c.each_next_state_is_reached.ensures.next;
      scopes = c.only_named_events_change_the_state.ensures.scopes;
      kept = c.what_is_kept_stays_what_stood.ensures;
    })
    (record { topology = c.what_changes_no_entry_leaves_the_topology.ensures.rows; rows = c.a_write_keeps_rows_and_logs.ensures })
