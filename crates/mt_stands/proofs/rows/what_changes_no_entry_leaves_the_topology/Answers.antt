use Rattle.std.proofs.Common.{sym, ◌∙◌}
use Rattle.mt_stands.proofs.StandLemmas.{Laws, rows_change, stays}
use Rattle.mt_stands.proofs.rows.what_changes_no_entry_leaves_the_topology.Goals as goal

pub returns : goal.returns
returns c =
    let laws : Laws = record {
      owned = c.a_live_workflow_is_found_by_its_part.ensures.owner;
      found = c.a_live_workflow_is_found_by_its_part.ensures.owner_is_live;
      reached = c.each_next_state_is_reached.ensures.next;
      live = c.only_named_events_change_a_workflow.ensures.live;
      sides = c.only_named_events_change_a_workflow.ensures.sides;
      topology = c.only_named_events_change_the_state.ensures.topology;
    } in
    record {
      rows = λ p t event answer reached is given stands.
          let kept = rows_change event is in
          stays laws p event answer reached given kept.0 t stands kept.1 (λ key. stands.served.entries key ∙ sym (c.rows_and_streams_change_no_entry.ensures p event answer is key));
      refused = λ p t event refusal stands. stands;
    }
