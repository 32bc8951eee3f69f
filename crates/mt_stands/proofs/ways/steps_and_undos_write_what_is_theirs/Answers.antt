use Rattle.std.proofs.Common.{sym, ◌∙◌}
use Rattle.mt_plain.specs.Events.{done, step, undo}
use Rattle.mt_plain.specs.Plain.{last_step, next_step}
use Rattle.mt_stands.specs.Keys.{step_entries}
use Rattle.mt_stands.proofs.PartLemmas.{step_written}
use Rattle.mt_stands.proofs.StandLemmas.{Laws, writes}
use Rattle.mt_stands.proofs.ways.steps_and_undos_write_what_is_theirs.Goals as goal

pub returns : goal.returns
returns c =
    let laws : Laws = record {
      owned = c.a_live_workflow_is_found_by_its_part.ensures.owner;
      found = c.a_live_workflow_is_found_by_its_part.ensures.owner_is_live;
      reached = c.each_next_state_is_reached.ensures.next;
      live = c.only_named_events_change_a_workflow.ensures.live;
      sides = c.only_named_events_change_a_workflow.ensures.sides;
      topology = c.only_named_events_change_the_state.ensures.topology;
    } in
    record {
      step = λ p t name w way kept at reached live opens is_kept given stands.
          writes laws p (step name at) done reached given (λ h. h) t (step_entries kept w way.after (next_step way)) stands (λ h. h)
          (λ key. step_written p t w stands (laws.owned p reached name w live) kept is_kept way.after (next_step way) key
          ∙ sym (c.steps_and_undos_change_the_state_by_their_numbers.ensures.step p reached name w way live opens at key));
      undo = λ p t name w way kept at reached live opens is_kept given stands.
          writes laws p (undo name at) done reached given (λ h. h) t (step_entries kept w way.before (last_step way)) stands (λ h. h)
          (λ key. step_written p t w stands (laws.owned p reached name w live) kept is_kept way.before (last_step way) key
          ∙ sym (c.steps_and_undos_change_the_state_by_their_numbers.ensures.undo p reached name w way live opens at given key));
    }
