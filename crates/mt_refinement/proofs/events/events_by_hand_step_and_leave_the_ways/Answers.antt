-- No workflow changes, and no way is begun or stepped.
use Rattle.std.proofs.Common.{ap}
use Rattle.mt_plain.specs.Events.{add_keyspace, add_table, edit_rule, read, write}
use Rattle.mt_stands.specs.Base.{BaseState}
use Rattle.mt_refinement.proofs.EventLemmas.{keyspace_same, rule_same, table_same, write_same}
use Rattle.mt_refinement.proofs.WaysLemmas.{Laws, steps_beside}
use Rattle.mt_refinement.proofs.events.events_by_hand_step_and_leave_the_ways.Goals as goal

pub returns : goal.returns
returns c =
    let laws : Laws = record {
      ways = c.only_named_events_change_the_state.ensures.ways;
      journal = c.only_named_events_change_the_state.ensures.journal;
      elsewhere = c.only_named_events_change_a_workflow.ensures.elsewhere;
    } in
    record {
      keyspace = λ scopes old new name cuts answer ascend is.
          steps_beside laws (add_keyspace name cuts) (λ e. e) (λ e. e) scopes old new answer (c.a_keyspace_steps.ensures scopes old.base new name cuts answer ascend is) (λ n e. e)
          (keyspace_same old.base new name cuts answer is);
      table = λ scopes old new keyspace table answer is.
          steps_beside laws (add_table keyspace table) (λ e. e) (λ e. e) scopes old new answer (c.a_table_steps.ensures scopes old.base new keyspace table answer is) (λ n e. e)
          (table_same old.base new keyspace table answer is);
      rule = λ scopes old new key target answer is.
          steps_beside laws (edit_rule key target) (λ e. e) (λ e. e) scopes old new answer (c.a_rule_steps.ensures scopes old.base new key target answer is) (λ n e. e)
          (rule_same old.base new key target answer is);
      write = λ scopes old new keyspace table op answer is.
          steps_beside laws (write keyspace table op) (λ e. e) (λ e. e) scopes old new answer (c.a_write_steps.ensures scopes old.base new keyspace table op answer is) (λ n e. e)
          (write_same old.base new keyspace table op answer is);
      read = λ scopes old new keyspace table key tablet_type answer is.
          steps_beside laws (read keyspace table key tablet_type) (λ e. e) (λ e. e) scopes old new answer (c.a_read_steps.ensures scopes old.base new keyspace table key tablet_type answer is) (λ n e. e)
          (ap (λ (base : BaseState). base.workflows) is.1);
    }
