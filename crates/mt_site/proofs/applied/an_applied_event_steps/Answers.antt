-- Each event by itself; one that is of no way leaves what is kept of them.
use Rattle.std.proofs.Common.{List, subst}
use Rattle.mt_model.specs.declared.entries.Scope.{Scope}
use Rattle.mt_plain.specs.Events as plain
use Rattle.mt_stands.specs.Ways.{CoreSteps}
use Rattle.mt_site.specs.Applies.{Applies, BringsBounds, LeavesWays}
use Rattle.mt_site.proofs.SiteLemmas.{joined}
use Rattle.mt_site.proofs.applied.an_applied_event_steps.Goals as goal

pub returns : goal.returns
returns g c old new event answer applies bounds primaries = by event bounds applies
  where
    scopes : List Scope
    scopes = g.W.Asks.scopes c.args.watchers.now

    leaves : (e : plain.Event) → LeavesWays old new → CoreSteps scopes old e answer (record old { base = new.base }) → CoreSteps scopes old e answer new
    leaves e ways steps = subst (λ s. CoreSteps scopes old e answer s) (joined old new ways) steps

    by : (e : plain.Event) → BringsBounds e → Applies scopes (g.W.Asks.may_answer c.args.watchers.now) old e answer new → CoreSteps scopes old e answer new
    by (plain.write k t op) bounds is = leaves (plain.write k t op) is.1 (c.events_by_hand_step_and_leave_the_ways.ensures.write scopes old new.base k t op answer is.0)
    by (plain.read k t key type) bounds is = leaves (plain.read k t key type) is.1 (c.events_by_hand_step_and_leave_the_ways.ensures.read scopes old new.base k t key type answer is.0)
    by (plain.add_keyspace k cuts) bounds is = leaves (plain.add_keyspace k cuts) is.1 (c.events_by_hand_step_and_leave_the_ways.ensures.keyspace scopes old new.base k cuts answer bounds is.0)
    by (plain.add_table k t) bounds is = leaves (plain.add_table k t) is.1 (c.events_by_hand_step_and_leave_the_ways.ensures.table scopes old new.base k t answer is.0)
    by (plain.edit_rule key target) bounds is = leaves (plain.edit_rule key target) is.1 (c.events_by_hand_step_and_leave_the_ways.ensures.rule scopes old new.base key target answer is.0)
    by (plain.create w s t tables) bounds is = leaves (plain.create w s t tables) is.1 (c.a_create_steps_and_leaves_the_ways.ensures old new.base w s t tables answer is.0)
    by (plain.advance w name shard at max) bounds is = leaves (plain.advance w name shard at max) is.1 (c.events_on_workflows_step_and_leave_the_ways.ensures.advance scopes old new.base w name shard at max answer is.0 primaries)
    by (plain.begin_switch w types) bounds is = c.a_begin_steps.ensures.switch scopes old new w types answer is
    by (plain.begin_reverse w types) bounds is = c.a_begin_steps.ensures.reverse scopes old new w types answer is
    by (plain.step w at) bounds is = c.a_step_steps.ensures.steps old new w at answer is
    by (plain.undo w at) bounds is = c.an_undo_steps.ensures scopes old new w at answer is
    by (plain.cancel w) bounds is = leaves (plain.cancel w) is.1 (c.events_on_workflows_step_and_leave_the_ways.ensures.cancel scopes old new.base w answer is.0 primaries)
    by (plain.complete w) bounds is = c.a_complete_steps.ensures scopes old new w answer is primaries
    by (plain.show w) bounds is = leaves (plain.show w) is.1 (c.events_on_workflows_step_and_leave_the_ways.ensures.show scopes old new.base w answer is.0)
