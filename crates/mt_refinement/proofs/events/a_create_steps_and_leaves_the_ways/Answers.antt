-- A new workflow has no way open.
use Rattle.mt_plain.specs.Events.{create}
use Rattle.mt_refinement.proofs.CreateLemmas.{create_keeps}
use Rattle.mt_refinement.proofs.WaysLemmas.{Laws, site_steps}
use Rattle.mt_refinement.proofs.events.a_create_steps_and_leaves_the_ways.Goals as goal

pub returns : goal.returns
returns g c = λ old new workflow source target tables answer is.
    let laws : Laws = record {
      ways = c.only_named_events_change_the_state.ensures.ways;
      journal = c.only_named_events_change_the_state.ensures.journal;
      elsewhere = c.only_named_events_change_a_workflow.ensures.elsewhere;
    } in
    let watched = g.W.Asks.scopes c.args.watchers.now in
    let may_answer = g.W.Asks.may_answer c.args.watchers.now in
    site_steps laws (create workflow source target tables) (λ e. e) (λ e. e) watched old new answer (c.a_create_steps.ensures old.base new workflow source target tables answer is)
    (λ p stands given behind. create_keeps laws p watched may_answer old.base new workflow source target tables answer is)
