-- A Create that is taken is taken with more watchers too, and keeps what is kept of the ways.
use Rattle.mt_plain.specs.Events.{create, done}
use Rattle.mt_refinement.proofs.CreateStayLemmas.{taken_steps}
use Rattle.mt_refinement.proofs.CreateLemmas.{create_keeps}
use Rattle.mt_refinement.proofs.StayLemmas.{leaves_a_core}
use Rattle.mt_refinement.proofs.WaysLemmas.{Laws, site_steps}
use Rattle.mt_refinement.proofs.stays.a_create_leaves_a_core.Goals as goal

pub returns : goal.returns
returns g c = λ old new workflow source target tables answer named creates is.
    let laws : Laws = record {
      ways = c.only_named_events_change_the_state.ensures.ways;
      journal = c.only_named_events_change_the_state.ensures.journal;
      elsewhere = c.only_named_events_change_a_workflow.ensures.elsewhere;
    } in
    let scopes = g.W.Asks.scopes c.args.watchers.now in
    let may_answer = g.W.Asks.may_answer c.args.watchers.now in
    leaves_a_core scopes may_answer old new workflow source target tables
    (λ notice asks made none.
    c.a_core_stays_one.ensures.stays scopes old (record old { base = new }) (create workflow source target tables) done named
    (λ more. site_steps laws (create workflow source target tables) (λ e. e) (λ e. e) _ old new done
    (taken_steps scopes may_answer old.base new workflow source target tables
    (λ p wide stands. c.a_create_is_refused_as_the_definitions_refuse_it.ensures p wide old.base stands workflow source target tables)
    (λ p wide stands. c.what_a_create_makes_stands_for_the_next_state.ensures p wide old.base stands workflow source target tables)
    notice asks.notice made none more)
    (λ p stands given behind. create_keeps laws p scopes may_answer old.base new workflow source target tables done (none, (notice, asks, made)))))
    answer creates is
