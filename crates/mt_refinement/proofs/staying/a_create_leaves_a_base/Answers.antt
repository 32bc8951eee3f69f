use Rattle.mt_plain.specs.Events.{create, done}
use Rattle.mt_refinement.proofs.CreateStayLemmas.{leaves_a_base}
use Rattle.mt_refinement.proofs.staying.a_create_leaves_a_base.Goals as goal

pub returns : goal.returns
returns g c = λ old new workflow source target tables answer named creates is.
    let scopes = g.W.Asks.scopes c.args.watchers.now in
    leaves_a_base scopes (g.W.Asks.may_answer c.args.watchers.now) old new workflow source target tables
    (λ p wide stands. c.a_create_is_refused_as_the_definitions_refuse_it.ensures p wide old stands workflow source target tables)
    (λ p wide stands. c.what_a_create_makes_stands_for_the_next_state.ensures p wide old stands workflow source target tables)
    (c.a_base_stays_one.ensures.stays scopes old new (create workflow source target tables) done named)
    answer creates is
