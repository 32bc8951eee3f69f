use Rattle.std.proofs.Common.{sym, subst}
use Rattle.mt_plain.specs.Events.{create, done}
use Rattle.mt_plain.specs.Next.{next}
use Rattle.mt_plain.specs.Plain.{each_once}
use Rattle.mt_stands.specs.Stands.{StandsWith}
use Rattle.mt_stands.specs.Workflows.{new_of, with_created}
use Rattle.mt_refinement.proofs.StepLemmas.{create_steps}
use Rattle.mt_refinement.proofs.creating.a_create_steps.Goals as goal

pub returns : goal.returns
returns g c = λ old new workflow source target tables answer creates p stands.
    let scopes = g.W.Asks.scopes c.args.watchers.now in
    create_steps p scopes (g.W.Asks.may_answer c.args.watchers.now) old new stands workflow source target tables
    (c.a_create_is_refused_as_the_definitions_refuse_it.ensures p scopes old stands workflow source target tables)
    (λ notice none told.
    subst (λ n. StandsWith (next p (create workflow source target tables) done) scopes (with_created old (new_of old workflow source target (each_once tables)) n)) (sym told)
    (c.what_a_create_makes_stands_for_the_next_state.ensures p scopes old stands workflow source target tables none))
    answer creates
