-- What was taken under the lock is what the pass lists.
use Rattle.std.proofs.Common.{◌∙◌, Err, Ok, ap, subst, sym}
use Rattle.mt_desk.specs.Taken.{IsTaken}
use Rattle.mt_desk.proofs.desk.Desk.ask.Goals as goal

pub returns-in-Err-clause-given_up : goal.returns-in-Err-clause-given_up
returns-in-Err-clause-given_up g c = λ place up.
    let scopes = g.D.DeskName.scopes in
    let opening = g.D.DeskName.opening in
    subst (λ k. IsTaken scopes opening k c.args.event (Err c.in-Err.fault)) (c.client-client.ensures ∙ c.make_place.ensures.client)
    (subst (λ e. IsTaken scopes opening c.client-client.result e (Err c.in-Err.fault)) c.ask-2.ensures c.in-Err.ensures.taken)

pub returns-clause-taken : goal.returns-clause-taken
returns-clause-taken g c =
    let scopes = g.D.DeskName.scopes in
    let opening = g.D.DeskName.opening in
    subst (λ r. IsTaken scopes opening c.args.pass.now.client c.args.event r) (ap Ok (sym c.copied-answer.ensures))
    (subst (λ k. IsTaken scopes opening k c.args.event (Ok c.in-Ok-taken.told)) (c.client-client.ensures ∙ c.make_place.ensures.client)
    (subst (λ e. IsTaken scopes opening c.client-client.result e (Ok c.in-Ok-taken.told)) c.ask-2.ensures c.in-Ok-taken.ensures.taken))

pub returns-clause-given_up : goal.returns-clause-given_up
returns-clause-given_up g c = λ place up. returns-clause-taken g c
