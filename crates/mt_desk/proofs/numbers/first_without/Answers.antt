-- One client more has a number.
use Rattle.std.proofs.Common.{◌≤◌, All, get_or, subst}
use Rattle.std.proofs.lemmas.List.{take_all}
use Rattle.std.proofs.lemmas.List.Elements.{All-more}
use Rattle.mt_desk.proofs.NumberLemmas.{some_of}
use Rattle.mt_desk.proofs.numbers.first_without.Goals as goal

pub loop-client-preserved : goal.loop-client-preserved
loop-client-preserved c =
    let numbers = c.args.numbers.now in
    All-more (λ client. 1 ≤ get_or numbers client 0) c.args.clients.now c.loop-client.client-index 0 c.loop-client-test.true c.loop-client.invariant
    (subst (λ k. 1 ≤ get_or numbers k 0) c.from.ensures (some_of (get_or numbers c.from.result 0) c.if-numbers-from-eq0.false))

pub returns-clause-all : goal.returns-clause-all
returns-clause-all c = λ none.
    subst (λ clients. All (λ client. 1 ≤ get_or c.args.numbers.now client 0) clients) (take_all c.loop-client.client-index c.args.clients.now c.loop-client-test.false) c.loop-client.invariant
