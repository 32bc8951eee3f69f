-- Each try is at the table that the name leads to.
use Rattle.std.proofs.Common.{◌≡◌, ◌≢◌, ◌∙◌, true, false, MatchBool, Ok, Err, subst, arith}
use Rattle.mt_desk.specs.Histories.{call}
use Rattle.mt_event.specs.declared.reason.Reason.TheVariants as reason
use Rattle.mt_event.specs.declared.refusal.Refusal.TheVariants as refusal
use Rattle.mt_routes.specs.LookUp.{LastLeads}
use Rattle.mt_workers.specs.Queries.{IsTry, type_of}
use Rattle.mt_workers.proofs.QueryLemmas.{answered_here, denied_again, denied_to_the_end, is_try, known_before, nowhere}
use Rattle.mt_workers.proofs.query.ask_line.Goals as goal

pub returns-in-Err-clause-tried : goal.returns-in-Err-clause-tried
returns-in-Err-clause-tried g c =
    let known = c.args.router.now in
    let line = c.args.line.now in
    let why = c.in-Err._why in
    let front = c.in-Err._front.0 in
    let now = c.route.new.self in
    nowhere known c.learn.new.router now line c.args.pass.now.calls.items c.loop-tried.pass.calls.items c.loop-tried.tried why front c.loop-tried.invariant.denied c.loop-tried-test.true
    (known_before known c.loop-tried.router c.learn.new.router c.loop-tried.invariant.grows c.learn.ensures) c.route.ensures.grows
    (subst (λ k. LastLeads now k (type_of line) front (Err why)) c.key.ensures
    (subst (λ t. LastLeads now c.key.result.now t front (Err why)) c.type_of.ensures c.in-Err.ensures.answer))

pub returns-then-not-is_denied-clause-tried : goal.returns-then-not-is_denied-clause-tried
returns-then-not-is_denied-clause-tried g c =
    let known = c.args.router.now in
    let line = c.args.line.now in
    let target = c.in-Ok.target in
    let front = c.in-Ok._front.0 in
    let now = c.route.new.self in
    let answer = c.in-Ok-ask.answer in
    let this = call c.event_at-event.result answer in
    let isnt : c.is_denied.result ≡ false = search (c.if-not-is_denied.true) in
    let other : answer ≢ Err (refusal.Other reason.Denied) = subst (λ t. MatchBool t (answer ≡ Err (refusal.Other reason.Denied)) (answer ≢ Err (refusal.Other reason.Denied))) isnt c.is_denied.ensures in
    let is : IsTry known line this =
    is_try known c.learn.new.router now line target front this (known_before known c.loop-tried.router c.learn.new.router c.loop-tried.invariant.grows c.learn.ensures) c.route.ensures.grows
    (subst (λ k. LastLeads now k (type_of line) front (Ok target)) c.key.ensures
    (subst (λ t. LastLeads now c.key.result.now t front (Ok target)) c.type_of.ensures c.in-Ok.ensures.answer)) c.event_at-event.ensures in
    answered_here known line c.args.pass.now.calls.items c.loop-tried.pass.calls.items c.ask.new.pass.calls.items c.loop-tried.tried this c.loop-tried.invariant.denied c.loop-tried-test.true
    c.in-Ok-ask.ensures.adds is other

pub loop-tried-preserved : goal.loop-tried-preserved
loop-tried-preserved g c =
    let known = c.args.router.now in
    let line = c.args.line.now in
    let target = c.in-Ok.target in
    let front = c.in-Ok._front.0 in
    let now = c.route.new.self in
    let answer = c.in-Ok-ask.answer in
    let this = call c.event_at-event.result answer in
    let is-denied : c.is_denied.result ≡ true = search (c.if-not-is_denied.false) in
    let denied : answer ≡ Err (refusal.Other reason.Denied) = subst (λ t. MatchBool t (answer ≡ Err (refusal.Other reason.Denied)) (answer ≢ Err (refusal.Other reason.Denied))) is-denied c.is_denied.ensures in
    let before = known_before known c.loop-tried.router c.learn.new.router c.loop-tried.invariant.grows c.learn.ensures in
    let is : IsTry known line this =
    is_try known c.learn.new.router now line target front this before c.route.ensures.grows
    (subst (λ k. LastLeads now k (type_of line) front (Ok target)) c.key.ensures
    (subst (λ t. LastLeads now c.key.result.now t front (Ok target)) c.type_of.ensures c.in-Ok.ensures.answer)) c.event_at-event.ensures in
    record {
      client = c.in-Ok-ask.ensures.client ∙ c.loop-tried.invariant.client;
      grows = known_before known c.learn.new.router now before c.route.ensures.grows;
      denied = denied_again known line c.args.pass.now.calls.items c.loop-tried.pass.calls.items c.ask.new.pass.calls.items c.loop-tried.tried this c.loop-tried.invariant.denied
          c.in-Ok-ask.ensures.adds is denied;
    }

pub returns-clause-tried : goal.returns-clause-tried
returns-clause-tried g c =
    denied_to_the_end c.args.router.now c.args.line.now c.args.pass.now.calls.items c.loop-tried.pass.calls.items c.loop-tried.tried c.loop-tried.invariant.denied (omega arith)
