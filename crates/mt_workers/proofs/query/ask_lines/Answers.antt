-- One line more is sent, or it ends with this one.
use Rattle.std.proofs.Common.{◌∙◌, ◌+◌, None, Some, ap, arith, subst, sym}
use Rattle.std.proofs.lemmas.List.{drop_all}
use Rattle.mt_workers.proofs.QueryLemmas.{HasQueried, at_the_end, ends_at, known_before, one_more}
use Rattle.mt_workers.proofs.query.ask_lines.Goals as goal

pub returns-in-None-clause-queries : goal.returns-in-None-clause-queries
returns-in-None-clause-queries g c =
    let known = c.args.router.now in
    let lines = c.args.lines.now in
    let old = c.args.pass.now.calls.items in
    let new = c.ask_line.new.pass.calls.items in
    subst (HasQueried known lines old new) (sym c.loop-line.invariant.sent)
    (ends_at known c.loop-line.router lines c.loop-line.line-index c.line-item.result old c.loop-line.pass.calls.items new None c.loop-line.invariant.way c.loop-line-test.true
    c.line-item.is c.loop-line.invariant.grows c.in-None.ensures.tried)

pub returns-then-is_err-clause-queries : goal.returns-then-is_err-clause-queries
returns-then-is_err-clause-queries g c =
    let known = c.args.router.now in
    let lines = c.args.lines.now in
    let old = c.args.pass.now.calls.items in
    let new = c.ask_line.new.pass.calls.items in
    subst (HasQueried known lines old new) (sym c.loop-line.invariant.sent)
    (ends_at known c.loop-line.router lines c.loop-line.line-index c.line-item.result old c.loop-line.pass.calls.items new (Some c.in-Some.reply) c.loop-line.invariant.way c.loop-line-test.true
    c.line-item.is c.loop-line.invariant.grows c.in-Some.ensures.tried)

pub loop-line-preserved : goal.loop-line-preserved
loop-line-preserved g c =
    let known = c.args.router.now in
    record {
      client = c.ask_line.ensures.client ∙ c.loop-line.invariant.client;
      grows = known_before known c.loop-line.router c.ask_line.new.router c.loop-line.invariant.grows c.ask_line.ensures.grows;
      sent = ap (λ n. n + 1) c.loop-line.invariant.sent;
      way = one_more known c.loop-line.router c.args.lines.now c.loop-line.line-index c.line-item.result c.args.pass.now.calls.items c.loop-line.pass.calls.items c.ask_line.new.pass.calls.items
          c.in-Some.reply c.loop-line.invariant.way c.loop-line-test.true c.line-item.is c.loop-line.invariant.grows c.in-Some.ensures.tried;
    }

pub returns-clause-queries : goal.returns-clause-queries
returns-clause-queries g c =
    let known = c.args.router.now in
    let lines = c.args.lines.now in
    let old = c.args.pass.now.calls.items in
    let now = c.loop-line.pass.calls.items in
    let past = c.loop-line-test.false in
    subst (HasQueried known lines old now) (sym c.loop-line.invariant.sent)
    (at_the_end known lines c.loop-line.line-index old now c.loop-line.invariant.way (drop_all c.loop-line.line-index lines (omega (arith, past))))
