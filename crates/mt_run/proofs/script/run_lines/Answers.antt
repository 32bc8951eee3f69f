-- Line by line, each with room for its answer, and what waits at the end.
use Rattle.std.proofs.Common.{◌≡◌, ◌∙◌, length, ap, arith, refl, subst}
use Rattle.std.proofs.lemmas.Result.{err_from_is_err_and}
use Rattle.mt_run.specs.LineRuns.{AddsLine}
use Rattle.mt_run.proofs.LineRunLemmas.{ends, line_done, line_failed, none_done, room_failed, room_made}
use Rattle.mt_run.proofs.script.run_lines.Goals as goal

pub loop-line-init : goal.loop-line-init
loop-line-init g c = record {
  watchers = refl;
  halfway = λ so_far. rw c.new-waiting.ensures (none_done (g.A.Asks.scopes c.args.run.now.cached.site.watchers) c.args.script.now c.args.run.now.cached.site.core (g.W.Write.contents c.args.writer.now) so_far);
}

pub returns-in_err-make_room : goal.returns-in_err-make_room
returns-in_err-make_room g c = λ so_far.
    let e = err_from_is_err_and c.from_residual.result c.from_residual.ensures.1 in
    let same : e.0 ≡ c.in_err-make_room.field-0.0 = search (e.2) in
    rw (e.1, same) (room_failed (g.A.Asks.scopes c.args.run.now.cached.site.watchers) c.args.script.now c.loop-line.rest.now c.loop-line.run.cached.site.core _ _ _ c.loop-line.waiting.items c.make_room.new.waiting.items c.in_err-make_room.field-0.0
    (c.loop-line.invariant.halfway so_far) c.in_err-make_room.ensures.writes)

pub returns-in_err-write_answer : goal.returns-in_err-write_answer
returns-in_err-write_answer g c = λ so_far.
    let scopes = g.A.Asks.scopes c.args.run.now.cached.site.watchers in
    let now = c.loop-line.run.cached.site.core in
    let new = c.answer-answered.new.self.cached.site.core in
    let fault = c.in_err-write_answer.field-0.0 in
    let e = err_from_is_err_and c.from_residual-in_err-write_answer.result c.from_residual-in_err-write_answer.ensures.1 in
    let same : e.0 ≡ fault = search (e.2) in
    let room = room_made scopes c.args.script.now c.loop-line.rest.now now _ _ _ c.loop-line.waiting.items c.make_room.new.waiting.items (c.loop-line.invariant.halfway so_far) c.in_ok-make_room.ensures.writes in
    let adds : AddsLine scopes c.in-Some.line.now now new c.make_room.new.waiting.items c.answer-answered.new.waiting.items c.answer-answered.result
    = subst (λ w. AddsLine (g.A.Asks.scopes w) c.in-Some.line.now now new c.make_room.new.waiting.items c.answer-answered.new.waiting.items c.answer-answered.result) c.loop-line.invariant.watchers c.answer-answered.ensures.adds in
    rw (e.1, same) (line_failed scopes c.args.script.now c.loop-line.rest.now c.in-Some.line.now c.in-Some.after.now now new _ _ _ c.make_room.new.waiting.items c.answer-answered.new.waiting.items c.write_answer.new.waiting.items
    c.in-Some.ensures c.answer-answered.result fault room adds c.answer-answered.ensures.document c.answer-answered.ensures.waits c.in_err-write_answer.ensures)

pub loop-line-preserved : goal.loop-line-preserved
loop-line-preserved g c =
    let scopes = g.A.Asks.scopes c.args.run.now.cached.site.watchers in
    let now = c.loop-line.run.cached.site.core in
    let new = c.answer-answered.new.self.cached.site.core in
    let adds : AddsLine scopes c.in-Some.line.now now new c.make_room.new.waiting.items c.answer-answered.new.waiting.items c.answer-answered.result
    = subst (λ w. AddsLine (g.A.Asks.scopes w) c.in-Some.line.now now new c.make_room.new.waiting.items c.answer-answered.new.waiting.items c.answer-answered.result) c.loop-line.invariant.watchers c.answer-answered.ensures.adds in
    record {
      watchers = c.answer-answered.ensures.watchers ∙ c.loop-line.invariant.watchers;
      halfway = λ so_far.
          let room = room_made scopes c.args.script.now c.loop-line.rest.now now _ _ _ c.loop-line.waiting.items c.make_room.new.waiting.items (c.loop-line.invariant.halfway so_far) c.in_ok-make_room.ensures.writes in
          line_done scopes c.args.script.now c.loop-line.rest.now c.in-Some.line.now c.in-Some.after.now now new _ _ _ c.make_room.new.waiting.items c.answer-answered.new.waiting.items c.write_answer.new.waiting.items
          c.in-Some.ensures c.answer-answered.result room adds c.answer-answered.ensures.waits c.in_ok-write_answer.ensures;
    }

pub loop-line-smaller : goal.loop-line-smaller
loop-line-smaller g c = let first = ap length c.in-Some.ensures in omega (arith, first)

pub returns : goal.returns
returns g c = λ so_far.
    ends (g.A.Asks.scopes c.args.run.now.cached.site.watchers) c.args.script.now c.loop-line.rest.now c.loop-line.run.cached.site.core _ _ _ c.loop-line.waiting.items c.flush.new.waiting.items c.flush.result
    (c.loop-line.invariant.halfway so_far) c.in_default.ensures c.flush.ensures.writes c.flush.ensures.empty
