-- The advance that was due, in the shard whose turn it is, is one call more.
use Rattle.std.proofs.Common.{◌≡◌, ◌+◌, ◌%◌, ℕ, ap, refl, subst, sym, ◌∙◌}
use Rattle.std.proofs.lemmas.List.{length-set}
use Rattle.std.specs.Prelude.{slice_index}
use Rattle.mt_desk.specs.Histories.{call}
use Rattle.mt_event.specs.declared.event.Event.TheVariants as event
use Rattle.mt_workers.specs.Advances.{answered}
use Rattle.mt_workers.proofs.AdvanceLemmas.{IsUnderWay, answered_in, due_in, not_begun, one_more}
use Rattle.mt_workers.proofs.stream.stream_worker.Goals as goal

pub loop-line-init : goal.loop-line-init
loop-line-init g c = record { client = refl; long = refl; way = not_begun c.args.workflow.now c.args.stream c.args.shards c.args.max c.args.pass.calls.items }

pub loop-line-preserved : goal.loop-line-preserved
loop-line-preserved g c =
    let workflow = c.args.workflow.now in
    let stream = c.args.stream in
    let shards = c.args.shards in
    let max = c.args.max in
    let positions = c.loop-line.positions in
    let taken = c.loop-line.taken in
    let line = c.loop-line.line in
    let old = c.args.pass.calls.items in
    let new = c.ask.new.pass.calls.items in
    let place : ℕ = c.from-place.result in
    let here : place ≡ line % shards = c.from-place.ensures ∙ ap (λ n. line % n) c.from.ensures in
    let asked = due_in workflow c.copied.result stream max positions line shards c.from.result place c.copied.ensures c.from.ensures c.from-place.ensures in
    let more = one_more workflow stream shards max line old c.loop-line.pass.calls.items new positions taken (call (event.Advance c.copied.result stream (line % c.from.result) (slice_index positions place) max) c.in-Ok.answer)
    c.loop-line.invariant.way asked c.in-Ok.ensures.adds in
    let moved = answered_in positions c.in-Ok.answer (line % shards) place c.next_position.result here c.next_position.ensures in
    record {
      client = c.in-Ok.ensures.client ∙ c.loop-line.invariant.client;
      long = length-set positions place c.next_position.result ∙ c.loop-line.invariant.long;
      way = subst (λ ps. IsUnderWay workflow stream shards max (line + 1) old new ps (taken + c.one_if_taken-taken.result)) moved
          (subst (λ n. IsUnderWay workflow stream shards max (line + 1) old new (answered positions (line % shards) c.in-Ok.answer) (taken + n)) (sym c.one_if_taken-taken.ensures) more);
    }
