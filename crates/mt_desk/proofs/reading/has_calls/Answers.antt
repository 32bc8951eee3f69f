-- A line of the client is of the next call, or the client has other calls.
use Rattle.std.proofs.Common.{◌≡◌, ◌∙◌, arith, false, true, sym}
use Rattle.std.proofs.lemmas.Bool.{true≢false}
use Rattle.std.proofs.lemmas.Bool.Decides.{nat_tests}
use Rattle.mt_desk.proofs.ReadingLemmas.{next_inside, others, read_on}
use Rattle.mt_desk.proofs.reading.has_calls.Goals as goal

pub returns-then-not-is_of_next-clause-other : goal.returns-then-not-is_of_next-clause-other
returns-then-not-is_of_next-clause-other c = λ none.
    let l = c.line-item.result in
    let isnt : c.is_of_next.result ≡ false = search (c.if-not-is_of_next.true) in
    let of : l.client ≡ c.args.client = grind (c.if-line-client.false, arith, nat_tests) in
    others c.args.history.now c.loop-line.line-index l c.loop-line-test.true c.line-item.is c.args.client of c.args.calls.now c.loop-line.read c.loop-line.invariant.inside c.loop-line.invariant.same
    (λ next. true≢false (sym (c.is_of_next.ensures.1 next) ∙ isnt))

pub loop-line-preserved : goal.loop-line-preserved
loop-line-preserved c =
    let l = c.line-item.result in
    let is : c.is_of_next.result ≡ true = search (c.if-not-is_of_next.false) in
    let of : l.client ≡ c.args.client = grind (c.if-line-client.false, arith, nat_tests) in
    let next = c.is_of_next.ensures.0 is in
    let inside = next_inside c.args.calls.now c.loop-line.read _ next in
    record {
      inside = omega (arith, inside);
      same = read_on c.args.history.now c.loop-line.line-index l c.loop-line-test.true c.line-item.is c.args.client of c.args.calls.now c.loop-line.read c.loop-line.invariant.same next;
    }
