-- Of the numbered pass of a client its calls were read.
use Rattle.std.proofs.Common.{◌≡◌, ◌∙◌, All, false, get_or, map, subst, sym, take}
use Rattle.std.proofs.lemmas.List.{take_all}
use Rattle.mt_desk.specs.Histories.{calls_of}
use Rattle.mt_desk.specs.Passes.{ListsCalls}
use Rattle.mt_desk.proofs.NumberLemmas.{agree}
use Rattle.mt_desk.proofs.ReadingLemmas.{lists_others, was_read}
use Rattle.mt_desk.proofs.reading.first_that_lists_others.Goals as goal

pub lists_calls-requires : goal.lists_calls-requires
lists_calls-requires g c = λ same.
    let pass = c.index-passes-index.result in
    let client : c.from-client.result ≡ pass.client = c.from-client.ensures ∙ c.client.ensures in
    let read = was_read (λ p. (p.client, p.calls.items)) c.args.passes.now c.args.history.now c.args.numbers.now c.args.read.now c.loop-index.index c.from-client.result pass
    c.loop-index-test.true c.index-passes-index.is (sym client) c.requires.read (agree _ _ same) in
    (read.0, subst (λ k. calls_of k c.args.history.now ≡ take (get_or c.args.read.now c.from-client.result 0) pass.calls.items) client read.1)

pub returns-then-not-lists_calls-clause-differs : goal.returns-then-not-lists_calls-clause-differs
returns-then-not-lists_calls-clause-differs g c =
    let pass = c.index-passes-index.result in
    let isnt : c.lists_calls.result ≡ false = search (c.if-not-lists_calls.true) in
    lists_others (λ p. (p.client, p.calls.items)) c.args.passes.now c.args.history.now c.loop-index.index pass c.client-then-not-lists_calls.result
    c.loop-index-test.true c.index-passes-index.is (sym c.client-then-not-lists_calls.ensures)
    (λ same. c.lists_calls.ensures.other isnt (subst (λ k. calls_of k c.args.history.now ≡ pass.calls.items) c.client-then-not-lists_calls.ensures same))

pub returns-clause-all : goal.returns-clause-all
returns-clause-all g c = λ none.
    subst (λ passes. All (ListsCalls c.args.history.now) (map (λ p. (p.client, p.calls.items)) passes)) (take_all c.loop-index.index c.args.passes.now c.loop-index-test.false) c.loop-index.invariant
