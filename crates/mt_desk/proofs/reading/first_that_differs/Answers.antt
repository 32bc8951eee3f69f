-- A line is of the next call of its client's pass, or its client's calls differ.
use Rattle.std.proofs.Common.{◌≡◌, ◌≤◌, ◌<◌, ◌+◌, ◌∙◌, All, Some, arith, false, get_or, length, map, refl, rules, set, subst, sym}
use Rattle.std.specs.Prelude.{slice_get}
use Rattle.std.proofs.lemmas.Bool.{true≢false}
use Rattle.std.proofs.lemmas.List.{length-map, take_all}
use Rattle.std.proofs.lemmas.List.Elements.{All-more}
use Rattle.mt_desk.specs.Histories.{call_of}
use Rattle.mt_desk.specs.Passes.{IsOfPass}
use Rattle.mt_desk.proofs.NumberLemmas.{has_of, some_of}
use Rattle.mt_desk.proofs.ReadingLemmas.{differs_there, next_inside, read_there}
use Rattle.mt_desk.proofs.reading.first_that_differs.Goals as goal

pub returns-then-not-is_of_next-clause-differs : goal.returns-then-not-is_of_next-clause-differs
returns-then-not-is_of_next-clause-differs g c =
    let isnt : c.is_of_next.result ≡ false = search (c.if-not-is_of_next.true) in
    let l = c.line-item.result in
    let pass = c.index-passes-number.result in
    differs_there (λ p. (p.client, p.calls.items)) c.args.passes.now c.args.history.now c.args.numbers.now c.loop-line.read c.loop-line.line-index c.from-client.result l pass
    c.loop-line-test.true c.line-item.is c.from-client.ensures c.if-number-eq0.false (length-map c.args.passes.now _) c.index-passes-number.is c.requires.are c.loop-line.invariant.read
    (λ next. true≢false (sym (c.is_of_next.ensures.1 (subst (λ calls. slice_get calls (get_or c.loop-line.read c.from-client.result 0) ≡ Some (call_of l)) (sym c.calls.ensures) next)) ∙ isnt))

pub overflow_add-read : goal.overflow_add-read
overflow_add-read g c =
    let inside = next_inside c.calls.result.now (get_or c.loop-line.read c.from-client.result 0) _ (c.is_of_next.ensures.0 c.if-not-is_of_next.false) in
    let fits = c.calls.type_inv.0 in
    omega (arith, inside, fits)

pub loop-line-preserved : goal.loop-line-preserved
loop-line-preserved g c =
    let l = c.line-item.result in
    let pass = c.index-passes-number.result in
    let i = c.loop-line.line-index in
    let read = c.loop-line.read in
    let numbers = c.args.numbers.now in
    let client = c.from-client.result in
    let next = subst (λ calls. slice_get calls (get_or read client 0) ≡ Some (call_of l)) c.calls.ensures (c.is_of_next.ensures.0 c.if-not-is_of_next.false) in
    let within : client < length read = search rules in
    let passes = map (λ p. (p.client, p.calls.items)) c.args.passes.now in
    let some = subst (λ k. 1 ≤ get_or numbers k 0) c.from-client.ensures (some_of (get_or numbers client 0) c.if-number-eq0.false) in
    record {
      long = search rules;
      read = read_there (λ p. (p.client, p.calls.items)) c.args.passes.now c.args.history.now numbers read i client l pass c.loop-line-test.true c.line-item.is c.from-client.ensures c.if-number-eq0.false
          (length-map c.args.passes.now _) c.index-passes-number.is c.requires.are c.loop-line.invariant.read next (set read client (get_or read client 0 + 1)) within refl;
      others = All-more (IsOfPass passes) c.args.history.now i l c.loop-line-test.true c.loop-line.invariant.others (subst (IsOfPass passes) c.line-item.is (has_of passes numbers l.client c.requires.are some));
    }

pub returns-clause-others : goal.returns-clause-others
returns-clause-others g c = λ none.
    subst (All (IsOfPass (map (λ p. (p.client, p.calls.items)) c.args.passes.now))) (take_all c.loop-line.line-index c.args.history.now c.loop-line-test.false) c.loop-line.invariant.others
