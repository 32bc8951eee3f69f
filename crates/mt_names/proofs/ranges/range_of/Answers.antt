-- Both bounds are read before they are compared.
use Rattle.std.proofs.Common.{◌≡◌, true, false, Err, rules, sym, ◌∙◌}
use Rattle.mt_names.proofs.RangeTextLemmas.{bad-end, bad-start, below-is, below-read, not-below}
use Rattle.mt_names.proofs.ranges.range_of.Goals as goal

pub returns-in_err-start : goal.returns-in_err-start
returns-in_err-start c =
    let given : c.from_residual.result ≡ Err c.in_err-start.field-0.0 = search rules in
    given ∙ bad-start c.args.start.now c.args.end.now c.in_err-start.field-0.0 (sym c.parse.ensures ∙ c.in_err-start.was)

pub returns-in_err-end : goal.returns-in_err-end
returns-in_err-end c =
    let given : c.from_residual-in_err-end.result ≡ Err c.in_err-end.field-0.0 = search rules in
    given ∙ bad-end c.args.start.now c.args.end.now c.in_err-end.field-0.0 (sym c.parse-2.ensures ∙ c.in_err-end.was)

pub returns-then-not-is_below : goal.returns-then-not-is_below
returns-then-not-is_below c =
    let above : c.is_below.result ≡ false = search (c.if-not-is_below.true) in
    not-below c.args.start.now c.args.end.now c.in_ok-start.start c.in_ok-end.end (sym c.parse.ensures ∙ c.in_ok-start.was) (sym c.parse-2.ensures ∙ c.in_ok-end.was) (sym c.is_below.ensures ∙ above)

pub invariant_of-result : goal.invariant_of-result
invariant_of-result c =
    let below : c.is_below.result ≡ true = search (c.if-not-is_below.false) in
    below-is c.args.start.now c.args.end.now c.in_ok-start.start c.in_ok-end.end (sym c.parse.ensures ∙ c.in_ok-start.was) (sym c.parse-2.ensures ∙ c.in_ok-end.was) (sym c.is_below.ensures ∙ below)

pub returns : goal.returns
returns c =
    let below : c.is_below.result ≡ true = search (c.if-not-is_below.false) in
    below-read c.args.start.now c.args.end.now c.in_ok-start.start c.in_ok-end.end (sym c.parse.ensures ∙ c.in_ok-start.was) (sym c.parse-2.ensures ∙ c.in_ok-end.was) (sym c.is_below.ensures ∙ below)
