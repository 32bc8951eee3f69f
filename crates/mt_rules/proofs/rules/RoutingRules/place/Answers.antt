-- From key to key; the last is that of the place.
use Rattle.std.proofs.Common.{◌≡◌, Some, option_copied, rules, arith, sym, ap, ap₂, ◌∙◌}
use Rattle.mt_model.specs.Topology.{rule_at}
use Rattle.mt_rules.specs.Places.{first_after}
use Rattle.mt_rules.proofs.WalkLemmas.{at_place, key_after, key_until, next_key, rule_at_key}
use Rattle.mt_rules.proofs.rules.RoutingRules.place.Goals as goal

pub loop-preserved : goal.loop-preserved
loop-preserved c =
    let self = c.args.self.now in
    c.after-last.ensures ∙ ap (λ o. first_after o self) (c.as_ref.ensures.value ∙ c.loop.invariant)
    ∙ next_key self c.facts.ensures.ordered c.loop.counter (omega (arith, c.loop-test.true, c.requires))

pub unwrap-key-requires : goal.unwrap-key-requires
unwrap-key-requires c =
    let at : c.loop.counter ≡ c.args.index = omega (arith, c.loop-test.false, c.loop.auto.counter-end) in
    let is = key_after c.args.self.now c.facts.ensures.ordered c.args.index c.requires (c.as_ref-2.ensures.value ∙ c.loop.invariant ∙ ap (key_until c.args.self.now) at) c.after.ensures in
    search (rules, is)

pub returns : goal.returns
returns c =
    let self = c.args.self.now in
    let e = at_place self c.args.index c.requires in
    let at : c.loop.counter ≡ c.args.index = omega (arith, c.loop-test.false, c.loop.auto.counter-end) in
    let both = sym c.unwrap-key.ensures ∙ key_after self c.facts.ensures.ordered c.args.index c.requires (c.as_ref-2.ensures.value ∙ c.loop.invariant ∙ ap (key_until self) at) c.after.ensures in
    let key : c.unwrap-key.result ≡ e.0.0 = cc in
    let rule : option_copied c.get-rule.result ≡ e.0.1 = c.get-rule.ensures ∙ ap (rule_at self) key ∙ rule_at_key self c.facts.ensures.distinct c.args.index e.0 e.1 in
    ap₂ (λ k r. Some (k, r)) key rule ∙ sym e.1
