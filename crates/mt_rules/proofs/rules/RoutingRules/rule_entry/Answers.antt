-- The rule of the next place, or one of a later one.
use Rattle.std.proofs.Common.{ℕ, ◌≡◌, ◌<◌, ◌+◌, None, Some, drop, length, slice_get, arith, sym, ap, ap₂, ◌∙◌}
use Rattle.mt_model.specs.declared.entries.Entry.TheVariants as entry
use Rattle.mt_model.specs.Part.{rule_routes}
use Rattle.mt_model.specs.Topology.{rule_at}
use Rattle.mt_rules.proofs.WalkLemmas.{at_place, from_place, key_after, last_key, rule_at_key, ruled_first, ruled_later, unruled_first}
use Rattle.mt_rules.proofs.rules.RoutingRules.rule_entry.Goals as goal
use Rattle.mt_rules.proofs.rules.RoutingRules.rule_entry.Goals.{in-Some+else-left-eq0, in_default}

pub returns-in_err-key : goal.returns-in_err-key
returns-in_err-key c =
    let self = c.args.self.now in
    let within : c.loop.counter < length self = omega (arith, c.loop-test.true, c.len-end.ensures.len, ap length c.self.view_is) in
    let is = key_after self c.facts.ensures.ordered c.loop.counter within (c.as_ref.ensures.value ∙ c.loop.invariant.0) c.in_err-key.ensures in
    absurd cc

pub returns-then-left-eq0 : goal.returns-then-left-eq0
returns-then-left-eq0 c =
    let self = c.args.self.now in
    let i = c.loop.counter in
    let within : i < length self = omega (arith, c.loop-test.true, c.len-end.ensures.len, ap length c.self.view_is) in
    let e = at_place self i within in
    let both = key_after self c.facts.ensures.ordered i within (c.as_ref.ensures.value ∙ c.loop.invariant.0) c.in_ok-key.ensures in
    let key : c.in_ok-key.key ≡ e.0.0 = cc in
    let rule : Some c.in-Some.target.now ≡ e.0.1 = c.in-Some.ensures ∙ ap (rule_at self) key ∙ rule_at_key self c.facts.ensures.distinct i e.0 e.1 in
    ap₂ (λ k t. Some (entry.Rule k (Some t))) key c.copied.ensures
    ∙ sym (c.loop.invariant.1 ∙ ap (slice_get (rule_routes (drop i self))) c.if-left-eq0.true ∙ ap (λ l. slice_get (rule_routes l) 0) (from_place self i e.0 e.1)
    ∙ ruled_first e.0 c.in-Some.target.now (drop (i + 1) self) (sym rule))

pub loop-preserved : goal.loop-preserved
loop-preserved c =
    let self = c.args.self.now in
    let i = c.loop.counter in
    let within : i < length self = omega (arith, c.loop-test.true, c.len-end.ensures.len, ap length c.self.view_is) in
    let e = at_place self i within in
    let both = key_after self c.facts.ensures.ordered i within (c.as_ref.ensures.value ∙ c.loop.invariant.0) c.in_ok-key.ensures in
    let key : c.in_ok-key.key ≡ e.0.0 = cc in
    let rule : rule_at self c.in_ok-key.key ≡ e.0.1 = ap (rule_at self) key ∙ rule_at_key self c.facts.ensures.distinct i e.0 e.1 in
    let left = c.loop.invariant.1 ∙ ap (λ l. slice_get (rule_routes l) c.loop.left) (from_place self i e.0 e.1) in (
      ap Some key ∙ sym (last_key self i e.0 e.1),
      elim c.match-get.branch [
        | in-Some+else-left-eq0 w ↦
            let more : 0 < c.loop.left = omega (arith, w.if-left-eq0.false) in
            left ∙ ruled_later e.0 w.in-Some.target.now (drop (i + 1) self) c.loop.left (sym (w.in-Some.ensures ∙ rule)) more ∙ ap (slice_get (rule_routes (drop (i + 1) self))) (sym w.left-is)
        | in_default w ↦
            left ∙ ap (λ l. slice_get l c.loop.left) (unruled_first e.0 (drop (i + 1) self) (sym (w.in_default.ensures ∙ rule))) ∙ ap (slice_get (rule_routes (drop (i + 1) self))) (sym w.left-is)
      ],
    )
