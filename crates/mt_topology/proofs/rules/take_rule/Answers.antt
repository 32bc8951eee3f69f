-- A rule is taken away with its place.
use Rattle.std.proofs.Common.{◌≡◌, ap, sym, ◌∙◌}
use Rattle.std.specs.Map.{remove_entry}
use Rattle.mt_names.specs.Same.{same_key}
use Rattle.mt_model.specs.Topology.{without_rule_place}
use Rattle.mt_topology.proofs.EditLemmas.{taken_from_place, taken_from_no_place}
use Rattle.mt_topology.proofs.rules.take_rule.Goals as goal
use Rattle.mt_topology.proofs.rules.take_rule.Goals.{then-has_place, else-has_place}

pub returns : goal.returns
returns c =
    let old = c.args.rules.now in
    let key = c.args.key.now in
    c.release_key.ensures ∙ elim c.if-has_place.branch as (λ b. without_rule_place c.if-has_place.rules key ≡ remove_entry (same_key key) old) [
      | then-has_place w ↦ ap (λ rules. without_rule_place rules key) (w.rules-is ∙ w.put.ensures) ∙ taken_from_place old key (sym c.has_place.ensures ∙ w.if-has_place.true)
      | else-has_place w ↦ ap (λ rules. without_rule_place rules key) w.rules-is ∙ taken_from_no_place old key (sym c.has_place.ensures ∙ w.if-has_place.false)
    ]
