-- A key that is reserved has a place.
use Rattle.std.proofs.Common.{ap, is_some, ◌∙◌}
use Rattle.std.specs.Map.{lookup}
use Rattle.mt_names.specs.Same.{same_key}
use Rattle.mt_model.proofs.TopologyLemmas.{with_rule_place-there}
use Rattle.mt_topology.proofs.rules.put_rule.Goals as goal

pub put-requires : goal.put-requires
put-requires c = ap (λ rules. is_some (lookup (same_key c.args.key.now) rules)) c.in-Ok.ensures.1 ∙ with_rule_place-there c.args.rules.now c.args.key.now
