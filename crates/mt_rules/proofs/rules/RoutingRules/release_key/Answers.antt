-- The key has no place; else there is one place less.
use Rattle.std.proofs.Common.{◌≡◌, None, length, rules, arith, ap}
use Rattle.std.specs.Map.{lookup}
use Rattle.mt_names.specs.Same.{same_key}
use Rattle.mt_rules.proofs.RulesLemmas.{length-remove_entry, released-none}
use Rattle.mt_rules.proofs.rules.RoutingRules.release_key.Goals as goal

pub returns-in_default : goal.returns-in_default
returns-in_default c =
    let none : lookup (same_key c.args.key.now) c.args.self.now ≡ None = search rules in
    released-none c.args.self.now c.args.key.now none

pub invariant_of-self : goal.invariant_of-self
invariant_of-self c =
    let is = ap length c.remove.ensures in
    omega (arith, is, length-remove_entry (same_key c.args.key.now) c.self.inside.places, c.self.invariant)
