-- Rules counted.
use Rattle.std.proofs.Common.{◌≤◌, [], ◌∷◌, length, Option, None, Some, is_some, cond, ◌++◌, suc, arith}
use Rattle.mt_names.specs.declared.keys.RuleTarget.{RuleTarget}
use Rattle.mt_model.specs.declared.entries.Entry.TheVariants as entry
use Rattle.mt_model.specs.Part.{rule_routes}
use Rattle.mt_model.specs.Topology.{Rules}

-- there are no more routes than places
pub routes_few : (rules : Rules) → length (rule_routes rules) ≤ length rules
routes_few [] = omega arith
routes_few (r ∷ rules) = by (routes_few rules) r.1
  where
    by : length (rule_routes rules) ≤ length rules → (o : Option RuleTarget) → length (cond (is_some o) (entry.Rule r.0 o ∷ []) [] ++ rule_routes rules) ≤ suc (length rules)
    by again None = omega (arith, again)
    by again (Some target) = omega (arith, again)
