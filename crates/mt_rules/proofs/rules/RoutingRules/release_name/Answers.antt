-- There are no more places than before.
use Rattle.std.proofs.Common.{length, ap, arith}
use Rattle.mt_rules.proofs.RulesLemmas.{released_no_more}
use Rattle.mt_rules.specs.Rules.{four_keys}
use Rattle.std.proofs.Common.{reverse}
use Rattle.mt_rules.proofs.rules.RoutingRules.release_name.Goals as goal

pub invariant_of-self : goal.invariant_of-self
invariant_of-self c =
    let is = ap length c.release_name.ensures in
    omega (arith, is, released_no_more c.self.inside.places (reverse (four_keys c.args.name.now)), c.self.invariant)
