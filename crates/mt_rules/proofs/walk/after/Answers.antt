-- It is the first of all that come after the other.
use Rattle.std.proofs.Common.{option_copied, sym, ap, ◌∙◌}
use Rattle.mt_rules.specs.Places.{listed}
use Rattle.mt_rules.specs.Walk.{nearest}
use Rattle.mt_rules.proofs.WalkLemmas.{found_first}
use Rattle.mt_rules.proofs.walk.after.Goals as goal

pub returns : goal.returns
returns c =
    let last = option_copied c.args.last in
    sym (ap (λ l. nearest last c.loop-name.next (listed l)) c.in-None.ensures.steps.0) ∙ c.loop-name.invariant ∙ found_first c.args.names.now.entries last
