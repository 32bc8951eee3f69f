-- Part by part.
use Rattle.std.proofs.Common.{rules, option_copied}
use Rattle.mt_rules.proofs.CompareLemmas.{parts_in_turn}
use Rattle.mt_rules.proofs.walk.compare.Goals as goal

pub returns : goal.returns
returns c =
    let parts = parts_in_turn c.args.key.0 c.args.other.0 (option_copied c.args.key.1) (option_copied c.args.other.1) c.args.key.2.now c.args.other.2.now in
    search (rules, parts)
