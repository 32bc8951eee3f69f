-- Each difference concerns routers, so that the notice has them all.
use Rattle.std.proofs.Common.{◌≡◌, rules}
use Rattle.mt_routes.specs.Publications.{last_routes}
use Rattle.mt_desk.proofs.NoticeLemmas.{told_change}
use Rattle.mt_desk.proofs.tell.noticed.Goals as goal

pub returns-in-Ok-ask-clause-changes : goal.returns-in-Ok-ask-clause-changes
returns-in-Ok-ask-clause-changes g c =
    let is : c.in-Ok-change_of.change ≡ c.in-Ok-differences.entries.items = search rules in
    (told_change _ _ (last_routes c.args.told.now) c.args.topology.now _ _ _ c.in-Ok-differences.ensures is c.in-Ok-ask.ensures).0

pub returns-in-Ok-ask-clause-told : goal.returns-in-Ok-ask-clause-told
returns-in-Ok-ask-clause-told g c =
    let is : c.in-Ok-change_of.change ≡ c.in-Ok-differences.entries.items = search rules in
    (told_change _ _ (last_routes c.args.told.now) c.args.topology.now _ _ _ c.in-Ok-differences.ensures is c.in-Ok-ask.ensures).1
