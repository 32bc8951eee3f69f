-- The events were applied one after the other, and each was taken.
use Rattle.std.proofs.Common.{◌≡◌, All, true, subst}
use Rattle.std.specs.Prelude.{is_ok}
use Rattle.mt_race.proofs.RaceLemmas.{at_ok, sets_up}
use Rattle.mt_race.proofs.moving.set_up.Goals as goal

pub returns-in-Ok-clause-sets_up : goal.returns-in-Ok-clause-sets_up
returns-in-Ok-clause-sets_up g c =
    at_ok c.all_taken.result
    (λ all. sets_up (g.W.Asks.scopes c.args.site.now.watchers) c.args.site.now.core c.run_events.new.site.core c.events.result c.in-Ok.answers.items c.events.ensures c.in-Ok.ensures.runs
    (subst (All (λ answer. is_ok answer ≡ true)) c.deref.ensures.value all))
    c.all_taken.ensures
