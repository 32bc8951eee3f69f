-- The watchers have the scopes of a race.
use Rattle.std.proofs.Common.{◌≡◌, ◌≤◌, true, length, sym, ◌∙◌, subst}
use Rattle.std.proofs.lemmas.List.{take_all}
use Rattle.std.specs.Prelude.{IfOk}
use Rattle.mt_race.specs.Agreements.{RacedAt}
use Rattle.mt_race.proofs.watched.race_watched.Goals as goal

pub returns-clause-raced : goal.returns-clause-raced
returns-clause-raced g c =
    let past : length c.race_scopes-scopes.result ≤ c.loop-scope.scope-index = subst (λ scopes. length scopes ≤ c.loop-scope.scope-index) (sym c.race_scopes-scopes.ensures) c.loop-scope-test.false in
    let same = c.loop-scope.invariant ∙ take_all c.loop-scope.scope-index c.race_scopes-scopes.result past ∙ c.race_scopes-scopes.ensures in
    subst (λ scopes. IfOk c.race.result (λ raced. raced.agree ≡ true → RacedAt scopes c.args.clients c.args.writes raced)) same c.race.ensures.raced
