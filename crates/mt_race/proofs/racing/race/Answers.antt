-- There is an opening at which the move was set up, with the scopes of these watchers.
use Rattle.std.proofs.Common.{◌≡◌, ◌∙◌, ap, subst, sym}
use Rattle.mt_plain.specs.Plain.{opening}
use Rattle.mt_stands.specs.Ways.{CoreStands}
use Rattle.mt_race.specs.Agreements.{IsSetUp}
use Rattle.mt_race.proofs.RaceLemmas.{is_set_up, raced_at}
use Rattle.mt_race.proofs.racing.race.Goals as goal

pub returns-clause-raced : goal.returns-clause-raced
returns-clause-raced g c =
    let scopes_of = g.W.Asks.scopes in
    let site = c.open-site.result in
    let core = c.set_up.new.site.core in
    let made : IsSetUp (scopes_of site.watchers) core = is_set_up (scopes_of site.watchers) site.core core c.in_ok-set_up.ensures.sets_up (subst (λ w. CoreStands (opening (scopes_of w)) (scopes_of w) site.core) (sym c.open-site.ensures.watchers) c.open-site.ensures.stands) in
    raced_at (scopes_of c.set_up.new.site.watchers) (scopes_of c.args.watchers) core c.args.clients c.args.writes c.race_named.result
    (ap scopes_of (c.set_up.ensures.watchers ∙ c.open-site.ensures.watchers))
    (subst (λ w. IsSetUp (scopes_of w) core) (sym c.set_up.ensures.watchers) made) c.race_named.ensures.raced
