-- What is taken leads from each state that the controller stands for to the next one, also with its logs purged, and of a run that goes on
-- with it the headline holds.
use Rattle.std.proofs.Common.{◌≡◌, Err, refl, rules, sym, subst}
use Rattle.std.proofs.lemmas.Bool.{true≢false}
use Rattle.mt_event.specs.Asks.{event_of_ask}
use Rattle.mt_event.specs.Events.{refusal_from}
use Rattle.mt_plain.specs.Events.{done, refused}
use Rattle.mt_stands.specs.Purges.{IsPurged}
use Rattle.mt_stands.specs.Ways.{CoreState, CoreSteps}
use Rattle.mt_site.proofs.AppliedLemmas.{applied_by}
use Rattle.mt_site.proofs.PurgeLemmas.{hand_purges, site_of}
use Rattle.mt_site.proofs.controller.Core.apply_by_hand.Goals as goal

pub returns : goal.returns
returns g c =
    let scopes = g.W.Asks.scopes c.args.watchers.now in
    let may_answer = g.W.Asks.may_answer c.args.watchers.now in
    let old = c.args.self.now in
    let event = event_of_ask c.args.ask in
    let made = c.take_by_hand.new.self in
    let new = c.purge.new.self in
    let taken = c.in_ok-take_by_hand.ensures in
    applied_by scopes may_answer old event done new c.every_run_keeps_the_headline.ensures.with_earlier_lines
    (made, taken.applies, hand_purges c.args.ask c.requires done made new c.purge.ensures.base c.purge.ensures.ways)
    (subst (CoreSteps scopes old event done) (site_of made new c.purge.ensures.ways)
    (c.a_purged_core_stands.ensures.steps scopes old made event done new.base taken.steps (c.a_purged_base_stands.ensures.all made.base new.base done c.purge.ensures.base)))
    (λ is. absurd (true≢false (sym is)))
    (λ can. refl)
    (λ was. subst IsPurged (sym c.purge.ensures.base) (c.what_is_purged_stays_purged.ensures.all made.base))

pub returns-in_err-take_by_hand : goal.returns-in_err-take_by_hand
returns-in_err-take_by_hand g c =
    let scopes = g.W.Asks.scopes c.args.watchers.now in
    let may_answer = g.W.Asks.may_answer c.args.watchers.now in
    let old = c.args.self.now in
    let event = event_of_ask c.args.ask in
    let made = c.take_by_hand.new.self in
    let why = c.in_err-take_by_hand.field-0.0 in
    let answer = refused (refusal_from why) in
    let taken = c.in_err-take_by_hand.ensures in
    let answered : c.from_residual.result ≡ Err why = search rules in
    let purged : CoreState → Type 0 = λ s. IsPurged s.base in
    rw answered
    (applied_by scopes may_answer old event answer made c.every_run_keeps_the_headline.ensures.with_earlier_lines
    (made, taken.applies, hand_purges c.args.ask c.requires answer made made refl refl)
    taken.steps
    taken.unchanged
    (λ can. c.a_move_can_be_given_up.ensures old made event answer taken.applies can)
    (λ was. subst purged (sym (taken.unchanged refl)) was))
