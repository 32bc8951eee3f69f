-- What is taken leads from each state that the controller stands for to the next one, also with its logs purged, and of a run that goes on
-- with it the headline holds.
use Rattle.std.proofs.Common.{◌≡◌, Ok, Err, refl, rules, sym, subst}
use Rattle.mt_event.specs.Asks.{answer_told_by, event_on}
use Rattle.mt_event.specs.Reasons.{reason_from}
use Rattle.mt_plain.specs.Events.{done, refused}
use Rattle.mt_stands.specs.Purges.{IsPurged}
use Rattle.mt_stands.specs.Ways.{CoreState, CoreSteps}
use Rattle.mt_site.specs.Applied.{Applied}
use Rattle.mt_site.proofs.AppliedLemmas.{applied_by}
use Rattle.mt_site.proofs.PurgeLemmas.{change_purges, nothing_shown, site_of, told_purges, told_taken}
use Rattle.mt_site.proofs.controller.Core.change.Goals as goal

pub returns : goal.returns
returns g c =
    let scopes = g.W.Asks.scopes c.args.watchers.now in
    let may_answer = g.W.Asks.may_answer c.args.watchers.now in
    let old = c.args.self.now in
    let name = c.args.workflow.now in
    let event = event_on name c.args.verb in
    let made = c.take_on.new.self in
    let new = c.purge.new.self in
    let told = c.in_ok-told.told in
    let answer = answer_told_by done (Ok told) in
    let taken = c.in_ok-told.ensures in
    let purges = told_purges told made.base new.base c.purge.ensures.base in
    subst (λ lent. Applied scopes may_answer old event (answer_told_by lent (Ok told)) new) (sym (nothing_shown new name c.args.verb c.requires))
    (applied_by scopes may_answer old event answer new c.every_run_keeps_the_headline.ensures.with_earlier_lines
    (made, taken.applies, change_purges name c.args.verb c.requires answer made new purges c.purge.ensures.ways)
    (subst (CoreSteps scopes old event answer) (site_of made new c.purge.ensures.ways)
    (c.a_purged_core_stands.ensures.steps scopes old made event answer new.base taken.steps (c.a_purged_base_stands.ensures.all made.base new.base answer purges)))
    (told_taken told (new ≡ old))
    (λ can. c.a_move_can_be_given_up.ensures old made event answer taken.applies can)
    (λ was. subst IsPurged (sym c.purge.ensures.base) (c.what_is_purged_stays_purged.ensures.all made.base)))

pub returns-in_err-told : goal.returns-in_err-told
returns-in_err-told g c =
    let scopes = g.W.Asks.scopes c.args.watchers.now in
    let may_answer = g.W.Asks.may_answer c.args.watchers.now in
    let old = c.args.self.now in
    let name = c.args.workflow.now in
    let event = event_on name c.args.verb in
    let made = c.take_on.new.self in
    let why = c.in_err-told.field-0.0 in
    let answer = refused (reason_from why) in
    let taken = c.in_err-told.ensures in
    let answered : c.from_residual.result ≡ Err why = search rules in
    let purged : CoreState → Type 0 = λ s. IsPurged s.base in
    rw answered
    (applied_by scopes may_answer old event answer made c.every_run_keeps_the_headline.ensures.with_earlier_lines
    (made, taken.applies, change_purges name c.args.verb c.requires answer made made refl refl)
    taken.steps
    taken.unchanged
    (λ can. c.a_move_can_be_given_up.ensures old made event answer taken.applies can)
    (λ was. subst purged (sym (taken.unchanged refl)) was))
