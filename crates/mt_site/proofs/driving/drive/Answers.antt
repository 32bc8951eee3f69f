-- The drive goes further with each turn, and never runs out of turns.
use Rattle.std.proofs.Common.{◌≡◌, ◌+◌, ◌-◌, suc, Ok, Err, refl, arith, subst, sym, ap, ◌∙◌}
use Rattle.std.proofs.lemmas.Result.{err_from_is_err_and}
use Rattle.mt_event.specs.declared.reason.Reason.TheVariants as reason
use Rattle.mt_event.specs.declared.refusal.Refusal.TheVariants as refusal
use Rattle.mt_event.specs.Events.{refusal_from}
use Rattle.mt_event.specs.Asks.{answer_told_by, event_on}
use Rattle.mt_plain.specs.Drive as plain
use Rattle.mt_plain.specs.Drive.{begins, most_turns}
use Rattle.mt_plain.specs.Events.{done}
use Rattle.mt_event.specs.declared.driven.Driven.TheVariants as driven
use Rattle.mt_event.specs.Drives.{driven_from}
use Rattle.mt_site.specs.Asks.{answer_on}
use Rattle.mt_site.specs.Drives.{DrivesFrom, IsOnItsWay, Turns, turn_from}
use Rattle.mt_site.specs.Stood.{IsCoreWith, StaysCore}
use Rattle.mt_site.proofs.DriveLemmas.{drive_keeps}
use Rattle.mt_site.proofs.PurgeLemmas.{nothing_shown}
use Rattle.mt_site.proofs.StoodLemmas.{stays_further}
use Rattle.mt_site.proofs.TurnLemmas.{ends_so, goes_further, heard_begin, never_out, refused_begin, starts, turn_taken}
use Rattle.mt_site.proofs.driving.drive.Goals as goal

pub returns-in_err-apply_on-clause-drives : goal.returns-in_err-apply_on-clause-drives
returns-in_err-apply_on-clause-drives g c =
    let scopes = g.W.Asks.scopes c.args.site.now.watchers in
    let start = begins c.args.workflow.now c.args.types c.args.back in
    let old = c.args.site.now.core in
    let new = c.apply_on.new.self in
    let e = err_from_is_err_and c.from_residual.result c.from_residual.ensures.1 in
    subst (λ r. DrivesFrom scopes old c.args.workflow.now c.args.types c.args.back r new) (sym e.1)
    (record {
      each = refused_begin scopes old new c.args.workflow.now c.args.types c.args.back e.0 1399
          (turn_taken scopes old new start (plain.ends (Err (refusal_from e.0))) (event_on c.args.workflow.now c.begin_of.result) (answer_on new c.args.workflow.now c.begin_of.result c.apply_on.result) c.apply_on.ensures.steps
          (λ p stands. c.begin_of.ensures.asks p c.args.workflow.now) (λ q stands. ap (λ r. plain.heard q start (answer_on new c.args.workflow.now c.begin_of.result r)) c.in_err-apply_on.was ∙ ap (λ r. plain.ends (Err (refusal_from r))) (sym e.2)));
    })

pub returns-in_err-apply_on-clause-headline : goal.returns-in_err-apply_on-clause-headline
returns-in_err-apply_on-clause-headline g c =
    drive_keeps (g.W.Asks.scopes c.args.site.now.watchers) c.args.site.now.core c.apply_on.new.self c.args.workflow.now c.args.types c.args.back c.from_residual.result most_turns
    (returns-in_err-apply_on-clause-drives g c).each c.every_run_keeps_the_headline.ensures.with_earlier_lines

pub loop-init : goal.loop-init
loop-init g c =
    let scopes = g.W.Asks.scopes c.args.site.now.watchers in
    let start = begins c.args.workflow.now c.args.types c.args.back in
    let old = c.args.site.now.core in
    let new = c.apply_on.new.self in
    let law = c.a_drive_fits_in_the_turns_that_are_left.ensures in
    record {
      watchers = refl;
      stays = (c.apply_on.ensures.stood, c.apply_on.ensures.purged);
      way = goes_further scopes old old new start start (plain.steps c.args.workflow.now 64) 1399 law.goes_on
          (starts scopes old start (λ p. law.begins p c.args.workflow.now c.args.types c.args.back))
          (turn_taken scopes old new start (plain.goes_on (plain.steps c.args.workflow.now 64)) (event_on c.args.workflow.now c.begin_of.result) (answer_on new c.args.workflow.now c.begin_of.result c.apply_on.result) c.apply_on.ensures.steps
          (λ p stands. c.begin_of.ensures.asks p c.args.workflow.now)
          (λ q stands. ap (λ lent. plain.heard q start (answer_told_by lent c.apply_on.result)) (nothing_shown new c.args.workflow.now c.begin_of.result c.begin_of.ensures.changes)
          ∙ ap (λ r. plain.heard q start (answer_told_by done r)) c.in_ok-apply_on.was ∙ heard_begin q c.args.workflow.now c.args.types c.args.back c.in_ok-apply_on.field-0));
    }

pub returns-in-Ends-clause-drives : goal.returns-in-Ends-clause-drives
returns-in-Ends-clause-drives g c =
    let name = c.args.workflow.now in
    let scopes = g.W.Asks.scopes c.args.site.now.watchers in
    let start = begins name c.args.types c.args.back in
    let old = c.args.site.now.core in
    let now = c.loop.site.core in
    let new = c.take.new.core in
    let driving = turn_from name c.loop.turn in
    let turn : Turns scopes now driving (plain.ends (Ok (driven_from c.driven.result))) new
    = subst (λ w. Turns (g.W.Asks.scopes w) now driving (plain.ends (Ok (driven_from c.driven.result))) new) c.loop.invariant.watchers
    (subst (λ d. Turns (g.W.Asks.scopes c.loop.site.watchers) now driving (plain.ends (Ok d)) new) (sym c.driven.ensures) c.in-Ends.ensures.turns) in
    let left : 1400 - c.loop.counter ≡ suc (1399 - c.loop.counter) = omega (arith, c.loop-test.true) in
    record {
      each = ends_so scopes old now new start driving c.driven.result (1399 - c.loop.counter)
          (subst (λ n. IsOnItsWay scopes old start n driving now) left c.loop.invariant.way) turn;
    }

pub returns-in-Ends-clause-headline : goal.returns-in-Ends-clause-headline
returns-in-Ends-clause-headline g c =
    drive_keeps (g.W.Asks.scopes c.args.site.now.watchers) c.args.site.now.core c.take.new.core c.args.workflow.now c.args.types c.args.back (Ok c.driven.result) most_turns
    (returns-in-Ends-clause-drives g c).each c.every_run_keeps_the_headline.ensures.with_earlier_lines

pub loop-preserved : goal.loop-preserved
loop-preserved g c =
    let name = c.args.workflow.now in
    let scopes = g.W.Asks.scopes c.args.site.now.watchers in
    let start = begins name c.args.types c.args.back in
    let old = c.args.site.now.core in
    let now = c.loop.site.core in
    let new = c.take.new.core in
    let driving = turn_from name c.loop.turn in
    let after = turn_from name c.in-GoesOn.next in
    let turn : Turns scopes now driving (plain.goes_on after) new
    = subst (λ w. Turns (g.W.Asks.scopes w) now driving (plain.goes_on after) new) c.loop.invariant.watchers c.in-GoesOn.ensures.turns in
    let left : 1400 - c.loop.counter ≡ suc (1400 - (c.loop.counter + 1)) = omega (arith, c.loop-test.true) in
    record {
      watchers = c.loop.invariant.watchers;
      stays = stays_further scopes old now new c.loop.invariant.stays (subst (λ w. StaysCore (g.W.Asks.scopes w) now new) c.loop.invariant.watchers c.in-GoesOn.ensures.stays);
      way = goes_further scopes old now new start driving after (1400 - (c.loop.counter + 1)) c.a_drive_fits_in_the_turns_that_are_left.ensures.goes_on
          (subst (λ n. IsOnItsWay scopes old start n driving now) left c.loop.invariant.way) turn;
    }

pub returns-clause-drives : goal.returns-clause-drives
returns-clause-drives g c =
    let name = c.args.workflow.now in
    let scopes = g.W.Asks.scopes c.args.site.now.watchers in
    let start = begins name c.args.types c.args.back in
    let old = c.args.site.now.core in
    let now = c.loop.site.core in
    let driving = turn_from name c.loop.turn in
    let none : 1400 - c.loop.counter ≡ 0 = omega (arith, c.loop-test.false) in
    record {
      each = never_out scopes old now now start driving (Ok (driven.Stopped (refusal.Other reason.NotLevel) 0)) c.a_drive_fits_in_the_turns_that_are_left.ensures.never_runs_out
          (subst (λ n. IsOnItsWay scopes old start n driving now) none c.loop.invariant.way);
    }

pub returns-clause-headline : goal.returns-clause-headline
returns-clause-headline g c =
    drive_keeps (g.W.Asks.scopes c.args.site.now.watchers) c.args.site.now.core c.loop.site.core c.args.workflow.now c.args.types c.args.back (Ok (driven.Stopped (refusal.Other reason.NotLevel) 0)) most_turns
    (returns-clause-drives g c).each c.every_run_keeps_the_headline.ensures.with_earlier_lines

pub returns-in-Ends-clause-stood : goal.returns-in-Ends-clause-stood
returns-in-Ends-clause-stood g c = λ stood.
    let new = c.take.new.core in
    subst (λ w. IsCoreWith (g.W.Asks.scopes w) new) (sym c.loop.invariant.watchers)
    ((subst (λ w. StaysCore (g.W.Asks.scopes w) c.loop.site.core new) c.loop.invariant.watchers c.in-Ends.ensures.stays).0 (c.loop.invariant.stays.0 stood))

pub returns-in-Ends-clause-purged : goal.returns-in-Ends-clause-purged
returns-in-Ends-clause-purged g c = λ was. c.in-Ends.ensures.stays.1 (c.loop.invariant.stays.1 was)

pub returns-clause-stood : goal.returns-clause-stood
returns-clause-stood g c = λ stood.
    subst (λ w. IsCoreWith (g.W.Asks.scopes w) c.loop.site.core) (sym c.loop.invariant.watchers) (c.loop.invariant.stays.0 stood)

pub returns-clause-purged : goal.returns-clause-purged
returns-clause-purged g c = c.loop.invariant.stays.1
