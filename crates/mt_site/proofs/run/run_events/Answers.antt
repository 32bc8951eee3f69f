-- One event more is applied, and its answer is the next one; of the whole run the headline holds.
use Rattle.std.proofs.Common.{map, ◌≤◌, ◌∙◌, add-one, length, rules, subst, suc, sym, take}
use Rattle.std.proofs.lemmas.List.{take_all}
use Rattle.mt_event.specs.Events.{answer_from, event_of}
use Rattle.mt_stands.specs.Ways.{CoreSteps}
use Rattle.mt_site.proofs.RunLemmas.{headline_kept, runs_more}
use Rattle.mt_site.proofs.StoodLemmas.{stood_behind}
use Rattle.mt_site.proofs.run.run_events.Goals as goal
use Rattle.mt_site.specs.Runs.{Runs}
use Rattle.mt_site.specs.Stood.{IsCoreWith}

pub loop-event-preserved : goal.loop-event-preserved
loop-event-preserved g c =
    let i = c.loop-event.event-index in
    let events = c.args.events.now in
    let scopes = g.W.Asks.scopes c.args.site.now.watchers in
    let old = c.args.site.now.core in
    let new = c.apply.new.self.core in
    let step : CoreSteps scopes c.loop-event.site.core (event_of c.event-item.result) (answer_from c.apply.result) new
    = subst (λ w. CoreSteps (g.W.Asks.scopes w) c.loop-event.site.core (event_of c.event-item.result) (answer_from c.apply.result) new) c.loop-event.invariant.watchers c.apply.ensures.applied.steps in
    record {
      room = subst (λ n. length events ≤ n) (sym c.push_reserved.ensures.capacity) c.loop-event.invariant.room;
      count = search rules;
      watchers = c.apply.ensures.watchers ∙ c.loop-event.invariant.watchers;
      runs = subst (λ n. Runs scopes old (take n events) c.push_reserved.new.self.items new) (sym (add-one i))
          (subst (λ rs. Runs scopes old (take (suc i) events) rs new) (sym c.push_reserved.ensures.items)
          (runs_more scopes old c.loop-event.site.core new events c.loop-event.answers.items i c.event-item.result c.apply.result c.loop-event-test.true c.event-item.is c.loop-event.invariant.runs step));
      purged = λ was. c.apply.ensures.applied.purged (c.loop-event.invariant.purged was);
    }

pub returns-clause-headline : goal.returns-clause-headline
returns-clause-headline g c =
    let events = c.args.events.now in
    let answers = c.loop-event.answers.items in
    let scopes = g.W.Asks.scopes c.args.site.now.watchers in
    let old = c.args.site.now.core in
    let new = c.loop-event.site.core in
    headline_kept scopes old new (map event_of events) (map answer_from answers)
    (subst (λ es. Runs scopes old es answers new) (take_all c.loop-event.event-index events c.loop-event-test.false) c.loop-event.invariant.runs)
    c.every_run_keeps_the_headline.ensures.with_earlier_lines

pub returns-clause-stood : goal.returns-clause-stood
returns-clause-stood g c = λ stood.
    let events = c.args.events.now in
    let answers = c.loop-event.answers.items in
    let scopes = g.W.Asks.scopes c.args.site.now.watchers in
    let old = c.args.site.now.core in
    let new = c.loop-event.site.core in
    subst (λ w. IsCoreWith (g.W.Asks.scopes w) new) (sym c.loop-event.invariant.watchers)
    (stood_behind scopes old new events answers
    (subst (λ es. Runs scopes old es answers new) (take_all c.loop-event.event-index events c.loop-event-test.false) c.loop-event.invariant.runs) stood)
