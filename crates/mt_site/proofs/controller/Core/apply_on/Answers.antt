-- What tells of a workflow asks nobody.
use Rattle.mt_event.specs.Asks.{event_on}
use Rattle.mt_event.specs.declared.ask.Verb.TheVariants as verb
use Rattle.mt_site.specs.Asks.{answer_on}
use Rattle.mt_site.proofs.AppliedLemmas.{with_watchers}
use Rattle.mt_site.proofs.controller.Core.apply_on.Goals as goal

pub returns-in-Show : goal.returns-in-Show
returns-in-Show g c =
    let scopes = g.W.Asks.scopes c.args.watchers.now in
    let may_answer = g.W.Asks.may_answer c.args.watchers.now in
    let old = c.args.self.now in
    let applied = c.show.ensures scopes in
    rw c.in-Show.is (with_watchers scopes may_answer old (event_on c.args.workflow.now verb.Show) (answer_on old c.args.workflow.now verb.Show c.show.result) old applied.applies applied)
