-- What an event asks with its names lent is the event, and the reply is what was told.
use Rattle.std.proofs.Common.{ap, subst, sym}
use Rattle.mt_event.specs.Asks.{event_of_ask}
use Rattle.mt_event.specs.Events.{answer_from, event_of}
use Rattle.mt_site.specs.Applied.{Applied}
use Rattle.mt_site.proofs.site.Site.apply.Goals as goal

pub returns-clause-applied : goal.returns-clause-applied
returns-clause-applied g c =
    let scopes = g.W.Asks.scopes c.args.self.now.watchers in
    let may_answer = g.W.Asks.may_answer c.args.self.now.watchers in
    let old = c.args.self.now.core in
    let new = c.apply-told.new.self in
    let ask = c.ask-ask.result in
    subst (λ e. Applied scopes may_answer old e (answer_from c.reply.result) new) (ap event_of c.ask-ask.ensures)
    (subst (λ a. Applied scopes may_answer old (event_of_ask ask) a new) (sym c.reply.ensures) c.apply-told.ensures)
