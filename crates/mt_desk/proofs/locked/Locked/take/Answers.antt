-- What the book keeps of its history is that there was one.
use Rattle.mt_event.specs.Asks.{event_of_ask, owned}
use Rattle.mt_desk.proofs.LeadsLemmas.{step_of, taken}
use Rattle.mt_desk.proofs.locked.Locked.take.Goals as goal

pub returns-clause-taken : goal.returns-clause-taken
returns-clause-taken g c =
    let book = c.args.self.now.book in
    let watchers = c.args.self.now.watchers in
    taken g.D.DeskName.scopes g.D.DeskName.opening book.core c.take.new.self.core book.history.items c.args.client (owned c.args.ask) c.take.result book.legal
    (step_of g.D.DeskName.scopes (g.W.Asks.scopes watchers) (g.W.Asks.may_answer watchers) book.core c.take.new.self.core (event_of_ask c.args.ask) c.take.result c.args.self.now.scoped c.take.ensures.applied)
    c.take.ensures.given_up
