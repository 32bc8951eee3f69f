-- The type keeps it.
use Rattle.mt_desk.proofs.FrontLemmas.{published}
use Rattle.mt_desk.proofs.book.Book.told.Goals as goal

pub returns-clause-published : goal.returns-clause-published
returns-clause-published g c =
    let book = c.args.self.now in
    published g.D.DeskName.scopes g.D.DeskName.opening book.core book.history.items book.told book.legal book.fronts
