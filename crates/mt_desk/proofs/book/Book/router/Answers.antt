-- It knows what the book knows.
use Rattle.std.proofs.Common.{subst, sym, ◌∙◌}
use Rattle.mt_desk.specs.Fronts.{Published}
use Rattle.mt_desk.proofs.ReadingLemmas.{if_ok}
use Rattle.mt_desk.proofs.book.Book.router.Goals as goal

pub returns-in-Ok-clause-published : goal.returns-in-Ok-clause-published
returns-in-Ok-clause-published g c =
    if_ok c.router.result (λ router is. subst (Published g.D.DeskName.scopes g.D.DeskName.opening) (sym (is ∙ c.in-Ok.ensures)) c.told.ensures.published) c.router.ensures
