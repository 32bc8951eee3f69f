-- The type keeps it, and each run keeps the headline.
use Rattle.std.proofs.Common.{subst, sym}
use Rattle.mt_desk.specs.Histories.{Leads}
use Rattle.mt_desk.proofs.LeadsLemmas.{headline_holds}
use Rattle.mt_desk.proofs.book.Book.lines.Goals as goal

pub returns-clause-leads : goal.returns-clause-leads
returns-clause-leads g c =
    subst (λ lines. ∥ Leads g.D.DeskName.scopes g.D.DeskName.opening lines c.args.self.now.core ∥₁) (sym c.as_slice.ensures.value) c.args.self.now.legal

pub returns-clause-headline : goal.returns-clause-headline
returns-clause-headline g c =
    headline_holds g.D.DeskName.scopes g.D.DeskName.opening c.args.self.now.core c.as_slice.result.now c.every_run_keeps_the_headline.ensures.from_each_state (returns-clause-leads g c)
