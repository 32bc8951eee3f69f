-- The map finds the entry of the number.
use Rattle.std.proofs.Common.{ap, ◌∙◌}
use Rattle.mt_journal.specs.Journal.{entry_of}
use Rattle.mt_journal.proofs.JournalLemmas.{found}
use Rattle.mt_journal.proofs.journal.Journal.find.Goals as goal

pub returns : goal.returns
returns c = c.get.ensures.value ∙ found c.self.inside.places.entries c.args.id c.self.invariant.numbered ∙ ap (λ es. entry_of es c.args.id) c.self.view_is
