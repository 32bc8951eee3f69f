-- A client that isn't new is one of those that are listed.
use Rattle.std.proofs.Common.{◌∙◌, sym}
use Rattle.mt_desk.proofs.AdmitLemmas.{is_taken}
use Rattle.mt_desk.proofs.book.Book.admit.Goals as goal

pub returns-in-Ok-false-clause-admits : goal.returns-in-Ok-false-clause-admits
returns-in-Ok-false-clause-admits g c =
    is_taken c.args.self.now.clients.keys c.insert.new.self.keys c.args.client (sym c.in-Ok-false.field-0-test ∙ c.in-Ok-false.ensures.added) c.in-Ok-false.ensures.keys
