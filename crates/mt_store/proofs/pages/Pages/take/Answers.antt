-- By where the row stands, or would.
use Rattle.std.proofs.Common.{sym}
use Rattle.mt_store.proofs.FoundLemmas.{no-row, row-fits, taken-row}
use Rattle.mt_store.proofs.pages.Pages.take.Goals as goal

pub returns-in-Ok-clause-stood : goal.returns-in-Ok-clause-stood
returns-in-Ok-clause-stood c =
    rw (← c.self.view_is) (taken-row c.self.inside.pages.items c.args.key c.in-Ok.spot c.remove.result c.remove.new.self c.self.invariant.ordered (rw (← c.self.view_is) at c.in-Ok.ensures) (rw (← c.self.view_is) at c.remove.ensures)).0

pub returns-in-Ok-clause-rows : goal.returns-in-Ok-clause-rows
returns-in-Ok-clause-rows c =
    rw (← c.self.view_is) (taken-row c.self.inside.pages.items c.args.key c.in-Ok.spot c.remove.result c.remove.new.self c.self.invariant.ordered (rw (← c.self.view_is) at c.in-Ok.ensures) (rw (← c.self.view_is) at c.remove.ensures)).1

pub returns-in-Err-clause-stood : goal.returns-in-Err-clause-stood
returns-in-Err-clause-stood c = sym (row-fits c.args.self.now c.args.key c.in-Err.field-0 c.in-Err.ensures)

pub returns-in-Err-clause-rows : goal.returns-in-Err-clause-rows
returns-in-Err-clause-rows c = no-row c.args.self.now c.args.key (sym (row-fits c.args.self.now c.args.key c.in-Err.field-0 c.in-Err.ensures))
