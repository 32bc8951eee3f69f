-- By where it stands, or would.
use Rattle.std.proofs.Common.{sym}
use Rattle.mt_store.proofs.FoundLemmas.{row-fits, same-row}
use Rattle.mt_store.proofs.pages.Pages.get.Goals as goal

pub returns-in-Ok : goal.returns-in-Ok
returns-in-Ok c =
    rw (← c.self.view_is) (same-row c.self.inside.pages.items c.args.key c.in-Ok.spot c.at.result.now c.self.invariant.ordered (rw (← c.self.view_is) at c.in-Ok.ensures) (rw (← c.self.view_is) at c.at.ensures))

pub returns-in-Err : goal.returns-in-Err
returns-in-Err c = sym (row-fits c.args.self.now c.args.key c.in-Err.field-0 c.in-Err.ensures)
