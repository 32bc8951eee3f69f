-- By where the row stands, or would.
use Rattle.std.proofs.Common.{sym}
use Rattle.mt_store.proofs.FoundLemmas.{replaced-row, row-fits}
use Rattle.mt_store.proofs.pages.Pages.set.Goals as goal

pub returns-in-Ok : goal.returns-in-Ok
returns-in-Ok c =
    rw (← c.self.view_is) (replaced-row c.self.inside.pages.items c.args.key c.in-Ok.spot c.args.value c.replace.result c.replace.new.self c.self.invariant.ordered (rw (← c.self.view_is) at c.in-Ok.ensures) (rw (← c.self.view_is) at c.replace.ensures))

pub returns-in_ok-insert-in-Err : goal.returns-in_ok-insert-in-Err
returns-in_ok-insert-in-Err c = (sym (row-fits c.args.self.now c.args.key c.in-Err.spot c.in-Err.ensures), c.in_ok-insert-in-Err.ensures.rows)
