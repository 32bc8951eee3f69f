-- The row stands in a page of its own, or all is as it was.
use Rattle.std.proofs.Common.{is_ok, Ok, Err}
use Rattle.mt_store.proofs.EditLemmas.{open-told, opened}
use Rattle.mt_store.proofs.pages.Pages.open.Goals.{in-Ok, in-Err}
use Rattle.mt_store.proofs.pages.Pages.open.Goals as goal

pub invariant_of-self : goal.invariant_of-self
invariant_of-self c =
    opened c.self.inside.pages.items c.args.key c.args.value c.self.invariant c.args.place (rw (← c.self.view_is) at c.requires.before) (rw (← c.self.view_is) at c.requires.behind) c.insert.new.self.items (is_ok c.insert.result) (rw c.in_ok-page.ensures at c.insert.ensures.items)

pub returns-clause-rows : goal.returns-clause-rows
returns-clause-rows c =
    elim c.match-insert.branch [
      | in-Ok w ↦ rw (w.result-is, ← c.self.view_is) ((open-told c.self.inside.pages.items c.args.key c.args.value c.self.invariant c.args.place (rw (← c.self.view_is) at c.requires.before) (rw (← c.self.view_is) at c.requires.behind) c.insert.new.self.items (Ok tt) (rw (w.in-Ok.is, c.in_ok-page.ensures) at c.insert.ensures.items)).1)
      | in-Err w ↦ rw (w.result-is, ← c.self.view_is) ((open-told c.self.inside.pages.items c.args.key c.args.value c.self.invariant c.args.place (rw (← c.self.view_is) at c.requires.before) (rw (← c.self.view_is) at c.requires.behind) c.insert.new.self.items (Err (record {})) (rw w.in-Err.is at c.insert.ensures.items)).1)
    ]
