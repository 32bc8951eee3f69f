-- The first row behind where the key stands, or would.
use Rattle.std.proofs.Common.{rules, ◌∙◌, sym, ◌≤◌, ◌<◌, length}
use Rattle.mt_store.specs.Pages.{FitsAt, StandsAt}
use Rattle.mt_store.proofs.FoundLemmas.{find-all, find-fits, find-stands}
use Rattle.mt_store.proofs.PagesLemmas.{most-rows}
use Rattle.mt_store.proofs.pages.Pages.row_after.Goals as goal

pub returns-in_default : goal.returns-in_default
returns-in_default c = rw c.in_default.is (c.first_from.ensures ∙ sym (find-all _))

pub overflow_add-spot : goal.overflow_add-spot
overflow_add-spot c =
    let stands : StandsAt c.self.inside.pages.items c.in-Some.key c.in-Ok.spot = rw (← c.self.view_is) at c.in-Ok.ensures in
    let most = most-rows c.self.inside.pages.items c.self.invariant c.in-Ok.spot.page stands.page in
    let low = stands.at in
    search rules

pub from-requires : goal.from-requires
from-requires c =
    let stands : StandsAt c.self.inside.pages.items c.in-Some.key c.in-Ok.spot = rw (← c.self.view_is) at c.in-Ok.ensures in
    let page : c.in-Ok.spot.page < length c.self.inside.pages.items = stands.page in
    search rules

pub from-requires-in-Err : goal.from-requires-in-Err
from-requires-in-Err c =
    let fits : FitsAt c.self.inside.pages.items c.in-Some.key c.in-Err.spot = rw (← c.self.view_is) at c.in-Err.ensures in
    let page : c.in-Err.spot.page ≤ length c.self.inside.pages.items = fits.page in
    search rules

pub returns-in-Ok : goal.returns-in-Ok
returns-in-Ok c =
    let stands : StandsAt c.self.inside.pages.items c.in-Some.key c.in-Ok.spot = rw (← c.self.view_is) at c.in-Ok.ensures in
    rw (c.in-Some.is, ← c.self.view_is) (rw (← c.self.view_is) at c.from.ensures ∙ sym (find-stands c.self.inside.pages.items c.self.invariant.ordered c.in-Some.key c.in-Ok.spot stands.value stands.page stands.row))

pub returns-in-Err : goal.returns-in-Err
returns-in-Err c = rw c.in-Some.is (c.from-in-Err.ensures ∙ sym (find-fits c.args.self.now c.in-Some.key c.in-Err.spot c.in-Err.ensures))
