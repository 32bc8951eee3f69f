-- The row is gone, and its page if it was the last.
use Rattle.std.proofs.Common.{rules, length, ◌<◌, ◌≡◌}
use Rattle.mt_store.proofs.EditLemmas.{take-goes, take-stays}
use Rattle.mt_store.proofs.PagesLemmas.{at-found, set-around}
use Rattle.mt_store.proofs.pages.Pages.remove.Goals as goal

pub invariant_of-self : goal.invariant_of-self
invariant_of-self c =
    let pages = c.self.inside.pages.items in
    let within = rw (← c.self.view_is) at c.requires.1.page in
    let stands = rw (← c.self.view_is) at c.requires.1.row in
    let stood = at-found pages c.args.spot.page c.index_mut.result.now within c.index_mut.ensures.value in
    let none : length c.remove-row.new.self ≡ 0 = search rules in
    rw (c.remove.ensures.by_index.2, set-around pages c.args.spot.page c.remove-row.new.self) (take-goes pages c.self.invariant c.args.spot (c.requires.0, c.requires.1.value) within stands c.remove-row.new.self (rw stood at c.remove-row.ensures.rows) none).0

pub invariant_of-self-else-len-eq0 : goal.invariant_of-self-else-len-eq0
invariant_of-self-else-len-eq0 c =
    let pages = c.self.inside.pages.items in
    let within = rw (← c.self.view_is) at c.requires.1.page in
    let stands = rw (← c.self.view_is) at c.requires.1.row in
    let stood = at-found pages c.args.spot.page c.index_mut.result.now within c.index_mut.ensures.value in
    let some : 0 < length c.remove-row.new.self = search rules in
    (take-stays pages c.self.invariant c.args.spot (c.requires.0, c.requires.1.value) within stands c.remove-row.new.self (rw stood at c.remove-row.ensures.rows) some).0

pub returns-then-len-eq0 : goal.returns-then-len-eq0
returns-then-len-eq0 c =
    let pages = c.self.inside.pages.items in
    let within = rw (← c.self.view_is) at c.requires.1.page in
    let stands = rw (← c.self.view_is) at c.requires.1.row in
    let stood = at-found pages c.args.spot.page c.index_mut.result.now within c.index_mut.ensures.value in
    let none : length c.remove-row.new.self ≡ 0 = search rules in
    let row : c.remove-row.result ≡ (c.requires.0, c.requires.1.value) = c.remove-row.ensures.value (c.requires.0, c.requires.1.value) (rw stood stands) in
    rw (row, ← c.self.view_is, c.remove.ensures.by_index.2, set-around pages c.args.spot.page c.remove-row.new.self)
    (stands, (take-goes pages c.self.invariant c.args.spot (c.requires.0, c.requires.1.value) within stands c.remove-row.new.self (rw stood at c.remove-row.ensures.rows) none).1)

pub returns-else-len-eq0 : goal.returns-else-len-eq0
returns-else-len-eq0 c =
    let pages = c.self.inside.pages.items in
    let within = rw (← c.self.view_is) at c.requires.1.page in
    let stands = rw (← c.self.view_is) at c.requires.1.row in
    let stood = at-found pages c.args.spot.page c.index_mut.result.now within c.index_mut.ensures.value in
    let some : 0 < length c.remove-row.new.self = search rules in
    let row : c.remove-row.result ≡ (c.requires.0, c.requires.1.value) = c.remove-row.ensures.value (c.requires.0, c.requires.1.value) (rw stood stands) in
    rw (row, ← c.self.view_is) (stands, (take-stays pages c.self.invariant c.args.spot (c.requires.0, c.requires.1.value) within stands c.remove-row.new.self (rw stood at c.remove-row.ensures.rows) some).1)
