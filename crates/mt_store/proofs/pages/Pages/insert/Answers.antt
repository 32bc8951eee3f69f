-- The row is put where it fits.
use Rattle.std.proofs.Common.{rules, length, ◌<◌, arith}
use Rattle.mt_store.proofs.EditLemmas.{below-page, put-behind}
use Rattle.mt_store.proofs.HalfLemmas.{fits-half, room-half, rows-halved}
use Rattle.mt_store.proofs.PagesLemmas.{at-found, full-page, most-rows}
use Rattle.mt_store.proofs.pages.Pages.insert.Goals as goal

pub open-requires-then-spot-eq-MOST-clause-before : goal.open-requires-then-spot-eq-MOST-clause-before
open-requires-then-spot-eq-MOST-clause-before c =
    let within : c.args.spot.page < length c.self.inside.pages.items = search rules in
    let most = most-rows c.self.inside.pages.items c.self.invariant c.args.spot.page within in
    rw (← c.self.view_is) (below-page c.self.inside.pages.items c.args.key c.args.spot (rw (← c.self.view_is) at c.requires) within (omega (arith, most, c.if-spot-eq-MOST.true)))

pub put-requires-2-clause-fits : goal.put-requires-2-clause-fits
put-requires-2-clause-fits c =
    let pages = c.self.inside.pages.items in
    let within : c.args.spot.page < length c.self.inside.pages.items = search rules in
    let stood = at-found pages c.args.spot.page c.index.result.now within c.index.ensures in
    let size = rw stood at c.len-len.ensures in
    let full = full-page pages c.self.invariant c.args.spot.page within (omega (arith, size, c.if-len-lt-MOST.false)) in
    rw (c.in_ok-cut.ensures, c.in_half.ensures, ← c.self.view_is) (fits-half pages c.args.spot.page within full c.args.key c.args.spot.at (rw (← c.self.view_is) at c.requires))

pub put-requires-2-clause-room : goal.put-requires-2-clause-room
put-requires-2-clause-room c =
    let pages = c.self.inside.pages.items in
    let within : c.args.spot.page < length c.self.inside.pages.items = search rules in
    let stood = at-found pages c.args.spot.page c.index.result.now within c.index.ensures in
    let size = rw stood at c.len-len.ensures in
    let full = full-page pages c.self.invariant c.args.spot.page within (omega (arith, size, c.if-len-lt-MOST.false)) in
    rw (c.in_ok-cut.ensures, c.in_half.ensures, ← c.self.view_is) (room-half pages c.args.spot.page within full c.args.key c.args.spot.at (rw (← c.self.view_is) at c.requires))

pub returns-clause-rows : goal.returns-clause-rows
returns-clause-rows c =
    let within : c.args.spot.page < length c.args.self.now = search rules in
    put-behind c.args.self.now c.cut.new.self c.put-2.new.self c.args.key c.args.value c.put-2.result (rw c.in_ok-cut.ensures (rows-halved c.args.self.now c.args.spot.page within)) c.put-2.ensures
