-- The first segment goes, or the last one where there is no other.
use Rattle.std.proofs.Common.{rules, ◌≡◌, ◌<◌, length}
use Rattle.mt_store.proofs.SegmentLemmas.{first_goes, last_goes}
use Rattle.mt_store.proofs.log.Log.drop_first.Goals as goal

pub returns-then-is_empty : goal.returns-then-is_empty
returns-then-is_empty c =
    let none : length c.self.inside.segments.items ≡ 0 = search rules in
    rw (← c.self.view_is, c.clear.ensures.items) (last_goes c.self.inside.purged c.self.inside.segments.items c.self.inside.last.items none c.self.invariant.open_one)

pub returns : goal.returns
returns c =
    let some : 0 < length c.self.inside.segments.items = search rules in
    rw (← c.self.view_is, c.pop_front.ensures.rest) (first_goes c.self.inside.purged c.self.inside.segments.items c.self.inside.last.items c.self.invariant.whole some)
