-- There are as many ranges as shards.
use Rattle.std.proofs.Common.{sym, ◌∙◌}
use Rattle.mt_names.proofs.ShardLemmas.{placed_at}
use Rattle.mt_names.proofs.shards.ShardList.place.Goals as goal

pub returns-in-Some : goal.returns-in-Some
returns-in-Some c =
    sym c.in-Some.is ∙ c.first_alike.ensures ∙ placed_at c.self.inside.ranges.items c.as_slice.result.now c.args.self.now c.self.invariant.0 c.self.invariant.1 c.self.view_is c.as_slice.ensures.value c.args.range.now

pub returns-in-None : goal.returns-in-None
returns-in-None c =
    sym c.in-None.is ∙ c.first_alike.ensures ∙ placed_at c.self.inside.ranges.items c.as_slice.result.now c.args.self.now c.self.invariant.0 c.self.invariant.1 c.self.view_is c.as_slice.ensures.value c.args.range.now
