-- The first range that holds the key is that of its shard.
use Rattle.std.proofs.Common.{◌≡◌, None, Some, sym, ◌∙◌}
use Rattle.mt_names.specs.Shards.{shard_of}
use Rattle.mt_names.proofs.ShardLemmas.{found_at}
use Rattle.mt_names.proofs.shards.ShardList.find.Goals as goal

pub returns-in-Some : goal.returns-in-Some
returns-in-Some c =
    let same : Some c.in-Some.place ≡ Some (shard_of c.args.self.now c.args.key) =
    sym c.in-Some.is ∙ c.first_that_holds.ensures ∙ found_at c.self.inside.ranges.items c.as_slice.result.now c.args.self.now c.self.invariant.0 c.self.invariant.1 c.self.view_is c.as_slice.ensures.value c.args.key in
    cc

pub returns-in-None : goal.returns-in-None
returns-in-None c =
    let none : None ≡ Some (shard_of c.args.self.now c.args.key) =
    sym c.in-None.is ∙ c.first_that_holds.ensures ∙ found_at c.self.inside.ranges.items c.as_slice.result.now c.args.self.now c.self.invariant.0 c.self.invariant.1 c.self.view_is c.as_slice.ensures.value c.args.key in
    absurd cc
