-- The keyspace's place is found.
use Rattle.std.proofs.Common.{ap, is_some, sym, true≢false, ◌∙◌}
use Rattle.mt_names.specs.Shards.{shard_count}
use Rattle.mt_primary.proofs.PlaceLemmas.{at_within}
use Rattle.mt_moves.proofs.places.place_of.Goals as goal

pub unreachable-requires : goal.unreachable-requires
unreachable-requires c = true≢false (sym c.requires ∙ ap is_some c.in-None.ensures.found)

pub list-list-requires : goal.list-list-requires
list-list-requires c = at_within c.args.primaries.now c.args.keyspace.now c.in-Some.place c.in-Some.ensures.found

pub returns-clause-within : goal.returns-clause-within
returns-clause-within c = at_within c.args.primaries.now c.args.keyspace.now c.in-Some.place c.in-Some.ensures.found

pub returns-clause-count : goal.returns-clause-count
returns-clause-count c =
    c.list-list.ensures.count c.args.keyspace.now c.in-Some.ensures.found ∙ ap shard_count (c.list-list.ensures.list c.args.keyspace.now c.in-Some.ensures.found)
