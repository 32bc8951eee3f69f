-- The place is that of the name.
use Rattle.std.specs.Map.{keys_of}
use Rattle.mt_primary.proofs.PlaceLemmas.{kept_distinct, kept_found}
use Rattle.mt_primary.proofs.primaries.Primaries.place.Goals as goal

pub returns-clause-found : goal.returns-clause-found
returns-clause-found c = kept_found c.args.self.now (keys_of c.self.inside.names.entries) c.self.inside.shards.items c.self.view_is c.self.invariant c.args.keyspace.now c.get_index_of.result c.get_index_of.ensures.index

pub returns-clause-distinct : goal.returns-clause-distinct
returns-clause-distinct c = kept_distinct c.args.self.now (keys_of c.self.inside.names.entries) c.self.inside.shards.items c.self.view_is c.self.invariant
