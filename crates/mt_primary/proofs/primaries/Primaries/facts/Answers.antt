-- The names are those that are kept.
use Rattle.std.specs.Map.{keys_of}
use Rattle.mt_primary.proofs.PlaceLemmas.{kept_distinct}
use Rattle.mt_primary.proofs.primaries.Primaries.facts.Goals as goal

pub returns : goal.returns
returns c = kept_distinct c.args.self.now (keys_of c.self.inside.names.entries) c.self.inside.shards.items c.self.view_is c.self.invariant
