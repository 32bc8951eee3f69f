-- What stands at the place is what the keyspace has.
use Rattle.std.proofs.Common.{ap, length, subst, sym, ◌<◌, ◌∙◌}
use Rattle.std.specs.Map.{keys_of}
use Rattle.mt_primary.specs.Primaries.{ShardsState, primary_in}
use Rattle.mt_primary.proofs.PlaceLemmas.{kept_of, kept_there, kept_within}
use Rattle.mt_primary.proofs.primaries.Primaries.shard.Goals as goal

pub index-there-requires : goal.index-there-requires
index-there-requires c = kept_within c.args.self.now (keys_of c.self.inside.names.entries) c.self.inside.shards.items c.self.view_is c.self.invariant c.args.place _ c.self.inside.shards.ok.0 c.requires.place

pub shard-requires : goal.shard-requires
shard-requires c =
    subst (λ (s : ShardsState). c.args.shard < length s.each) (kept_there c.args.self.now (keys_of c.self.inside.names.entries) c.self.inside.shards.items c.self.view_is c.self.invariant c.args.place c.index-there.result.now c.index-there.ensures c.requires.place) c.requires.shard

pub returns : goal.returns
returns c k at =
    c.shard.ensures ∙ ap (λ s. primary_in s c.args.shard) (sym (kept_of c.args.self.now (keys_of c.self.inside.names.entries) c.self.inside.shards.items c.self.view_is c.self.invariant c.args.place c.index-there.result.now c.index-there.ensures c.requires.place k at))
