-- The shards at the place are what the keyspace has.
use Rattle.std.proofs.Common.{ap, length, subst, sym, ◌<◌, ◌∙◌}
use Rattle.std.specs.Map.{keys_of}
use Rattle.mt_primary.specs.Primaries.{ShardsState, place_of_key}
use Rattle.mt_primary.proofs.PlaceLemmas.{kept_of, kept_there, kept_within}
use Rattle.mt_primary.proofs.primaries.Primaries.find.Goals as goal

pub index-there-requires : goal.index-there-requires
index-there-requires c = kept_within c.args.self.now (keys_of c.self.inside.names.entries) c.self.inside.shards.items c.self.view_is c.self.invariant c.args.place _ c.self.inside.shards.ok.0 c.requires

pub returns-clause-shard : goal.returns-clause-shard
returns-clause-shard c k at =
    c.find.ensures.place ∙ ap (λ s. place_of_key s c.args.key) (sym (kept_of c.args.self.now (keys_of c.self.inside.names.entries) c.self.inside.shards.items c.self.view_is c.self.invariant c.args.place c.index-there.result.now c.index-there.ensures c.requires k at))

pub returns-clause-below : goal.returns-clause-below
returns-clause-below c =
    subst (λ (s : ShardsState). c.find.result < length s.each) (sym (kept_there c.args.self.now (keys_of c.self.inside.names.entries) c.self.inside.shards.items c.self.view_is c.self.invariant c.args.place c.index-there.result.now c.index-there.ensures c.requires)) c.find.ensures.below
