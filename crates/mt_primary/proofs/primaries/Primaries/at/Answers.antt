-- What stands at the place is what the keyspace has.
use Rattle.std.proofs.Common.{ap, sym, ◌∙◌}
use Rattle.std.specs.Map.{keys_of}
use Rattle.mt_primary.specs.Primaries.{place_of_key, primary_in}
use Rattle.mt_primary.proofs.PlaceLemmas.{kept_of, kept_within}
use Rattle.mt_primary.proofs.primaries.Primaries.at.Goals as goal

pub index-there-requires : goal.index-there-requires
index-there-requires c = kept_within c.args.self.now (keys_of c.self.inside.names.entries) c.self.inside.shards.items c.self.view_is c.self.invariant c.args.place _ c.self.inside.shards.ok.0 c.requires

pub returns : goal.returns
returns c k at =
    c.shard.ensures ∙ ap (primary_in c.index-there.result.now) c.find.ensures.place
    ∙ ap (λ s. primary_in s (place_of_key s c.args.key)) (sym (kept_of c.args.self.now (keys_of c.self.inside.names.entries) c.self.inside.shards.items c.self.view_is c.self.invariant c.args.place c.index-there.result.now c.index-there.ensures c.requires k at))
