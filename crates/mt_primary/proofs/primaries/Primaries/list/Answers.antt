-- What stands at the place is what the keyspace has.
use Rattle.std.proofs.Common.{ap, length, sym, ◌∙◌}
use Rattle.std.specs.Map.{keys_of}
use Rattle.mt_names.specs.Shards.{shard_count}
use Rattle.mt_primary.specs.Primaries.{ShardsState}
use Rattle.mt_primary.proofs.PlaceLemmas.{kept_of, kept_within}
use Rattle.mt_primary.proofs.primaries.Primaries.list.Goals as goal

pub index-there-requires : goal.index-there-requires
index-there-requires c = kept_within c.args.self.now (keys_of c.self.inside.names.entries) c.self.inside.shards.items c.self.view_is c.self.invariant c.args.place _ c.self.inside.shards.ok.0 c.requires

pub returns-clause-list : goal.returns-clause-list
returns-clause-list c k at =
    c.list.ensures ∙ ap (λ (s : ShardsState). s.cuts) (sym (kept_of c.args.self.now (keys_of c.self.inside.names.entries) c.self.inside.shards.items c.self.view_is c.self.invariant c.args.place c.index-there.result.now c.index-there.ensures c.requires k at))

pub returns-clause-count : goal.returns-clause-count
returns-clause-count c k at =
    ap (λ (s : ShardsState). length s.each) (kept_of c.args.self.now (keys_of c.self.inside.names.entries) c.self.inside.shards.items c.self.view_is c.self.invariant c.args.place c.index-there.result.now c.index-there.ensures c.requires k at)
    ∙ c.facts.ensures.count ∙ ap shard_count (sym c.list.ensures)
