-- What is written at the place is written at the keyspace.
use Rattle.std.proofs.Common.{ap, length, refl, subst, sym, ◌<◌, ◌∙◌}
use Rattle.std.specs.Map.{keys_of}
use Rattle.mt_primary.specs.Primaries.{ShardsState, primary_in}
use Rattle.mt_primary.proofs.PlaceLemmas.{kept_of, kept_set_one, kept_there, kept_within}
use Rattle.mt_primary.proofs.primaries.Primaries.shard_mut.Goals as goal

pub index_mut-there-requires : goal.index_mut-there-requires
index_mut-there-requires c = kept_within c.args.self.now (keys_of c.self.inside.names.entries) c.self.inside.shards.items c.self.view_is c.self.invariant c.args.place _ c.self.inside.shards.ok.0 c.requires.place

pub shard_mut-requires : goal.shard_mut-requires
shard_mut-requires c =
    subst (λ (s : ShardsState). c.args.shard < length s.each) (kept_there c.args.self.now (keys_of c.self.inside.names.entries) c.self.inside.shards.items c.self.view_is c.self.invariant c.args.place c.index_mut-there.result.now c.index_mut-there.ensures.value c.requires.place) c.requires.shard

pub returns : goal.returns
returns c =
    let there = c.index_mut-there.result.now in
    let is = c.index_mut-there.ensures.value in (
      (refl, λ w. kept_set_one c.args.self.now (keys_of c.self.inside.names.entries) c.self.inside.shards.items c.self.view_is c.self.invariant c.args.place there is c.requires.place c.args.shard w),
      record {
        writes_back = tt;
        value = λ k at. c.shard_mut.ensures.value ∙ ap (λ s. primary_in s c.args.shard) (sym (kept_of c.args.self.now (keys_of c.self.inside.names.entries) c.self.inside.shards.items c.self.view_is c.self.invariant c.args.place there is c.requires.place k at));
      },
    )
