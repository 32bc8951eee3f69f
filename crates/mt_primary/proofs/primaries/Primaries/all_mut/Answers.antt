-- What is written at the place is written at the keyspace.
use Rattle.std.proofs.Common.{ap, refl, sym, ◌∙◌}
use Rattle.std.specs.Map.{keys_of}
use Rattle.mt_primary.specs.Primaries.{ShardsState}
use Rattle.mt_primary.proofs.PlaceLemmas.{kept_of, kept_set_each, kept_within}
use Rattle.mt_primary.proofs.primaries.Primaries.all_mut.Goals as goal

pub index_mut-there-requires : goal.index_mut-there-requires
index_mut-there-requires c = kept_within c.args.self.now (keys_of c.self.inside.names.entries) c.self.inside.shards.items c.self.view_is c.self.invariant c.args.place _ c.self.inside.shards.ok.0 c.requires

pub returns : goal.returns
returns c =
    let there = c.index_mut-there.result.now in (
      (refl, λ w. kept_set_each c.args.self.now (keys_of c.self.inside.names.entries) c.self.inside.shards.items c.self.view_is c.self.invariant c.args.place there c.index_mut-there.ensures.value c.requires w),
      record {
        writes_back = tt;
        value = λ k at. c.all_mut.ensures.value ∙ ap (λ (s : ShardsState). s.each) (sym (kept_of c.args.self.now (keys_of c.self.inside.names.entries) c.self.inside.shards.items c.self.view_is c.self.invariant c.args.place there c.index_mut-there.ensures.value c.requires k at));
      },
    )
