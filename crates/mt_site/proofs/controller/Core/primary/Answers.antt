-- The keyspace's primaries stand at its place, in the order of its shards.
use Rattle.std.proofs.Common.{◌≡◌, None, ap, slice_get, sym, subst, unwrap_or}
use Rattle.mt_primary.proofs.PlaceLemmas.{at_within}
use Rattle.mt_primary.specs.Primaries.{no_shards, shards_of}
use Rattle.mt_stands.specs.Ways.{CoreState}
use Rattle.mt_site.proofs.controller.Core.primary.Goals as goal

pub all-requires : goal.all-requires
all-requires c = at_within c.self.inside.primaries c.args.keyspace.now c.in-Some.place c.in-Some.ensures.found

pub returns-in-None : goal.returns-in-None
returns-in-None c =
    subst (λ (s : CoreState). None ≡ slice_get (shards_of s.base.primaries c.args.keyspace.now).each c.args.shard) c.self.view_is
    (sym (ap (λ o. slice_get (unwrap_or o no_shards).each c.args.shard) c.in-None.ensures.found))
