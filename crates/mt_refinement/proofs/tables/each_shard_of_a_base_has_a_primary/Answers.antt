use Rattle.std.proofs.Common.{sym, ap, subst, ◌∙◌, ◌≤◌, suc, length}
use Rattle.std.proofs.Math.Logic.{∥∥₁_elim}
use denote.Struct.Props.{props}
use Rattle.mt_names.specs.Shards.{ascend_from, most_shards, shard_count}
use Rattle.mt_refinement.proofs.tables.each_shard_of_a_base_has_a_primary.Goals as goal

pub returns : goal.returns
returns c = record {
  there = λ base is keyspace. ∥∥₁_elim is (search props) (λ h. h.stands.primaries.there keyspace ∙ sym (h.stands.topology.served.keyspaces keyspace));
  count = λ base is. ∥∥₁_elim is (search props)
      (λ h. h.stands.primaries.count ∙ sym (c.places_are_as_many_as_the_definitions_count.ensures.keyspaces h.state base.topology h.reached h.stands.topology));
  cuts = λ base is keyspace. ∥∥₁_elim is (search props) (λ h. h.stands.primaries.cuts keyspace ∙ sym (h.stands.topology.served.shards keyspace));
  ascend = λ base is keyspace. record {
    ascend = ∥∥₁_elim is (search props) (λ h. ap (ascend_from 0) (h.stands.primaries.cuts keyspace) ∙ (h.stands.primaries.ascend keyspace).ascend);
    few = ∥∥₁_elim is (search props) (λ h. subst (λ cuts. suc (length cuts) ≤ most_shards) (sym (h.stands.primaries.cuts keyspace)) (h.stands.primaries.ascend keyspace).few);
  };
  shards = λ base is keyspace there. ∥∥₁_elim is (search props)
      (λ h. h.stands.primaries.shards keyspace (sym (h.stands.primaries.there keyspace) ∙ there) ∙ ap shard_count (sym (h.stands.primaries.cuts keyspace)));
}
