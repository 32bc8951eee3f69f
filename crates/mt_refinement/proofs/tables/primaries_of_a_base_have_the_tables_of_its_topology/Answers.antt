use Rattle.std.proofs.Common.{◌∙◌}
use Rattle.std.proofs.Math.Logic.{∥∥₁_elim}
use denote.Struct.Props.{props}
use Rattle.mt_refinement.proofs.FactTableLemmas.{has_present, place_present}
use Rattle.mt_refinement.proofs.tables.primaries_of_a_base_have_the_tables_of_its_topology.Goals as goal

pub returns : goal.returns
returns c = record {
  tables = λ base is keyspace shard within table. ∥∥₁_elim is (search props)
      (λ h. h.stands.primaries.tables keyspace shard within table ∙ has_present h.state keyspace table base.topology h.stands.topology);
  places = λ base is keyspace table. ∥∥₁_elim is (search props)
      (λ h. place_present h.state keyspace table base.topology h.stands.topology (c.only_what_stands_has_a_place.ensures.tables h.state h.reached keyspace table));
}
