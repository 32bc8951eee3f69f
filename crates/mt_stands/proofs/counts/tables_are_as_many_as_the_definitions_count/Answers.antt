use Rattle.std.proofs.Common.{ap, is_some, sym, ◌∙◌}
use Rattle.mt_names.proofs.EntryLemmas.{some_from}
use Rattle.mt_model.specs.Topology.{keyspace_at}
use Rattle.mt_stands.proofs.CountLemmas.{apart_from_pairs, each_placed}
use Rattle.mt_stands.proofs.TableCountLemmas.{tables_counted}
use Rattle.mt_stands.proofs.counts.tables_are_as_many_as_the_definitions_count.Goals as goal

pub returns : goal.returns
returns c = λ p t keyspace state reached stands at.
    let (other, at_p) = some_from (keyspace_at p.topology.keyspaces keyspace) (sym (stands.served.keyspaces keyspace) ∙ ap is_some at) in
    let placed = c.live_workflows_stand_in_place.ensures.placed p reached in
    let places = c.only_what_stands_has_a_place.ensures in
    tables_counted keyspace p t state other at at_p (places.lists p reached)
    (each_placed p placed p.lives (c.a_live_workflow_is_found_by_its_part.ensures.listed p reached)) (apart_from_pairs p.lives (c.parts_are_apart.ensures.keys p reached))
    (places.tables p reached) (c.a_live_workflow_is_found_by_its_part.ensures.owner_is_live p reached) placed stands
