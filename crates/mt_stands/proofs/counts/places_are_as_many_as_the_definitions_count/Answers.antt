use Rattle.mt_stands.proofs.CountLemmas.{apart_from_pairs, each_placed, keyspaces_counted, rules_counted}
use Rattle.mt_stands.proofs.counts.places_are_as_many_as_the_definitions_count.Goals as goal

pub returns : goal.returns
returns c = record {
  rules = λ p t reached stands.
      rules_counted p t (c.only_what_stands_has_a_place.ensures.lists p reached).places
      (each_placed p (c.live_workflows_stand_in_place.ensures.placed p reached) p.lives (c.a_live_workflow_is_found_by_its_part.ensures.listed p reached))
      (apart_from_pairs p.lives (c.parts_are_apart.ensures.keys p reached)) stands;
  keyspaces = λ p t reached stands. keyspaces_counted p t (c.only_what_stands_has_a_place.ensures.lists p reached).places stands;
}
