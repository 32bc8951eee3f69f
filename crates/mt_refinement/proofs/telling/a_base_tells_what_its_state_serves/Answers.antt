-- What a base says is what its state serves; and that the keys of its rules are names is known of some state that it stands for.
use Rattle.mt_refinement.proofs.SayLemmas.{Said, dump_said, look_up, rules_said}
use Rattle.mt_refinement.proofs.telling.a_base_tells_what_its_state_serves.Goals as goal

pub returns : goal.returns
returns c =
    let said : Said = record {
      is_served = c.what_is_served_is_a_topology.ensures.is_served;
      named = c.served_rules_have_named_keys.ensures;
      look_up = c.same_topologies_have_the_same_look_ups_and_documents.ensures.look_up;
      rules = c.same_topologies_have_the_same_look_ups_and_documents.ensures.rules_document;
      dump = c.same_topologies_have_the_same_look_ups_and_documents.ensures.dump;
      texts = c.same_topologies_have_the_same_look_ups_and_documents.ensures.distinct_texts;
    } in
    record { look_up = look_up said; rules = λ p base is stands. rules_said said p base stands is; dump = λ p base is stands. dump_said said p base stands is }
