-- Topologies that a state serves, or that are close to one.
use Rattle.std.specs.Prelude.{◌∷◌, [], None, Some, codes, true}
use Rattle.mt_model.specs.Topology.{KeyspaceState, TopologyState, new_keyspace}
use Rattle.mt_plain.specs.Answers.{after_lines}
use Rattle.mt_plain.specs.Plain.{Plain, in_keyspace}
use Rattle.mt_worked.specs.Histories.{history, start}
use Rattle.mt_worked.specs.Publications.{moving}
use Rattle.mt_worked.specs.States.{commerce, corder, customer, plain, watched}

-- a keyspace with a table, and a rule; and two keyspaces, of which the first has a table
abbrev pub with_a_rule : Plain
with_a_rule = after_lines start history 5

abbrev pub two_keyspaces : Plain
two_keyspaces = after_lines watched moving 3

-- the first one: with a place more that holds no rule, without the rule, with its place twice, with a denial, and with
-- two shards
abbrev pub with_blank_place : TopologyState
with_blank_place = record with_a_rule.topology { rules = (plain corder, None) ∷ with_a_rule.topology.rules }

abbrev pub without_rule : TopologyState
without_rule = record with_a_rule.topology { rules = [] }

abbrev pub with_place_twice : TopologyState
with_place_twice =
    record with_a_rule.topology {
      rules = (plain (codes "c"), Some (in_keyspace commerce corder)) ∷ with_a_rule.topology.rules;
    }

abbrev pub with_denial : TopologyState
with_denial =
    record with_a_rule.topology {
      keyspaces = (commerce, record { cuts = []; tables = (corder, true) ∷ []; denied = (corder, true) ∷ [] }) ∷ [];
    }

abbrev pub with_shards : TopologyState
with_shards =
    record with_a_rule.topology {
      keyspaces = (commerce, record { cuts = codes "80" ∷ []; tables = (corder, true) ∷ []; denied = [] }) ∷ [];
    }

abbrev pub with_the_table : KeyspaceState
with_the_table = record { cuts = []; tables = (corder, true) ∷ []; denied = [] }

-- the second: with its keyspaces in the other order, with one of them, and with one more
abbrev pub turned : TopologyState
turned = record two_keyspaces.topology { keyspaces = (customer, new_keyspace []) ∷ (commerce, with_the_table) ∷ [] }

abbrev pub with_one_keyspace : TopologyState
with_one_keyspace = record two_keyspaces.topology { keyspaces = (commerce, with_the_table) ∷ [] }

abbrev pub with_three_keyspaces : TopologyState
with_three_keyspaces =
    record two_keyspaces.topology { keyspaces = (codes "third", new_keyspace []) ∷ two_keyspaces.topology.keyspaces }
