-- Keyspaces as a topology has them.
use Rattle.std.specs.Prelude.{◌≤◌, ℕ, List, [], length, Result, Ok, Err}
use Rattle.std.specs.Borrow.{Bor}
use Rattle.mt_names.specs.declared.keys.RuleTarget.{RuleTarget}
use Rattle.mt_model.specs.declared.faults.TopologyFault.{TopologyFault}
use Rattle.mt_model.specs.Limits.{most_keyspaces}
use Rattle.mt_model.specs.Topology.{HasDistinctPlaces, Keyspaces}

-- no name has two places, and there are no more keyspaces than there may be (this profile's own)
pub record AreKeyspaces (keyspaces : Keyspaces) : Type 0 where
  pub distinct : HasDistinctPlaces (record { rules = []; keyspaces = keyspaces })
  pub few : length keyspaces ≤ most_keyspaces

-- a table in the keyspace whose name was found, or the fault
abbrev pub held_there : Result (Bor (List ℕ)) TopologyFault → List ℕ → Result RuleTarget TopologyFault
held_there (Ok keyspace) table = Ok (record { keyspace = keyspace.now; table = table })
held_there (Err fault) table = Err fault
