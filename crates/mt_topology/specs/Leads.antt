-- Where a name leads, by references.
use Rattle.std.specs.Prelude.{ℕ, List, Result, Ok, Err}
use Rattle.std.specs.Borrow.{Bor}
use Rattle.mt_names.specs.declared.keys.RuleTarget.{RuleTarget}
use Rattle.mt_model.specs.declared.faults.TopologyFault.{TopologyFault}

-- the table that the names of its keyspace and of itself say, or the fault
abbrev pub lent_target : Result (Bor (List ℕ) × Bor (List ℕ)) TopologyFault → Result RuleTarget TopologyFault
lent_target (Ok names) = Ok (record { keyspace = names.0.now; table = names.1.now })
lent_target (Err fault) = Err fault
