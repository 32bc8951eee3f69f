-- A write is of one entry.
use Rattle.mt_model.proofs.TopologyLemmas.{value_of-written_here, value_of-written_elsewhere}
use Rattle.mt_model.proofs.laws.one_entry_and_no_other.Goals as goal

pub returns-clause-one : goal.returns-clause-one
returns-clause-one c = value_of-written_here

pub returns-clause-no_other : goal.returns-clause-no_other
returns-clause-no_other c = value_of-written_elsewhere
