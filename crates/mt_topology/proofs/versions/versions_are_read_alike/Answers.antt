-- As values, and so as texts.
use Rattle.mt_topology.proofs.VersionLemmas.{texts_alike, values_alike}
use Rattle.mt_topology.proofs.versions.versions_are_read_alike.Goals as goal

pub returns-clause-values : goal.returns-clause-values
returns-clause-values c = values_alike

pub returns-clause-texts : goal.returns-clause-texts
returns-clause-texts c = texts_alike
