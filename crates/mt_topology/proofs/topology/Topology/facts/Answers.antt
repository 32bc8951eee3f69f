-- Those of the parts.
use Rattle.std.proofs.Common.{subst}
use Rattle.mt_model.specs.Topology.{HasDistinctPlaces}
use Rattle.mt_model.proofs.DistinctLemmas.{distinct-rules}
use Rattle.mt_topology.proofs.topology.Topology.facts.Goals as goal

pub returns-clause-distinct : goal.returns-clause-distinct
returns-clause-distinct c = subst HasDistinctPlaces c.self.view_is (distinct-rules _ c.self.inside.rules c.facts.ensures.distinct c.facts-2.ensures.distinct)
