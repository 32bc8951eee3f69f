-- What a workflow lays over the topology had no place there.
use Rattle.mt_laws.proofs.ServedPlacesLemmas.{is_served, served_places}
use Rattle.mt_laws.proofs.places.what_is_served_is_a_topology.Goals as goal

pub returns : goal.returns
returns c = record { places = served_places; is_served = is_served }
