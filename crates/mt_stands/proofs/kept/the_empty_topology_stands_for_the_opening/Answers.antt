use Rattle.std.proofs.Common.{refl}
use Rattle.mt_stands.proofs.kept.the_empty_topology_stands_for_the_opening.Goals as goal

pub returns : goal.returns
returns c = λ scopes. record {
  served = record { keyspaces = λ name. refl; shards = λ name. refl; entries = λ key. refl; places = c.places_stay_distinct.ensures.empty };
  places = λ key. refl;
}
