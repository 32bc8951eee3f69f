-- By cases on the entry, and by induction on the places; entries and keys of a view stay through a permutation.
use Rattle.mt_laws.proofs.RoutesLemmas.{view-of_served, view-turned}
use Rattle.mt_laws.proofs.served_routes.routes_of_what_is_served_are_a_view.Goals as goal

pub returns-clause-routes : goal.returns-clause-routes
returns-clause-routes c = view-of_served

pub returns-clause-turned : goal.returns-clause-turned
returns-clause-turned c = view-turned
