-- There is one of that index.
use Rattle.std.proofs.Common.{ap, is_some, slice_get, ◌∙◌}
use Rattle.mt_model.specs.Topology.{routes_of}
use Rattle.mt_keyspace.proofs.RouteLemmas.{slice_get-inside}
use Rattle.mt_topology.proofs.topology.Topology.route_entry.Goals as goal

pub unwrap-requires : goal.unwrap-requires
unwrap-requires c = ap is_some c.at.ensures ∙ ap (λ t. is_some (slice_get (routes_of t) c.args.index)) c.self.view_is ∙ slice_get-inside (routes_of c.args.self.now) c.args.index c.requires
