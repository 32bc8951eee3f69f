-- A place that is dropped leaves the others apart.
use Rattle.std.proofs.Common.{sym}
use Rattle.mt_model.specs.Topology.{without_denied_place}
use Rattle.mt_model.proofs.DistinctLemmas.{distinct-denial_dropped}
use Rattle.mt_keyspace.proofs.InvariantLemmas.{kept}
use Rattle.mt_keyspace.proofs.keyspaces.Keyspaces.release_denial.Goals as goal

pub invariant_of-self-2 : goal.invariant_of-self-2
invariant_of-self-2 c =
    kept (without_denied_place c.args.table.now) c.self.inside.places.entries c.args.keyspace.now c.in-Some.keyspace.now c.release_denial.new.self _
    (distinct-denial_dropped _ c.args.keyspace.now c.args.table.now c.self.invariant.distinct) c.self.invariant (sym c.in-Some.ensures.value) (c.get_mut.follows.holds c.release_denial.new.self).0 c.release_denial.ensures
