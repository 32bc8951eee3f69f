-- The keyspace is made in each state that the controller stands for.
use Rattle.std.proofs.Common.{◌≡◌, [], subst}
use Rattle.std.specs.Result.{OnErr}
use Rattle.mt_event.specs.Reasons.{done_by}
use Rattle.mt_stands.specs.Base.{BaseState}
use Rattle.mt_stands.specs.Ways.{CoreState, WaysState}
use Rattle.mt_site.proofs.SiteLemmas.{lifted, site, whole}
use Rattle.mt_plain.specs.Events.{add_keyspace}
use Rattle.mt_stands.specs.ByHand.{AddsKeyspace}
use Rattle.mt_site.proofs.LeaveLemmas.{does_leave}
use Rattle.mt_site.proofs.controller.Core.add_keyspace.Goals as goal

pub add_keyspace-requires : goal.add_keyspace-requires
add_keyspace-requires c =
    let old : CoreState = site c.self.inside.topology c.self.inside.primaries c.self.inside.workflows.entries c.self.inside.opened.entries c.self.inside.journal c.self.inside.begun in
    let core = c.a_core_stays_one.ensures.base old c.self.invariant in
    record {
      there = c.each_shard_of_a_base_has_a_primary.ensures.there old.base core;
      count = c.each_shard_of_a_base_has_a_primary.ensures.count old.base core;
      tables = c.primaries_of_a_base_have_the_tables_of_its_topology.ensures.tables old.base core;
      places = c.primaries_of_a_base_have_the_tables_of_its_topology.ensures.places old.base core;
    }

pub invariant_of-self : goal.invariant_of-self
invariant_of-self c =
    let old : CoreState = site c.self.inside.topology c.self.inside.primaries c.self.inside.workflows.entries c.self.inside.opened.entries c.self.inside.journal c.self.inside.begun in
    let core : BaseState = record { topology = c.add_keyspace.new.topology; primaries = c.add_keyspace.new.primaries; workflows = c.self.inside.workflows.entries } in
    c.a_core_stays_one.ensures.stays [] old (record old { base = core }) (add_keyspace c.args.name.now c.args.shards.now) (done_by c.add_keyspace.result) tt
    (λ more. c.events_by_hand_step_and_leave_the_ways.ensures.keyspace _ old core c.args.name.now c.args.shards.now (done_by c.add_keyspace.result) c.facts.ensures (c.add_keyspace.ensures c.self.inside.workflows.entries)) c.self.invariant

pub returns-clause-does : goal.returns-clause-does
returns-clause-does c =
    let core : BaseState = record { topology = c.add_keyspace.new.topology; primaries = c.add_keyspace.new.primaries; workflows = c.self.inside.workflows.entries } in
    subst (λ s. AddsKeyspace s.base c.args.name.now c.args.shards.now (done_by c.add_keyspace.result) core) c.self.view_is (c.add_keyspace.ensures c.self.inside.workflows.entries)

pub returns-clause-unchanged : goal.returns-clause-unchanged
returns-clause-unchanged c =
    let old : BaseState = record { topology = c.self.inside.topology; primaries = c.self.inside.primaries; workflows = c.self.inside.workflows.entries } in
    let core : BaseState = record { topology = c.add_keyspace.new.topology; primaries = c.add_keyspace.new.primaries; workflows = c.self.inside.workflows.entries } in
    let ways : WaysState = record { opened = c.self.inside.opened.entries; journal = c.self.inside.journal; begun = c.self.inside.begun } in
    subst (λ s. OnErr c.add_keyspace.result (whole core ways ≡ s)) c.self.view_is (lifted c.add_keyspace.result ways core old (does_leave old core _ _ _ c.add_keyspace.result (c.add_keyspace.ensures c.self.inside.workflows.entries)))
