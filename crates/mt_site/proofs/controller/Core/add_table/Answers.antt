-- The table is made in each state that the controller stands for.
use Rattle.std.proofs.Common.{◌≡◌, [], subst}
use Rattle.std.specs.Result.{OnErr}
use Rattle.mt_event.specs.Reasons.{done_by}
use Rattle.mt_stands.specs.Base.{BaseState}
use Rattle.mt_stands.specs.Ways.{CoreState, WaysState}
use Rattle.mt_site.proofs.SiteLemmas.{lifted, site, whole}
use Rattle.mt_plain.specs.Events.{add_table}
use Rattle.mt_stands.specs.ByHand.{AddsTable}
use Rattle.mt_site.proofs.LeaveLemmas.{does_leave}
use Rattle.mt_site.proofs.controller.Core.add_table.Goals as goal

pub add_table-requires : goal.add_table-requires
add_table-requires c =
    let old : CoreState = site c.self.inside.topology c.self.inside.primaries c.self.inside.workflows.entries c.self.inside.opened.entries c.self.inside.journal c.self.inside.begun in
    let core = c.a_core_stays_one.ensures.base old c.self.invariant in
    record {
      there = c.each_shard_of_a_base_has_a_primary.ensures.there old.base core;
      count = c.each_shard_of_a_base_has_a_primary.ensures.count old.base core;
      tables = c.primaries_of_a_base_have_the_tables_of_its_topology.ensures.tables old.base core;
      places = c.primaries_of_a_base_have_the_tables_of_its_topology.ensures.places old.base core;
    }

pub invariant_of-self : goal.invariant_of-self
invariant_of-self c =
    let old : CoreState = site c.self.inside.topology c.self.inside.primaries c.self.inside.workflows.entries c.self.inside.opened.entries c.self.inside.journal c.self.inside.begun in
    let core : BaseState = record { topology = c.add_table.new.topology; primaries = c.add_table.new.primaries; workflows = c.self.inside.workflows.entries } in
    c.a_core_stays_one.ensures.stays [] old (record old { base = core }) (add_table c.args.keyspace.now c.args.table.now) (done_by c.add_table.result) tt
    (λ more. c.events_by_hand_step_and_leave_the_ways.ensures.table _ old core c.args.keyspace.now c.args.table.now (done_by c.add_table.result) (c.add_table.ensures c.self.inside.workflows.entries)) c.self.invariant

pub returns-clause-does : goal.returns-clause-does
returns-clause-does c =
    let core : BaseState = record { topology = c.add_table.new.topology; primaries = c.add_table.new.primaries; workflows = c.self.inside.workflows.entries } in
    subst (λ s. AddsTable s.base c.args.keyspace.now c.args.table.now (done_by c.add_table.result) core) c.self.view_is (c.add_table.ensures c.self.inside.workflows.entries)

pub returns-clause-unchanged : goal.returns-clause-unchanged
returns-clause-unchanged c =
    let old : BaseState = record { topology = c.self.inside.topology; primaries = c.self.inside.primaries; workflows = c.self.inside.workflows.entries } in
    let core : BaseState = record { topology = c.add_table.new.topology; primaries = c.add_table.new.primaries; workflows = c.self.inside.workflows.entries } in
    let ways : WaysState = record { opened = c.self.inside.opened.entries; journal = c.self.inside.journal; begun = c.self.inside.begun } in
    subst (λ s. OnErr c.add_table.result (whole core ways ≡ s)) c.self.view_is (lifted c.add_table.result ways core old (does_leave old core _ _ _ c.add_table.result (c.add_table.ensures c.self.inside.workflows.entries)))
