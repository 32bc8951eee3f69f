-- A Create leads from each state that the controller stands for to the next one.
use Rattle.mt_event.specs.Events.{done_from}
use Rattle.mt_stands.specs.Base.{BaseState}
use Rattle.mt_stands.specs.Ways.{CoreState}
use Rattle.mt_site.proofs.SiteLemmas.{site}
use Rattle.mt_site.proofs.controller.Core.create.Goals as goal

pub create-requires-clause-can : goal.create-requires-clause-can
create-requires-clause-can g c =
    let old : CoreState = site c.self.inside.topology c.self.inside.primaries c.self.inside.workflows.entries c.self.inside.opened.entries c.self.inside.journal c.self.inside.begun in
    let core = c.a_core_stays_one.ensures.base old c.self.invariant in
    let back = c.a_create_can_be_taken_back.ensures old.base c.args.workflow.now c.args.source.now c.args.target.now c.as_slice-tables.result.now core in
    record {
      cuts = c.each_shard_of_a_base_has_a_primary.ensures.cuts old.base core;
      absent = λ none shard within. (back none).1 shard;
      back = λ none. (back none).0;
    }

pub invariant_of-self : goal.invariant_of-self
invariant_of-self g c =
    let old : CoreState = site c.self.inside.topology c.self.inside.primaries c.self.inside.workflows.entries c.self.inside.opened.entries c.self.inside.journal c.self.inside.begun in
    let core : BaseState = record { topology = c.create.new.topology; primaries = c.create.new.primaries; workflows = c.create.new.workflows.entries } in
    c.a_create_leaves_a_core.ensures old core c.args.workflow.now c.args.source.now c.args.target.now c.as_slice-tables.result.now (done_from c.create.result)
    (c.names_are_names.ensures.source, c.names_are_names.ensures.target, c.names_are_names.ensures.tables) c.create.ensures c.self.invariant
