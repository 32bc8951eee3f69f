-- The write leads from each state that the controller stands for to the next one, also with its log purged, and of a run that goes on with
-- it the headline holds.
use Rattle.std.proofs.Common.{◌≡◌, [], refl, subst, ◌∙◌}
use Rattle.mt_event.specs.Reasons.{done_by}
use Rattle.mt_plain.specs.Events.{write}
use Rattle.mt_primary.specs.Primaries.{shards_at}
use Rattle.mt_stands.specs.Base.{BaseState}
use Rattle.mt_stands.specs.Ways.{CoreState}
use Rattle.mt_site.specs.Applied.{Applied, unasked}
use Rattle.mt_site.specs.Applies.{shard_of_row}
use Rattle.mt_site.proofs.AppliedLemmas.{applied_by, left_done}
use Rattle.mt_site.proofs.LeaveLemmas.{rows_leave}
use Rattle.mt_site.proofs.PlacedLemmas.{row_leaves_topology}
use Rattle.mt_site.proofs.PurgeLemmas.{write_unchanged}
use Rattle.mt_site.proofs.SiteLemmas.{lifted, site}
use Rattle.mt_site.proofs.controller.Core.write.Goals as goal

pub invariant_of-self : goal.invariant_of-self
invariant_of-self c =
    let old : CoreState = site c.self.inside.topology c.self.inside.primaries c.self.inside.workflows.entries c.self.inside.opened.entries c.self.inside.journal c.self.inside.begun in
    let core : BaseState = record old.base { primaries = c.write_row.new.primaries } in
    let keyspace = c.args.keyspace.now in
    let table = c.args.table.now in
    let told = done_by c.write_row.result in
    let (made, wrote, purges) = c.write_row.ensures old.base.topology in
    c.a_purged_core_stands.ensures.core (record old { base = made }) core
    (c.a_core_stays_one.ensures.stays [] old (record old { base = made }) (write keyspace table c.args.op) told tt
    (λ more. c.events_by_hand_step_and_leave_the_ways.ensures.write _ old made keyspace table c.args.op told wrote) c.self.invariant)
    (c.a_purged_base_stands.ensures.one made core keyspace (shard_of_row made keyspace c.args.op) told purges)

pub returns-clause-applied : goal.returns-clause-applied
returns-clause-applied c = λ scopes.
    let old : CoreState = site c.self.inside.topology c.self.inside.primaries c.self.inside.workflows.entries c.self.inside.opened.entries c.self.inside.journal c.self.inside.begun in
    let core : BaseState = record old.base { primaries = c.write_row.new.primaries } in
    let keyspace = c.args.keyspace.now in
    let table = c.args.table.now in
    let event = write keyspace table c.args.op in
    let told = done_by c.write_row.result in
    let (made, wrote, purges) = c.write_row.ensures core.topology in
    subst (λ s. Applied scopes unasked s event told (record old { base = core })) c.self.view_is
    (applied_by scopes unasked old event told (record old { base = core }) c.every_run_keeps_the_headline.ensures.with_earlier_lines
    (record old { base = made }, (wrote, refl), (purges, refl))
    (c.a_purged_core_stands.ensures.steps scopes old (record old { base = made }) event told core
    (c.events_by_hand_step_and_leave_the_ways.ensures.write scopes old made keyspace table c.args.op told wrote)
    (c.a_purged_base_stands.ensures.one made core keyspace (shard_of_row made keyspace c.args.op) told purges))
    (left_done c.write_row.result (record old { base = core } ≡ old) (lifted c.write_row.result old.ways core old.base
    (write_unchanged keyspace (shard_of_row made keyspace c.args.op) c.write_row.result old.base made core purges
    (rows_leave old.base made keyspace table c.args.op c.write_row.result (shards_at old.base.primaries keyspace) refl wrote))))
    (λ can. absurd can)
    (λ was. c.what_is_purged_stays_purged.ensures.written old.base made core keyspace table c.args.op told was wrote purges))

pub returns-clause-topology : goal.returns-clause-topology
returns-clause-topology c =
    let old : CoreState = site c.self.inside.topology c.self.inside.primaries c.self.inside.workflows.entries c.self.inside.opened.entries c.self.inside.journal c.self.inside.begun in
    let core : BaseState = record old.base { primaries = c.write_row.new.primaries } in
    let keyspace = c.args.keyspace.now in
    let table = c.args.table.now in
    let told = done_by c.write_row.result in
    let (made, wrote, purges) = c.write_row.ensures core.topology in
    subst (λ s. core.topology ≡ s.base.topology) c.self.view_is
    ((c.a_purged_base_stands.ensures.one made core keyspace (shard_of_row made keyspace c.args.op) told purges).topology
    ∙ row_leaves_topology old.base made keyspace table c.args.op told wrote)
