-- The workflow that advances takes its place.
use Rattle.std.proofs.Common.{length, nat_lt, subst, sym}
use Rattle.mt_model.specs.Topology.{TopologyState}
use Rattle.mt_workflow.specs.Workflows.{stream_name}
use Rattle.mt_stands.specs.Workflows.{AdvancesAt}
use Rattle.mt_site.specs.Advance.{advanced_from}
use Rattle.mt_site.proofs.AdvanceLemmas.{advanced_lane}
use Rattle.mt_site.proofs.advance.advance.Goals as goal

pub returns-in-Some : goal.returns-in-Some
returns-in-Some c = λ (topology : TopologyState).
    let w = c.in-Some.workflow.now in
    let workflows = c.args.workflows.now.entries in
    let later = (c.get_mut.follows.lender c.advance_lane.new.workflow).entries in
    let name = c.args.name.now in
    let stream = stream_name c.args.asked.slot in
    let shard = c.args.asked.shard in
    let told = advanced_from c.advance_lane.result in
    subst (λ found. AdvancesAt found (record { topology = topology; primaries = c.args.primaries.now; workflows = workflows }) stream shard c.args.asked.at c.args.asked.max told
    (record { topology = topology; primaries = c.advance_lane.new.primaries; workflows = later })) c.in-Some.ensures.value
    (advanced_lane topology c.args.primaries.now c.advance_lane.new.primaries workflows later name w c.advance_lane.new.workflow stream shard c.args.asked.at c.args.asked.max told
    (nat_lt shard (length w.lanes)) (c.requires.named w (sym c.in-Some.ensures.value)) (sym c.in-Some.ensures.value) (c.get_mut.follows.holds c.advance_lane.new.workflow).0 c.advance_lane.ensures)
