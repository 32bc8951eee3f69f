-- The workflow with the way takes its place.
use Rattle.std.proofs.Common.{false, is_some, not, nat_le, ap, subst, sym, ◌∙◌, List}
use Rattle.mt_event.specs.Reasons.{done_by, reason_from}
use Rattle.mt_journal.specs.declared.entry.JournalEntry.{JournalEntry}
use Rattle.mt_model.specs.Topology.{TopologyState}
use Rattle.mt_plain.specs.Events as plain
use Rattle.mt_plain.specs.Next.{types_and}
use Rattle.mt_plain.specs.Refuse.{at_rest, has_more, most_ways, or_else, refuse_if}
use Rattle.mt_primary.specs.Primaries.{Primaries}
use Rattle.mt_stands.specs.Switching.{BeginsSwitchAt, is_copying, way_to, with_way}
use Rattle.mt_stands.specs.Ways.{CoreState}
use Rattle.mt_workflow.specs.Workflows.{live_of}
use Rattle.mt_moves.proofs.BeginLemmas.{begun-way, refused-way, switch-tests, union-is}
use Rattle.mt_moves.proofs.beginning.begin_switch.Goals as goal

pub returns-in-Some-switch_refusal : goal.returns-in-Some-switch_refusal
returns-in-Some-switch_refusal c = λ (topology : TopologyState). λ (primaries : Primaries). λ (journal : List JournalEntry).
    let w = c.in-Some.workflow.now in
    let types = c.args.types in
    let old : CoreState = record { base = record { topology = topology; primaries = primaries; workflows = c.args.workflows.now.entries }; ways = record { opened = c.args.opened.now.entries; journal = journal; begun = c.args.begun.now } } in
    let later = (c.get_mut.follows.lender w).entries in
    let new : CoreState = record { base = record { topology = topology; primaries = primaries; workflows = later }; ways = old.ways } in
    subst (λ found. BeginsSwitchAt found old types (plain.refused (reason_from c.in-Some-switch_refusal.refusal)) new) c.in-Some.ensures.value
    (refused-way old (with_way old w (way_to w false (types_and w.switched types))) w c.args.name.now
    (at_rest (live_of w) (or_else (refuse_if (not (has_more types w.switched)) plain.nothing_to_switch) (or_else (refuse_if (is_copying w) plain.copying) (refuse_if (nat_le most_ways c.args.begun.now) plain.full))))
    (reason_from c.in-Some-switch_refusal.refusal) later (sym c.in-Some.ensures.value) (c.get_mut.follows.holds w).0
    (switch-tests (is_some w.way) (not (has_more types w.switched)) (is_copying w) (nat_le most_ways c.args.begun.now)) (sym c.in-Some-switch_refusal.ensures))

pub returns : goal.returns
returns c = λ (topology : TopologyState). λ (primaries : Primaries). λ (journal : List JournalEntry).
    let w = c.in-Some.workflow.now in
    let after = c.open_way.new.workflow in
    let types = c.args.types in
    let old : CoreState = record { base = record { topology = topology; primaries = primaries; workflows = c.args.workflows.now.entries }; ways = record { opened = c.args.opened.now.entries; journal = journal; begun = c.args.begun.now } } in
    let later = (c.get_mut.follows.lender after).entries in
    let new : CoreState = record { base = record { topology = topology; primaries = primaries; workflows = later }; ways = record { opened = c.open_way.new.opened.entries; journal = journal; begun = c.open_way.new.begun } } in
    subst (λ found. BeginsSwitchAt found old types (done_by c.open_way.result) new) c.in-Some.ensures.value
    (begun-way old w after c.args.name.now false c.shards-shards.result c.switched-before.result c.union.result (types_and w.switched types)
    (at_rest (live_of w) (or_else (refuse_if (not (has_more types w.switched)) plain.nothing_to_switch) (or_else (refuse_if (is_copying w) plain.copying) (refuse_if (nat_le most_ways c.args.begun.now) plain.full))))
    (done_by c.open_way.result) later c.open_way.new.opened.entries c.open_way.new.begun
    (c.requires w (sym c.in-Some.ensures.value)).0 (sym c.in-Some.ensures.value) (c.get_mut.follows.holds after).0 (sym c.in_default-switch_refusal.ensures)
    c.shards-shards.ensures.value c.switched-before.ensures (union-is c.union.result c.switched-before.result types c.union.ensures ∙ ap (λ b. types_and b types) c.switched-before.ensures) c.open_way.ensures)
