-- What the calls did, one after the other.
use Rattle.std.proofs.Common.{◌≡◌, [], map, ap, rules, ◌∙◌}
use Rattle.std.proofs.lemmas.List.{with_items_is}
use Rattle.mt_workflow.specs.Workflows.{way_from}
use Rattle.mt_steps.specs.declared.log.Late.{Late}
use Rattle.mt_steps.specs.declared.log.PutAway.{PutAway}
use Rattle.mt_steps.specs.Entries.{recorded_of}
use Rattle.mt_steps.specs.Plans.{number}
use Rattle.mt_steps.specs.Steps.{left_slots}
use Rattle.mt_steps.specs.Undo.{UndoState}
use Rattle.mt_steps.proofs.LaneLemmas.{seen, seen_away}
use Rattle.mt_steps.proofs.StepLemmas.{undone_log, undone_places}
use Rattle.mt_steps.proofs.sides.finish_undo.Goals as goal

pub returns-clause-topology : goal.returns-clause-topology
returns-clause-topology c = c.write_back.ensures

pub returns-clause-workflow : goal.returns-clause-workflow
returns-clause-workflow c = search rules

pub returns-clause-left : goal.returns-clause-left
returns-clause-left c =
    let late = c.deref_mut.result.now in
    let records = c.log.inside.records.items in
    let left = left_slots c.args.step in
    let behind : UndoState → UndoState = λ l. record l { slots = left l.slots } in
    let lent : late ≡ c.log.inside.late.value = search rules in
    let items : c.deref_mut-2.result.now ≡ late.lanes.items = search rules in
    ap (seen late.source late.target records) (with_items_is late.lanes c.undo_streams.new.kept (search rules))
    ∙ seen_away late.source late.target records late.lanes.items c.undo_streams.new.kept (left (map (λ (k : PutAway). k.slot) late.lanes.items))
    (c.undo_streams.ensures.slots ∙ ap (λ kept. left (map (λ (k : PutAway). k.slot) kept)) items)
    (c.undo_streams.ensures.listed ∙ ap (λ kept. map (λ (k : PutAway). k.listed) kept) items)
    ∙ ap (λ (l : Late). behind (seen l.source l.target records l.lanes.items)) lent ∙ ap behind c.log.view_is

pub returns-clause-log : goal.returns-clause-log
returns-clause-log c =
    undone_log (way_from c.args.way) c.args.step c.args.topology.now c.write_back.new.topology c.args.workflow.now c.count_undo.new.workflow c.args.log.now _ []
    (recorded_of c.args.workflow.now (number c.args.step) c.args.log.now.entries) (returns-clause-topology c) (returns-clause-workflow c) (returns-clause-left c) c.requires.log

pub returns-clause-places : goal.returns-clause-places
returns-clause-places c =
    undone_places (way_from c.args.way) c.args.step c.args.topology.now c.write_back.new.topology c.args.workflow.now c.count_undo.new.workflow c.args.log.now c.args.log.now []
    (recorded_of c.args.workflow.now (number c.args.step) c.args.log.now.entries) (returns-clause-topology c) (returns-clause-workflow c) c.requires.places
