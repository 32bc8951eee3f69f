-- What the calls did, one after the other.
use Rattle.std.proofs.Common.{◌≡◌, ◌≤◌, map, ap, rules, subst, sym, ◌∙◌}
use Rattle.std.proofs.lemmas.List.{with_items_is}
use Rattle.mt_names.specs.declared.types.TypeSet.{TypeSet}
use Rattle.mt_workflow.specs.Workflows.{WorkflowState, way_from}
use Rattle.mt_workflow.proofs.LaneLemmas.{few_lanes}
use Rattle.mt_steps.specs.declared.log.Late.{Late}
use Rattle.mt_steps.specs.declared.log.PutAway.{PutAway}
use Rattle.mt_steps.specs.Entries.{step_entries}
use Rattle.mt_steps.specs.Plans.{number}
use Rattle.mt_steps.specs.Streams.{put_away, types_after, way_after, with_streams}
use Rattle.mt_steps.specs.Undo.{UndoState}
use Rattle.mt_steps.proofs.LaneLemmas.{seen, seen_away}
use Rattle.mt_steps.proofs.StepLemmas.{stepped_log, stepped_places, streams-switched}
use Rattle.mt_steps.proofs.sides.finish_step.Goals as goal

pub count_step-requires-clause-few : goal.count_step-requires-clause-few
count_step-requires-clause-few c = subst (λ n. n ≤ 8) (sym c.requires.shards) (few_lanes c.args.workflow.now.lanes c.facts.ensures.covers c.facts.ensures.cuts)

pub returns-clause-topology : goal.returns-clause-topology
returns-clause-topology c = c.exchange.ensures.written

pub returns-clause-workflow : goal.returns-clause-workflow
returns-clause-workflow c =
    let w = c.args.workflow.now in
    let way = way_from c.args.way in
    let step = c.args.step in
    let ends = c.args.ends.now in
    c.count_step.ensures ∙ ap (λ (v : WorkflowState). record v { way = way_after way step; switched = types_after v.switched way step }) c.step_streams.ensures.after
    ∙ ap (λ (s : TypeSet). record (with_streams w way step ends) { way = way_after way step; switched = types_after s way step }) (streams-switched w way step ends)

pub returns-clause-recorded : goal.returns-clause-recorded
returns-clause-recorded c =
    let w = c.args.workflow.now in
    let late = c.deref_mut.result.now in
    let records = c.log.inside.records.items in
    let away = put_away w (way_from c.args.way) c.args.step in
    let behind : UndoState → UndoState = λ l. record l { slots = away l.slots } in
    let lent : late ≡ c.log.inside.late.value = search rules in
    let items : c.deref_mut-2.result.now ≡ late.lanes.items = search rules in
    ap (seen late.source late.target records) (with_items_is late.lanes c.step_streams.new.kept (search rules))
    ∙ seen_away late.source late.target records late.lanes.items c.step_streams.new.kept (away (map (λ (k : PutAway). k.slot) late.lanes.items))
    (c.step_streams.ensures.slots ∙ ap (λ kept. away (map (λ (k : PutAway). k.slot) kept)) items)
    (c.step_streams.ensures.listed ∙ ap (λ kept. map (λ (k : PutAway). k.listed) kept) items)
    ∙ ap (λ (l : Late). behind (seen l.source l.target records l.lanes.items)) lent ∙ ap behind (c.log.view_is ∙ c.exchange.ensures.recorded)

pub returns-clause-log : goal.returns-clause-log
returns-clause-log c =
    stepped_log (way_from c.args.way) c.args.step c.args.topology.now c.exchange.new.topology c.args.workflow.now c.count_step.new.workflow c.args.log.now _ c.args.ends.now
    (step_entries c.args.workflow.now (way_from c.args.way).after (number c.args.step)) (returns-clause-topology c) (returns-clause-workflow c) (returns-clause-recorded c) c.requires.log

pub returns-clause-places : goal.returns-clause-places
returns-clause-places c =
    stepped_places (way_from c.args.way) c.args.step c.args.topology.now c.exchange.new.topology c.args.workflow.now c.count_step.new.workflow c.args.log.now c.args.log.now c.args.ends.now
    (step_entries c.args.workflow.now (way_from c.args.way).after (number c.args.step)) (returns-clause-topology c) (returns-clause-workflow c) c.requires.places
