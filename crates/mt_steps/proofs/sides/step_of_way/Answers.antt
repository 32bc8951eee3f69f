-- What may be refused of the step was not, and the rest is done.
use Rattle.std.proofs.Common.{◌≡◌, ◌<◌, ◌≤◌, List, Option, None, Result, Ok, Err, get_or, length, map, set, ap, arith, rules, sym, subst, ◌∙◌}
use Rattle.std.proofs.lemmas.List.{get_or-map, get_or-set_same, length-map, set-get_or}
use Rattle.std.specs.Bool.{⊤}
use Rattle.mt_model.specs.Topology.{Marks}
use Rattle.mt_plain.specs.Plain.{next_place}
use Rattle.mt_workflow.specs.Workflows.{way_from}
use Rattle.mt_workflow.proofs.LaneLemmas.{few_lanes, some_lanes}
use Rattle.mt_steps.specs.declared.fault.StepFault.{StepFault}
use Rattle.mt_steps.specs.declared.log.Late.{Late}
use Rattle.mt_steps.specs.declared.log.PutAway.{PutAway}
use Rattle.mt_steps.specs.Entries.{recorded}
use Rattle.mt_steps.specs.Plans.{number}
use Rattle.mt_steps.specs.Refreshes.{Sites}
use Rattle.mt_steps.specs.Shards.{next_shard}
use Rattle.mt_steps.specs.Steps.{Attempts, listed_at}
use Rattle.mt_steps.specs.Streams.{put_away, workflow_stepped}
use Rattle.mt_steps.specs.Undo.{UndoState}
use Rattle.mt_steps.proofs.AttemptLemmas.{refused}
use Rattle.mt_steps.proofs.LaneLemmas.{seen, seen_listed}
use Rattle.mt_steps.proofs.PlanLemmas.{shard-within}
use Rattle.mt_steps.proofs.sides.step_of_way.Goals as goal

pub log_ends-ends-requires : goal.log_ends-ends-requires
log_ends-ends-requires g c = subst (λ n. n ≤ 8) (sym c.requires.targets) (few_lanes c.args.workflow.now.lanes c.facts.ensures.covers c.facts.ensures.cuts)

pub returns-in_err-attempt-clause-steps : goal.returns-in_err-attempt-clause-steps
returns-in_err-attempt-clause-steps g c =
    let w = c.args.workflow.now in
    let t = c.args.topology.now in
    let way = way_from c.args.way in
    let step = c.args.step in
    let shard = next_shard way in
    let log = c.args.log.now in
    let late = c.deref_mut.result.now in
    let records = c.log.inside.records.items in
    let kept = late.lanes.items in
    let listed = map (λ (k : PutAway). k.listed) kept in
    let d = c.index_mut.result.now in
    let n = c.from.result in
    let m = c.attempt.new.listed in
    let lent : late ≡ c.log.inside.late.value = search rules in
    let at : n ≡ shard = c.from.ensures ∙ c.next_shard.ensures in
    let behind : UndoState → UndoState = λ l. record l { listed = set l.listed shard m } in
    let logged =
    seen_listed late.source late.target records kept d m n c.index_mut.ensures.value
    ∙ ap (λ j. record (seen late.source late.target records kept) { listed = set listed j m }) at
    ∙ ap (λ (l : Late). behind (seen l.source l.target records l.lanes.items)) lent ∙ ap behind c.log.view_is in
    let long : length listed ≡ length log.listed =
    ap (λ (l : Late). length (map (λ (k : PutAway). k.listed) l.lanes.items)) lent ∙ ap (λ (l : UndoState). length l.listed) c.log.view_is in
    let within : shard < length log.listed =
    let some = some_lanes w.lanes c.facts.ensures.covers c.facts.ensures.cuts in
    let here = shard-within way (next_place way) (omega arith) in omega arith in
    let room : n < length kept = let same = length-map kept (λ (k : PutAway). k.listed) in omega arith in
    let stood : d.listed ≡ listed_at log shard =
    ap (λ (k : PutAway). k.listed) c.index_mut.ensures.value ∙ sym (get_or-map (λ (k : PutAway). k.listed) kept n d None room) ∙ ap (λ j. get_or listed j None) at
    ∙ ap (λ (l : Late). get_or (map (λ (k : PutAway). k.listed) l.lanes.items) shard None) lent ∙ ap (λ (l : UndoState). listed_at l shard) c.log.view_is in
    let before : Option Marks → Sites = λ l. record { source = c.args.source.now; targets = c.args.targets.now; journal = c.args.journal.now; listed = l } in
    let after : Option Marks → Sites = λ l. record { source = c.attempt.new.source; targets = c.attempt.new.targets; journal = c.attempt.new.journal; listed = l } in
    let attempted : Sites → Result ⊤ StepFault → Sites → Type 0 = Attempts (g.W.Asks.scopes c.args.watchers.now) (g.W.Asks.may_answer c.args.watchers.now) c.args.id t w way step in
    let f = c.in_err-attempt.field-0.0 in
    let is : after m ≡ before d.listed = refused (g.W.Asks.scopes c.args.watchers.now) (g.W.Asks.may_answer c.args.watchers.now) t c.args.id w way step (before d.listed) (after m) f c.in_err-attempt.ensures in
    let same = subst (λ x. attempted (before d.listed) (Err f) x) is c.in_err-attempt.ensures in
    let answered : c.from_residual.result ≡ Err f = search rules in
    let left : UndoState = record log { listed = set log.listed shard m } in
    rw answered (
      subst (λ l. attempted (before l) (Err f) (before l)) stood same,
      ap (λ (s : Sites). record { topology = t; source = s.source; targets = s.targets; workflow = w; journal = s.journal }) is,
      logged ∙ ap (λ (l : Option Marks). record log { listed = set log.listed shard l }) (ap (λ (s : Sites). s.listed) is ∙ stood)
          ∙ ap (λ (l : List (Option Marks)). record log { listed = l }) (set-get_or log.listed shard None),
    )

pub returns-clause-steps : goal.returns-clause-steps
returns-clause-steps g c =
    let w = c.args.workflow.now in
    let t = c.args.topology.now in
    let way = way_from c.args.way in
    let step = c.args.step in
    let shard = next_shard way in
    let log = c.args.log.now in
    let late = c.deref_mut.result.now in
    let records = c.log.inside.records.items in
    let kept = late.lanes.items in
    let listed = map (λ (k : PutAway). k.listed) kept in
    let d = c.index_mut.result.now in
    let n = c.from.result in
    let m = c.attempt.new.listed in
    let lent : late ≡ c.log.inside.late.value = search rules in
    let at : n ≡ shard = c.from.ensures ∙ c.next_shard.ensures in
    let behind : UndoState → UndoState = λ l. record l { listed = set l.listed shard m } in
    let logged =
    seen_listed late.source late.target records kept d m n c.index_mut.ensures.value
    ∙ ap (λ j. record (seen late.source late.target records kept) { listed = set listed j m }) at
    ∙ ap (λ (l : Late). behind (seen l.source l.target records l.lanes.items)) lent ∙ ap behind c.log.view_is in
    let long : length listed ≡ length log.listed =
    ap (λ (l : Late). length (map (λ (k : PutAway). k.listed) l.lanes.items)) lent ∙ ap (λ (l : UndoState). length l.listed) c.log.view_is in
    let within : shard < length log.listed =
    let some = some_lanes w.lanes c.facts.ensures.covers c.facts.ensures.cuts in
    let here = shard-within way (next_place way) (omega arith) in omega arith in
    let room : n < length kept = let same = length-map kept (λ (k : PutAway). k.listed) in omega arith in
    let stood : d.listed ≡ listed_at log shard =
    ap (λ (k : PutAway). k.listed) c.index_mut.ensures.value ∙ sym (get_or-map (λ (k : PutAway). k.listed) kept n d None room) ∙ ap (λ j. get_or listed j None) at
    ∙ ap (λ (l : Late). get_or (map (λ (k : PutAway). k.listed) l.lanes.items) shard None) lent ∙ ap (λ (l : UndoState). listed_at l shard) c.log.view_is in
    let before : Option Marks → Sites = λ l. record { source = c.args.source.now; targets = c.args.targets.now; journal = c.args.journal.now; listed = l } in
    let after : Option Marks → Sites = λ l. record { source = c.attempt.new.source; targets = c.attempt.new.targets; journal = c.attempt.new.journal; listed = l } in
    let attempted : Sites → Result ⊤ StepFault → Sites → Type 0 = Attempts (g.W.Asks.scopes c.args.watchers.now) (g.W.Asks.may_answer c.args.watchers.now) c.args.id t w way step in
    let now = c.finish_step.new.log in
    let is = c.finish_step.ensures.recorded ∙ ap (λ (l : UndoState). record { entries = recorded w (number step) t l.entries; listed = l.listed; slots = put_away w way step l.slots }) logged in
    let lists : now.listed ≡ set log.listed shard m = ap (λ (l : UndoState). l.listed) is in
    let kept : m ≡ listed_at now shard = sym (ap (λ l. get_or l shard None) lists ∙ get_or-set_same log.listed shard m None within) in
    record {
      attempt = subst (λ l. attempted (before (listed_at log shard)) (Ok tt) (after l)) kept (subst (λ l. attempted (before l) (Ok tt) (after m)) stood c.in_ok-attempt.ensures);
      topology = c.finish_step.ensures.topology;
      workflow = c.finish_step.ensures.workflow ∙ ap (workflow_stepped w way step) (c.as_slice.ensures.value ∙ c.log_ends-ends.ensures);
      entries = ap (λ (l : UndoState). l.entries) is;
      listed = lists ∙ ap (set log.listed shard) kept;
      slots = ap (λ (l : UndoState). l.slots) is;
    }
