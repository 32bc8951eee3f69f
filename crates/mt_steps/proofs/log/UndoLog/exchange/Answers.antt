-- The records are those of the part's keys, each with a place, and distinct; their sides are the workflow's.
use Rattle.std.proofs.Common.{◌≡◌, ◌≢◌, AllPairs, fold, map, rules, ap, subst, sym, ◌∙◌}
use Rattle.std.proofs.lemmas.List.{with_items_is}
use Rattle.mt_model.specs.Topology.{key_of}
use Rattle.mt_workflow.specs.Workflows.{keys_of_part}
use Rattle.mt_steps.specs.declared.log.PutAway.{PutAway}
use Rattle.mt_steps.specs.Entries.{HavePlaces, recorded, swept, with_wanted}
use Rattle.mt_steps.specs.Records.{entries_of}
use Rattle.mt_steps.specs.Undo.{UndoState}
use Rattle.mt_steps.specs.Plans.{number}
use Rattle.mt_steps.proofs.EntryLemmas.{writes_are_entries}
use Rattle.mt_steps.proofs.SideLemmas.{same_entries, same_entries_swept}
use Rattle.mt_steps.proofs.SweepLemmas.{have_places, swept_is_recorded}
use Rattle.mt_steps.proofs.log.UndoLog.exchange.Goals as goal

pub exchange_step-requires : goal.exchange_step-requires
exchange_step-requires c =
    let w = c.args.workflow.now in
    let log = c.self.inside in
    let kept = log.late.value in
    let items : c.deref_mut.result.now ≡ log.records.items = search rules in
    let is = ap (λ (l : UndoState). map key_of l.entries) c.self.view_is ∙ c.requires.log.entries in
    let same = same_entries kept.source kept.target w.source w.target w.tables log.records.items is in
    record {
      apart = c.facts.ensures.apart;
      places =
          subst (HavePlaces c.args.topology.now) (sym (ap (λ rs. map key_of (entries_of w.source w.target rs)) items ∙ ap (map key_of) (sym same) ∙ is))
          (have_places c.args.topology.now (keys_of_part w) c.requires.places);
    }

pub returns-clause-recorded : goal.returns-clause-recorded
returns-clause-recorded c =
    let w = c.args.workflow.now in
    let types = c.args.types in
    let n = number c.args.step in
    let t = c.args.topology.now in
    let log = c.self.inside in
    let kept = log.late.value in
    let items : c.deref_mut.result.now ≡ log.records.items = search rules in
    let is = ap (λ (l : UndoState). map key_of l.entries) c.self.view_is ∙ c.requires.log.entries in
    let same = same_entries kept.source kept.target w.source w.target w.tables log.records.items is in
    let is_swept = c.exchange_step.ensures.recorded ∙ ap (λ rs. swept w types n t (entries_of w.source w.target rs)) items in
    let distinct : AllPairs (λ a b. a ≢ b) (keys_of_part w) = c.part_keys_are_distinct.ensures w.source w.target w.tables c.facts.ensures.apart c.facts.ensures.distinct in
    ap (λ rs. record { entries = entries_of kept.source kept.target rs; listed = map (λ (k : PutAway). k.listed) kept.lanes.items; slots = map (λ (k : PutAway). k.slot) kept.lanes.items }) (with_items_is log.records c.exchange_step.new.records (search rules))
    ∙ ap (λ es. record { entries = es; listed = map (λ (k : PutAway). k.listed) kept.lanes.items; slots = map (λ (k : PutAway). k.slot) kept.lanes.items })
    (same_entries_swept kept.source kept.target w.source w.target w types n t w.tables log.records.items c.exchange_step.new.records is is_swept ∙ is_swept ∙ ap (swept w types n t) (sym same)
    ∙ swept_is_recorded w types n t (entries_of kept.source kept.target log.records.items) (subst (AllPairs (λ a b. a ≢ b)) (sym is) distinct))
    ∙ ap (λ (l : UndoState). record l { entries = recorded w n t l.entries }) c.self.view_is

pub returns-clause-written : goal.returns-clause-written
returns-clause-written c =
    let w = c.args.workflow.now in
    let n = number c.args.step in
    let t = c.args.topology.now in
    let log = c.self.inside in
    let kept = log.late.value in
    let items : c.deref_mut.result.now ≡ log.records.items = search rules in
    let is = ap (λ (l : UndoState). map key_of l.entries) c.self.view_is ∙ c.requires.log.entries in
    let same = same_entries kept.source kept.target w.source w.target w.tables log.records.items is in
    c.exchange_step.ensures.written ∙ ap (fold (with_wanted w c.args.types n) t) (ap (λ rs. map key_of (entries_of w.source w.target rs)) items ∙ ap (map key_of) (sym same) ∙ is)
    ∙ writes_are_entries w c.args.types n t (keys_of_part w)
