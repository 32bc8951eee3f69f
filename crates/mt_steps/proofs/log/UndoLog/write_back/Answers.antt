-- The records are those of the part's keys, each with a place.
use Rattle.std.proofs.Common.{◌≡◌, fold, map, rules, ap, subst, sym, ◌∙◌}
use Rattle.mt_model.specs.Topology.{key_of}
use Rattle.mt_workflow.specs.Workflows.{keys_of_part}
use Rattle.mt_steps.specs.declared.log.Late.{Late}
use Rattle.mt_steps.specs.Entries.{HavePlaces, with_recorded}
use Rattle.mt_steps.specs.Records.{entries_of}
use Rattle.mt_steps.specs.Undo.{UndoState}
use Rattle.mt_steps.specs.Plans.{number}
use Rattle.mt_steps.proofs.EntryLemmas.{backs_are_entries}
use Rattle.mt_steps.proofs.SweepLemmas.{have_places}
use Rattle.mt_steps.proofs.log.UndoLog.write_back.Goals as goal

pub write_back-requires : goal.write_back-requires
write_back-requires c =
    let log = c.self.inside in
    let kept = log.late.value in
    let first : c.deref.result.now ≡ kept = search rules in
    let second : c.deref-2.result.now ≡ kept = search rules in
    let items : c.deref-3.result.now ≡ log.records.items = search rules in
    let entries : entries_of c.deref.result.now.source c.deref-2.result.now.target c.deref-3.result.now ≡ entries_of kept.source kept.target log.records.items =
    ap (λ (k : Late). entries_of k.source c.deref-2.result.now.target c.deref-3.result.now) first ∙ ap (λ (k : Late). entries_of kept.source k.target c.deref-3.result.now) second
    ∙ ap (entries_of kept.source kept.target) items in
    let is = ap (λ (l : UndoState). map key_of l.entries) c.self.view_is ∙ c.requires.log.entries in
    record {
      places = subst (HavePlaces c.args.topology.now) (sym (ap (map key_of) entries ∙ is)) (have_places c.args.topology.now (keys_of_part c.args.workflow.now) c.requires.places);
    }

pub returns : goal.returns
returns c =
    let w = c.args.workflow.now in
    let n = number c.args.step in
    let t = c.args.topology.now in
    let log = c.self.inside in
    let kept = log.late.value in
    let first : c.deref.result.now ≡ kept = search rules in
    let second : c.deref-2.result.now ≡ kept = search rules in
    let items : c.deref-3.result.now ≡ log.records.items = search rules in
    let entries : entries_of c.deref.result.now.source c.deref-2.result.now.target c.deref-3.result.now ≡ entries_of kept.source kept.target log.records.items =
    ap (λ (k : Late). entries_of k.source c.deref-2.result.now.target c.deref-3.result.now) first ∙ ap (λ (k : Late). entries_of kept.source k.target c.deref-3.result.now) second
    ∙ ap (entries_of kept.source kept.target) items in
    c.write_back.ensures ∙ ap (fold (with_recorded w n) t) entries
    ∙ ap (λ (l : UndoState). fold (with_recorded w n) t l.entries) c.self.view_is
    ∙ backs_are_entries w n t c.args.self.now.entries
