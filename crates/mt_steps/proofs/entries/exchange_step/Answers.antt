-- One table more; with some steps no entry changes.
use Rattle.std.proofs.Common.{◌≡◌, ◌<◌, false, length, get_or, map, fold, set, refl, sym, ap, subst, arith, add-one, ◌∙◌}
use Rattle.std.proofs.lemmas.List.{take_all}
use Rattle.mt_model.specs.Topology.{key_of}
use Rattle.mt_steps.specs.declared.records.TableRecord.{TableRecord}
use Rattle.mt_steps.specs.Records.{entries_of, table_entries}
use Rattle.mt_steps.specs.Entries.{swept}
use Rattle.mt_steps.specs.Plans.{number}
use Rattle.mt_steps.proofs.EntryLemmas.{none_swept, none_written}
use Rattle.mt_steps.proofs.SweepLemmas.{AreSwept, all_swept, all_written, none_yet, over, places_next, same_next, sweep_next, written_more}
use Rattle.mt_steps.proofs.entries.exchange_step.Goals as goal

pub returns-then-not-writes_entries-clause-recorded : goal.returns-then-not-writes_entries-clause-recorded
returns-then-not-writes_entries-clause-recorded c =
    let isnt : c.writes_entries.result ≡ false = search (c.if-not-writes_entries.true) in
    none_swept c.args.workflow.now (number c.args.step) (c.writes_entries.ensures isnt c.args.workflow.now) c.args.types c.args.topology.now (entries_of c.args.workflow.now.source c.args.workflow.now.target c.args.records.now)

pub returns-then-not-writes_entries-clause-written : goal.returns-then-not-writes_entries-clause-written
returns-then-not-writes_entries-clause-written c =
    let isnt : c.writes_entries.result ≡ false = search (c.if-not-writes_entries.true) in
    none_written c.args.workflow.now (number c.args.step) (c.writes_entries.ensures isnt c.args.workflow.now) c.args.types c.args.topology.now (map key_of (entries_of c.args.workflow.now.source c.args.workflow.now.target c.args.records.now))

pub loop-noted-init : goal.loop-noted-init
loop-noted-init c = record { swept = none_yet c.args.workflow.now.source c.args.workflow.now.target c.args.workflow.now c.args.types (number c.args.step) c.args.topology.now c.args.records.now; written = refl }

pub exchange_table-requires : goal.exchange_table-requires
exchange_table-requires c =
    let s = c.args.workflow.now.source in
    let g = c.args.workflow.now.target in
    let w = c.args.workflow.now in
    let i = c.loop-noted.noted-index in
    let d : TableRecord = c.noted-item.result in
    let within : i < length c.args.records.now = omega (arith, c.loop-noted-test.true, c.loop-noted.auto.records) in
    record {
      apart = c.requires.apart;
      places =
          places_next s g w c.args.types (number c.args.step) c.args.topology.now c.loop-noted.topology c.args.records.now i (get_or c.loop-noted.records i d) d within
          (same_next s g w c.args.types (number c.args.step) c.args.topology.now i c.args.records.now c.loop-noted.records d c.loop-noted.invariant.swept)
          c.loop-noted.invariant.written c.requires.places;
    }

pub loop-noted-preserved : goal.loop-noted-preserved
loop-noted-preserved c =
    let s = c.args.workflow.now.source in
    let g = c.args.workflow.now.target in
    let w = c.args.workflow.now in
    let types = c.args.types in
    let n = number c.args.step in
    let t = c.args.topology.now in
    let u = c.loop-noted.topology in
    let old = c.args.records.now in
    let i = c.loop-noted.noted-index in
    let d : TableRecord = c.noted-item.result in
    let within : i < length old = omega (arith, c.loop-noted-test.true, c.loop-noted.auto.records) in
    let same : get_or c.loop-noted.records i d ≡ get_or old i d = same_next s g w types n t i old c.loop-noted.records d c.loop-noted.invariant.swept in
    record {
      swept =
          subst (λ m. AreSwept s g w types n t m old (set c.loop-noted.records i c.exchange_table.new.noted)) (sym (add-one i))
          (sweep_next s g w types n t i old c.loop-noted.records d c.exchange_table.new.noted within c.loop-noted.invariant.swept
          (c.exchange_table.ensures.recorded ∙ ap (λ r. swept w types n u (table_entries s g r)) same ∙ ap (λ v. swept w types n v (table_entries s g (get_or old i d))) c.loop-noted.invariant.written));
      written =
          c.exchange_table.ensures.written ∙ ap (λ r. over w types n u (table_entries s g r)) same
          ∙ written_more (λ v r. over w types n v (table_entries s g r)) t u old i d within c.loop-noted.invariant.written;
    }

pub returns-clause-recorded : goal.returns-clause-recorded
returns-clause-recorded c =
    all_swept c.args.workflow.now.source c.args.workflow.now.target c.args.workflow.now c.args.types (number c.args.step) c.args.topology.now c.loop-noted.noted-index c.args.records.now c.loop-noted.records
    (omega (arith, c.loop-noted-test.false, c.loop-noted.auto.records)) c.loop-noted.invariant.swept

pub returns-clause-written : goal.returns-clause-written
returns-clause-written c =
    c.loop-noted.invariant.written
    ∙ ap (fold (λ u r. over c.args.workflow.now c.args.types (number c.args.step) u (table_entries c.args.workflow.now.source c.args.workflow.now.target r)) c.args.topology.now)
    (take_all c.loop-noted.noted-index c.args.records.now (omega (arith, c.loop-noted-test.false, c.loop-noted.auto.records)))
    ∙ all_written c.args.workflow.now.source c.args.workflow.now.target c.args.workflow.now c.args.types (number c.args.step) c.args.topology.now c.args.records.now
