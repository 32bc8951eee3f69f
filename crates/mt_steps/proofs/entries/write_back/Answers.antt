-- One table more; with some steps no entry changes.
use Rattle.std.proofs.Common.{◌≡◌, false, fold, ap, arith, ◌∙◌}
use Rattle.std.proofs.lemmas.List.{take_all}
use Rattle.mt_model.specs.Topology.{TopologyState}
use Rattle.mt_steps.specs.declared.records.TableRecord.{TableRecord}
use Rattle.mt_steps.specs.Entries.{with_recorded}
use Rattle.mt_steps.specs.Records.{entries_of, table_entries}
use Rattle.mt_steps.specs.Plans.{number}
use Rattle.mt_steps.proofs.EntryLemmas.{none_written_back}
use Rattle.mt_steps.proofs.SweepLemmas.{all_back, places_next_back, written_more}
use Rattle.mt_steps.proofs.entries.write_back.Goals as goal

pub returns-then-not-writes_entries : goal.returns-then-not-writes_entries
returns-then-not-writes_entries c =
    let isnt : c.writes_entries.result ≡ false = search (c.if-not-writes_entries.true) in
    none_written_back c.args.workflow.now (number c.args.step) (c.writes_entries.ensures isnt c.args.workflow.now) c.args.topology.now (entries_of c.args.source.now c.args.target.now c.args.records.now)

pub write_back_table-requires : goal.write_back_table-requires
write_back_table-requires c = record {
  places =
      places_next_back c.args.source.now c.args.target.now c.args.workflow.now (number c.args.step) c.args.topology.now c.loop-noted.topology c.args.records.now c.loop-noted.noted-index c.noted-item.result c.noted-item.result c.loop-noted-test.true c.noted-item.is
      c.loop-noted.invariant c.requires.places;
}

pub loop-noted-preserved : goal.loop-noted-preserved
loop-noted-preserved c =
    let s = c.args.source.now in
    let g = c.args.target.now in
    let f : TopologyState → TableRecord → TopologyState = λ v r. fold (with_recorded c.args.workflow.now (number c.args.step)) v (table_entries s g r) in
    c.write_back_table.ensures ∙ ap (λ (r : TableRecord). f c.loop-noted.topology r) c.noted-item.is
    ∙ written_more f c.args.topology.now c.loop-noted.topology c.args.records.now c.loop-noted.noted-index c.noted-item.result c.loop-noted-test.true c.loop-noted.invariant

pub returns : goal.returns
returns c =
    let s = c.args.source.now in
    let g = c.args.target.now in
    let f : TopologyState → TableRecord → TopologyState = λ v r. fold (with_recorded c.args.workflow.now (number c.args.step)) v (table_entries s g r) in
    c.loop-noted.invariant ∙ ap (fold f c.args.topology.now) (take_all c.loop-noted.noted-index c.args.records.now (omega (arith, c.loop-noted-test.false)))
    ∙ all_back s g c.args.workflow.now (number c.args.step) c.args.topology.now c.args.records.now
