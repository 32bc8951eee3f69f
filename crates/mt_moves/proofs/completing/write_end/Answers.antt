-- The places of the tables at the source, and the whole end.
use Rattle.std.proofs.Common.{false, fold, ap, ◌∙◌}
use Rattle.mt_model.specs.declared.entries.Entry.TheVariants as entry
use Rattle.mt_model.specs.declared.entries.EntryKey.TheVariants as about
use Rattle.mt_model.specs.Part.{part_keys, without_place, without_places}
use Rattle.mt_model.specs.Topology.{with_entry}
use Rattle.mt_workflow.specs.Workflows.{live_of}
use Rattle.mt_moves.proofs.EndLemmas.{end-is, tables-there}
use Rattle.mt_moves.proofs.completing.write_end.Goals as goal

pub write_all_absent-requires : goal.write_all_absent-requires
write_all_absent-requires c =
    tables-there (live_of c.args.workflow.now) c.args.topology.now c.write_end_of_part.new.topology c.source.result.now c.tables.result.now c.source.ensures c.tables.ensures
    c.write_end_of_part.ensures.places c.requires.places

pub returns : goal.returns
returns c =
    let w = c.args.workflow.now in
    let a = c.write_end_of_part.new.topology in
    let b = c.write_all_absent.new.topology in
    let d = c.release_part.new.self in
    end-is (live_of w) c.args.topology.now a b d c.release_tables.new.topology c.requires.apart c.write_end_of_part.ensures.written
    (c.write_all_absent.ensures.written ∙ ap (λ s. fold (λ u table. with_entry u (entry.Present s table false)) a c.tables.result.now) c.source.ensures
    ∙ ap (fold (λ u table. with_entry u (entry.Present w.source table false)) a) c.tables.ensures)
    (c.release_part.ensures ∙ ap (λ s. without_places b (part_keys s c.target.result.now c.tables-2.result.now)) c.source-2.ensures
    ∙ ap (λ t. without_places b (part_keys w.source t c.tables-2.result.now)) c.target.ensures ∙ ap (λ ts. without_places b (part_keys w.source w.target ts)) c.tables-2.ensures)
    (c.release_tables.ensures ∙ ap (λ s. fold (λ u table. without_place u (about.Present s table)) d c.tables-3.result.now) c.source-3.ensures
    ∙ ap (fold (λ u table. without_place u (about.Present w.source table)) d) c.tables-3.ensures)
