-- The keys of each name have their places when they are written back.
use Rattle.std.proofs.Common.{[], ◌∷◌, None, Some, sym, ◌∙◌}
use Rattle.mt_model.specs.declared.entries.Entry.TheVariants as entry
use Rattle.mt_model.specs.declared.entries.EntryKey.TheVariants as about
use Rattle.mt_steps.specs.Records.{name_entries}
use Rattle.mt_steps.proofs.TableLemmas.{any_workflow, four_back, names, places_of, reads_rest, still_placed_back}
use Rattle.mt_steps.proofs.entries.write_back_reads.Goals as goal

pub write_back_reads_of-requires-2 : goal.write_back_reads_of-requires-2
write_back_reads_of-requires-2 c =
    let s = c.args.source.now in
    let g = c.args.target.now in
    let r = c.args.noted.now in
    let places = places_of c.args.topology.now s g r.table c.requires.places in
    still_placed_back any_workflow 0 c.args.topology.now c.write_back_reads_of.new.topology (name_entries s g None r.table r.alone r.found_alone) (names (Some s) r.table) (c.write_back_reads_of.ensures any_workflow) places.at_source

pub write_back_reads_of-requires-3 : goal.write_back_reads_of-requires-3
write_back_reads_of-requires-3 c =
    let s = c.args.source.now in
    let g = c.args.target.now in
    let r = c.args.noted.now in
    let places = places_of c.args.topology.now s g r.table c.requires.places in
    still_placed_back any_workflow 0 c.write_back_reads_of.new.topology c.write_back_reads_of-2.new.topology (name_entries s g (Some s) r.table r.at_source r.found_at_source) (names (Some g) r.table) (c.write_back_reads_of-2.ensures any_workflow)
    (still_placed_back any_workflow 0 c.args.topology.now c.write_back_reads_of.new.topology (name_entries s g None r.table r.alone r.found_alone) (names (Some g) r.table) (c.write_back_reads_of.ensures any_workflow) places.at_target)

pub put_present-requires : goal.put_present-requires
put_present-requires c =
    let s = c.args.source.now in
    let g = c.args.target.now in
    let r = c.args.noted.now in
    let places = places_of c.args.topology.now s g r.table c.requires.places in
    (still_placed_back any_workflow 0 c.write_back_reads_of-2.new.topology c.write_back_reads_of-3.new.topology (name_entries s g (Some g) r.table r.at_target r.found_at_target) (about.Present g r.table ∷ []) (c.write_back_reads_of-3.ensures any_workflow)
    (still_placed_back any_workflow 0 c.write_back_reads_of.new.topology c.write_back_reads_of-2.new.topology (name_entries s g (Some s) r.table r.at_source r.found_at_source) (about.Present g r.table ∷ []) (c.write_back_reads_of-2.ensures any_workflow)
    (still_placed_back any_workflow 0 c.args.topology.now c.write_back_reads_of.new.topology (name_entries s g None r.table r.alone r.found_alone) (about.Present g r.table ∷ []) (c.write_back_reads_of.ensures any_workflow) (places.present, tt)))).0

pub returns : goal.returns
returns c = λ w.
    let s = c.args.source.now in
    let g = c.args.target.now in
    let r = c.args.noted.now in
    four_back w 0 c.args.topology.now c.write_back_reads_of.new.topology c.write_back_reads_of-2.new.topology c.write_back_reads_of-3.new.topology c.put_present.new.self
    (name_entries s g None r.table r.alone r.found_alone) (name_entries s g (Some s) r.table r.at_source r.found_at_source) (name_entries s g (Some g) r.table r.at_target r.found_at_target)
    (entry.Denied s r.table r.is_denied_at_source ∷ entry.Denied g r.table r.is_denied_at_target ∷ entry.Present g r.table r.is_present ∷ [])
    (c.write_back_reads_of.ensures w) (c.write_back_reads_of-2.ensures w) (c.write_back_reads_of-3.ensures w)
    (c.put_present.ensures ∙ sym (reads_rest w c.write_back_reads_of-3.new.topology s g r.table r.is_denied_at_source r.is_denied_at_target r.is_present))
