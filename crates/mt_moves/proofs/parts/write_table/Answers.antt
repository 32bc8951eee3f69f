-- Each key has its place when it is written, and at the end the table's are written.
use Rattle.std.proofs.Common.{None, Some, map, true, ap, ◌∙◌}
use Rattle.mt_names.specs.Types.{no_types}
use Rattle.mt_plain.specs.Serve.{is_denied_at}
use Rattle.mt_model.specs.Part.{table_part_keys, with_entries}
use Rattle.mt_workflow.specs.Workflows.{live_of, wanted}
use Rattle.mt_moves.specs.Parts.{mark_entries}
use Rattle.mt_moves.proofs.WriteLemmas.{names, names_by, places-still, places_alone, places_at_source, places_at_target, places_marks, table_whole}
use Rattle.mt_moves.proofs.parts.write_table.Goals as goal

pub write_name-requires : goal.write_name-requires
write_name-requires c = places_alone c.args.topology.now c.args.workflow.now.source c.args.workflow.now.target c.args.table.now c.requires

pub write_name-requires-2 : goal.write_name-requires-2
write_name-requires-2 c =
    let w = c.args.workflow.now in
    let n = c.args.table.now in
    let keys = table_part_keys w.source w.target n in
    let p1 = places-still c.args.topology.now c.write_name.new.topology (map (wanted w no_types) (names None n)) keys c.write_name.ensures c.requires in
    names_by c.write_name.new.topology w.source c.source-source.result.now n c.source-source.ensures (places_at_source c.write_name.new.topology w.source w.target n p1)

pub write_name-requires-3 : goal.write_name-requires-3
write_name-requires-3 c =
    let w = c.args.workflow.now in
    let n = c.args.table.now in
    let keys = table_part_keys w.source w.target n in
    let p1 = places-still c.args.topology.now c.write_name.new.topology (map (wanted w no_types) (names None n)) keys c.write_name.ensures c.requires in
    let p2 = places-still c.write_name.new.topology c.write_name-2.new.topology (map (wanted w no_types) (names (Some c.source-source.result.now) n)) keys c.write_name-2.ensures p1 in
    names_by c.write_name-2.new.topology w.target c.target-target.result.now n c.target-target.ensures (places_at_target c.write_name-2.new.topology w.source w.target n p2)

pub write_marks-requires : goal.write_marks-requires
write_marks-requires c =
    let w = c.args.workflow.now in
    let n = c.args.table.now in
    let keys = table_part_keys w.source w.target n in
    let p1 = places-still c.args.topology.now c.write_name.new.topology (map (wanted w no_types) (names None n)) keys c.write_name.ensures c.requires in
    let p2 = places-still c.write_name.new.topology c.write_name-2.new.topology (map (wanted w no_types) (names (Some c.source-source.result.now) n)) keys c.write_name-2.ensures p1 in
    let p3 = places-still c.write_name-2.new.topology c.write_name-3.new.topology (map (wanted w no_types) (names (Some c.target-target.result.now) n)) keys c.write_name-3.ensures p2 in
    places_marks c.write_name-3.new.topology w.source w.target n p3

pub returns : goal.returns
returns c =
    let w = c.args.workflow.now in
    let n = c.args.table.now in
    table_whole (wanted w no_types) c.args.topology.now c.write_name.new.topology c.write_name-2.new.topology c.write_name-3.new.topology c.write_marks.new.topology w.source w.target c.source-source.result.now c.target-target.result.now n
    c.source-source.ensures c.target-target.ensures c.write_name.ensures c.write_name-2.ensures c.write_name-3.ensures
    (c.write_marks.ensures ∙ ap (λ d. with_entries c.write_name-3.new.topology (mark_entries w.source w.target n d c.is_denied_at-2.result true)) (c.is_denied_at.ensures ∙ ap (is_denied_at (live_of w) no_types) c.source-source.ensures)
    ∙ ap (λ d. with_entries c.write_name-3.new.topology (mark_entries w.source w.target n (is_denied_at (live_of w) no_types w.source) d true)) (c.is_denied_at-2.ensures ∙ ap (is_denied_at (live_of w) no_types) c.target-target.ensures))
