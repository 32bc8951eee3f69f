-- Each key has its place when it is written, and at the end the table's are written.
use Rattle.std.proofs.Common.{None, Some, map}
use Rattle.mt_model.specs.Topology.{value_of}
use Rattle.mt_stands.specs.Keys.{rules_only}
use Rattle.mt_model.specs.Part.{table_part_keys}
use Rattle.mt_moves.proofs.WriteLemmas.{names, names_by, places-still, places_alone, places_at_source, places_at_target, places_marks, table_whole}
use Rattle.mt_moves.proofs.parts.write_kept_table.Goals as goal

pub write_kept_name-requires : goal.write_kept_name-requires
write_kept_name-requires c = places_alone c.args.topology.now c.args.workflow.now.source c.args.workflow.now.target c.args.table.now c.requires

pub write_kept_name-requires-2 : goal.write_kept_name-requires-2
write_kept_name-requires-2 c =
    let w = c.args.workflow.now in
    let n = c.args.table.now in
    let keys = table_part_keys w.source w.target n in
    let p1 = places-still c.args.topology.now c.write_kept_name.new.topology (map (value_of (rules_only w.kept)) (names None n)) keys c.write_kept_name.ensures c.requires in
    names_by c.write_kept_name.new.topology w.source c.source-source.result.now n c.source-source.ensures (places_at_source c.write_kept_name.new.topology w.source w.target n p1)

pub write_kept_name-requires-3 : goal.write_kept_name-requires-3
write_kept_name-requires-3 c =
    let w = c.args.workflow.now in
    let n = c.args.table.now in
    let keys = table_part_keys w.source w.target n in
    let p1 = places-still c.args.topology.now c.write_kept_name.new.topology (map (value_of (rules_only w.kept)) (names None n)) keys c.write_kept_name.ensures c.requires in
    let p2 = places-still c.write_kept_name.new.topology c.write_kept_name-2.new.topology (map (value_of (rules_only w.kept)) (names (Some c.source-source.result.now) n)) keys c.write_kept_name-2.ensures p1 in
    names_by c.write_kept_name-2.new.topology w.target c.target-target.result.now n c.target-target.ensures (places_at_target c.write_kept_name-2.new.topology w.source w.target n p2)

pub write_marks-requires : goal.write_marks-requires
write_marks-requires c =
    let w = c.args.workflow.now in
    let n = c.args.table.now in
    let keys = table_part_keys w.source w.target n in
    let p1 = places-still c.args.topology.now c.write_kept_name.new.topology (map (value_of (rules_only w.kept)) (names None n)) keys c.write_kept_name.ensures c.requires in
    let p2 = places-still c.write_kept_name.new.topology c.write_kept_name-2.new.topology (map (value_of (rules_only w.kept)) (names (Some c.source-source.result.now) n)) keys c.write_kept_name-2.ensures p1 in
    let p3 = places-still c.write_kept_name-2.new.topology c.write_kept_name-3.new.topology (map (value_of (rules_only w.kept)) (names (Some c.target-target.result.now) n)) keys c.write_kept_name-3.ensures p2 in
    places_marks c.write_kept_name-3.new.topology w.source w.target n p3

pub returns : goal.returns
returns c =
    let w = c.args.workflow.now in
    let n = c.args.table.now in
    table_whole (value_of (rules_only w.kept)) c.args.topology.now c.write_kept_name.new.topology c.write_kept_name-2.new.topology c.write_kept_name-3.new.topology c.write_marks.new.topology w.source w.target c.source-source.result.now c.target-target.result.now n
    c.source-source.ensures c.target-target.ensures c.write_kept_name.ensures c.write_kept_name-2.ensures c.write_kept_name-3.ensures
    c.write_marks.ensures
