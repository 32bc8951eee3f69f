-- Where there is room for a place of each table there is for those that lack one.
use Rattle.std.proofs.Common.{◌≤◌, ◌+◌, ◌-◌, not, length, arith, refl, sym, ap, ◌∙◌}
use Rattle.std.proofs.lemmas.Bool.{le-leb, le-ltb}
use Rattle.std.proofs.lemmas.List.Filters.{length-filter_both}
use Rattle.mt_model.specs.Limits.{most_tables_in_keyspace}
use Rattle.mt_keyspace.specs.Room.{lacking_marks, lacks_mark_place}
use Rattle.mt_keyspace.proofs.keyspace.has_room.Goals as goal

pub returns-then-tables-room : goal.returns-then-tables-room
returns-then-tables-room c =
    let marks = c.args.places.now in
    let names = c.args.tables.now in
    let few : lacking_marks marks names ≤ length names =
    omega (arith, length-filter_both (lacks_mark_place marks) (λ name. not (lacks_mark_place marks name)) (λ name. refl) names) in
    let fits : length marks + lacking_marks marks names ≤ most_tables_in_keyspace =
    omega (arith, few, c.if-tables-room.true, c.len-room.ensures.len, c.len-room.ensures.within) in
    le-leb (length names) (256 - c.len-room.result) c.if-tables-room.true ∙ ap not (sym (le-ltb most_tables_in_keyspace (length marks + lacking_marks marks names) fits))
