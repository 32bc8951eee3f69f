-- An entry that is written is about one of the tables, which the sink has.
use Rattle.std.proofs.Common.{sym, ap, ◌∙◌}
use Rattle.std.proofs.lemmas.Bool.{and_parts}
use Rattle.mt_names.specs.Shards.{holds}
use Rattle.mt_plain.specs.Plain.{among}
use Rattle.mt_plain.specs.Writes.{in_range, is_applied}
use Rattle.mt_stream.specs.Streams.{copied_from}
use Rattle.mt_stream.proofs.following.follow_entry.Goals as goal

pub put_row-requires : goal.put_row-requires
put_row-requires c =
    let change = c.args.change.now in
    let tables = c.args.filter.tables.now in
    let range = copied_from tables c.args.filter.range in
    let written = sym c.is_written.ensures ∙ c.if-not-is_written.false in
    let applied = (and_parts (holds c.args.filter.keys.now change.key) (is_applied tables range change.table change.key) written).1 in
    let named = (and_parts (among tables change.table) (in_range tables range change.table change.key) applied).0 in
    record { there = c.requires.there c.name.result.now (ap (among tables) c.name.ensures ∙ named) }
