-- Each row is copied in its turn.
use Rattle.std.proofs.Common.{◌≡◌, true, Some, [], refl, sym, subst}
use Rattle.std.proofs.lemmas.List.{get_or_read}
use Rattle.mt_plain.specs.Plain.{among, up_to}
use Rattle.mt_primary.specs.Primary.{has_table}
use Rattle.mt_primary.specs.Writes.{IsPut}
use Rattle.mt_stream.specs.Advance.{rows_left}
use Rattle.mt_stream.specs.Loops.{put_left, table_left}
use Rattle.mt_stream.specs.Streams.{copied_from}
use Rattle.mt_stream.proofs.CopyLemmas.{copied-to_end, copying-more}
use Rattle.mt_stream.proofs.PlaceLemmas.{among-at}
use Rattle.mt_stream.proofs.PutLemmas.{has_table-puts}
use Rattle.mt_stream.proofs.copying.copy_rows.Goals as goal

pub returns-in_default-clause-copies : goal.returns-in_default-clause-copies
returns-in_default-clause-copies c =
    copied-to_end c.args.keys.now c.args.tables.now (copied_from c.args.tables.now c.args.range.now) c.args.source.now c.args.sink.now c.args.max c.loop-copied.copied (copied_from c.args.tables.now c.loop-copied.range) c.loop-copied.sink c.loop-copied.invariant.copying
    c.loop-copied-test.true c.in_default.ensures

pub put_row-requires : goal.put_row-requires
put_row-requires c =
    let tables = c.args.tables.now in
    let below = c.in-Some.ensures.0 in
    let read = get_or_read tables c.in-Some.row.place c.index-tables-row.result below c.index-tables-row.is [] in
    let named : among tables (table_left tables c.in-Some.row) ≡ true = among-at tables c.in-Some.row.place below in
    record { there = subst (λ t. has_table c.loop-copied.sink t ≡ true) (sym read) (has_table-puts c.args.sink.now c.loop-copied.sink _ c.loop-copied.invariant.copying.puts (table_left tables c.in-Some.row) (c.requires.there (table_left tables c.in-Some.row) named)) }

pub loop-copied-preserved : goal.loop-copied-preserved
loop-copied-preserved c =
    let tables = c.args.tables.now in
    let copied = copied_from tables c.args.range.now in
    let read = get_or_read tables c.in-Some.row.place c.index-tables-row.result c.in-Some.ensures.0 c.index-tables-row.is [] in
    let put : IsPut c.loop-copied.sink (put_left tables c.in-Some.row) c.put_row.new.sink =
    subst (λ t. IsPut c.loop-copied.sink (record { table = t; key = c.in-Some.row.key; after = Some c.in-Some.row.value.now }) c.put_row.new.sink) read c.in-Ok.ensures.1 in
    record {
      placed = c.in-Some.ensures.0;
      copying = copying-more c.args.keys.now tables copied c.args.source.now c.args.sink.now c.args.max c.loop-copied.copied (copied_from tables c.loop-copied.range) c.loop-copied.sink c.loop-copied.invariant.copying
          (put_left tables c.in-Some.row) (rows_left c.args.source.now c.args.keys.now tables (up_to (table_left tables c.in-Some.row) c.in-Some.row.key)) c.in-Some.ensures.1
          c.put_row.new.sink refl c.in-Ok.ensures.0 put;
    }
