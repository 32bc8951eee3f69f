-- Each entry is read in its turn.
use Rattle.std.proofs.Common.{◌≡◌, ◌+◌, ◌||◌, Bool, Some, None, slice_get, sym, ap, subst, ◌∙◌}
use Rattle.mt_store.specs.Log.{entry_in}
use Rattle.mt_primary.specs.Reads.{entries_from}
use Rattle.mt_stream.specs.Streams.{copied_from}
use Rattle.mt_store.proofs.ReadLemmas.{get_past}
use Rattle.mt_stream.proofs.ReadLemmas.{Reading, read-none, read-to_end, read-to_fault, reading-more}
use Rattle.mt_stream.proofs.following.read_entries.Goals.{then-written, else-written}
use Rattle.mt_stream.proofs.following.read_entries.Goals as goal

pub returns-in_default : goal.returns-in_default
returns-in_default c =
    let entries = entries_from c.args.source.now c.args.position in
    let at : slice_get entries c.loop-read.read ≡ None = get_past c.args.source.now.log c.args.position c.loop-read.read c.requires.kept ∙ ap (λ n. entry_in c.args.source.now.log (c.args.position + n)) (sym c.from.ensures) ∙ sym c.in_default.ensures in
    read-to_end c.args.filter.keys.now c.args.filter.tables.now (copied_from c.args.filter.tables.now c.args.filter.range) entries c.args.sink.now c.args.max c.loop-read.read c.loop-read.written c.loop-read.sink c.loop-read.invariant c.loop-read-test.true at

pub returns-in-Err : goal.returns-in-Err
returns-in-Err c =
    let entries = entries_from c.args.source.now c.args.position in
    let at : slice_get entries c.loop-read.read ≡ Some c.in-Some.change.now = get_past c.args.source.now.log c.args.position c.loop-read.read c.requires.kept ∙ ap (λ n. entry_in c.args.source.now.log (c.args.position + n)) (sym c.from.ensures) ∙ sym c.in-Some.ensures in
    rw c.in-Err.ensures.2 (read-to_fault c.args.filter.keys.now c.args.filter.tables.now (copied_from c.args.filter.tables.now c.args.filter.range) entries c.args.sink.now c.args.max c.loop-read.read c.loop-read.written c.loop-read.sink c.loop-read.invariant c.in-Some.change.now c.loop-read-test.true at c.in-Err.ensures.0 c.if-written-2.true)

pub returns-in-Err-2 : goal.returns-in-Err-2
returns-in-Err-2 c =
    let entries = entries_from c.args.source.now c.args.position in
    let at : slice_get entries c.loop-read.read ≡ Some c.in-Some.change.now = get_past c.args.source.now.log c.args.position c.loop-read.read c.requires.kept ∙ ap (λ n. entry_in c.args.source.now.log (c.args.position + n)) (sym c.from.ensures) ∙ sym c.in-Some.ensures in
    read-none c.args.filter.keys.now c.args.filter.tables.now (copied_from c.args.filter.tables.now c.args.filter.range) entries c.args.sink.now c.args.max c.loop-read.read c.loop-read.written c.loop-read.sink c.loop-read.invariant c.in-Some.change.now c.follow_entry.new.sink c.in-Err.field-0 c.loop-read-test.true at c.in-Err.ensures.0 c.if-written-2.false c.in-Err.ensures.1 c.in-Err.ensures.2

pub loop-read-preserved : goal.loop-read-preserved
loop-read-preserved c =
    let entries = entries_from c.args.source.now c.args.position in
    let copied = copied_from c.args.filter.tables.now c.args.filter.range in
    let at : slice_get entries c.loop-read.read ≡ Some c.in-Some.change.now = get_past c.args.source.now.log c.args.position c.loop-read.read c.requires.kept ∙ ap (λ n. entry_in c.args.source.now.log (c.args.position + n)) (sym c.from.ensures) ∙ sym c.in-Some.ensures in
    let more = reading-more c.args.filter.keys.now c.args.filter.tables.now copied entries c.args.sink.now c.args.max c.loop-read.read c.loop-read.written c.loop-read.sink c.loop-read.invariant c.in-Some.change.now c.in-Ok.more c.follow_entry.new.sink c.loop-read-test.true at c.in-Ok.ensures.0 c.in-Ok.ensures.1 in
    let P : Bool → Type 0 = λ b. Reading c.args.filter.keys.now c.args.filter.tables.now copied entries c.args.sink.now c.args.max (c.loop-read.read + 1) b c.follow_entry.new.sink in
    elim c.if-written.branch [
      | then-written w ↦ subst P (ap (λ b. b || c.in-Ok.more) w.if-written.true ∙ sym w.if-written.true ∙ sym w.written-is) more
      | else-written w ↦ subst P (ap (λ b. b || c.in-Ok.more) w.if-written.false ∙ sym w.written-is) more
    ]
