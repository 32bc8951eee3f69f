-- The tables are gone over in their order.
use Rattle.std.proofs.Common.{◌≡◌, Some, None, [], drop, get_or, sym, ap, ◌∙◌}
use Rattle.std.proofs.lemmas.List.{get_or_read}
use Rattle.mt_stream.specs.Loops.{next_in}
use Rattle.mt_stream.specs.Streams.{copied_from}
use Rattle.mt_stream.proofs.LeftLemmas.{begin-placed, left-found, left-from, left-passed, rows_from}
use Rattle.mt_stream.proofs.PlaceLemmas.{distinct_from}
use Rattle.mt_stream.proofs.copying.first_left.Goals as goal

pub loop-place-init : goal.loop-place-init
loop-place-init c =
    let distinct = distinct_from c.args.tables.now c.requires.distinct in
    left-from c.args.source.now c.args.keys.now c.args.tables.now (copied_from c.args.tables.now c.args.range) distinct
    ∙ ap (λ b. rows_from c.args.source.now c.args.keys.now (drop b.0 c.args.tables.now) b.1) (begin-placed c.args.tables.now c.args.range distinct c.requires.placed ∙ sym c.first_behind-start.ensures)

pub returns-in-Some : goal.returns-in-Some
returns-in-Some c =
    let tables = c.args.tables.now in
    let place = c.loop-place.place in
    let below = c.loop-place-test.true in
    let copied = copied_from c.args.tables.now c.args.range in
    let read = get_or_read tables place c.index-tables-place.result below c.index-tables-place.is [] in
    let next : next_in c.args.source.now c.args.keys.now (get_or tables place []) c.loop-place.behind ≡ Some (c.in-Some.key, c.in-Some.value.now) = ap (λ t. next_in c.args.source.now c.args.keys.now t c.loop-place.behind) (sym read) ∙ sym c.in-Some.ensures in
    (below, left-found c.args.source.now c.args.keys.now tables copied place c.loop-place.behind below c.loop-place.invariant (c.in-Some.key, c.in-Some.value.now) c.facts.ensures (distinct_from tables c.requires.distinct) next)

pub loop-place-preserved : goal.loop-place-preserved
loop-place-preserved c =
    let tables = c.args.tables.now in
    let place = c.loop-place.place in
    let below = c.loop-place-test.true in
    let read = get_or_read tables place c.index-tables-place.result below c.index-tables-place.is [] in
    let next : next_in c.args.source.now c.args.keys.now (get_or tables place []) c.loop-place.behind ≡ None = ap (λ t. next_in c.args.source.now c.args.keys.now t c.loop-place.behind) (sym read) ∙ sym c.in_default.ensures in
    left-passed c.args.source.now c.args.keys.now tables (copied_from tables c.args.range) place c.loop-place.behind below c.loop-place.invariant next
