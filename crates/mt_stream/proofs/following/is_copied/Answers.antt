-- The test by the table's place.
use Rattle.std.proofs.Common.{refl, sym, ap, ◌∙◌}
use Rattle.std.proofs.lemmas.Bool.{eq-eqb, le-ltb, lt-ltb, ne_eqb}
use Rattle.mt_plain.specs.Writes.{place_of}
use Rattle.mt_stream.proofs.PlaceLemmas.{distinct_from, written_ended, written_up_to}
use Rattle.mt_stream.proofs.following.is_copied.Goals as goal

pub returns-then-place-last : goal.returns-then-place-last
returns-then-place-last c =
    rw (written_up_to c.args.tables.now c.args.range c.in-UpTo.last c.in-UpTo.key c.args.change.now.table c.args.change.now.key c.place_of-place.result c.in-UpTo.is (c.place_of-place.ensures ∙ ap (place_of c.args.tables.now) c.name.ensures) (distinct_from c.args.tables.now c.requires.distinct) c.requires.placed)
    (rw (lt-ltb c.place_of-place.result c.in-UpTo.last c.if-place-last.true) refl)

pub returns-then-place-last-2 : goal.returns-then-place-last-2
returns-then-place-last-2 c =
    rw (written_up_to c.args.tables.now c.args.range c.in-UpTo.last c.in-UpTo.key c.args.change.now.table c.args.change.now.key c.place_of-place.result c.in-UpTo.is (c.place_of-place.ensures ∙ ap (place_of c.args.tables.now) c.name.ensures) (distinct_from c.args.tables.now c.requires.distinct) c.requires.placed)
    (rw (le-ltb c.place_of-place.result c.in-UpTo.last c.if-place-last.false, eq-eqb c.place_of-place.result c.in-UpTo.last c.if-place-last-2.true) refl)

pub returns-else-place-last-2 : goal.returns-else-place-last-2
returns-else-place-last-2 c =
    rw (written_up_to c.args.tables.now c.args.range c.in-UpTo.last c.in-UpTo.key c.args.change.now.table c.args.change.now.key c.place_of-place.result c.in-UpTo.is (c.place_of-place.ensures ∙ ap (place_of c.args.tables.now) c.name.ensures) (distinct_from c.args.tables.now c.requires.distinct) c.requires.placed)
    (rw (le-ltb c.place_of-place.result c.in-UpTo.last c.if-place-last.false, ne_eqb c.place_of-place.result c.in-UpTo.last c.if-place-last-2.false) refl)

pub returns-in-Ended : goal.returns-in-Ended
returns-in-Ended c = sym (written_ended c.args.tables.now c.args.range c.args.change.now.table c.args.change.now.key c.place_of-place.result c.in-Ended.is (c.place_of-place.ensures ∙ ap (place_of c.args.tables.now) c.name.ensures) (distinct_from c.args.tables.now c.requires.distinct) c.requires.placed)
