-- It stands in a whole segment, or behind them.
use Rattle.std.proofs.Common.{rules, ◌≡◌, ◌-◌, ◌*◌, ◌/◌, ◌<◌, ◌≤◌, ◌∙◌, ap, refl, sym, length, slice_get}
use Rattle.std.proofs.lemmas.Option.{slice_get_read}
use Rattle.mt_store.proofs.SegmentLemmas.{entry_last, entry_whole, lent_is}
use Rattle.mt_store.proofs.log.Log.kept.Goals as goal

pub returns-in-Some : goal.returns-in-Some
returns-in-Some c =
    let within : c.args.place / 256 < length c.self.inside.segments.items = search rules in
    let found = slice_get_read c.self.inside.segments.items (length c.self.inside.segments.items) (c.args.place / 256) c.in-Some.segment.now refl within c.in-Some.ensures.lookup in
    rw (← c.self.view_is) (c.entry.ensures ∙ sym (entry_whole c.self.inside.segments.items c.self.inside.last.items c.self.invariant.whole c.args.place c.in-Some.segment.now found))

pub returns-in-None : goal.returns-in-None
returns-in-None c =
    let past : length c.self.inside.segments.items ≤ c.args.place / 256 = search rules in
    let count : c.len.result ≡ length c.self.inside.segments.items = search rules in
    let here = lent_is c.deref.result.now (c.args.place - 256 * c.len.result) c.get-in-None.result c.get-in-None.ensures.lookup in
    let last = ap (λ es. slice_get es (c.args.place - 256 * c.len.result)) c.deref.ensures.value in
    rw (← c.self.view_is) (here ∙ last ∙ ap (λ n. slice_get c.self.inside.last.items (c.args.place - 256 * n)) count ∙ sym (entry_last c.self.inside.segments.items c.self.inside.last.items c.self.invariant.whole c.args.place past))
