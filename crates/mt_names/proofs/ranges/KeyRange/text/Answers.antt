-- A range is read back from its text.
use Rattle.std.proofs.Common.{◌≡◌, [], ◌∷◌, ◌++◌, length, lit<, append_assoc, length-append, ap, sym, ◌∙◌, arith}
use Rattle.mt_names.specs.Names.{dash}
use Rattle.mt_names.specs.Shards.{is_range, range_text}
use Rattle.mt_names.proofs.RangeTextLemmas.{read_range-range_text}
use Rattle.mt_names.proofs.ranges.KeyRange.text.Goals as goal

pub push_str-requires-2 : goal.push_str-requires-2
push_str-requires-2 c =
    let dashed : c.push.new.self.bytes ≡ c.as_str.result.now ++ dash ∷ [] = c.push.ensures.ascii (lit< tt) ∙ ap (λ l. l ++ dash ∷ []) (c.push_str.ensures.bytes ∙ ap (λ l. l ++ c.as_str.result.now) c.new-text.ensures) in
    let front = ap length dashed in
    let long = length-append c.as_str.result.now (dash ∷ []) in
    let first = c.as_str.ensures.short in
    let second = c.as_str-2.ensures.short in
    (lit< tt, omega (arith, front, long, first, second))

pub returns-clause-bytes : goal.returns-clause-bytes
returns-clause-bytes c =
    let dashed : c.push.new.self.bytes ≡ c.as_str.result.now ++ dash ∷ [] = c.push.ensures.ascii (lit< tt) ∙ ap (λ l. l ++ dash ∷ []) (c.push_str.ensures.bytes ∙ ap (λ l. l ++ c.as_str.result.now) c.new-text.ensures) in
    c.push_str-2.ensures.bytes ∙ ap (λ l. l ++ c.as_str-2.result.now) dashed
    ∙ append_assoc c.as_str.result.now (dash ∷ []) c.as_str-2.result.now
    ∙ (λ i. c.as_str.ensures.value i ++ dash ∷ c.as_str-2.ensures.value i)
    ∙ ap range_text c.self.view_is

pub returns-clause-read_back : goal.returns-clause-read_back
returns-clause-read_back c = read_range-range_text c.args.self.now (ap is_range (sym c.self.view_is) ∙ c.self.invariant)
