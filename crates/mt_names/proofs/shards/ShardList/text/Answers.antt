-- The text of one more range is added, and shards are read back.
use Rattle.std.proofs.Common.{◌≤◌, List, length, map, ap, subst, sym, ◌∙◌, arith}
use Rattle.std.specs.List.{join_with_byte}
use Rattle.mt_names.specs.Shards.{AreCuts, KeyRange, cuts_between, range_text, shards_text}
use Rattle.mt_names.specs.Types.{comma}
use Rattle.mt_names.proofs.RangeTextLemmas.{range_text_short}
use Rattle.mt_names.proofs.ShardLemmas.{few_ranges, read_shards-shards_text, short-step, written-end, written-step}
use Rattle.mt_names.proofs.shards.ShardList.text.Goals as goal

pub push_word-requires : goal.push_word-requires
push_word-requires c =
    let items : List KeyRange = c.self.inside.ranges.items in
    let few : length items ≤ 8 = subst (λ (l : List KeyRange). length l ≤ 8) c.self.invariant.0 (few_ranges (cuts_between items) c.self.invariant.1) in
    let list = ap length c.as_slice-ranges.ensures.value in
    let within = c.loop-range-test.true in
    let word = ap length (c.as_str.ensures.value ∙ c.text-word.ensures.bytes) in
    let fits = range_text_short c.range-item.result c.text-word.ensures.range in
    let short = c.loop-range.invariant.short in
    omega (arith, few, list, within, word, fits, short)

pub loop-range-preserved : goal.loop-range-preserved
loop-range-preserved c =
    let i = c.loop-range.range-index in
    let before = c.loop-range.invariant in
    let is_word = c.as_str.ensures.value ∙ c.text-word.ensures.bytes in
    record {
      written = c.push_word.ensures ∙ written-step c.as_slice-ranges.result.now i c.range-item.result c.loop-range.text.bytes c.as_str.result.now c.loop-range-test.true c.range-item.is is_word before.written;
      short = short-step i c.range-item.result c.loop-range.text.bytes c.as_str.result.now c.push_word.new.text.bytes c.text-word.ensures.range is_word c.push_word.ensures before.short;
    }

pub returns-clause-bytes : goal.returns-clause-bytes
returns-clause-bytes c =
    let items : List KeyRange = c.self.inside.ranges.items in
    written-end c.as_slice-ranges.result.now c.loop-range.range-index c.loop-range.text.bytes c.loop-range-test.false c.loop-range.invariant.written
    ∙ ap (λ (l : List KeyRange). join_with_byte comma (map range_text l)) (c.as_slice-ranges.ensures.value ∙ sym c.self.invariant.0)
    ∙ ap shards_text c.self.view_is

pub returns-clause-cuts : goal.returns-clause-cuts
returns-clause-cuts c = subst AreCuts c.self.view_is c.self.invariant.1

pub returns-clause-read_back : goal.returns-clause-read_back
returns-clause-read_back c = read_shards-shards_text c.args.self.now (subst AreCuts c.self.view_is c.self.invariant.1)
