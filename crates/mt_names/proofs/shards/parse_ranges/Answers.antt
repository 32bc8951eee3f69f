-- The words are the parts that the text's commas cut.
use Rattle.std.proofs.Common.{◌≡◌, ℕ, List, [], ◌∷◌, map, Err, Bor, nat_eq, sym, ap, ◌∙◌, rules, lit<}
use Rattle.std.proofs.lemmas.Iterator.Splits.{YieldsList-from_str_split}
use Rattle.std.proofs.lemmas.Iterator.Consumers.{YieldsList-at, YieldsList-so_far, YieldsList-turn, YieldsList-end}
use Rattle.std.proofs.lemmas.List.{map-append}
use Rattle.std.specs.List.{slice_split}
use Rattle.mt_names.specs.Shards.{items_of, read_ranges_after}
use Rattle.mt_names.specs.Types.{comma}
use Rattle.mt_names.proofs.ShardLemmas.{read_one_more, read_stops}
use Rattle.mt_names.proofs.shards.parse_ranges.Goals as goal

pub loop-word-preserved : goal.loop-word-preserved
loop-word-preserved c = (
  tt,
  tt,
  ap (read_ranges_after []) (map-append (λ (x : Bor (List ℕ)). x.now) c.loop-word.yielded (c.in-Some.word ∷ []))
      ∙ read_one_more (map (λ (x : Bor (List ℕ)). x.now) c.loop-word.yielded) c.loop-word.ranges.items c.add_word.new.ranges.items c.in-Some.word.now c.loop-word.invariant.2 c.in_ok-add_word.ensures,
)

pub returns : goal.returns
returns c =
    let chain = YieldsList-at c.into_iter-word-iterator.ensures.into_iter_gives
    (YieldsList-from_str_split 44 c.args.text.now (lit< tt) c.split-word-items.ensures.text c.split-word-items.ensures.has_more c.split-word-items.ensures.pattern) in
    let seen = YieldsList-end chain c.loop-word.yielded _ c.loop-word.yielded_by _ _ c.in-None.is c.next.ensures.steps in
    sym c.loop-word.invariant.2 ∙ ap (read_ranges_after []) seen.0

pub returns-in_err-add_word : goal.returns-in_err-add_word
returns-in_err-add_word c =
    let chain = YieldsList-at c.into_iter-word-iterator.ensures.into_iter_gives
    (YieldsList-from_str_split 44 c.args.text.now (lit< tt) c.split-word-items.ensures.text c.split-word-items.ensures.has_more c.split-word-items.ensures.pattern) in
    let so_far = YieldsList-so_far chain c.loop-word.yielded _ c.loop-word.yielded_by in
    let turn = YieldsList-turn chain c.loop-word.yielded _ c.loop-word.yielded_by _ _ c.in-Some.word c.in-Some.is c.next.ensures.steps in
    let given : c.from_residual.result ≡ Err c.in_err-add_word.field-0.0 = search rules in
    ap items_of given
    ∙ sym (read_stops (slice_split (λ b. nat_eq b comma) c.args.text.now) _ _ c.in-Some.word.now c.loop-word.ranges.items c.in_err-add_word.field-0.0 so_far turn.0 turn.1 c.loop-word.invariant.2 c.in_err-add_word.ensures)
