-- The words are the parts that the text's commas cut.
use Rattle.std.proofs.Common.{◌≡◌, ℕ, true, List, [], ◌∷◌, map, Ok, Err, Bor, nat_eq, sym, ap, ◌∙◌, rules, lit<}
use Rattle.std.proofs.lemmas.Iterator.Splits.{YieldsList-from_str_split}
use Rattle.std.proofs.lemmas.Iterator.Consumers.{YieldsList-at, YieldsList-so_far, YieldsList-turn, YieldsList-end}
use Rattle.std.proofs.lemmas.List.{map-append}
use Rattle.std.proofs.lemmas.List.Sums.{fold_push}
use Rattle.std.specs.List.{slice_split}
use Rattle.mt_names.specs.declared.fault.NameFault.TheVariants.{Repeated}
use Rattle.mt_names.specs.Types.{comma, has, no_types, read_type, with_word, read_words}
use Rattle.mt_names.proofs.TypeLemmas.{with_word-read, read_words-fault}
use Rattle.mt_names.proofs.types.parse_words.Goals as goal

pub loop-word-preserved : goal.loop-word-preserved
loop-word-preserved c =
    let so_far = map (λ (x : Bor (List ℕ)). x.now) c.loop-word.yielded in
    let read : read_type c.in-Some.word.now ≡ Ok c.in_ok-tablet_type.tablet_type = sym c.parse.ensures.value ∙ c.in_ok-tablet_type.was in
    let step = with_word-read c.loop-word.set c.of.result c.union-set.result c.in-Some.word.now c.in_ok-tablet_type.tablet_type read (sym c.contains.ensures ∙ c.if-contains.false) c.union-set.ensures c.of.ensures in (
      tt,
      tt,
      ap read_words (map-append (λ (x : Bor (List ℕ)). x.now) c.loop-word.yielded (c.in-Some.word ∷ []))
          ∙ fold_push with_word (Ok no_types) so_far c.in-Some.word.now ∙ ap (λ r. with_word r c.in-Some.word.now) c.loop-word.invariant.2 ∙ step,
    )

pub returns : goal.returns
returns c =
    let chain = YieldsList-at c.into_iter-word-iterator.ensures.into_iter_gives
    (YieldsList-from_str_split 44 c.args.text.now (lit< tt) c.split-word-items.ensures.text c.split-word-items.ensures.has_more c.split-word-items.ensures.pattern) in
    let seen = YieldsList-end chain c.loop-word.yielded _ c.loop-word.yielded_by _ _ c.in-None.is c.next.ensures.steps in
    sym c.loop-word.invariant.2 ∙ ap read_words seen.0

pub returns-in_err-tablet_type : goal.returns-in_err-tablet_type
returns-in_err-tablet_type c =
    let chain = YieldsList-at c.into_iter-word-iterator.ensures.into_iter_gives
    (YieldsList-from_str_split 44 c.args.text.now (lit< tt) c.split-word-items.ensures.text c.split-word-items.ensures.has_more c.split-word-items.ensures.pattern) in
    let so_far = YieldsList-so_far chain c.loop-word.yielded _ c.loop-word.yielded_by in
    let turn = YieldsList-turn chain c.loop-word.yielded _ c.loop-word.yielded_by _ _ c.in-Some.word c.in-Some.is c.next.ensures.steps in
    let bad : read_type c.in-Some.word.now ≡ Err c.in_err-tablet_type.field-0.0 = sym c.parse.ensures.value ∙ c.in_err-tablet_type.was in
    let given : c.from_residual.result ≡ Err c.in_err-tablet_type.field-0.0 = search rules in
    given ∙ sym (read_words-fault (slice_split (λ b. nat_eq b comma) c.args.text.now) _ _ c.in-Some.word.now c.loop-word.set c.in_err-tablet_type.field-0.0 so_far turn.0 turn.1 c.loop-word.invariant.2 (rw bad))

pub returns-then-contains : goal.returns-then-contains
returns-then-contains c =
    let chain = YieldsList-at c.into_iter-word-iterator.ensures.into_iter_gives
    (YieldsList-from_str_split 44 c.args.text.now (lit< tt) c.split-word-items.ensures.text c.split-word-items.ensures.has_more c.split-word-items.ensures.pattern) in
    let so_far = YieldsList-so_far chain c.loop-word.yielded _ c.loop-word.yielded_by in
    let turn = YieldsList-turn chain c.loop-word.yielded _ c.loop-word.yielded_by _ _ c.in-Some.word c.in-Some.is c.next.ensures.steps in
    let read : read_type c.in-Some.word.now ≡ Ok c.in_ok-tablet_type.tablet_type = sym c.parse.ensures.value ∙ c.in_ok-tablet_type.was in
    let stood : has c.loop-word.set c.in_ok-tablet_type.tablet_type ≡ true = sym c.contains.ensures ∙ c.if-contains.true in
    sym (read_words-fault (slice_split (λ b. nat_eq b comma) c.args.text.now) _ _ c.in-Some.word.now c.loop-word.set Repeated so_far turn.0 turn.1 c.loop-word.invariant.2 (rw (read, stood)))
