-- The parts that are words are kept, as far as there is room.
use Rattle.std.proofs.Common.{◌≡◌, ◌<◌, ◌==◌, false, List, ℕ, [], ◌∷◌, ◌++◌, length, map, take, Bor, sym, ap, ◌∙◌, arith, lit<}
use Rattle.std.proofs.lemmas.Bool.{eqb-false, eqb-true}
use Rattle.std.proofs.lemmas.Iterator.Splits.{YieldsList-from_str_split}
use Rattle.std.proofs.lemmas.Iterator.Consumers.{YieldsList-at, YieldsList-end}
use Rattle.std.proofs.lemmas.List.{length-map, map-append}
use Rattle.std.specs.List.{filter}
use Rattle.mt.specs.Names.{is_word, most_words}
use Rattle.mt.proofs.NameLemmas.{no_room_more, no_word_more, one_word_more}
use Rattle.mt.proofs.names.words.Goals.{else-not-is_empty-via-then-not-is_empty+else-not-is_full, else-not-is_empty-via-else-not-is_empty}
use Rattle.mt.proofs.names.words.Goals as goal

abbrev texts : List (Bor (List ℕ)) → List (List ℕ)
texts words = map (λ (word : Bor (List ℕ)). word.now) words

pub loop-word-preserved-then-not-is_full : goal.loop-word-preserved-then-not-is_full
loop-word-preserved-then-not-is_full c =
    let parts = texts c.loop-word.yielded in
    let word = c.in-Some.word.now in
    let some : (length word == 0) ≡ false = sym c.is_empty.ensures ∙ c.if-not-is_empty.true in
    let is : texts c.loop-word.words.items ≡ take most_words (filter is_word parts) = c.loop-word.invariant.2 in
    let room : length (texts c.loop-word.words.items) < most_words =
    let long = length-map c.loop-word.words.items (λ (x : Bor (List ℕ)). x.now) in
    let other = eqb-false (length c.loop-word.words.items) most_words (sym c.is_full.ensures.value ∙ c.if-not-is_full.true) in
    omega (arith, long, c.is_full.ensures.fits, other) in (
      tt,
      tt,
      ap texts c.push.ensures.items ∙ map-append (λ (x : Bor (List ℕ)). x.now) c.loop-word.words.items (c.in-Some.word ∷ [])
          ∙ one_word_more most_words (texts c.loop-word.words.items) parts word is some room
          ∙ ap (λ (ps : List (List ℕ)). take most_words (filter is_word ps)) (sym (map-append (λ (x : Bor (List ℕ)). x.now) c.loop-word.yielded (c.in-Some.word ∷ []))),
    )

pub loop-word-preserved : goal.loop-word-preserved
loop-word-preserved c =
    let parts = texts c.loop-word.yielded in
    let word = c.in-Some.word.now in
    let is : texts c.loop-word.words.items ≡ take most_words (filter is_word parts) = c.loop-word.invariant.2 in
    let same : texts c.loop-word.words.items ≡ take most_words (filter is_word (parts ++ word ∷ [])) =
    elim c.else-not-is_empty.branch [
      | else-not-is_empty-via-then-not-is_empty+else-not-is_full w ↦ no_room_more most_words (texts c.loop-word.words.items) parts word is (length-map c.loop-word.words.items (λ (x : Bor (List ℕ)). x.now) ∙ eqb-true (length c.loop-word.words.items) most_words (sym w.is_full.ensures.value ∙ w.if-not-is_full.false))
      | else-not-is_empty-via-else-not-is_empty w ↦ no_word_more most_words (texts c.loop-word.words.items) parts word is (sym c.is_empty.ensures ∙ w.if-not-is_empty.false)
    ] in
    (tt, tt, same ∙ ap (λ (ps : List (List ℕ)). take most_words (filter is_word ps)) (sym (map-append (λ (x : Bor (List ℕ)). x.now) c.loop-word.yielded (c.in-Some.word ∷ []))))

pub returns : goal.returns
returns c =
    let chain = YieldsList-at c.into_iter-word-iterator.ensures.into_iter_gives
    (YieldsList-from_str_split 32 c.args.text.now (lit< tt) c.split-word-items.ensures.text c.split-word-items.ensures.has_more c.split-word-items.ensures.pattern) in
    let seen = YieldsList-end chain c.loop-word.yielded _ c.loop-word.yielded_by _ _ c.in-None.is c.next.ensures.steps in
    c.loop-word.invariant.2 ∙ ap (λ (parts : List (List ℕ)). take most_words (filter is_word parts)) seen.0
