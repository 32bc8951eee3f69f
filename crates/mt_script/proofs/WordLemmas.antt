-- The words of a line, taken off from the front.
use Rattle.std.proofs.Common.{◌≡◌, ℕ, zero, suc, ◌<◌, Bool, true, false, not, ◌||◌, List, [], ◌∷◌, ◌++◌, length, get_or, take, drop, filter, position, Option, None, Some, unwrap_or, refl, sym, ap, ◌∙◌, append-nil, drop-cons, ⊎_elim, arith}
use Rattle.std.proofs.lemmas.Bool.{true≢false, not-true, not-false, cases_lt, and_parts}
use Rattle.std.proofs.lemmas.Grind.{common_steps}
use Rattle.std.proofs.lemmas.List.{take-append-drop, get_or-take, length-take-le}
use Rattle.std.proofs.Math.Seq.{take-length}
use Rattle.std.proofs.Math.Seq.{drop-length}
use Rattle.std.proofs.lemmas.List.Elements.{recursion_from_All, All-from_recursion}
use Rattle.std.proofs.lemmas.List.Quantifiers.{position-Some}
use Rattle.std.proofs.lemmas.List.Splits.{slice_split_none, slice_split_at}
use Rattle.std.proofs.lemmas.List.Sums.{fails_before_first}
use Rattle.std.specs.List.{AllByRecursion, position_or_len}
use Rattle.mt_plain.specs.Script.{is_blank, is_readable, is_visible, is_word, words_of}

-- every byte is blank, and none is
abbrev Blanks : List ℕ → Type 0
Blanks bytes = AllByRecursion (λ byte. is_blank byte ≡ true) bytes

abbrev pub NoBlanks : List ℕ → Type 0
NoBlanks bytes = AllByRecursion (λ byte. is_blank byte ≡ false) bytes

-- blanks in front of a line add no word
words_of-blanks : (blanks line : List ℕ) → Blanks blanks → words_of (blanks ++ line) ≡ words_of line
words_of-blanks [] line all = refl
words_of-blanks (b ∷ bs) line all = rw all.0 (words_of-blanks bs line all.1)

-- a word with nothing behind it, or a blank
words_of-one : (byte : ℕ) (bytes : List ℕ) → NoBlanks (byte ∷ bytes) → words_of (byte ∷ bytes) ≡ (byte ∷ bytes) ∷ []
words_of-one byte bytes all = ap (filter is_word) (slice_split_none is_blank (byte ∷ bytes) (All-from_recursion _ (byte ∷ bytes) all))

words_of-word : (byte : ℕ) (bytes : List ℕ) (blank : ℕ) (line : List ℕ) → NoBlanks (byte ∷ bytes) → is_blank blank ≡ true
    → words_of ((byte ∷ bytes) ++ blank ∷ line) ≡ (byte ∷ bytes) ∷ words_of (blank ∷ line)
words_of-word byte bytes blank line all is =
    ap (filter is_word) (slice_split_at is_blank (byte ∷ bytes) blank line (All-from_recursion _ (byte ∷ bytes) all) is)
    ∙ rw is refl

-- the bytes before the first that passes
none_before : (p : ℕ → Bool) (line : List ℕ) (place : ℕ) → position p line ≡ Some place → AllByRecursion (λ byte. p byte ≡ false) (take place line)
none_before p line place found =
    recursion_from_All (λ byte. p byte ≡ false) (take place line) (λ k d h.
    let at = position-Some p line place d found in
    let below : k < place = omega (arith, length-take-le place line (omega (arith, at.0)), h) in
    rw (get_or-take place line k d below) (at.2 k below))

none_passes : (p : ℕ → Bool) (line : List ℕ) → position p line ≡ None → AllByRecursion (λ byte. p byte ≡ false) line
none_passes p line none =
    recursion_from_All (λ byte. p byte ≡ false) line (λ k d h.
    ⊎_elim (λ below. absurd (grind (arith, common_steps)))
    (λ beyond. fails_before_first p line k d (omega arith))
    (cases_lt (position_or_len p line) (length line)))

Blanks-from_not : (bytes : List ℕ) → AllByRecursion (λ byte. not (is_blank byte) ≡ false) bytes → Blanks bytes
Blanks-from_not [] all = tt
Blanks-from_not (b ∷ bs) all = (not-false (is_blank b) all.0, Blanks-from_not bs all.1)

-- a word of some bytes, and what a blank begins behind it
pub words_of-append : (word : List ℕ) (blank : ℕ) (line : List ℕ) → is_word word ≡ true → NoBlanks word → is_blank blank ≡ true
    → words_of (word ++ blank ∷ line) ≡ word ∷ words_of (blank ∷ line)
words_of-append [] blank line some all is = absurd (true≢false (sym some))
words_of-append (byte ∷ bytes) blank line some all is = words_of-word byte bytes blank line all is

pub words_of-alone : (word : List ℕ) → is_word word ≡ true → NoBlanks word → words_of word ≡ word ∷ []
words_of-alone [] some all = absurd (true≢false (sym some))
words_of-alone (byte ∷ bytes) some all = words_of-one byte bytes all

-- a line that begins with a word
is_word-take : (line : List ℕ) (n : ℕ) → is_word line ≡ true → 0 < n → is_word (take n line) ≡ true
is_word-take line zero some h = absurd (omega arith)
is_word-take [] (suc n) some h = some
is_word-take (b ∷ bs) (suc n) some h = refl

-- a line of blanks has no word
pub words_of-None : (line : List ℕ) → position (λ byte. not (is_blank byte)) line ≡ None → words_of line ≡ []
words_of-None line none =
    ap words_of (sym (append-nil line)) ∙ words_of-blanks line [] (Blanks-from_not line (none_passes (λ byte. not (is_blank byte)) line none))

-- a line that begins with a word has it first
word_first : (line : List ℕ) (first : ℕ) (others : List ℕ) → line ≡ first ∷ others → is_blank first ≡ false
    → words_of line ≡ take (unwrap_or (position is_blank line) (length line)) line ∷ words_of (drop (unwrap_or (position is_blank line) (length line)) line)
word_first line first others begins visible = by (position is_blank line) refl
  where
    some : is_word line ≡ true
    some = ap is_word begins

    by : (end : Option ℕ) → position is_blank line ≡ end → words_of line ≡ take (unwrap_or end (length line)) line ∷ words_of (drop (unwrap_or end (length line)) line)
    by None none =
        words_of-alone line some (none_passes is_blank line none)
        ∙ (λ i. sym (take-length line) i ∷ words_of (sym (drop-length line) i))
    by (Some zero) found = absurd (true≢false (sym (position-Some is_blank line 0 0 found).1 ∙ ap (λ l. is_blank (get_or l 0 0)) begins ∙ visible))
    by (Some (suc end)) found =
        let at = position-Some is_blank line (suc end) 0 found in
        let behind : drop (suc end) line ≡ get_or line (suc end) 0 ∷ drop (suc (suc end)) line = drop-cons line (suc end) 0 at.0 in
        ap words_of (sym (take-append-drop (suc end) line) ∙ ap (λ l. take (suc end) line ++ l) behind)
        ∙ words_of-append (take (suc end) line) (get_or line (suc end) 0) (drop (suc (suc end)) line) (is_word-take line (suc end) some (omega arith)) (none_before is_blank line (suc end) found) at.1
        ∙ ap (λ l. take (suc end) line ∷ words_of l) (sym behind)

-- where a word begins, it is the first
pub words_of-Some : (line : List ℕ) (start : ℕ) → position (λ byte. not (is_blank byte)) line ≡ Some start
    → words_of line ≡ take (unwrap_or (position is_blank (drop start line)) (length (drop start line))) (drop start line)
    ∷ words_of (drop (unwrap_or (position is_blank (drop start line)) (length (drop start line))) (drop start line))
words_of-Some line start found =
    let at = position-Some (λ byte. not (is_blank byte)) line start 0 found in
    ap words_of (sym (take-append-drop start line))
    ∙ words_of-blanks (take start line) (drop start line) (Blanks-from_not (take start line) (none_before (λ byte. not (is_blank byte)) line start found))
    ∙ word_first (drop start line) (get_or line start 0) (drop (suc start) line) (drop-cons line start 0 at.0) (not-true (is_blank (get_or line start 0)) at.1)

-- ---- what is left of a readable line is readable, and a text

is_readable-drop : (n : ℕ) (line : List ℕ) → is_readable line ≡ true → is_readable (drop n line) ≡ true
is_readable-drop zero line is = is
is_readable-drop (suc n) [] is = is
is_readable-drop (suc n) (b ∷ bs) is = is_readable-drop n bs (and_parts (is_blank b || is_visible b) (is_readable bs) is).1

pub rest_is_readable : (line : List ℕ) (start end : ℕ) → is_readable line ≡ true → is_readable (drop end (drop start line)) ≡ true
rest_is_readable line start end is = is_readable-drop end (drop start line) (is_readable-drop start line is)
