-- A word behind `mt run` that looks like an option is refused, or asks for help.
use Rattle.std.proofs.Common.{◌≡◌, ℕ, Bool, true, false, arith, rules, eqb, subst, List, [], ◌∷◌, ◌++◌, Option, None, Some, refl, sym, ap, ◌∙◌, codes}
use Rattle.std.proofs.lemmas.Bool.{eqb-true}
use Rattle.std.proofs.lemmas.Str.{chars_past_char, encode_ascii, encodes-chars, encodes-IsAscii}
use Rattle.std.proofs.lemmas.List.Elements.{All-head, All-tail}
use Rattle.std.specs.List.{All}
use Rattle.std.specs.Str.{IsUtf8, bytes_eq, chars}
use Rattle.std.proofs.Math.Utf8.{encodes}
use Rattle.clap.specs.Lexer.{long_of, name_and_value, short_of}
use Rattle.clap.specs.Walk.{Text, nothing_held, walked}
use Rattle.clap.specs.Faults.{fault_of, flags_fault, level_fault, turn_fault, walk_fault}
use Rattle.clap.specs.Kinds.{Kinds, or_else}
use Rattle.clap.proofs.OnLiterals.{clap_on_literals}
use Rattle.mt_choice.specs.Command.{mt}
use Rattle.mt_choice.specs.Words.{is_dashed, keyspace_words}
use Rattle.mt_choice.proofs.RunLemmas.{leaf, plain-fault, plain-step, run-fault-below, so_far, stands}

abbrev pub Refuses : Kinds → Type 0
Refuses kinds = kinds ≡ [] → ⊥

-- a text behind a first `-` has a first character
has_char : (y : ℕ) (rest : List ℕ) → IsUtf8 (45 ∷ y ∷ rest) → chars (y ∷ rest) ≡ [] → ⊥
has_char y rest utf8 none =
    let all : chars (45 ∷ y ∷ rest) ≡ 45 ∷ [] = chars_past_char (45 ∷ y ∷ rest) (y ∷ rest) 45 utf8 (ap (λ first. first ++ y ∷ rest) (sym (encode_ascii 45 (omega arith)))) ∙ ap (λ cs. 45 ∷ cs) none in
    let bad : 45 ∷ [] ≡ 45 ∷ y ∷ rest = sym (encodes-IsAscii (45 ∷ []) (search rules)) ∙ ap encodes (sym all) ∙ encodes-chars (45 ∷ y ∷ rest) utf8 in
    cc

module _ (used : List Text) (word : Text) (other : bytes_eq word (codes "--") ≡ false) where
  -- `--name`
  long-refused : (last : Option Text) (name : Text) (given : Option Text) → long_of word ≡ Some (name, given) → Refuses (turn_fault leaf [] (stands used last false) word)
  unfolding clap_on_literals
  long-refused last name given long = by last (bytes_eq (codes "help") name) given refl long
    where
      by : (last : Option Text) (help : Bool) (given : Option Text) → bytes_eq (codes "help") name ≡ help → long_of word ≡ Some (name, given)
          → Refuses (turn_fault leaf [] (stands used last false) word)
      by None false given e f = rw (other, f, e) (λ b. absurd cc)
      by (Some l) false given e f = rw (other, f, e) (λ b. absurd cc)
      by None true (Some v) e f = rw (other, f, e) (λ b. absurd cc)
      by (Some l) true (Some v) e f = rw (other, f, e) (λ b. absurd cc)
      by None true None e f = rw (other, f, e) (λ b. absurd cc)
      by (Some l) true None e f = rw (other, f, e) (λ b. absurd cc)

  -- `-x`
  short-refused : (last : Option Text) (y : ℕ) (rest : List ℕ) → long_of word ≡ None → short_of word ≡ Some (y ∷ rest) → (c : ℕ) (cs : List ℕ) → chars (y ∷ rest) ≡ c ∷ cs
      → Refuses (turn_fault leaf [] (stands used last false) word)
  unfolding walked flags_fault walk_fault
  short-refused last y rest long short c cs are = by last (eqb 104 c) refl
    where
      by : (last : Option Text) (help : Bool) → eqb 104 c ≡ help → Refuses (turn_fault leaf [] (stands used last false) word)
      by None true e = rw (other, long, short, are, e) (λ b. absurd cc)
      by None false e = rw (other, long, short, are, e) (λ b. absurd cc)
      by (Some l) true e = rw (other, long, short, are, e) (λ b. absurd cc)
      by (Some l) false e = rw (other, long, short, are, e) (λ b. absurd cc)

-- a word that looks like an option
dashed-refused : (used : List Text) (last : Option Text) (word : Text) → IsUtf8 word → bytes_eq word (codes "--") ≡ false → is_dashed word ≡ true
    → Refuses (turn_fault leaf [] (stands used last false) word)
dashed-refused used last [] utf8 other dashed = absurd cc
dashed-refused used last (x ∷ []) utf8 other dashed = absurd cc
dashed-refused used last (x ∷ y ∷ rest) utf8 other dashed = by (eqb y 45) refl
  where
    is_dash : x ≡ 45
    is_dash = eqb-true x 45 dashed

    long-at : (rest : List ℕ) → eqb y 45 ≡ true → bytes_eq (x ∷ y ∷ rest) (codes "--") ≡ false
        → Refuses (turn_fault leaf [] (stands used last false) (x ∷ y ∷ rest))
    long-at [] e other =
        let bad : true ≡ false = rw (dashed, e) at other in
        absurd cc
    long-at (z ∷ zs) e other = long-refused used (x ∷ y ∷ z ∷ zs) other last (name_and_value (z ∷ zs)).0 (name_and_value (z ∷ zs)).1 (rw (dashed, e) refl)

    short-at : eqb y 45 ≡ false → (cs : List ℕ) → chars (y ∷ rest) ≡ cs → Refuses (turn_fault leaf [] (stands used last false) (x ∷ y ∷ rest))
    short-at e [] are = absurd (has_char y rest (subst (λ b. IsUtf8 (b ∷ y ∷ rest)) is_dash utf8) are)
    short-at e (c ∷ cs) are = short-refused used (x ∷ y ∷ rest) other last y rest (rw (dashed, e) refl) (rw (dashed, e) refl) c cs are

    by : (t : Bool) → eqb y 45 ≡ t → Refuses (turn_fault leaf [] (stands used last false) (x ∷ y ∷ rest))
    by true e = long-at rest e other
    by false e = short-at e (chars (y ∷ rest)) refl

-- ---- the words

or_else-first : (a b : Kinds) → Refuses a → Refuses (or_else a b)
or_else-first [] b bad = absurd (bad refl)
or_else-first (k ∷ ks) b bad = bad

refused-walk : (words used : List Text) (last : Option Text) → All IsUtf8 words → keyspace_words words ≡ None → Refuses (walk_fault leaf [] (stands used last false) words)
unfolding walk_fault
refused-walk [] used last utf8 is = absurd cc
refused-walk (word ∷ words) used last utf8 is = by (λ e. refused-walk words (so_far used last) (Some word) (All-tail IsUtf8 word words utf8) e) (bytes_eq word (codes "--")) (is_dashed word) (keyspace_words words) refl refl refl
  where
    by : (keyspace_words words ≡ None → Refuses (walk_fault leaf [] (stands (so_far used last) (Some word) false) words))
        → (mark dashed : Bool) (rest : Option (List Text)) → bytes_eq word (codes "--") ≡ mark → is_dashed word ≡ dashed → keyspace_words words ≡ rest
        → Refuses (walk_fault leaf [] (stands used last false) (word ∷ words))
    by again true dashed rest e f g =
        let bad : Some words ≡ None = rw e at is in
        absurd cc
    by again false true rest e f g = or_else-first _ _ (dashed-refused used last word (All-head IsUtf8 word words utf8) e f)
    by again false false (Some more) e f g =
        let bad : Some (word ∷ more) ≡ None = rw (e, f, g) at is in
        absurd cc
    by again false false None e f g =
        let same : walk_fault leaf [] (stands used last false) (word ∷ words) ≡ walk_fault leaf [] (stands (so_far used last) (Some word) false) words =
        ap (λ k. or_else k (walk_fault leaf [] (walked leaf.rules [] (stands used last false) word) words)) (plain-fault used last word e f) ∙ ap (λ w. walk_fault leaf [] w words) (plain-step used last word e f) in
        λ none. again g (sym same ∙ none)

-- ---- the command above

pub run-refused : (program : Text) (words : List Text) → All IsUtf8 words → keyspace_words words ≡ None → Refuses (fault_of mt (program ∷ codes "run" ∷ words))
run-refused program words utf8 is = λ none. leaf-refused words utf8 is (run-fault-below program words none)
  where
    leaf-refused : (words : List Text) → All IsUtf8 words → keyspace_words words ≡ None → Refuses (level_fault leaf [] nothing_held words false [])
    leaf-refused words utf8 is = or_else-first _ _ (refused-walk words [] None utf8 is)
