-- Bytes that go out in pieces.
use Rattle.std.proofs.Common.{◌≡◌, ◌≢◌, ◌∷◌, ℕ, false, ◌==◌, List, [], ◌++◌, length, take, drop, refl, sym, ap, ◌∙◌, Result, Ok, Err, append-nil, append_assoc}
use Rattle.std.proofs.KnownBytes.{Appends-nil, Appends-trans}
use Rattle.std.proofs.lemmas.List.{take-append-drop}
use Rattle.std.specs.Io.KnownBytes.{Appends}
use Rattle.mt_script.specs.declared.fault.ScriptFault.{ScriptFault}
use Rattle.mt_script.specs.Bytes.{GoesOut, IsCutShort, Known, Writes}

pub nothing_out : (held : Known) (waiting : List ℕ) → GoesOut held held waiting waiting
nothing_out held waiting = ([], Appends-nil held, refl)

-- first some of the bytes, then more of them
pub goes_on : (a b c : Known) (all waiting more rest : List ℕ) → GoesOut a b all waiting → GoesOut b c (waiting ++ more) rest → GoesOut a c (all ++ more) rest
goes_on a b c all waiting more rest (first, went, is) (second, went_then, is_then) = (
  first ++ second,
  Appends-trans a b c first second went went_then,
  ap (λ (t : List ℕ). t ++ more) is ∙ append_assoc first waiting more ∙ ap (λ (t : List ℕ). first ++ t) is_then ∙ sym (append_assoc first second rest),
)

-- one write more
pub goes_more : (a b c : Known) (all rest : List ℕ) (count : ℕ) → GoesOut a b all rest → Appends b c (take count rest) → GoesOut a c all (drop count rest)
goes_more a b c all rest count (first, went, is) went_then = (
  first ++ take count rest,
  Appends-trans a b c first (take count rest) went went_then,
  is ∙ ap (λ (t : List ℕ). first ++ t) (sym (take-append-drop count rest)) ∙ sym (append_assoc first (take count rest) (drop count rest)),
)

pub goes_none : (a b c : Known) (all rest : List ℕ) → GoesOut a b all rest → Appends b c [] → GoesOut a c all rest
goes_none a b c all rest (first, went, is) none = (first ++ [], Appends-trans a b c first [] went none, is ∙ ap (λ (t : List ℕ). t ++ rest) (sym (append-nil first)))

-- what didn't go out may be longer
pub goes_short : (a b : Known) (all rest more : List ℕ) → GoesOut a b all rest → GoesOut a b (all ++ more) (rest ++ more)
goes_short a b all rest more (written, went, is) = (written, went, ap (λ (t : List ℕ). t ++ more) is ∙ append_assoc written rest more)

-- bytes of which some are left
pub some_left : (bytes : List ℕ) → (length bytes == 0) ≡ false → bytes ≢ []
some_left [] e = absurd cc
some_left (byte ∷ bytes) e = λ none. absurd cc

-- ---- bytes behind others

-- what is not empty stays so with more behind it
not_empty-append : (rest more : List ℕ) → rest ≢ [] → rest ++ more ≢ []
not_empty-append [] more some = absurd (some refl)
not_empty-append (byte ∷ bytes) more some = λ none. absurd cc

-- what is cut short stays so with more behind it
pub cut_before : (a b : Known) (all more : List ℕ) → IsCutShort a b all → IsCutShort a b (all ++ more)
cut_before a b all more (rest, some, out) = (rest ++ more, not_empty-append rest more some, goes_short a b all rest more out)

module _ (a b c : Known) (first second : List ℕ) (out : GoesOut a b first []) where
  -- some bytes went out, and then others
  pub goes_behind : (rest : List ℕ) → GoesOut b c second rest → GoesOut a c (first ++ second) rest
  goes_behind rest more = goes_on a b c first [] second rest out more

  pub cut_behind : IsCutShort b c second → IsCutShort a c (first ++ second)
  cut_behind (rest, some, more) = (rest, some, goes_behind rest more)

  pub writes_behind : (waiting : List ℕ) (result : Result Unit ScriptFault) → Writes b c second waiting result → Writes a c (first ++ second) waiting result
  writes_behind waiting (Ok done) more = goes_behind waiting more
  writes_behind waiting (Err f) (is_write, none, more) = (is_write, none, cut_behind more)
