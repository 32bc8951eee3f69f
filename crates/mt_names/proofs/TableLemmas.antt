-- Lists of tables are read exactly, and read back from their texts.
use Rattle.std.proofs.Common.{◌≡◌, ℕ, suc, ◌+◌, ◌-◌, ◌<◌, ◌≤◌, Bool, true, false, cond, eqb, List, [], ◌∷◌, length, Option, None, Some, Result, Ok, Err, IsErrAnd, refl, sym, ap, subst, ◌∙◌, arith}
use Rattle.std.specs.List.{slice_split, onto_first}
use Rattle.mt_names.specs.declared.fault.NameFault.{NameFault}
use Rattle.mt_names.specs.Keys.{before, after}
use Rattle.mt_names.specs.Results.{◌>>=◌}
use Rattle.mt_names.specs.Types.{comma}
use Rattle.mt_names.specs.Tables.{names_of, read_table_list, read_tables_after, with_word}
use Rattle.mt_names.specs.Names.{dash, same_text}
use Rattle.arrayvec.specs.ArrayVec.{ArrayVec}

-- the words of a text, separated by commas
abbrev pub words_of : List ℕ → List (List ℕ)
words_of text = slice_split (λ byte. eqb byte comma) text

-- of what is left of a text, if anything is: the words, the length, and what is one more
abbrev pub words_left : Option (List ℕ) → List (List ℕ)
words_left None = []
words_left (Some text) = words_of text

abbrev pub length_left : Option (List ℕ) → ℕ
length_left None = 0
length_left (Some text) = length text

abbrev pub measure_left : Option (List ℕ) → ℕ
measure_left None = 0
measure_left (Some text) = suc (length text)

-- the words of a text are what stands before its first comma, and the words after it
pub words_of-cut : (text : List ℕ) → words_of text ≡ before comma text ∷ words_left (after comma text)
words_of-cut [] = refl
words_of-cut (b ∷ bs) = by (words_of-cut bs) (eqb b comma) refl
  where
    by : words_of bs ≡ before comma bs ∷ words_left (after comma bs) → (t : Bool) → eqb b comma ≡ t → words_of (b ∷ bs) ≡ before comma (b ∷ bs) ∷ words_left (after comma (b ∷ bs))
    by again true e = rw e refl
    by again false e = rw e (ap (onto_first b) again)

-- the bytes before the first mark, the mark and those after it are all
pub length-cut : (mark : ℕ) (text : List ℕ) → length (before mark text) + measure_left (after mark text) ≡ length text
length-cut mark [] = refl
length-cut mark (b ∷ bs) = by (length-cut mark bs) (eqb b mark) refl
  where
    by : length (before mark bs) + measure_left (after mark bs) ≡ length bs → (t : Bool) → eqb b mark ≡ t → length (before mark (b ∷ bs)) + measure_left (after mark (b ∷ bs)) ≡ length (b ∷ bs)
    by again true e = rw e (omega arith)
    by again false e = rw e (omega (arith, again))

module _ (names : List (List ℕ)) (total : ℕ) where
  -- what follows a word is read behind it
  read-behind : (text : List ℕ) → length text ≤ total → (more : List (List ℕ)) (rest : Option (List ℕ)) → after comma text ≡ rest
      → read_tables_after more (total - length text + length (before comma text) + 1) (words_left rest) ≡ read_tables_after more (total - length_left rest) (words_left rest)
  read-behind text fits more None e = refl
  read-behind text fits more (Some rest) e =
      let cut : length (before comma text) + suc (length rest) ≡ length text = ap (λ r. length (before comma text) + measure_left r) (sym e) ∙ length-cut comma text in
      let front : total - length text + length (before comma text) + 1 ≡ total - length rest = omega (arith, cut, fits) in
      ap (λ f. read_tables_after more f (words_of rest)) front

  -- the words of a text are read by its first word, and then the words after it
  pub read-first : (text : List ℕ) → length text ≤ total
      → read_tables_after names (total - length text) (words_of text)
      ≡ (with_word names (total - length text) (before comma text) >>= λ more. read_tables_after more (total - length_left (after comma text)) (words_left (after comma text)))
  read-first text fits =
      rw (words_of-cut text) (ap (λ f. with_word names (total - length text) (before comma text) >>= f) (λ i more. read-behind text fits more (after comma text) refl i))

-- a turn of the loop: of what was left, the first word is read
module _ (names : List (List ℕ)) (total : ℕ) (whole : Result (List (List ℕ)) NameFault) (left : Option (List ℕ)) (words word : List ℕ) (rest : Option (List ℕ))
    (fits : length_left left ≤ total) (so_far : read_tables_after names (total - length_left left) (words_left left) ≡ whole)
    (is : left ≡ Some words) (front : word ≡ before comma words) (back : rest ≡ after comma words) where
  first_word : (with_word names (total - length words) word >>= λ more. read_tables_after more (total - length_left rest) (words_left rest)) ≡ whole
  first_word =
      (λ i. with_word names (total - length words) (front i) >>= λ more. read_tables_after more (total - length_left (back i)) (words_left (back i)))
      ∙ sym (read-first names total words (subst (λ l. length_left l ≤ total) is fits))
      ∙ (λ i. read_tables_after names (total - length_left (sym is i)) (words_left (sym is i)))
      ∙ so_far

  pub read-taken : (more : List (List ℕ)) → with_word names (total - length words) word ≡ Ok more → read_tables_after more (total - length_left rest) (words_left rest) ≡ whole
  read-taken more e = ap (λ r. r >>= λ m. read_tables_after m (total - length_left rest) (words_left rest)) (sym e) ∙ first_word

  pub read-refused : (fault : NameFault) → with_word names (total - length words) word ≡ Err fault → Err fault ≡ whole
  read-refused fault e = ap (λ r. r >>= λ m. read_tables_after m (total - length_left rest) (words_left rest)) (sym e) ∙ first_word

  pub left-fits : length_left rest ≤ total
  left-fits = rw back (by (after comma words) refl)
    where
      by : (r : Option (List ℕ)) → after comma words ≡ r → length_left r ≤ total
      by None e = omega arith
      by (Some r) e = let cut : length (before comma words) + suc (length r) ≡ length words = ap (λ o. length (before comma words) + measure_left o) (sym e) ∙ length-cut comma words in
          let all : length words ≤ total = subst (λ l. length_left l ≤ total) is fits in omega (arith, cut, all)

  -- and less is left
  pub left-shorter : measure_left rest < measure_left left
  left-shorter =
      let cut : length (before comma words) + measure_left rest ≡ length words = (λ i. length (before comma words) + measure_left (back i)) ∙ length-cut comma words in
      rw is (omega (arith, cut))

-- ---- the whole list

-- a refusal is the fault that it passes on
pub names_of-Err : (r : Result (ArrayVec (List ℕ)) NameFault) (fault : NameFault) → IsErrAnd r (λ e. e ≡ fault) → names_of r ≡ Err fault
names_of-Err (Ok tables) fault h = absurd h
names_of-Err (Err other) fault h = ap Err h

-- a text that is no `-` is read by its words
pub read_table_list-words : (text : List ℕ) → same_text text (dash ∷ []) ≡ false → read_tables_after [] 0 (words_of text) ≡ read_table_list text
read_table_list-words text e = ap (λ t. cond t (Ok []) (read_tables_after [] 0 (words_of text))) (sym e)
