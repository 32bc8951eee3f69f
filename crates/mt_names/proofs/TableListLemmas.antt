-- A text is read as a list of tables exactly where it is the text of one.
use Rattle.std.proofs.Common.{◌≡◌, ◌≢◌, ℕ, suc, ◌+◌, ◌<◌, Bool, true, false, eqb, List, [], ◌∷◌, ◌++◌, length, get_or, slice_get, All, Result, Ok, Err, IsOk, IfOk, ◌↔◌, refl, sym, ap, subst, ◌∙◌, append_assoc, append-nil, length-append, arith}
use Rattle.std.proofs.lemmas.Bool.{true≢false, eqb-false, ne_eqb, eq-eqb, false_from_ne_true}
use Rattle.std.proofs.lemmas.List.{get_or_append_left}
use Rattle.std.proofs.Math.Seq.{get_or-append_seam}
use Rattle.std.proofs.lemmas.List.Elements.{All-push}
use Rattle.std.proofs.lemmas.List.Folds.{list_any_none, list_any_at}
use Rattle.std.proofs.lemmas.List.Quantifiers.{all_pairs_push}
use Rattle.std.proofs.lemmas.List.Splits.{slice_split_none, slice_split_at, join_with_byte-slice_split}
use Rattle.std.specs.Cmp.Lexicographic.{same_text as from_same, bytes_decides}
use Rattle.std.specs.List.{join_with_byte, list_any}
use Rattle.arrayvec.specs.ArrayVec.{ArrayVec}
use Rattle.mt_names.specs.declared.fault.NameFault.{NameFault}
use Rattle.mt_names.specs.declared.text.Alphabet.TheVariants.{WithDollar}
use Rattle.mt_names.specs.Keys.{fault_behind}
use Rattle.mt_names.specs.Names.{IsTableName, allows, dash, read_table, same_text}
use Rattle.mt_names.specs.Types.{comma}
use Rattle.mt_names.specs.Tables.{IsTableList, IsTableListText, most_tables, names_of, read_table_list, read_tables_after, table_list_text, with_table, with_word}
use Rattle.mt_names.proofs.NameLemmas.{read_name-name, name_from_read}
use Rattle.mt_names.proofs.ResultLemmas.{after_step, Ok-fault_behind}
use Rattle.mt_names.proofs.TableLemmas.{words_of, words_of-cut}

-- ---- what is read is a list

-- the list does not have the name
absent_from_test : (names : List (List ℕ)) (name : List ℕ) → list_any (λ other. same_text other name) names ≡ false → (k : ℕ) (d : List ℕ) → k < length names → get_or names k d ≢ name
absent_from_test names name none k d h same =
    true≢false (sym (list_any_at (λ other. same_text other name) names k d h ((bytes_decides (get_or names k d) name).1 same)) ∙ none)

-- a list that takes one more name is still one
list_from_with_table : (names : List (List ℕ)) (name : List ℕ) (more : List (List ℕ)) → IsTableName name → IsTableList names → with_table names name ≡ Ok more
    → IsTableList more × (more ≡ names ++ name ∷ [])
list_from_with_table names name more is list e = by (eqb (length names) most_tables) refl (list_any (λ other. same_text other name) names) refl
  where
    by : (t : Bool) → eqb (length names) most_tables ≡ t → (u : Bool) → list_any (λ other. same_text other name) names ≡ u → IsTableList more × (more ≡ names ++ name ∷ [])
    by true full u there = absurd (let h = rw full at e in cc)
    by false full true there = absurd (let h = rw (full, there) at e in cc)
    by false full false there =
        let same : names ++ name ∷ [] ≡ more = (let h = rw (full, there) at e in cc) in (
          subst IsTableList same (record {
            each = All-push IsTableName names name list.each is;
            distinct = all_pairs_push ◌≢◌ names name list.distinct (absent_from_test names name there);
            few = let h = eqb-false (length names) most_tables full in let few = list.few in omega (arith, h, few, length-append names (name ∷ []));
          }),
          sym same,
        )

-- what the words are read as
tables_from_read : (words names : List (List ℕ)) (front : ℕ) (read : List (List ℕ)) → read_tables_after names front words ≡ Ok read → IsTableList names
    → IsTableList read × (read ≡ names ++ words)
tables_from_read [] names front read e list = let same : names ≡ read = cc in (subst IsTableList same list, sym same ∙ sym (append-nil names))
tables_from_read (word ∷ words) names front read e list =
    let added = after_step (with_word names front word) _ read e in
    let table = after_step (fault_behind front (read_table word)) (with_table names) added.0 added.1 in
    let name = name_from_read WithDollar word table.0 (Ok-fault_behind front (read_table word) table.0 table.1) in
    let more = list_from_with_table names table.0 added.0 (subst IsTableName (sym name.1) name.0) list table.2 in
    let rest = tables_from_read words added.0 (front + length word + 1) read added.2 more.0 in
    (rest.0, rest.1 ∙ ap (λ l. l ++ words) (more.1 ∙ ap (λ w. names ++ w ∷ []) name.1) ∙ append_assoc names (word ∷ []) words)

-- no table makes a list
empty-list : IsTableList []
empty-list = record { each = λ k d h. absurd (omega arith); distinct = λ i j d low high. absurd (omega arith); few = omega arith }

-- the words of a text, written as a list, are the text
table_list_text-words_of : (text : List ℕ) → table_list_text (words_of text) ≡ text
table_list_text-words_of text = ap table_list_text (words_of-cut text) ∙ ap (join_with_byte comma) (sym (words_of-cut text)) ∙ join_with_byte-slice_split comma text

pub list_from_read : (text : List ℕ) (read : List (List ℕ)) → read_table_list text ≡ Ok read → IsTableList read × (table_list_text read ≡ text)
list_from_read text read e = by (same_text text (dash ∷ [])) refl
  where
    by : (t : Bool) → same_text text (dash ∷ []) ≡ t → IsTableList read × (table_list_text read ≡ text)
    by true none =
        let empty : [] ≡ read = (let h = rw none at e in cc) in
        (subst IsTableList empty empty-list, ap table_list_text (sym empty) ∙ sym (from_same text (dash ∷ []) (sym none)))
    by false some =
        let list = tables_from_read (words_of text) [] 0 read (rw some at e) empty-list in
        (list.0, ap table_list_text list.1 ∙ table_list_text-words_of text)

-- ---- the text of a list is read as it

-- a table's name has no comma
table_lacks_comma : (name : List ℕ) → IsTableName name → All (λ byte. eqb byte comma ≡ false) name
table_lacks_comma name is k d h = ne_eqb (get_or name k d) comma (λ same. true≢false (sym (is.each k d h) ∙ ap (allows WithDollar) same))

-- the words of names that are joined are the names
words_of-joined : (name : List ℕ) (names : List (List ℕ)) → All IsTableName (name ∷ names) → words_of (join_with_byte comma (name ∷ names)) ≡ name ∷ names
words_of-joined name [] each = slice_split_none (λ byte. eqb byte comma) name (table_lacks_comma name (each 0 [] (omega arith)))
words_of-joined name (next ∷ names) each =
    slice_split_at (λ byte. eqb byte comma) name comma (join_with_byte comma (next ∷ names)) (table_lacks_comma name (each 0 [] (omega arith))) (eq-eqb comma comma refl)
    ∙ ap (λ l. name ∷ l) (words_of-joined next names (λ k d h. each (suc k) d (omega arith)))

-- a name that a list goes on with is taken
with_word-next : (done : List (List ℕ)) (front : ℕ) (name : List ℕ) (names : List (List ℕ)) → IsTableList (done ++ name ∷ names) → with_word done front name ≡ Ok (done ++ name ∷ [])
with_word-next done front name names list =
    let total = length-append done (name ∷ names) in
    let few = list.few in
    let at_name : (d : List ℕ) → get_or (done ++ name ∷ names) (length done) d ≡ name = λ d. get_or-append_seam done name names d in
    let is : IsTableName name = subst IsTableName (at_name []) (list.each (length done) [] (omega (arith, total))) in
    let room : eqb (length done) most_tables ≡ false = ne_eqb (length done) most_tables (λ full. omega (arith, total, few, full)) in
    let new : list_any (λ other. same_text other name) done ≡ false =
    list_any_none (λ other. same_text other name) done (λ k d h. false_from_ne_true (same_text (get_or done k d) name) (λ t.
    list.distinct k (length done) d h (omega (arith, total)) (get_or_append_left done (name ∷ names) d k h ∙ from_same (get_or done k d) name (sym t) ∙ sym (at_name d)))) in
    rw (read_name-name WithDollar name is, room, new) refl

read_tables_after-names : (names done : List (List ℕ)) (front : ℕ) → IsTableList (done ++ names) → read_tables_after done front names ≡ Ok (done ++ names)
read_tables_after-names [] done front list = ap Ok (sym (append-nil done))
read_tables_after-names (name ∷ names) done front list =
    let again = append_assoc done (name ∷ []) names in
    rw (with_word-next done front name names list)
    (read_tables_after-names names (done ++ name ∷ []) (front + length name + 1) (subst IsTableList (sym again) list) ∙ ap Ok again)

first-append : (xs ys : List ℕ) → 0 < length xs → slice_get (xs ++ ys) 0 ≡ slice_get xs 0
first-append [] ys some = absurd (omega arith)
first-append (x ∷ xs) ys some = refl

-- a text that begins with a table's name is not `-`
begins≢dash : (name more : List ℕ) {text : List ℕ} → IsTableName name → name ++ more ≡ text → same_text text (dash ∷ []) ≡ false
begins≢dash name more {text} is e =
    false_from_ne_true (same_text text (dash ∷ [])) (λ t.
    is.first (sym (first-append name more is.not_empty) ∙ ap (λ l. slice_get l 0) (e ∙ from_same text (dash ∷ []) (sym t))))

-- no list's text but the empty one's is `-`
joined≢dash : (name : List ℕ) (names : List (List ℕ)) → IsTableName name → same_text (join_with_byte comma (name ∷ names)) (dash ∷ []) ≡ false
joined≢dash name [] is = begins≢dash name [] is (append-nil name)
joined≢dash name (next ∷ names) is = begins≢dash name (comma ∷ join_with_byte comma (next ∷ names)) is refl

pub read_table_list-text : (names : List (List ℕ)) → IsTableList names → read_table_list (table_list_text names) ≡ Ok names
read_table_list-text [] list = refl
read_table_list-text (name ∷ names) list =
    rw (joined≢dash name names (list.each 0 [] (omega arith)), words_of-joined name names list.each)
    (read_tables_after-names (name ∷ names) [] 0 list)

-- ---- a text is read exactly where it is a list's

pub list_accepts : (text : List ℕ) (r : Result (ArrayVec (List ℕ)) NameFault) → names_of r ≡ read_table_list text → IsOk r ↔ IsTableListText text
list_accepts text r e = (by r e, λ is. back r (e ∙ ap read_table_list (sym is.2) ∙ read_table_list-text is.0 is.1))
  where
    by : (r : Result (ArrayVec (List ℕ)) NameFault) → names_of r ≡ read_table_list text → IsOk r → IsTableListText text
    by (Ok tables) e ok = let both = list_from_read text tables.items (sym e) in (tables.items, both.0, both.1)
    by (Err fault) e ok = absurd (true≢false (sym ok))

    back : {names : List (List ℕ)} (r : Result (ArrayVec (List ℕ)) NameFault) → names_of r ≡ Ok names → IsOk r
    back (Ok tables) e = refl
    back (Err fault) e = absurd cc

pub list_is_list : (text : List ℕ) (r : Result (ArrayVec (List ℕ)) NameFault) → names_of r ≡ read_table_list text → IfOk r (λ tables. IsTableList tables.items)
list_is_list text (Ok tables) e = (list_from_read text tables.items (sym e)).0
list_is_list text (Err fault) e = tt
