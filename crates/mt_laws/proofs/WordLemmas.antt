-- The words of a line: none has a line feed, and so none of the texts that a command names.
use Rattle.std.proofs.Common.{◌≡◌, ℕ, Bool, true, false, not, cond, eqb, List, [], ◌∷◌, length, Option, None, Some, codes, refl, sym, ◌∙◌, subst}
use Rattle.std.proofs.lemmas.Bool.{true≢false, eqb-true}
use Rattle.std.specs.List.{AllByRecursion, list_all, slice_split}
use Rattle.std.specs.Prelude.{⊤, ◌||◌, nat_lt, nat_le, option_map, option_and_then}
use Rattle.mt_names.specs.Keys.{after, at_sign}
use Rattle.mt_names.specs.Names.{same_text}
use Rattle.mt_model.specs.declared.rows.Op.{Op}
use Rattle.mt_model.specs.declared.rows.Op.TheVariants.{Insert, Update, Append, Delete}
use Rattle.mt_model.specs.Limits.{longest_value}
use Rattle.mt_model.specs.Rows.{RowValue}
use Rattle.mt_plain.specs.Script.{Command, keyspace, table, rule, change, get, change_at, get_at, create, advance, begin_switch, begin_reverse, step, undo, switch, reverse, cancel, complete, show, rules, dump, Line, silent, command, bad_line, line_too_long, MAX_LINE_LENGTH, change_of, command_of, commanded, four_words, is_blank, is_for_reads, is_qualified, is_readable, is_row_verb, is_silent, is_visible, is_word, no_word, one_word, op_of, read_advance, read_at, read_command, read_get, read_line_by, read_number, read_row_command, read_small_number, read_new_keyspace, read_ranged_stream, read_value, read_workflow_command, three_words, two_words, with_number, with_types, with_value, without_value, words_of}
use Rattle.mt_laws.specs.Lines.{KnowsSome}
use Rattle.mt_laws.proofs.CleanLemmas.{CleanOp, CleanValue}
use Rattle.mt_laws.proofs.ListLemmas.{OfSome, cond-either, cond-holds, filter-all, option_and_then-of, option_map-of}
use Rattle.mt_laws.proofs.TextLemmas.{NoFeed, is_other, no_feed-cons, no_feed-nil, no_feed-slice_split}

-- ---- the words

other-visible : (byte : ℕ) → (is_blank byte || is_visible byte) ≡ true → is_other byte ≡ true
other-visible byte seen = by (eqb byte 10) refl
  where
    by : (t : Bool) → eqb byte 10 ≡ t → not t ≡ true
    by true e = absurd (true≢false (sym (subst (λ b. (is_blank b || is_visible b) ≡ true) (eqb-true byte 10 e) seen)))
    by false e = refl

no_feed-line : (line : List ℕ) → list_all (λ byte. is_blank byte || is_visible byte) line ≡ true → NoFeed line
no_feed-line [] seen = no_feed-nil
no_feed-line (b ∷ bs) seen = by (no_feed-line bs) (is_blank b || is_visible b) refl
  where
    by : (list_all (λ byte. is_blank byte || is_visible byte) bs ≡ true → NoFeed bs) → (t : Bool) → (is_blank b || is_visible b) ≡ t → NoFeed (b ∷ bs)
    by again true t = no_feed-cons b bs (other-visible b t) (again (rw t at seen))
    by again false t = absurd (true≢false (sym (rw t at seen)))

no_feed-words : (line : List ℕ) → is_readable line ≡ true → AllByRecursion NoFeed (words_of line)
no_feed-words line seen = filter-all NoFeed is_word (slice_split is_blank line) (no_feed-slice_split is_blank line (no_feed-line line seen))

-- ---- the command of words

abbrev pub CleanCommand : Command → Type 0
CleanCommand (keyspace name shards) = NoFeed name × NoFeed shards
CleanCommand (table name name') = NoFeed name' × NoFeed name
CleanCommand (rule key target) = NoFeed key × NoFeed target
CleanCommand (change name op) = CleanOp op
CleanCommand (change_at name op) = CleanOp op
CleanCommand (create workflow source target tables) = NoFeed workflow × NoFeed source × NoFeed target × NoFeed tables
CleanCommand other = ⊤

abbrev IfCommand : Option Command → Type 0
IfCommand o = OfSome CleanCommand o

abbrev Two : List ℕ × List ℕ → Type 0
Two w = NoFeed w.0 × NoFeed w.1

abbrev Three : List ℕ × List ℕ × List ℕ → Type 0
Three w = NoFeed w.0 × NoFeed w.1 × NoFeed w.2

abbrev Four : List ℕ × List ℕ × List ℕ × List ℕ → Type 0
Four w = NoFeed w.0 × NoFeed w.1 × NoFeed w.2 × NoFeed w.3

one_word-of : (words : List (List ℕ)) → AllByRecursion NoFeed words → OfSome NoFeed (one_word words)
one_word-of [] all = tt
one_word-of (a ∷ []) all = all.0
one_word-of (a ∷ b ∷ words) all = tt

two_words-of : (words : List (List ℕ)) → AllByRecursion NoFeed words → OfSome Two (two_words words)
two_words-of [] all = tt
two_words-of (a ∷ []) all = tt
two_words-of (a ∷ b ∷ []) all = (all.0, all.1.0)
two_words-of (a ∷ b ∷ c ∷ words) all = tt

three_words-of : (words : List (List ℕ)) → AllByRecursion NoFeed words → OfSome Three (three_words words)
three_words-of [] all = tt
three_words-of (a ∷ []) all = tt
three_words-of (a ∷ b ∷ []) all = tt
three_words-of (a ∷ b ∷ c ∷ []) all = (all.0, all.1.0, all.1.1.0)
three_words-of (a ∷ b ∷ c ∷ d ∷ words) all = tt

four_words-of : (words : List (List ℕ)) → AllByRecursion NoFeed words → OfSome Four (four_words words)
four_words-of [] all = tt
four_words-of (a ∷ []) all = tt
four_words-of (a ∷ b ∷ []) all = tt
four_words-of (a ∷ b ∷ c ∷ []) all = tt
four_words-of (a ∷ b ∷ c ∷ d ∷ []) all = (all.0, all.1.0, all.1.1.0, all.1.1.1.0)
four_words-of (a ∷ b ∷ c ∷ d ∷ e ∷ words) all = tt

-- whatever the words are, a command that names no new text
whatever : {A : Type 0} (f : A → Command) (o : Option A) → ((x : A) → CleanCommand (f x)) → IfCommand (option_map f o)
whatever f None each = tt
whatever f (Some x) each = each x

whatever_then : {A : Type 0} (f : A → Option Command) (o : Option A) → ((x : A) → IfCommand (f x)) → IfCommand (option_and_then f o)
whatever_then f None each = tt
whatever_then f (Some x) each = each x

-- ---- operations on a row

read_value-clean : (word : List ℕ) → NoFeed word → OfSome CleanValue (read_value word)
read_value-clean word none = cond-either (OfSome CleanValue) (nat_le (length word) longest_value) (Some (record { items = word })) None none tt

op_of-clean : (make : ℕ → RowValue → Op) (number : Option ℕ) (value : Option RowValue) → ((n : ℕ) (v : RowValue) → NoFeed v.items → CleanOp (make n v)) → OfSome CleanValue value → OfSome CleanOp (op_of make number value)
op_of-clean make None None each none = tt
op_of-clean make None (Some value) each none = tt
op_of-clean make (Some number) None each none = tt
op_of-clean make (Some number) (Some value) each none = each number value none

change_of-clean : (make : List ℕ → Op → Command) (name : List ℕ) (o : Option Op) → ((n : List ℕ) (op : Op) → CleanOp op → CleanCommand (make n op)) → OfSome CleanOp o → IfCommand (change_of make name o)
change_of-clean make name None each none = tt
change_of-clean make name (Some op) each none = cond-either IfCommand (is_for_reads (after at_sign name)) None (Some (make name op)) tt (each name op none)

module _ (make : List ℕ → Op → Command) (each : (n : List ℕ) (op : Op) → CleanOp op → CleanCommand (make n op)) where
  with_value-clean : (op : ℕ → RowValue → Op) (words : List (List ℕ)) → ((n : ℕ) (v : RowValue) → NoFeed v.items → CleanOp (op n v)) → AllByRecursion NoFeed words → IfCommand (with_value make op words)
  with_value-clean op words brings all =
      option_and_then-of Three CleanCommand (λ w. change_of make w.0 (op_of op (read_number w.1) (read_value w.2))) (three_words words)
      (λ w is. change_of-clean make w.0 (op_of op (read_number w.1) (read_value w.2)) each (op_of-clean op (read_number w.1) (read_value w.2) brings (read_value-clean w.2 is.2))) (three_words-of words all)

  without_value-clean : (words : List (List ℕ)) → IfCommand (without_value make words)
  without_value-clean words =
      whatever_then (λ w. change_of make w.0 (option_map Delete (read_number w.1))) (two_words words)
      (λ w. change_of-clean make w.0 (option_map Delete (read_number w.1)) each (option_map-of (λ n. ⊤) CleanOp Delete (read_number w.1) (λ n is. tt) (of_any (read_number w.1))))
    where
      of_any : (o : Option ℕ) → OfSome (λ n. ⊤) o
      of_any None = tt
      of_any (Some n) = tt

  read_row_command-clean : (read : List ℕ → ℕ → Command) (verb : List ℕ) (words : List (List ℕ)) → ((n : List ℕ) (k : ℕ) → CleanCommand (read n k)) → AllByRecursion NoFeed words → IfCommand (read_row_command make read verb words)
  read_row_command-clean read verb words reads all =
      let get_or = cond (same_text verb (codes "get")) (read_get read words) None in
      let delete_or = cond (same_text verb (codes "delete")) (without_value make words) get_or in
      let append_or = cond (same_text verb (codes "append")) (with_value make Append words) delete_or in
      let update_or = cond (same_text verb (codes "update")) (with_value make Update words) append_or in
      cond-either IfCommand (same_text verb (codes "insert")) (with_value make Insert words) update_or (with_value-clean Insert words (λ n v none. none) all)
      (cond-either IfCommand (same_text verb (codes "update")) (with_value make Update words) append_or (with_value-clean Update words (λ n v none. none) all)
      (cond-either IfCommand (same_text verb (codes "append")) (with_value make Append words) delete_or (with_value-clean Append words (λ n v none. none) all)
      (cond-either IfCommand (same_text verb (codes "delete")) (without_value make words) get_or (without_value-clean words)
      (cond-either IfCommand (same_text verb (codes "get")) (read_get read words) None (whatever_then (λ w. option_map (read w.0) (read_number w.1)) (two_words words) (λ w. whatever (read w.0) (read_number w.1) (reads w.0))) tt))))

read_at-clean : (words : List (List ℕ)) → AllByRecursion NoFeed words → IfCommand (read_at words)
read_at-clean [] all = tt
read_at-clean (name ∷ []) all = tt
read_at-clean (name ∷ verb ∷ words) all =
    cond-either IfCommand (is_qualified name) (read_row_command change_at get_at verb (name ∷ words)) None
    (read_row_command-clean change_at (λ n op none. none) get_at verb (name ∷ words) (λ n k. tt) (all.0, all.1.1)) tt

-- ---- workflows

read_advance-clean : (words : List (List ℕ)) → IfCommand (read_advance words)
read_advance-clean words =
    whatever_then (λ w. option_and_then (λ stream. option_and_then (λ at. option_map (advance w.0 stream.0 stream.1 at) (read_small_number w.3)) (read_number w.2)) (read_ranged_stream w.1)) (four_words words)
    (λ w. whatever_then (λ stream. option_and_then (λ at. option_map (advance w.0 stream.0 stream.1 at) (read_small_number w.3)) (read_number w.2)) (read_ranged_stream w.1)
    (λ stream. whatever_then (λ at. option_map (advance w.0 stream.0 stream.1 at) (read_small_number w.3)) (read_number w.2)
    (λ at. whatever (advance w.0 stream.0 stream.1 at) (read_small_number w.3) (λ n. tt))))

with_number-clean : (make : List ℕ → ℕ → Command) (words : List (List ℕ)) → ((w : List ℕ) (n : ℕ) → CleanCommand (make w n)) → IfCommand (with_number make words)
with_number-clean make words each = whatever_then (λ w. option_map (make w.0) (read_number w.1)) (two_words words) (λ w. whatever (make w.0) (read_number w.1) (each w.0))

with_types-clean : (make : List ℕ → List ℕ → Command) (words : List (List ℕ)) → ((w t : List ℕ) → CleanCommand (make w t)) → IfCommand (with_types make words)
with_types-clean make words each = whatever (λ w. make w.0 w.1) (two_words words) (λ w. each w.0 w.1)

-- a verb, or what follows
or-clean : (test : Bool) (here others : Option Command) → IfCommand here → IfCommand others → IfCommand (cond test here others)
or-clean test here others first second = cond-either IfCommand test here others first second

read_workflow_command-clean : (verb : List ℕ) (words : List (List ℕ)) → AllByRecursion NoFeed words → IfCommand (read_workflow_command verb words)
read_workflow_command-clean verb words all =
    let show_or = cond (same_text verb (codes "show")) (option_map show (one_word words)) None in
    let complete_or = cond (same_text verb (codes "complete")) (option_map complete (one_word words)) show_or in
    let cancel_or = cond (same_text verb (codes "cancel")) (option_map cancel (one_word words)) complete_or in
    let reverse_or = cond (same_text verb (codes "reverse")) (with_types reverse words) cancel_or in
    let switch_or = cond (same_text verb (codes "switch")) (with_types switch words) reverse_or in
    let undo_or = cond (same_text verb (codes "undo")) (with_number undo words) switch_or in
    let step_or = cond (same_text verb (codes "step")) (with_number step words) undo_or in
    let begin_reverse_or = cond (same_text verb (codes "begin-reverse")) (with_types begin_reverse words) step_or in
    let begin_switch_or = cond (same_text verb (codes "begin-switch")) (with_types begin_switch words) begin_reverse_or in
    let advance_or = cond (same_text verb (codes "advance")) (read_advance words) begin_switch_or in
    or-clean (same_text verb (codes "create")) (option_map (λ w. create w.0 w.1 w.2 w.3) (four_words words)) advance_or (option_map-of Four CleanCommand (λ w. create w.0 w.1 w.2 w.3) (four_words words) (λ w is. is) (four_words-of words all))
    (or-clean (same_text verb (codes "advance")) (read_advance words) begin_switch_or (read_advance-clean words)
    (or-clean (same_text verb (codes "begin-switch")) (with_types begin_switch words) begin_reverse_or (with_types-clean begin_switch words (λ w t. tt))
    (or-clean (same_text verb (codes "begin-reverse")) (with_types begin_reverse words) step_or (with_types-clean begin_reverse words (λ w t. tt))
    (or-clean (same_text verb (codes "step")) (with_number step words) undo_or (with_number-clean step words (λ w n. tt))
    (or-clean (same_text verb (codes "undo")) (with_number undo words) switch_or (with_number-clean undo words (λ w n. tt))
    (or-clean (same_text verb (codes "switch")) (with_types switch words) reverse_or (with_types-clean switch words (λ w t. tt))
    (or-clean (same_text verb (codes "reverse")) (with_types reverse words) cancel_or (with_types-clean reverse words (λ w t. tt))
    (or-clean (same_text verb (codes "cancel")) (option_map cancel (one_word words)) complete_or (whatever cancel (one_word words) (λ w. tt))
    (or-clean (same_text verb (codes "complete")) (option_map complete (one_word words)) show_or (whatever complete (one_word words) (λ w. tt))
    (or-clean (same_text verb (codes "show")) (option_map show (one_word words)) None (whatever show (one_word words) (λ w. tt)) tt))))))))))

-- ---- all commands

no_word-clean : (words : List (List ℕ)) (o : Option Command) → IfCommand o → IfCommand (no_word words o)
no_word-clean [] o is = is
no_word-clean (word ∷ words) o is = tt

new_keyspace-clean : (words : List (List ℕ)) → AllByRecursion NoFeed words → IfCommand (read_new_keyspace words)
new_keyspace-clean [] all = tt
new_keyspace-clean (name ∷ []) all = (all.0, record { all = refl })
new_keyspace-clean (name ∷ shards ∷ []) all = (all.0, all.1.0)
new_keyspace-clean (name ∷ shards ∷ word ∷ words) all = tt

read_command-clean : (verb : List ℕ) (words : List (List ℕ)) → AllByRecursion NoFeed words → IfCommand (read_command verb words)
read_command-clean verb words all =
    let row_or = cond (is_row_verb verb) (read_row_command change get verb words) (read_workflow_command verb words) in
    let at_or = cond (same_text verb (codes "at")) (read_at words) row_or in
    let dump_or = cond (same_text verb (codes "dump")) (no_word words (Some dump)) at_or in
    let rules_or = cond (same_text verb (codes "rules")) (no_word words (Some rules)) dump_or in
    let rule_or = cond (same_text verb (codes "rule")) (option_map (λ w. rule w.0 w.1) (two_words words)) rules_or in
    let table_or = cond (same_text verb (codes "table")) (option_map (λ w. table w.0 w.1) (two_words words)) rule_or in
    or-clean (same_text verb (codes "keyspace")) (read_new_keyspace words) table_or (new_keyspace-clean words all)
    (or-clean (same_text verb (codes "table")) (option_map (λ w. table w.0 w.1) (two_words words)) rule_or (option_map-of Two CleanCommand (λ w. table w.0 w.1) (two_words words) (λ w is. (is.1, is.0)) (two_words-of words all))
    (or-clean (same_text verb (codes "rule")) (option_map (λ w. rule w.0 w.1) (two_words words)) rules_or (option_map-of Two CleanCommand (λ w. rule w.0 w.1) (two_words words) (λ w is. is) (two_words-of words all))
    (or-clean (same_text verb (codes "rules")) (no_word words (Some rules)) dump_or (no_word-clean words (Some rules) tt)
    (or-clean (same_text verb (codes "dump")) (no_word words (Some dump)) at_or (no_word-clean words (Some dump) tt)
    (or-clean (same_text verb (codes "at")) (read_at words) row_or (read_at-clean words all)
    (or-clean (is_row_verb verb) (read_row_command change get verb words) (read_workflow_command verb words) (read_row_command-clean change (λ n op none. none) get verb words (λ n k. tt) all)
    (read_workflow_command-clean verb words all)))))))

command_of-clean : (words : List (List ℕ)) → AllByRecursion NoFeed words → IfCommand (command_of words)
command_of-clean [] all = tt
command_of-clean (verb ∷ words) all = read_command-clean verb words all.1

-- ---- a line that isn't silent

-- it says something, and a command of it has no text with a line feed
abbrev pub Speaks : Line → Type 0
Speaks silent = ⊥
Speaks bad_line = ⊤
Speaks line_too_long = ⊤
Speaks (command c) = CleanCommand c

module _ (read : List (List ℕ) → Option Command) (knows : KnowsSome read) where
  commanded-speaks : (words : List (List ℕ)) → AllByRecursion NoFeed words → Speaks (commanded (read words))
  commanded-speaks words all = by (read words) refl
    where
      by : (o : Option Command) → read words ≡ o → Speaks (commanded o)
      by None e = tt
      by (Some c) e = subst IfCommand (knows words c e) (command_of-clean words all)

  pub read_line-speaks : (line : List ℕ) → is_silent line ≡ false → Speaks (read_line_by read line)
  read_line-speaks line heard =
      cond-holds Speaks (is_silent line) silent _ (λ t. absurd (true≢false (sym t ∙ heard)))
      (λ f. cond-either Speaks (nat_lt MAX_LINE_LENGTH (length line)) line_too_long _ tt
      (cond-holds Speaks (not (is_readable line)) bad_line (commanded (read (words_of line))) (λ t. tt)
      (λ seen. commanded-speaks (words_of line) (no_feed-words line (seen_by (is_readable line) seen)))))
    where
      seen_by : (t : Bool) → not t ≡ false → t ≡ true
      seen_by true e = refl
      seen_by false e = sym e
