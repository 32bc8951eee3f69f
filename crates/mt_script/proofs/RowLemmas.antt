-- The words of an operation on a row, with its name apart.
use Rattle.std.proofs.Common.{◌≡◌, ℕ, ◌==◌, ◌||◌, Bool, true, false, not, if◌then◌else◌, List, [], ◌∷◌, codes, find, Option, None, Some, option_and_then, option_map, refl, sym, ap, ◌∙◌}
use Rattle.std.proofs.lemmas.Bool.{true≢false, eqb-true}
use Rattle.std.specs.Option.{option_map_or}
use Rattle.mt_names.specs.Keys.{after, at_sign, dot}
use Rattle.mt_names.specs.Names.{same_text}
use Rattle.mt_model.specs.declared.rows.Op.{Op}
use Rattle.mt_model.specs.declared.rows.Op.TheVariants.{Delete}
use Rattle.mt_model.specs.Rows.{RowValue}
use Rattle.mt_plain.specs.Script.{Command, change, change_at, change_of, get, get_at, is_for_reads, is_qualified, is_row_verb, read_at, read_command, read_get, read_number, read_row_command, read_value, without_value}
use Rattle.mt_plain.specs.Script as plain
use Rattle.mt_script.specs.declared.lines.RowAsked.{RowAsked}
use Rattle.mt_script.specs.declared.lines.RowAsked.TheVariants as row
use Rattle.mt_script.specs.declared.ops.OpText.TheVariants as op
use Rattle.mt_script.specs.declared.ops.ValueVerb.{ValueVerb}
use Rattle.mt_script.specs.declared.ops.ValueVerb.TheVariants as with
use Rattle.mt_script.specs.declared.commands.RowVerb.{RowVerb}
use Rattle.mt_script.specs.declared.commands.RowVerb.TheVariants as verb
use Rattle.mt_script.specs.Lines.{is_mark, may_ask, op_from, op_of, read_asked, read_last_number, row_from, verb_text, with_value}

module _ (make : List ℕ → Op → Command) (ask : List ℕ → ℕ → Command) (name : List ℕ) where
  -- what is commanded by a name of which this is asked
  abbrev commanded : RowAsked → Option Command
  commanded (row.Write text) = if is_for_reads (after at_sign name) then None else Some (make name (op_from text))
  commanded (row.Read number) = Some (ask name number)

  commanded-may : (asked : RowAsked) → commanded asked ≡ (if may_ask name asked then Some (row_from make ask name asked) else None)
  commanded-may (row.Read number) = refl
  commanded-may (row.Write text) = by (is_for_reads (after at_sign name))
    where
      by : (b : Bool) → (if b then None else Some (make name (op_from text))) ≡ (if not b then Some (make name (op_from text)) else None)
      by true = refl
      by false = refl

  module _ (verb : ValueVerb) where
    value-read : (n : Option ℕ) (v : Option RowValue)
        → change_of make name (plain.op_of (op_of verb) n v)
        ≡ option_and_then commanded (option_map (λ (w : ℕ × RowValue). row.Write (op.Change verb w.0 w.1)) (option_and_then (λ number. option_map (λ value. (number, value)) v) n))
    value-read None v = refl
    value-read (Some n) None = refl
    value-read (Some n) (Some v) = refl

    value-asked : (words : List (List ℕ)) → plain.with_value make (op_of verb) (name ∷ words) ≡ option_and_then commanded (with_value verb words)
    value-asked [] = refl
    value-asked (a ∷ []) = refl
    value-asked (a ∷ b ∷ []) = value-read (read_number a) (read_value b)
    value-asked (a ∷ b ∷ c ∷ words) = refl

  delete-read : (n : Option ℕ) → change_of make name (option_map Delete n) ≡ option_and_then commanded (option_map (λ k. row.Write (op.Delete k)) n)
  delete-read None = refl
  delete-read (Some n) = refl

  delete-asked : (words : List (List ℕ)) → without_value make (name ∷ words) ≡ option_and_then commanded (option_map (λ k. row.Write (op.Delete k)) (read_last_number words))
  delete-asked [] = refl
  delete-asked (a ∷ []) = delete-read (read_number a)
  delete-asked (a ∷ b ∷ words) = refl

  get-read : (n : Option ℕ) → option_map (ask name) n ≡ option_and_then commanded (option_map row.Read n)
  get-read None = refl
  get-read (Some n) = refl

  get-asked : (words : List (List ℕ)) → read_get ask (name ∷ words) ≡ option_and_then commanded (option_map row.Read (read_last_number words))
  get-asked [] = refl
  get-asked (a ∷ []) = get-read (read_number a)
  get-asked (a ∷ b ∷ words) = refl

  through : (b : Bool) (x x' : Option Command) (y y' : Option RowAsked) → x ≡ option_and_then commanded y → x' ≡ option_and_then commanded y'
      → (if b then x else x') ≡ option_and_then commanded (if b then y else y')
  through true x x' y y' p q = p
  through false x x' y y' p q = q

  -- an operation is read as what is asked
  read_row-asked : (verb : List ℕ) (words : List (List ℕ)) → read_row_command make ask verb (name ∷ words) ≡ option_and_then commanded (read_asked verb words)
  read_row-asked verb words =
      through (same_text verb (codes "insert")) _ _ _ _ (value-asked with.Insert words)
      (through (same_text verb (codes "update")) _ _ _ _ (value-asked with.Update words)
      (through (same_text verb (codes "append")) _ _ _ _ (value-asked with.Append words)
      (through (same_text verb (codes "delete")) _ _ _ _ (delete-asked words)
      (through (same_text verb (codes "get")) _ _ _ _ (get-asked words) refl))))

  -- what was read is what is commanded
  module _ (verb : List ℕ) {words rest : List (List ℕ)} (is : words ≡ name ∷ rest) where
    pub row-none : None ≡ read_asked verb rest → None ≡ read_row_command make ask verb words
    row-none none = sym (ap (read_row_command make ask verb) is ∙ read_row-asked verb rest ∙ ap (option_and_then commanded) (sym none))

    pub row-found : (asked : RowAsked) → Some asked ≡ read_asked verb rest → (if may_ask name asked then Some (row_from make ask name asked) else None) ≡ read_row_command make ask verb words
    row-found asked found = sym (ap (read_row_command make ask verb) is ∙ read_row-asked verb rest ∙ ap (option_and_then commanded) (sym found) ∙ commanded-may asked)

-- ---- the verb

-- a verb of a row is no other
pub row-verb : (verb : RowVerb) (words : List (List ℕ)) → read_row_command change get (verb_text verb) words ≡ read_command (verb_text verb) words
row-verb (verb.Change with.Insert) words = refl
row-verb (verb.Change with.Update) words = refl
row-verb (verb.Change with.Append) words = refl
row-verb verb.Delete words = refl
row-verb verb.Get words = refl

-- another verb asks for no row
pub no-row-verb : (make : List ℕ → Op → Command) (ask : List ℕ → ℕ → Command) (verb : List ℕ) (words : List (List ℕ)) → is_row_verb verb ≡ false → None ≡ read_row_command make ask verb words
no-row-verb make ask verb words other =
    by (same_text verb (codes "insert")) (same_text verb (codes "update")) (same_text verb (codes "append")) (same_text verb (codes "delete")) (same_text verb (codes "get")) refl refl refl refl refl other
  where
    by : (a b c d e : Bool) → same_text verb (codes "insert") ≡ a → same_text verb (codes "update") ≡ b → same_text verb (codes "append") ≡ c → same_text verb (codes "delete") ≡ d → same_text verb (codes "get") ≡ e
        → (a || b || c || d || e) ≡ false → None ≡ read_row_command make ask verb words
    by false false false false false a b c d e is = rw (a, b, c, d, e) refl
    by true b c d e p q r s t is = absurd (true≢false is)
    by false true c d e p q r s t is = absurd (true≢false is)
    by false false true d e p q r s t is = absurd (true≢false is)
    by false false false true e p q r s t is = absurd (true≢false is)
    by false false false false true p q r s t is = absurd (true≢false is)

-- ---- behind `at`

-- what is commanded there, if the name is qualified
abbrev qualified : Bool → Option Command → Option Command
qualified is c = if is then c else None

no-command : (is : Bool) → qualified is None ≡ None
no-command true = refl
no-command false = refl

module _ {name verb : List ℕ} {words behind rest : List (List ℕ)} (is : words ≡ name ∷ behind) (follows : behind ≡ verb ∷ rest) where
  at-words : read_at words ≡ (if is_qualified name then read_row_command change_at get_at verb (name ∷ rest) else None)
  at-words = rw (is, follows) refl

  at-nothing : None ≡ read_row_command change_at get_at verb (name ∷ rest) → None ≡ read_at words
  at-nothing none = sym (at-words ∙ ap (qualified (is_qualified name)) (sym none) ∙ no-command (is_qualified name))

  pub at-other : is_row_verb verb ≡ false → None ≡ read_at words
  at-other other = at-nothing (no-row-verb change_at get_at verb (name ∷ rest) other)

  pub at-none : None ≡ read_asked verb rest → None ≡ read_at words
  at-none none = at-nothing (row-none change_at get_at name verb {rest = rest} refl none)

  pub at-refused : (asked : RowAsked) → Some asked ≡ read_asked verb rest → may_ask name asked ≡ false → None ≡ read_at words
  at-refused asked found refused = at-nothing (ap (λ b. if b then Some (row_from change_at get_at name asked) else None) (sym refused) ∙ row-found change_at get_at name verb {rest = rest} refl asked found)

  pub at-unqualified : None ≡ (if is_qualified name then Some name else None) → None ≡ read_at words
  at-unqualified none = sym (at-words ∙ by (is_qualified name) none)
    where
      by : (b : Bool) → None ≡ (if b then Some name else None) → (if b then read_row_command change_at get_at verb (name ∷ rest) else None) ≡ None
      by true none = absurd cc
      by false none = refl

  pub at-found : (name' : List ℕ) (asked : RowAsked) → Some asked ≡ read_asked verb rest → may_ask name asked ≡ true → Some name' ≡ (if is_qualified name then Some name else None)
      → Some (row_from change_at get_at name' asked) ≡ read_at words
  at-found name' asked found may qualified = by (is_qualified name) qualified ∙ sym at-words
    where
      read : Some (row_from change_at get_at name asked) ≡ read_row_command change_at get_at verb (name ∷ rest)
      read = ap (λ b. if b then Some (row_from change_at get_at name asked) else None) (sym may) ∙ row-found change_at get_at name verb {rest = rest} refl asked found

      by : (b : Bool) → Some name' ≡ (if b then Some name else None) → Some (row_from change_at get_at name' asked) ≡ (if b then read_row_command change_at get_at verb (name ∷ rest) else None)
      by true same = let is_name : name' ≡ name = cc in ap (λ n. Some (row_from change_at get_at n asked)) is_name ∙ read
      by false same = absurd cc

-- ---- qualified names

-- a name is qualified where its first mark is a dot
qualified_by_mark : (bytes : List ℕ) → is_qualified bytes ≡ option_map_or (λ b. b == dot) (find is_mark bytes) false
qualified_by_mark [] = refl
qualified_by_mark (b ∷ bs) = by (qualified_by_mark bs) (b == dot) (b == at_sign) refl refl
  where
    by : is_qualified bs ≡ option_map_or (λ c. c == dot) (find is_mark bs) false → (d a : Bool) → (b == dot) ≡ d → (b == at_sign) ≡ a → is_qualified (b ∷ bs) ≡ option_map_or (λ c. c == dot) (find is_mark (b ∷ bs)) false
    by others true true d a = absurd (true≢false (sym a ∙ ap (λ (n : ℕ). n == at_sign) (eqb-true b dot d)))
    by others true false d a = rw (a, d) (sym d)
    by others false true d a = rw (a, d) (sym d)
    by others false false d a = rw (a, d) others

pub qualified_by_found : (name : List ℕ) (found : Option ℕ) → found ≡ find is_mark name → option_map_or (λ b. b == dot) found false ≡ is_qualified name
qualified_by_found name found is = ap (λ m. option_map_or (λ b. b == dot) m false) is ∙ sym (qualified_by_mark name)
