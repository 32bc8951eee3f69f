-- Tables made, and tables dropped, one after the other.
use Rattle.std.proofs.Common.{◌≡◌, ◌≢◌, ℕ, ◌⊎◌, Bool, true, false, not, cond, List, [], ◌∷◌, ◌++◌, fold, map, reverse, Option, None, Some, refl, sym, ap, ◌∙◌, subst, inl, inr, append-nil, append_assoc}
use Rattle.std.proofs.lemmas.Bool.{true≢false, or_right}
use Rattle.std.proofs.lemmas.Grind.{reverse_onto}
use Rattle.std.proofs.lemmas.List.Sums.{fold-append}
use Rattle.std.specs.List.{AllByRecursion, IsDistinct}
use Rattle.std.specs.Map.{keys_of, lookup, remove_entry}
use Rattle.std.specs.Option.{option_map_or, option_or}
use Rattle.std.specs.Prelude.{◌&&◌, ◌||◌, is_some}
use Rattle.mt_names.proofs.EntryLemmas.{IsDistinct-remove_entry, lookup-push_new, lookup-push_stood, lookup-remove_entry_elsewhere, lookup-remove_entry_here, none_from, remove_entry-push, same_turned}
use Rattle.mt_names.proofs.SameLemmas.{same_text_decides}
use Rattle.mt_names.specs.Names.{same_text}
use Rattle.mt_plain.specs.Plain.{among}
use Rattle.mt_primary.specs.Primary.{end_of, PrimaryState, TableState, has_table, is_denied_at, new_table, row_at, row_in, table_at}
use Rattle.mt_primary.specs.Writes.{with_new_table, without_table}
use Rattle.mt_stands.specs.Rows.{OtherTablesStay}
use Rattle.mt_stands.proofs.KnownLemmas.{differs, itself, same_or}
use Rattle.mt_laws.proofs.EffectLemmas.{or-false}

-- none of the tables is there
abbrev pub AreAbsent : PrimaryState → List (List ℕ) → Type 0
AreAbsent p tables = (table : List ℕ) → among tables table ≡ true → has_table p table ≡ false

-- ---- a table made

module _ (p : PrimaryState) (name table : List ℕ) where
  -- what was there stays, and what wasn't is the new one, if that is its name
  found-made : table_at (with_new_table p name) table ≡ option_or (table_at p table) (cond (same_text table name) (Some (new_table (end_of p))) None)
  found-made = by (table_at p table) refl
    where
      entry : List ℕ × TableState
      entry = (name, new_table (end_of p))

      by : (o : Option TableState) → table_at p table ≡ o → table_at (with_new_table p name) table ≡ option_or o (cond (same_text table name) (Some (new_table (end_of p))) None)
      by None none = lookup-push_new same_text p.tables entry table none
      by (Some t) is = lookup-push_stood same_text p.tables entry table t is

  has-made : has_table (with_new_table p name) table ≡ (same_text name table || has_table p table)
  has-made = ap is_some found-made ∙ by (table_at p table) (same_text table name) ∙ ap (λ b. b || has_table p table) (same_turned same_text same_text_decides table name)
    where
      by : (o : Option TableState) (b : Bool) → is_some (option_or o (cond b (Some (new_table (end_of p))) None)) ≡ (b || is_some o)
      by None true = refl
      by None false = refl
      by (Some t) true = refl
      by (Some t) false = refl

  denied-made : is_denied_at (with_new_table p name) table ≡ is_denied_at p table
  denied-made = ap (λ (o : Option TableState). option_map_or (λ t. t.denied) o false) found-made ∙ by (table_at p table) (same_text table name)
    where
      by : (o : Option TableState) (b : Bool) → option_map_or (λ (t : TableState). t.denied) (option_or o (cond b (Some (new_table (end_of p))) None)) false ≡ option_map_or (λ (t : TableState). t.denied) o false
      by None true = refl
      by None false = refl
      by (Some t) b = refl

  row-made : (key : ℕ) → row_at (with_new_table p name) table key ≡ row_at p table key
  row-made key = ap (λ (o : Option TableState). option_map_or (λ t. row_in t key) o None) found-made ∙ by (table_at p table) (same_text table name)
    where
      by : (o : Option TableState) (b : Bool) → option_map_or (λ (t : TableState). row_in t key) (option_or o (cond b (Some (new_table (end_of p))) None)) None ≡ option_map_or (λ (t : TableState). row_in t key) o None
      by None true = refl
      by None false = refl
      by (Some t) b = refl

-- ---- tables made

or_turned : (a b c : Bool) → (a || (b || c)) ≡ ((b || a) || c)
or_turned true true c = refl
or_turned true false c = refl
or_turned false true c = refl
or_turned false false c = refl

pub has-all_made : (tables : List (List ℕ)) (p : PrimaryState) (table : List ℕ) → has_table (fold with_new_table p tables) table ≡ (among tables table || has_table p table)
has-all_made [] p table = refl
has-all_made (name ∷ tables) p table =
    has-all_made tables (with_new_table p name) table ∙ ap (λ b. among tables table || b) (has-made p name table) ∙ or_turned (among tables table) (same_text name table) (has_table p table)

pub denied-all_made : (tables : List (List ℕ)) (p : PrimaryState) (table : List ℕ) → is_denied_at (fold with_new_table p tables) table ≡ is_denied_at p table
denied-all_made [] p table = refl
denied-all_made (name ∷ tables) p table = denied-all_made tables (with_new_table p name) table ∙ denied-made p name table

row-all_made : (tables : List (List ℕ)) (p : PrimaryState) (table : List ℕ) (key : ℕ) → row_at (fold with_new_table p tables) table key ≡ row_at p table key
row-all_made [] p table key = refl
row-all_made (name ∷ tables) p table key = row-all_made tables (with_new_table p name) table key ∙ row-made p name table key

log-all_made : (tables : List (List ℕ)) (p : PrimaryState) → (fold with_new_table p tables).log ≡ p.log
log-all_made [] p = refl
log-all_made (name ∷ tables) p = log-all_made tables (with_new_table p name)

pub stay-made : (p : PrimaryState) (tables : List (List ℕ)) → OtherTablesStay tables p (fold with_new_table p tables)
stay-made p tables = record { log = log-all_made tables p; rows = λ table other key. row-all_made tables p table key }

pub empty-made : (p : PrimaryState) (tables : List (List ℕ)) → AreAbsent p tables → (table : List ℕ) → among tables table ≡ true → (key : ℕ) → row_at (fold with_new_table p tables) table key ≡ None
empty-made p tables absent table named key =
    row-all_made tables p table key ∙ ap (λ (o : Option TableState). option_map_or (λ t. row_in t key) o None) (none_from (table_at p table) (absent table named))

-- ---- tables dropped

log-all_dropped : (tables : List (List ℕ)) (p : PrimaryState) → (fold without_table p tables).log ≡ p.log
log-all_dropped [] p = refl
log-all_dropped (name ∷ tables) p = log-all_dropped tables (without_table p name)

found-others : (tables : List (List ℕ)) (p : PrimaryState) (table : List ℕ) → among tables table ≡ false → table_at (fold without_table p tables) table ≡ table_at p table
found-others [] p table other = refl
found-others (name ∷ tables) p table other =
    let parts = or-false (same_text name table) (among tables table) other in
    found-others tables (without_table p name) table parts.1
    ∙ lookup-remove_entry_elsewhere same_text same_text_decides p.tables name table (λ e. true≢false (sym ((same_text_decides name table).1 e) ∙ parts.0))

pub stay-dropped : (p : PrimaryState) (tables : List (List ℕ)) → OtherTablesStay tables p (fold without_table p tables)
stay-dropped p tables = record {
  log = log-all_dropped tables p;
  rows = λ table other key. ap (λ (o : Option TableState). option_map_or (λ t. row_in t key) o None) (found-others tables p table other);
}

found-dropped : (p : PrimaryState) (name table : List ℕ) → IsDistinct same_text (keys_of p.tables) → table_at (without_table p name) table ≡ cond (same_text name table) None (table_at p table)
found-dropped p name table distinct = by (same_or name table)
  where
    by : (name ≡ table) ⊎ (name ≢ table) → table_at (without_table p name) table ≡ cond (same_text name table) None (table_at p table)
    by (inl e) =
        subst (λ x. table_at (without_table p name) x ≡ cond (same_text name x) None (table_at p x)) e
        (lookup-remove_entry_here same_text same_text_decides p.tables name distinct ∙ sym (ap (λ b. cond b None (table_at p name)) (itself name)))
    by (inr e) =
        lookup-remove_entry_elsewhere same_text same_text_decides p.tables name table e ∙ sym (ap (λ b. cond b None (table_at p table)) (differs name table e))

found-all_dropped : (tables : List (List ℕ)) (p : PrimaryState) (table : List ℕ) → IsDistinct same_text (keys_of p.tables)
    → table_at (fold without_table p tables) table ≡ cond (among tables table) None (table_at p table)
found-all_dropped [] p table distinct = refl
found-all_dropped (name ∷ tables) p table distinct =
    found-all_dropped tables (without_table p name) table (IsDistinct-remove_entry same_text same_text_decides (same_text name) p.tables distinct)
    ∙ ap (cond (among tables table) None) (found-dropped p name table distinct) ∙ by (among tables table) (same_text name table)
  where
    by : (a b : Bool) → cond a None (cond b None (table_at p table)) ≡ cond (b || a) None (table_at p table)
    by true true = refl
    by true false = refl
    by false true = refl
    by false false = refl

module _ (p : PrimaryState) (tables : List (List ℕ)) (distinct : IsDistinct same_text (keys_of p.tables)) (table : List ℕ) where
  pub has-all_dropped : has_table (fold without_table p tables) table ≡ (not (among tables table) && has_table p table)
  has-all_dropped = ap is_some (found-all_dropped tables p table distinct) ∙ by (among tables table)
    where
      by : (b : Bool) → is_some (cond b None (table_at p table)) ≡ (not b && has_table p table)
      by true = refl
      by false = refl

  pub denied-all_dropped : is_denied_at (fold without_table p tables) table ≡ (not (among tables table) && is_denied_at p table)
  denied-all_dropped = ap (λ (o : Option TableState). option_map_or (λ t. t.denied) o false) (found-all_dropped tables p table distinct) ∙ by (among tables table)
    where
      by : (b : Bool) → option_map_or (λ (t : TableState). t.denied) (cond b None (table_at p table)) false ≡ (not b && is_denied_at p table)
      by true = refl
      by false = refl

-- ---- tables made and then dropped

abbrev with_tables : PrimaryState → List (List ℕ × TableState) → PrimaryState
with_tables p tables = record p { tables = tables }

apart_from : (name : List ℕ) (tables : List (List ℕ)) → AllByRecursion (λ t. same_text name t ≡ false) tables → (table : List ℕ) → among tables table ≡ true → same_text name table ≡ false
apart_from name [] all table e = absurd (true≢false (sym e))
apart_from name (t ∷ tables) all table e = by (apart_from name tables all.1 table) (same_text t table) refl
  where
    by : (among tables table ≡ true → same_text name table ≡ false) → (b : Bool) → same_text t table ≡ b → same_text name table ≡ false
    by again true same = subst (λ x. same_text name x ≡ false) ((same_text_decides t table).0 same) all.0
    by again false same = again (sym (ap (λ b. b || among tables table) same) ∙ e)

-- the last one made is dropped first
pub made_and_dropped : (tables : List (List ℕ)) (p : PrimaryState) → IsDistinct same_text tables → AreAbsent p tables → fold without_table (fold with_new_table p tables) (reverse tables) ≡ p
unfolding IsDistinct
made_and_dropped [] p distinct absent = refl
made_and_dropped (name ∷ tables) p distinct absent =
    ap (fold without_table all) (reverse_onto tables name []) ∙ fold-append without_table all (reverse tables) (name ∷ [])
    ∙ ap (λ q. without_table q name) (made_and_dropped tables (with_new_table p name) distinct.1 still)
    ∙ ap (with_tables p) (remove_entry-push same_text same_text_decides p.tables name (new_table (end_of p)) (none_from (table_at p name) (absent name (ap (λ b. b || among tables name) (itself name)))))
  where
    all : PrimaryState
    all = fold with_new_table (with_new_table p name) tables

    still : AreAbsent (with_new_table p name) tables
    still table named =
        has-made p name table ∙ ap (λ b. b || has_table p table) (apart_from name tables distinct.0 table named) ∙ absent table (or_right (same_text name table) (among tables table) named)

-- the first one made is dropped first
abbrev entries : ℕ → List (List ℕ) → List (List ℕ × TableState)
entries position tables = map (λ name. (name, new_table position)) tables

tables-made : (tables : List (List ℕ)) (p : PrimaryState) → fold with_new_table p tables ≡ with_tables p (p.tables ++ entries (end_of p) tables)
tables-made [] p = ap (with_tables p) (sym (append-nil p.tables))
tables-made (name ∷ tables) p =
    tables-made tables (with_new_table p name) ∙ ap (with_tables p) (append_assoc p.tables ((name, new_table (end_of p)) ∷ []) (entries (end_of p) tables))

remove_first : (es rest : List (List ℕ × TableState)) (name : List ℕ) (t : TableState) → lookup (same_text name) es ≡ None → remove_entry (same_text name) (es ++ (name, t) ∷ rest) ≡ es ++ rest
remove_first [] rest name t none = rw (itself name) refl
remove_first (e ∷ es) rest name t none = by (remove_first es rest name t) (same_text name e.0) refl
  where
    by : (lookup (same_text name) es ≡ None → remove_entry (same_text name) (es ++ (name, t) ∷ rest) ≡ es ++ rest) → (b : Bool) → same_text name e.0 ≡ b
        → remove_entry (same_text name) ((e ∷ es) ++ (name, t) ∷ rest) ≡ (e ∷ es) ++ rest
    by again true is = absurd (let h = rw is at none in cc)
    by again false is = rw is (ap (λ l. e ∷ l) (again (rw is at none)))

tables-dropped : (tables : List (List ℕ)) (p : PrimaryState) → AreAbsent p tables → fold without_table (with_tables p (p.tables ++ entries (end_of p) tables)) tables ≡ p
tables-dropped [] p absent = ap (with_tables p) (append-nil p.tables)
tables-dropped (name ∷ tables) p absent =
    ap (λ es. fold without_table (with_tables p es) tables)
    (remove_first p.tables (entries (end_of p) tables) name (new_table (end_of p)) (none_from (table_at p name) (absent name (ap (λ b. b || among tables name) (itself name)))))
    ∙ tables-dropped tables p (λ table named. absent table (or_right (same_text name table) (among tables table) named))

pub made_and_dropped_in_order : (tables : List (List ℕ)) (p : PrimaryState) → AreAbsent p tables → fold without_table (fold with_new_table p tables) tables ≡ p
made_and_dropped_in_order tables p absent = ap (λ q. fold without_table q tables) (tables-made tables p) ∙ tables-dropped tables p absent
