-- What becomes of a primary as tables are denied or not.
use Rattle.std.proofs.Common.{◌≡◌, ℕ, ◌+◌, ◌<◌, ◌&&◌, Bool, true, false, List, [], ◌∷◌, ◌++◌, length, map, take, slice_index_or, Option, Some, None, if◌then◌else◌, refl, sym, ap, subst, ◌∙◌, ⊎_elim}
use Rattle.std.proofs.lemmas.Bool.{and_parts}
use Rattle.std.proofs.lemmas.List.Sums.{fold_push}
use Rattle.std.proofs.lemmas.Grind.{take_at_read}
use Rattle.std.specs.List.{AllByRecursion, IsDistinct}
use Rattle.std.specs.Map.{keys_of, lookup, set_value}
use Rattle.std.specs.Option.{option_map, option_or}
use Rattle.mt_names.proofs.EntryLemmas.{IsDistinct-set_value, absent_from_lookup, lookup_from_absent, same_itself}
use Rattle.mt_names.proofs.SameLemmas.{same_text_decides}
use Rattle.mt_names.specs.Names.{same_text}
use Rattle.mt_model.specs.declared.entries.Entry.{Entry}
use Rattle.mt_model.specs.declared.entries.Entry.TheVariants as entry
use Rattle.mt_model.specs.Topology.{Marks}
use Rattle.mt_primary.specs.Denials.{AreDenialsSet, is_named, told_by_entry, told_by_mark, told_by_marks, told_by_notice, told_by_refresh, with_denials, with_told}
use Rattle.mt_primary.specs.Primary.{IsPrimary, PrimaryState, TableState, table_at}
use Rattle.mt_primary.proofs.PrimaryLemmas.{IsLogged, logged, primary_from, table_cases, with_table}

-- a table of which nothing is told stays
pub told_none : (o : Option TableState) → option_map (with_told None) o ≡ o
told_none None = refl
told_none (Some table) = refl

-- ---- tables with what is told of each

abbrev pub with_each : (List ℕ → Option Bool) → List (List ℕ × TableState) → List (List ℕ × TableState)
with_each told es = map (λ t. (t.0, with_told (told t.0) t.1)) es

-- the same tables make the same primary
abbrev with_tables : PrimaryState → List (List ℕ × TableState) → PrimaryState
with_tables p tables = record p { tables = tables }

-- a table by its name
pub denials-table : (old new : PrimaryState) (told : List ℕ → Option Bool) → AreDenialsSet old told new → (name : List ℕ) → table_at new name ≡ option_map (with_told (told name)) (table_at old name)
denials-table old new told set name = ap (λ (p : PrimaryState). table_at p name) set ∙ by old.tables
  where
    by : (es : List (List ℕ × TableState)) → lookup (same_text name) (with_each told es) ≡ option_map (with_told (told name)) (lookup (same_text name) es)
    by [] = refl
    by (e ∷ es) = at (by es) (same_text name e.0) refl
      where
        at : lookup (same_text name) (with_each told es) ≡ option_map (with_told (told name)) (lookup (same_text name) es)
            → (b : Bool) → same_text name e.0 ≡ b → lookup (same_text name) (with_each told (e ∷ es)) ≡ option_map (with_told (told name)) (lookup (same_text name) (e ∷ es))
        at again true same = let is : name ≡ e.0 = (same_text_decides name e.0).0 same in rw (same, is) refl
        at again false same = rw same again

-- tables that stand once stay, where what is told of each is what it is
with_each-same : (told : List ℕ → Option Bool) (es : List (List ℕ × TableState)) → IsDistinct same_text (keys_of es)
    → ((name : List ℕ) (table : TableState) → lookup (same_text name) es ≡ Some table → with_told (told name) table ≡ table) → with_each told es ≡ es
unfolding IsDistinct
with_each-same told [] distinct same = refl
with_each-same told (e ∷ es) distinct same =
    let here : with_told (told e.0) e.1 ≡ e.1 = same e.0 e.1 (rw (same_itself same_text same_text_decides e.0) refl) in
    let there : with_each told es ≡ es = with_each-same told es distinct.1 (λ name table found. same name table (by name table found (same_text name e.0) refl)) in
    rw (here, there) refl
  where
    by : (name : List ℕ) (table : TableState) → lookup (same_text name) es ≡ Some table → (b : Bool) → same_text name e.0 ≡ b → lookup (same_text name) (e ∷ es) ≡ Some table
    by name table found false apart = rw apart found
    by name table found true at =
        let none : lookup (same_text e.0) es ≡ None = lookup_from_absent same_text same_text_decides es e.0 distinct.0 in
        absurd (let both = sym none ∙ ap (λ n. lookup (same_text n) es) (sym ((same_text_decides name e.0).0 at)) ∙ found in cc)

pub denials-kept : (p : PrimaryState) (told : List ℕ → Option Bool) → IsPrimary p → ((name : List ℕ) (table : TableState) → table_at p name ≡ Some table → with_told (told name) table ≡ table) → with_denials told p ≡ p
denials-kept p told is same = ap (with_tables p) (with_each-same told p.tables is.distinct same)

-- nothing is told
pub denials-same : (p : PrimaryState) (told : List ℕ → Option Bool) → ((name : List ℕ) → told name ≡ None) → AreDenialsSet p told p
denials-same p told none = ap (with_tables p) (by p.tables)
  where
    by : (es : List (List ℕ × TableState)) → es ≡ with_each told es
    by [] = refl
    by (e ∷ es) = rw (none e.0, ← by es) refl

-- the same is told
pub denials-told : (p : PrimaryState) (told more : List ℕ → Option Bool) → ((name : List ℕ) → told name ≡ more name) → with_denials told p ≡ with_denials more p
denials-told p told more each = ap (with_tables p) (by p.tables)
  where
    by : (es : List (List ℕ × TableState)) → with_each told es ≡ with_each more es
    by [] = refl
    by (e ∷ es) = rw (each e.0, by es) refl

-- one after the other: what is told last counts
pub denials-then : (a b c : PrimaryState) (first last both : List ℕ → Option Bool) → AreDenialsSet a first b → AreDenialsSet b last c → ((name : List ℕ) → both name ≡ option_or (last name) (first name)) → AreDenialsSet a both c
denials-then a b c first last both one two each = two ∙ ap (with_denials last) one ∙ ap (with_tables a) (by a.tables)
  where
    once : (table : TableState) (told before : Option Bool) → with_told told (with_told before table) ≡ with_told (option_or told before) table
    once table None before = refl
    once table (Some mark) before = refl

    by : (es : List (List ℕ × TableState)) → with_each last (with_each first es) ≡ with_each both es
    by [] = refl
    by (e ∷ es) = rw (once e.1 (last e.0) (first e.0), by es, each e.0) refl

-- ---- one mark

-- tables of another name stay
with_each-apart : (name : List ℕ) (mark : Bool) (es : List (List ℕ × TableState)) → AllByRecursion (λ other. same_text name other ≡ false) (keys_of es)
    → with_each (λ n. told_by_mark n None (name, mark)) es ≡ es
with_each-apart name mark [] apart = refl
with_each-apart name mark (e ∷ es) apart = rw (apart.0, with_each-apart name mark es apart.1) refl

-- a table that isn't there can't be denied
pub denials-absent : (p : PrimaryState) (name : List ℕ) (mark : Bool) → table_at p name ≡ None → AreDenialsSet p (λ n. told_by_mark n None (name, mark)) p
denials-absent p name mark absent = sym (ap (with_tables p) (with_each-apart name mark p.tables (absent_from_lookup same_text same_text_decides p.tables name absent)))

module _ (old : PrimaryState) (name : List ℕ) (table : TableState) (mark : Bool) (found : table_at old name ≡ Some table) where
  -- the table with this mark
  abbrev marked : TableState
  marked = record table { denied = mark }

  abbrev pub with_mark : PrimaryState
  with_mark = with_table old name table marked found old.log

  pub denials-one : IsDistinct same_text (keys_of old.tables) → AreDenialsSet old (λ n. told_by_mark n None (name, mark)) with_mark
  unfolding IsDistinct
  denials-one distinct = ap (with_tables old) (by old.tables distinct found)
    where
      by : (es : List (List ℕ × TableState)) → IsDistinct same_text (keys_of es) → lookup (same_text name) es ≡ Some table → set_value (same_text name) es marked ≡ with_each (λ n. told_by_mark n None (name, mark)) es
      by [] distinct found = refl
      by (e ∷ es) distinct found = at (by es distinct.1) (same_text name e.0) refl
        where
          at : (lookup (same_text name) es ≡ Some table → set_value (same_text name) es marked ≡ with_each (λ n. told_by_mark n None (name, mark)) es)
              → (b : Bool) → same_text name e.0 ≡ b → set_value (same_text name) (e ∷ es) marked ≡ with_each (λ n. told_by_mark n None (name, mark)) (e ∷ es)
          at again true same =
              let is : name ≡ e.0 = (same_text_decides name e.0).0 same in
              let was : Some e.1 ≡ Some table = rw same at found in
              let is_table : e.1 ≡ table = cc in
              let rest : with_each (λ n. told_by_mark n None (name, mark)) es ≡ es = with_each-apart name mark es (subst (λ n. AllByRecursion (λ other. same_text n other ≡ false) (keys_of es)) (sym is) distinct.0) in
              rw (same, rest, is_table) refl
          at again false same = rw (same, again (rw same at found)) refl

  pub IsPrimary-mark : IsPrimary old → IsPrimary with_mark
  IsPrimary-mark is = primary_from with_mark (IsDistinct-set_value same_text same_text_decides old.tables name marked is.distinct) each
    where
      ours : IsLogged old.log name table → IsLogged old.log name marked
      ours was = record { ordered = was.ordered; made = was.made; leads = was.leads }

      each : (other : List ℕ) (t : TableState) → table_at with_mark other ≡ Some t → IsLogged old.log other t
      each other t at =
          ⊎_elim (λ same. rw (sym same.0, sym same.1) (ours (logged old name table is found))) (λ apart. logged old other t is apart.1) (table_cases old name table marked found old.log other t at)

-- ---- what is told

-- by one mark more
pub told-mark : (marks : Marks) (mark : List ℕ × Bool) (name : List ℕ) → told_by_marks (marks ++ mark ∷ []) name ≡ option_or (told_by_mark name None (mark.0, mark.1)) (told_by_marks marks name)
told-mark marks mark name = rw (fold_push (told_by_mark name) None marks mark) (by (same_text mark.0 name) refl)
  where
    by : (b : Bool) → same_text mark.0 name ≡ b → told_by_mark name (told_by_marks marks name) mark ≡ option_or (told_by_mark name None (mark.0, mark.1)) (told_by_marks marks name)
    by true same = rw same refl
    by false same = rw same refl

-- the marks so far are put, and this one is put then
pub denials-put : (old now new : PrimaryState) (marks : Marks) (n : ℕ) (mark : List ℕ × Bool) → n < length marks → mark ≡ slice_index_or marks n mark → AreDenialsSet old (told_by_marks (take n marks)) now
    → AreDenialsSet now (λ name. told_by_mark name None (mark.0, mark.1)) new → AreDenialsSet old (told_by_marks (take (n + 1) marks)) new
denials-put old now new marks n mark within is so_far put =
    denials-then old now new (told_by_marks (take n marks)) (λ name. told_by_mark name None (mark.0, mark.1)) (told_by_marks (take (n + 1) marks)) so_far put
    (λ name. ap (λ l. told_by_marks l name) ((take_at_read marks n mark within).1 ∙ ap (λ last. take n marks ++ last ∷ []) (sym is)) ∙ told-mark (take n marks) mark name)

-- a notice without entries tells nothing
pub told_by_none : (keyspace : List ℕ) (tables : List (List ℕ)) (name : List ℕ) → told_by_refresh keyspace [] tables name ≡ None
told_by_none keyspace tables name = by (is_named tables name)
  where
    none : Option Bool
    none = None

    by : (b : Bool) → (if b then none else none) ≡ none
    by true = refl
    by false = refl

-- whether a refresh takes over an entry
abbrev pub is_taken : List ℕ → List (List ℕ) → Entry → Bool
is_taken keyspace tables (entry.Denied at table mark) = same_text keyspace at && is_named tables table
is_taken keyspace tables other = false

-- an entry that it passes over
pub told-passed : (keyspace : List ℕ) (notice : List Entry) (tables : List (List ℕ)) (e : Entry) → is_taken keyspace tables e ≡ false → (name : List ℕ) → told_by_refresh keyspace (notice ++ e ∷ []) tables name ≡ told_by_refresh keyspace notice tables name
told-passed keyspace notice tables e passed name = by (is_named tables name) refl
  where
    at_entry : (e : Entry) → is_taken keyspace tables e ≡ false → is_named tables name ≡ true → told_by_entry keyspace name (told_by_notice keyspace notice name) e ≡ told_by_notice keyspace notice name
    at_entry (entry.Rule key target) passed is = refl
    at_entry (entry.Present at table mark) passed is = refl
    at_entry (entry.Denied at table mark) passed is = at_both (same_text keyspace at) (same_text table name) refl refl
      where
        at_both : (b d : Bool) → same_text keyspace at ≡ b → same_text table name ≡ d → told_by_entry keyspace name (told_by_notice keyspace notice name) (entry.Denied at table mark) ≡ told_by_notice keyspace notice name
        at_both false d is_at is_table = rw is_at refl
        at_both true false is_at is_table = rw (is_at, is_table) refl
        at_both true true is_at is_table =
            let named : is_named tables table ≡ true = rw ((same_text_decides table name).0 is_table) is in
            absurd (let h = rw (is_at, named) at passed in cc)

    by : (b : Bool) → is_named tables name ≡ b → told_by_refresh keyspace (notice ++ e ∷ []) tables name ≡ told_by_refresh keyspace notice tables name
    by false is = rw is refl
    by true is = rw (is, fold_push (told_by_entry keyspace name) None notice e) (at_entry e passed is)

-- an entry that it takes over
pub told-taken : (keyspace : List ℕ) (notice : List Entry) (tables : List (List ℕ)) (at table : List ℕ) (mark : Bool) → is_taken keyspace tables (entry.Denied at table mark) ≡ true → (name : List ℕ)
    → told_by_refresh keyspace (notice ++ entry.Denied at table mark ∷ []) tables name ≡ option_or (told_by_mark name None (table, mark)) (told_by_refresh keyspace notice tables name)
told-taken keyspace notice tables at table mark taken name = by (same_text table name) refl
  where
    is_at : same_text keyspace at ≡ true
    is_at = (and_parts (same_text keyspace at) (is_named tables table) taken).0

    named : is_named tables table ≡ true
    named = (and_parts (same_text keyspace at) (is_named tables table) taken).1

    by : (b : Bool) → same_text table name ≡ b → told_by_refresh keyspace (notice ++ entry.Denied at table mark ∷ []) tables name ≡ option_or (told_by_mark name None (table, mark)) (told_by_refresh keyspace notice tables name)
    by true same =
        let is : is_named tables name ≡ true = rw (sym ((same_text_decides table name).0 same)) named in
        rw (is, fold_push (told_by_entry keyspace name) None notice (entry.Denied at table mark), is_at, same) refl
    by false same = rw (fold_push (told_by_entry keyspace name) None notice (entry.Denied at table mark), is_at, same) refl

-- what is no denial isn't taken over
pub passed-other : (keyspace : List ℕ) (tables : List (List ℕ)) (e : Entry) → ((at table : List ℕ) (mark : Bool) → e ≡ entry.Denied at table mark → ⊥) → is_taken keyspace tables e ≡ false
passed-other keyspace tables (entry.Rule key target) other = refl
passed-other keyspace tables (entry.Present at table mark) other = refl
passed-other keyspace tables (entry.Denied at table mark) other = absurd (other at table mark refl)

-- ---- a turn of a refresh

module _ (old now : PrimaryState) (keyspace : List ℕ) (notice : List Entry) (tables : List (List ℕ)) (n : ℕ) (e : Entry) (within : n < length notice) (is : e ≡ slice_index_or notice n e) (so_far : AreDenialsSet old (told_by_refresh keyspace (take n notice) tables) now) where
  one_more : take (n + 1) notice ≡ take n notice ++ e ∷ []
  one_more = (take_at_read notice n e within).1 ∙ ap (λ last. take n notice ++ last ∷ []) (sym is)

  pub refresh-passed : is_taken keyspace tables e ≡ false → AreDenialsSet old (told_by_refresh keyspace (take (n + 1) notice) tables) now
  refresh-passed passed =
      so_far ∙ denials-told old (told_by_refresh keyspace (take n notice) tables) (told_by_refresh keyspace (take (n + 1) notice) tables)
      (λ name. sym (ap (λ l. told_by_refresh keyspace l tables name) one_more ∙ told-passed keyspace (take n notice) tables e passed name))

  pub refresh-taken : (new : PrimaryState) (at table : List ℕ) (mark : Bool) → e ≡ entry.Denied at table mark → is_taken keyspace tables e ≡ true → AreDenialsSet now (λ name. told_by_mark name None (table, mark)) new → AreDenialsSet old (told_by_refresh keyspace (take (n + 1) notice) tables) new
  refresh-taken new at table mark shape taken set =
      denials-then old now new (told_by_refresh keyspace (take n notice) tables) (λ name. told_by_mark name None (table, mark)) (told_by_refresh keyspace (take (n + 1) notice) tables) so_far set
      (λ name. ap (λ l. told_by_refresh keyspace l tables name) (one_more ∙ ap (λ last. take n notice ++ last ∷ []) shape) ∙ told-taken keyspace (take n notice) tables at table mark (subst (λ x. is_taken keyspace tables x ≡ true) shape taken) name)
