-- What stays true of a primary as a row of it changes, or as a table is made.
use Rattle.std.proofs.Common.{◌≡◌, ◌≢◌, ℕ, ◌+◌, ◌-◌, ◌≤◌, ◌<◌, ◌⊎◌, Bool, true, false, eqb, List, [], ◌∷◌, ◌++◌, length, drop, Option, Some, None, Result, Ok, Err, refl, sym, ap, subst, ◌∙◌, inl, inr, ⊎_elim, arith, length-append}
use Rattle.std.proofs.lemmas.Bool.{eqb-true, eqb-false, true≢false}
use Rattle.std.proofs.lemmas.Bool.{and_parts}
use Rattle.std.proofs.lemmas.List.{drop-append-le, drop_all, length-drop}
use Rattle.std.proofs.lemmas.Map.{keys-set_value}
use Rattle.std.proofs.lemmas.Map.Steps.{set_value_same}
use Rattle.std.proofs.lemmas.Option.{slice_get_within}
use Rattle.std.specs.List.{IsDistinct, find}
use Rattle.std.specs.List.Sorted.{IsStrictlySortedBy}
use Rattle.std.specs.Map.{keys_of, set_value}
use Rattle.std.specs.Bool.{⊤}
use Rattle.std.specs.Option.{option_map, option_map_or}
use Rattle.std.specs.Result.{IsOkAnd, MatchResult, is_ok}
use Rattle.mt_names.proofs.EntryLemmas.{IsDistinct-push, IsDistinct-remove_entry, IsDistinct-set_value, lookup-push_elsewhere, lookup-push_here, lookup-remove_entry_elsewhere, lookup-remove_entry_here, lookup-set_value_elsewhere, lookup-set_value_here, remove_entry-push}
use Rattle.mt_names.proofs.SameLemmas.{same_text_decides}
use Rattle.mt_names.specs.Names.{same_text}
use Rattle.mt_model.specs.declared.faults.PrimaryFault.{PrimaryFault}
use Rattle.mt_model.specs.declared.faults.PrimaryFault.TheVariants.{Denied, LogFull, Memory}
use Rattle.mt_model.specs.declared.rows.Op.{Op}
use Rattle.mt_model.specs.declared.rows.RowChange.{RowChange}
use Rattle.mt_model.specs.Rows.{Row, is_change_of, op_key, row_with}
use Rattle.mt_store.specs.Log.{LogState, entries_past, entry_in, has_room, log_end, purged_by, with_entry, without_below}
use Rattle.mt_store.proofs.ReadLemmas.{entry_purged, past_purged, purged_within}
use Rattle.mt_primary.specs.Primary.{IsInKeyOrder, IsPrimary, PrimaryState, TableState, end_of, is_denied_at, made_at, new_table, row_at, row_in, table_at}
use Rattle.mt_primary.specs.Tables.{ChangesRow, IsRowPut, LoggedTable, Put, Write, changed_row}
use Rattle.mt_primary.specs.Writes.{IsPut, IsWritten, Puts, Writes, unless_full, with_new_table, with_purge, without_table, written_row}
use Rattle.mt_primary.proofs.LogLemmas.{row_with-here, row_with-other_key, row_with-other_table, slice_get_push}

-- ---- each table by itself

-- a row of a table with the entries from a position on taken back
abbrev pub row_in_at : LogState → TableState → ℕ → List ℕ → ℕ → Row
row_in_at log table position name key = option_map_or (λ change. change.before) (find (is_change_of name key) (entries_past log position)) (row_in table key)

-- a table to whose rows the kept entries lead
pub record IsLogged (log : LogState) (name : List ℕ) (table : TableState) : Type 0 where
  pub ordered : IsInKeyOrder table
  pub made : table.made ≤ log_end log
  pub leads : (i : ℕ) (change : RowChange) → table.made ≤ i → log.purged ≤ i → entry_in log i ≡ Some change → change.table ≡ name → row_in_at log table (i + 1) name change.key ≡ change.after

-- a table is there where its position is known
table_from_made : (p : PrimaryState) (name : List ℕ) (made : ℕ) → made_at p name ≡ Some made → (table : TableState) × (table_at p name ≡ Some table) × (table.made ≡ made)
table_from_made p name made e = by (table_at p name) refl
  where
    by : (o : Option TableState) → table_at p name ≡ o → (table : TableState) × (table_at p name ≡ Some table) × (table.made ≡ made)
    by None at = absurd (let h = rw at at e in cc)
    by (Some table) at = (table, at, let h = rw at at e in cc)

-- a row of a primary is one of its table
row-of : (p : PrimaryState) (name : List ℕ) (table : TableState) → table_at p name ≡ Some table → (key : ℕ) → row_at p name key ≡ row_in table key
row-of p name table found key = ap (λ (o : Option TableState). option_map_or (λ t. row_in t key) o None) found

pub logged : (p : PrimaryState) (name : List ℕ) (table : TableState) → IsPrimary p → table_at p name ≡ Some table → IsLogged p.log name table
logged p name table is found =
    let at : made_at p name ≡ Some table.made = ap (option_map (λ (t : TableState). t.made)) found in
    record {
      ordered = is.ordered name table found;
      made = is.made name table.made at;
      leads = λ i change within kept here of.
          ap (option_map_or (λ (c : RowChange). c.before) (find (is_change_of name change.key) (entries_past p.log (i + 1)))) (sym (row-of p name table found change.key)) ∙ is.leads name table.made i change at within kept here of;
    }

pub primary_from : (p : PrimaryState) → IsDistinct same_text (keys_of p.tables) → ((name : List ℕ) (table : TableState) → table_at p name ≡ Some table → IsLogged p.log name table) → IsPrimary p
primary_from p distinct each = record {
  distinct = distinct;
  ordered = λ name table found. (each name table found).ordered;
  made = λ name made at.
      let t = table_from_made p name made at in subst (λ m. m ≤ end_of p) t.2 (each name t.0 t.1).made;
  leads = λ name made i change at within kept here of.
      let t = table_from_made p name made at in
      ap (option_map_or (λ (c : RowChange). c.before) (find (is_change_of name change.key) (entries_past p.log (i + 1)))) (row-of p name t.0 t.1 change.key) ∙ (each name t.0 t.1).leads i change (omega (arith, t.2)) kept here of;
}

-- with an entry more, rows taken back are as they were
led-append : (name : List ℕ) (key : ℕ) (xs : List RowChange) (change : RowChange) (old new : Row) → (is_change_of name key change ≡ true → change.before ≡ old) → (is_change_of name key change ≡ false → new ≡ old)
    → option_map_or (λ c. c.before) (find (is_change_of name key) (xs ++ change ∷ [])) new ≡ option_map_or (λ c. c.before) (find (is_change_of name key) xs) old
led-append name key [] change old new here there = by (is_change_of name key change) refl
  where
    by : (b : Bool) → is_change_of name key change ≡ b → option_map_or (λ (c : RowChange). c.before) (find (is_change_of name key) (change ∷ [])) new ≡ old
    by true is = rw is (here is)
    by false is = rw is (there is)
led-append name key (x ∷ xs) change old new here there = by (led-append name key xs change old new here there) (is_change_of name key x) refl
  where
    by : option_map_or (λ (c : RowChange). c.before) (find (is_change_of name key) (xs ++ change ∷ [])) new ≡ option_map_or (λ c. c.before) (find (is_change_of name key) xs) old
        → (b : Bool) → is_change_of name key x ≡ b
        → option_map_or (λ (c : RowChange). c.before) (find (is_change_of name key) (x ∷ xs ++ change ∷ [])) new ≡ option_map_or (λ c. c.before) (find (is_change_of name key) (x ∷ xs)) old
    by again true is = rw is refl
    by again false is = rw is again

-- one entry more, and a table that has its row where it is one of this table
logged-push : (log : LogState) (change : RowChange) (name : List ℕ) (old new : TableState) → IsLogged log name old → new.made ≡ old.made → IsInKeyOrder new
    → ((key : ℕ) → row_in new key ≡ row_with name key (row_in old key) change) → (change.table ≡ name → change.before ≡ row_in old change.key) → IsLogged (with_entry log change) name new
logged-push log change name old new was made ordered rows before = record {
  ordered = ordered;
  made = omega (arith, made, was.made, length-append log.entries (change ∷ []));
  leads = λ i entry within kept here of.
      ⊎_elim (λ inside. earlier i entry (omega (arith, made)) kept inside of) (λ last. latest i entry kept last.0 last.1 of) (slice_get_push log.entries change entry (i - log.purged) here);
}
  where
    same_here : (key : ℕ) → is_change_of name key change ≡ true → change.before ≡ row_in old key
    same_here key is =
        let parts = and_parts (same_text name change.table) (eqb key change.key) is in
        before (sym ((same_text_decides name change.table).0 parts.0)) ∙ ap (row_in old) (sym (eqb-true key change.key parts.1))

    same_there : (key : ℕ) → is_change_of name key change ≡ false → row_in new key ≡ row_in old key
    same_there key is = rows key ∙ rw is refl

    earlier : (i : ℕ) (entry : RowChange) → old.made ≤ i → log.purged ≤ i → entry_in log i ≡ Some entry → entry.table ≡ name → row_in_at (with_entry log change) new (i + 1) name entry.key ≡ entry.after
    earlier i entry within kept inside of =
        let below : i - log.purged < length log.entries = slice_get_within log.entries (i - log.purged) entry inside in
        let moved = drop-append-le ((i + 1) - log.purged) log.entries (change ∷ []) (omega (arith, below, kept)) in
        ap (λ xs. option_map_or (λ (c : RowChange). c.before) (find (is_change_of name entry.key) xs) (row_in new entry.key)) moved
        ∙ led-append name entry.key (entries_past log (i + 1)) change (row_in old entry.key) (row_in new entry.key) (same_here entry.key) (same_there entry.key)
        ∙ was.leads i entry within kept inside of

    latest : (i : ℕ) (entry : RowChange) → log.purged ≤ i → i - log.purged ≡ length log.entries → entry ≡ change → entry.table ≡ name → row_in_at (with_entry log change) new (i + 1) name entry.key ≡ entry.after
    latest i entry kept end last of =
        let none : drop ((i + 1) - log.purged) (log.entries ++ change ∷ []) ≡ [] = drop_all ((i + 1) - log.purged) (log.entries ++ change ∷ []) (omega (arith, end, kept, length-append log.entries (change ∷ []))) in
        rw (none, last) (rows change.key ∙ ap (λ n. row_with n change.key (row_in old change.key) change) (sym (rw last at of)) ∙ row_with-here (row_in old change.key) change)

-- an answer without its position
pub map_answer : (P : ℕ → ⊤ → Type 0) (r : Result ℕ PrimaryFault) (s : Result ⊤ PrimaryFault) → MatchResult r (λ position. IsOkAnd s (P position)) (λ fault. s ≡ Err fault) → MatchResult r (λ position. is_ok s ≡ true) (λ fault. s ≡ Err fault)
map_answer P (Ok position) (Ok done) h = refl
map_answer P (Ok position) (Err fault) h = absurd h
map_answer P (Err fault) s h = h

-- ---- a row that changes

module _ (old : PrimaryState) (name : List ℕ) (table put : TableState) (found : table_at old name ≡ Some table) where
  -- the primary with another table in this place, and another log
  abbrev pub with_table : LogState → PrimaryState
  with_table log = record { tables = set_value (same_text name) old.tables put; log = log }

  pub here : (log : LogState) → table_at (with_table log) name ≡ Some put
  here log = lookup-set_value_here same_text same_text_decides old.tables name put table found

  pub elsewhere : (log : LogState) (other : List ℕ) → name ≢ other → table_at (with_table log) other ≡ table_at old other
  elsewhere log other apart = lookup-set_value_elsewhere same_text same_text_decides old.tables name other put apart

  -- a table is this one, or one that stood before
  pub table_cases : (log : LogState) (other : List ℕ) (t : TableState) → table_at (with_table log) other ≡ Some t → ((name ≡ other) × (put ≡ t)) ⊎ ((name ≢ other) × (table_at old other ≡ Some t))
  table_cases log other t at = by (same_text name other) refl
    where
      by : (b : Bool) → same_text name other ≡ b → ((name ≡ other) × (put ≡ t)) ⊎ ((name ≢ other) × (table_at old other ≡ Some t))
      by true same =
          let is : name ≡ other = (same_text_decides name other).0 same in
          let both : Some put ≡ Some t = sym (here log) ∙ ap (table_at (with_table log)) is ∙ at in
          inl (is, cc)
      by false same =
          let apart : name ≢ other = λ is. true≢false (sym ((same_text_decides name other).1 is) ∙ same) in
          inr (apart, sym (elsewhere log other apart) ∙ at)

  -- the rows of this table
  row_at-here : (log : LogState) (key : ℕ) → row_at (with_table log) name key ≡ row_in put key
  row_at-here log key = ap (λ (o : Option TableState). option_map_or (λ t. row_in t key) o None) (here log)

  row_at-old : (key : ℕ) → row_at old name key ≡ row_in table key
  row_at-old key = ap (λ (o : Option TableState). option_map_or (λ t. row_in t key) o None) found

  -- what is read of a table stays wherever it stays here
  pub read_stays : {A : Type 0} (read : Option TableState → A) (log : LogState) (other : List ℕ) → (name ≡ other → read (Some put) ≡ read (Some table)) → read (table_at (with_table log) other) ≡ read (table_at old other)
  read_stays read log other stays = by (same_text name other) refl
    where
      by : (b : Bool) → same_text name other ≡ b → read (table_at (with_table log) other) ≡ read (table_at old other)
      by true same =
          let at : name ≡ other = (same_text_decides name other).0 same in
          ap read (ap (table_at (with_table log)) (sym at) ∙ here log) ∙ stays at ∙ ap read (sym found ∙ ap (table_at old) at)
      by false same = ap read (elsewhere log other (λ at. true≢false (sym ((same_text_decides name other).1 at) ∙ same)))

  module _ (key : ℕ) (is : IsPrimary old) (is_put : IsRowPut table key (row_in put key) put) where
    abbrev change : RowChange
    change = record { table = name; key = key; before = row_in table key; after = row_in put key }

    -- the row that the entry leaves
    row_changed : (k : ℕ) → row_in put k ≡ row_with name k (row_in table k) change
    row_changed k = by (eqb k key) refl
      where
        by : (b : Bool) → eqb k key ≡ b → row_in put k ≡ row_with name k (row_in table k) change
        by true same = let at : k ≡ key = eqb-true k key same in rw at (sym (row_with-here (row_in table key) change))
        by false same =
            let apart : k ≢ key = eqb-false k key same in
            is_put.others k apart ∙ sym (row_with-other_key name k (row_in table k) change apart)

    -- what holds of every primary holds of it with the change
    pub IsPrimary-changed : IsPrimary (with_table (with_entry old.log change))
    IsPrimary-changed = primary_from (with_table (with_entry old.log change)) (IsDistinct-set_value same_text same_text_decides old.tables name put is.distinct) each
      where
        each : (other : List ℕ) (t : TableState) → table_at (with_table (with_entry old.log change)) other ≡ Some t → IsLogged (with_entry old.log change) other t
        each other t at = ⊎_elim (λ same. ours same.0 same.1) (λ apart. theirs apart.0 apart.1) (table_cases (with_entry old.log change) other t at)
          where
            ours : name ≡ other → put ≡ t → IsLogged (with_entry old.log change) other t
            ours at_name is_t =
                let this = logged-push old.log change name table put (logged old name table is found) is_put.made is_put.ordered row_changed (λ _. refl) in
                rw (sym at_name, sym is_t) this

            theirs : name ≢ other → table_at old other ≡ Some t → IsLogged (with_entry old.log change) other t
            theirs apart stood =
                let was = logged old other t is stood in
                logged-push old.log change other t t was refl was.ordered (λ k. sym (row_with-other_table other k (row_in t k) change (λ h. apart (sym h)))) (λ h. absurd (apart h))

    -- the positions at which tables were made stay, and so do the denials
    made_stays : (log : LogState) (other : List ℕ) → made_at (with_table log) other ≡ made_at old other
    made_stays log other = read_stays (option_map (λ (t : TableState). t.made)) log other (λ at. ap Some is_put.made)

    denied_stays : (log : LogState) (other : List ℕ) → is_denied_at (with_table log) other ≡ is_denied_at old other
    denied_stays log other = read_stays (λ (o : Option TableState). option_map_or (λ t. t.denied) o false) log other (λ at. is_put.denied)

    others_stay : (log : LogState) (other : List ℕ) (k : ℕ) → ¬ ((other ≡ name) × (k ≡ key)) → row_at (with_table log) other k ≡ row_at old other k
    others_stay log other k apart = read_stays (λ (o : Option TableState). option_map_or (λ t. row_in t k) o None) log other (λ at. is_put.others k (λ h. apart (sym at, h)))

    -- a row of this table is put
    IsPut-changed : (after : Row) → row_in put key ≡ after → IsPut old (record { table = name; key = key; after = after }) (with_table (with_entry old.log change))
    IsPut-changed after left = record {
      row = row_at-here (with_entry old.log change) key ∙ left;
      others = others_stay (with_entry old.log change);
      tables = keys-set_value (same_text name) old.tables put;
      made = made_stays (with_entry old.log change);
      denied = denied_stays (with_entry old.log change);
      log = rw (row_at-old key, left) refl;
    }

  -- a change that leaves the table and the log leaves the primary
  unchanged : (log : LogState) → (let new : LoggedTable = record { table = put; log = log } in new ≡ record { table = table; log = old.log }) → with_table log ≡ old
  unchanged log h =
      let is_table : put ≡ table = ap (λ (s : LoggedTable). s.table) h in
      let is_log : log ≡ old.log = ap (λ (s : LoggedTable). s.log) h in
      let tables : set_value (same_text name) old.tables put ≡ old.tables = ap (set_value (same_text name) old.tables) is_table ∙ set_value_same (same_text name) old.tables table found in
      rw (tables, is_log) refl

  -- the tests of a write are those of the change of its table, where the own list lacks it
  written-changed : (op : Op) → table.denied ≡ false → written_row old name op ≡ changed_row (record { table = table; log = old.log }) (Write op)
  written-changed op allowed = rw (found, allowed) refl

  -- a change of the table by an operation is a write, and what holds of every primary holds behind it
  pub change_is_write : (op : Op) (log : LogState) (r : Result ℕ PrimaryFault) → table.denied ≡ false → IsPrimary old → ChangesRow (record { table = table; log = old.log }) name (Write op) r (record { table = put; log = log })
      → IsPrimary (with_table log) × Writes old name op r (with_table log)
  change_is_write op log (Ok position) allowed is h = by log h.log h.position
    where
      key : ℕ
      key = op_key op

      by : (l : LogState) → l ≡ with_entry old.log (record { table = name; key = key; before = row_in table key; after = row_in put key }) → position ≡ log_end l → IsPrimary (with_table l) × IsWritten old name op position (with_table l)
      by l is_l at = (
        rw is_l (IsPrimary-changed key is h.put),
        record {
          row = written-changed op allowed ∙ h.row ∙ ap Ok (sym (row_at-here l key));
          put = rw is_l (IsPut-changed key is h.put (row_at (with_table (with_entry old.log (change key is h.put))) name key) (sym (row_at-here (with_entry old.log (change key is h.put)) key)));
          position = at;
        },
      )
  change_is_write op log (Err Memory) allowed is h =
      let same = unchanged log h.1 in (subst IsPrimary (sym same) is, ((h.0.0, written-changed op allowed ∙ h.0.1), same))
  change_is_write op log (Err fault) allowed is h =
      let same = unchanged log h.1 in (subst IsPrimary (sym same) is, (written-changed op allowed ∙ h.0, same))

  -- a row that is put where the log has room
  put_where_room : (row after : Row) → unless_full old.log row ≡ Ok after → (has_room old.log ≡ true) × (after ≡ row)
  put_where_room row after e = by (has_room old.log) refl
    where
      by : (b : Bool) → has_room old.log ≡ b → (has_room old.log ≡ true) × (after ≡ row)
      by true room = (room, let h = rw room at e in cc)
      by false full = absurd (let h = rw full at e in cc)

  put_where_full : (row : Row) (fault : PrimaryFault) → unless_full old.log row ≡ Err fault → (fault ≡ LogFull) × (has_room old.log ≡ false)
  put_where_full row fault e = by (has_room old.log) refl
    where
      by : (b : Bool) → has_room old.log ≡ b → (fault ≡ LogFull) × (has_room old.log ≡ false)
      by true room = absurd (let h = rw room at e in cc)
      by false full = (let h = rw full at e in cc, full)

  -- what refuses a write of a denied table
  pub denied_write : (op : Op) → table.denied ≡ true → written_row old name op ≡ Err Denied
  denied_write op is = rw (found, is) refl

  -- a change of the table by a put is one of the primary, whose answer leaves out the position
  pub change_is_put : (key : ℕ) (after : Row) (log : LogState) (r : Result ℕ PrimaryFault) (s : Result ⊤ PrimaryFault) → MatchResult r (λ position. is_ok s ≡ true) (λ fault. s ≡ Err fault) → IsPrimary old
      → ChangesRow (record { table = table; log = old.log }) name (Put key after) r (record { table = put; log = log })
      → IsPrimary (with_table log) × Puts old (record { table = name; key = key; after = after }) s (with_table log)
  change_is_put key after log (Ok position) (Ok done) is_s is h =
      let left = put_where_room after (row_in put key) h.row in
      rw h.log (IsPrimary-changed key is h.put, (left.0, IsPut-changed key is h.put after left.1))
  change_is_put key after log (Ok position) (Err fault) is_s is h = absurd (true≢false (sym is_s))
  change_is_put key after log (Err fault) s is_s is h = rw is_s (by fault h)
    where
      full : (fault : PrimaryFault) → (changed_row (record { table = table; log = old.log }) (Put key after) ≡ Err fault) × (let new : LoggedTable = record { table = put; log = log } in new ≡ record { table = table; log = old.log })
          → IsPrimary (with_table log) × ((fault ≡ LogFull) × (has_room old.log ≡ false) × (with_table log ≡ old))
      full fault h =
          let same = unchanged log h.1 in
          let refused = put_where_full after fault h.0 in
          (subst IsPrimary (sym same) is, (refused.0, refused.1, same))

      by : (fault : PrimaryFault) → ChangesRow (record { table = table; log = old.log }) name (Put key after) (Err fault) (record { table = put; log = log })
          → IsPrimary (with_table log) × Puts old (record { table = name; key = key; after = after }) (Err fault) (with_table log)
      by Memory h = let same = unchanged log h.1 in (subst IsPrimary (sym same) is, ((put_where_room after h.0.0 h.0.1).0, same))
      by fault h = full fault h

-- the same table in its place
pub same_table : (old : PrimaryState) (name : List ℕ) (table : TableState) (found : table_at old name ≡ Some table) → with_table old name table table found old.log ≡ old
same_table old name table found = unchanged old name table table found old.log refl

-- ---- a table that is made

in_order-new : (made : ℕ) → IsInKeyOrder (new_table made)
unfolding IsStrictlySortedBy
in_order-new made = tt

pub made_elsewhere : (old : PrimaryState) (name other : List ℕ) → other ≢ name → table_at (with_new_table old name) other ≡ table_at old other
made_elsewhere old name other apart = lookup-push_elsewhere same_text same_text_decides old.tables name other (new_table (end_of old)) (λ h. apart (sym h))

-- a new table is what an entry from here on leads to
logged-new : (log : LogState) (name : List ℕ) → IsLogged log name (new_table (log_end log))
logged-new log name = record {
  ordered = in_order-new (log_end log);
  made = omega arith;
  leads = λ i change within kept at of.
      let below : i - log.purged < length log.entries = slice_get_within log.entries (i - log.purged) change at in absurd (omega (arith, below, within, kept));
}

module _ (old : PrimaryState) (name : List ℕ) (absent : table_at old name ≡ None) where
  pub made_here : table_at (with_new_table old name) name ≡ Some (new_table (end_of old))
  made_here = lookup-push_here same_text same_text_decides old.tables name (new_table (end_of old)) absent

  pub IsPrimary-new_table : IsPrimary old → IsPrimary (with_new_table old name)
  IsPrimary-new_table is =
      primary_from (with_new_table old name) (IsDistinct-push same_text same_text_decides old.tables name (new_table (end_of old)) absent is.distinct) each
    where
      each : (other : List ℕ) (t : TableState) → table_at (with_new_table old name) other ≡ Some t → IsLogged old.log other t
      each other t at = by (same_text name other) refl
        where
          by : (b : Bool) → same_text name other ≡ b → IsLogged old.log other t
          by true same =
              let is_name : name ≡ other = (same_text_decides name other).0 same in
              let both : Some (new_table (end_of old)) ≡ Some t = sym made_here ∙ ap (table_at (with_new_table old name)) is_name ∙ at in
              let is_t : new_table (end_of old) ≡ t = cc in
              rw (sym is_t) (logged-new old.log other)
          by false same =
              let apart : other ≢ name = λ h. true≢false (sym ((same_text_decides name other).1 (sym h)) ∙ same) in
              logged old other t is (sym (made_elsewhere old name other apart) ∙ at)

-- ---- a table that is dropped

pub dropped_elsewhere : (old : PrimaryState) (name other : List ℕ) → other ≢ name → table_at (without_table old name) other ≡ table_at old other
dropped_elsewhere old name other apart = lookup-remove_entry_elsewhere same_text same_text_decides old.tables name other (λ h. apart (sym h))

pub dropped_here : (old : PrimaryState) (name : List ℕ) → IsPrimary old → table_at (without_table old name) name ≡ None
dropped_here old name is = lookup-remove_entry_here same_text same_text_decides old.tables name is.distinct

-- a table made, and dropped at once
pub made_and_dropped : (p : PrimaryState) (name : List ℕ) → table_at p name ≡ None → without_table (with_new_table p name) name ≡ p
made_and_dropped p name absent =
    let with_tables : List (List ℕ × TableState) → PrimaryState = λ tables. record p { tables = tables } in
    ap with_tables (remove_entry-push same_text same_text_decides p.tables name (new_table (end_of p)) absent)

pub IsPrimary-dropped : (old : PrimaryState) (name : List ℕ) → IsPrimary old → IsPrimary (without_table old name)
IsPrimary-dropped old name is = primary_from (without_table old name) (IsDistinct-remove_entry same_text same_text_decides (same_text name) old.tables is.distinct) each
  where
    each : (other : List ℕ) (t : TableState) → table_at (without_table old name) other ≡ Some t → IsLogged old.log other t
    each other t at = by (same_text name other) refl
      where
        by : (b : Bool) → same_text name other ≡ b → IsLogged old.log other t
        by true same =
            let is_name : name ≡ other = (same_text_decides name other).0 same in
            let none : table_at (without_table old name) other ≡ None = subst (λ x. table_at (without_table old name) x ≡ None) is_name (dropped_here old name is) in
            absurd (let both = sym none ∙ at in cc)
        by false same =
            let apart : other ≢ name = λ h. true≢false (sym ((same_text_decides name other).1 (sym h)) ∙ same) in
            logged old other t is (sym (dropped_elsewhere old name other apart) ∙ at)

-- ---- a log purged

-- what holds of every primary holds of it with its log purged
pub IsPrimary-purged : (p : PrimaryState) (position : ℕ) → position ≤ end_of p → IsPrimary p → IsPrimary (with_purge p position)
IsPrimary-purged p position within is = primary_from (with_purge p position) is.distinct each
  where
    less : ℕ
    less = purged_by p.log position

    inside : less ≤ length p.log.entries
    inside = purged_within p.log position within

    each : (name : List ℕ) (t : TableState) → table_at p name ≡ Some t → IsLogged (without_below p.log position) name t
    each name t found =
        let was = logged p name t is found in
        record {
          ordered = was.ordered;
          made = let n = length-drop less p.log.entries in omega (arith, n, inside, was.made);
          leads = λ i change low kept at of.
              ap (λ xs. option_map_or (λ (c : RowChange). c.before) (find (is_change_of name change.key) xs) (row_in t change.key)) (past_purged p.log less (i + 1) (omega (arith, kept)))
              ∙ was.leads i change low (omega (arith, kept)) (sym (entry_purged p.log less i kept) ∙ at) of;
        }
