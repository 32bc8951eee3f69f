-- Rows put one after another.
use Rattle.std.proofs.Common.{◌≡◌, ℕ, ◌<◌, ◌+◌, Bool, true, false, ◌&&◌, eqb, List, [], ◌∷◌, ◌++◌, fold, Option, Some, None, is_some, refl, sym, ap, ◌∙◌, arith, append_assoc, append-nil, length-append}
use Rattle.std.proofs.lemmas.Bool.{and_parts, eqb-true, eq-eqb, ltb-false, ltb-true, true≢false}
use Rattle.std.proofs.lemmas.List.Sums.{fold_push}
use Rattle.std.specs.Option.{option_map}
use Rattle.mt_names.specs.Names.{same_text}
use Rattle.mt_names.proofs.SameLemmas.{same_text_decides}
use Rattle.mt_model.specs.declared.rows.RowChange.{RowChange}
use Rattle.mt_model.specs.Limits.{longest_log}
use Rattle.mt_model.specs.Rows.{Row}
use Rattle.mt_primary.specs.Primary.{PrimaryState, TableState, end_of, has_table, made_at, row_at, table_at}
use Rattle.mt_store.specs.Log.{has_room, log_end, with_entry}
use Rattle.mt_primary.specs.Writes.{IsPut, RowPut, change_by, row_after_put}
use Rattle.mt_stream.specs.Advance.{room_in}
use Rattle.mt_stream.specs.Puts.{PutsMade, RowsByKey, changes_by, rows_after_put, with_entries}

-- every row after a put
pub row-put : (old : PrimaryState) (put : RowPut) (new : PrimaryState) → IsPut old put new → (table : List ℕ) (key : ℕ) → row_at new table key ≡ row_after_put table key (row_at old table key) put
row-put old put new is table key = by (same_text table put.table && eqb key put.key) refl
  where
    by : (b : Bool) → (same_text table put.table && eqb key put.key) ≡ b → row_at new table key ≡ row_after_put table key (row_at old table key) put
    by true here =
        let both = and_parts (same_text table put.table) (eqb key put.key) here in
        let t : table ≡ put.table = (same_text_decides table put.table).0 both.0 in
        let k : key ≡ put.key = eqb-true key put.key both.1 in
        rw here (rw (t, k) is.row)
    by false apart =
        rw apart (is.others table key (λ h. true≢false (sym (rw ((same_text_decides table put.table).1 h.0, eq-eqb key put.key h.1) refl) ∙ apart)))

-- the entry of the last of several puts
changes-push : (rows : RowsByKey) (puts : List RowPut) (put : RowPut)
    → changes_by rows (puts ++ put ∷ []) ≡ changes_by rows puts ++ record { table = put.table; key = put.key; before = fold (row_after_put put.table put.key) (rows put.table put.key) puts; after = put.after } ∷ []
changes-push rows [] put = refl
changes-push rows (p ∷ puts) put = ap (λ l. record { table = p.table; key = p.key; before = rows p.table p.key; after = p.after } ∷ l) (changes-push (rows_after_put rows p) puts put)

pub no_puts : (old : PrimaryState) → PutsMade old [] old
no_puts old = record { rows = λ table key. refl; log = ap (λ (es : List RowChange). record old.log { entries = es }) (sym (append-nil old.log.entries)); made = λ table. refl; denied = λ table. refl }

pub puts-push : (old mid new : PrimaryState) (puts : List RowPut) (put : RowPut) → PutsMade old puts mid → IsPut mid put new → PutsMade old (puts ++ put ∷ []) new
puts-push old mid new puts put was is = record {
  rows = λ table key. row-put mid put new is table key ∙ ap (λ r. row_after_put table key r put) (was.rows table key) ∙ sym (fold_push (row_after_put table key) (row_at old table key) puts put);
  log =
      is.log ∙ ap (λ l. with_entry l (change_by mid put)) was.log ∙ ap (λ (es : List RowChange). record old.log { entries = es }) (append_assoc old.log.entries (changes_by (row_at old) puts) (change_by mid put ∷ []))
      ∙ ap (λ l. with_entries old.log l) (ap (λ r. changes_by (row_at old) puts ++ entry r ∷ []) (was.rows put.table put.key) ∙ sym (changes-push (row_at old) puts put));
  made = λ table. is.made table ∙ was.made table;
  denied = λ table. is.denied table ∙ was.denied table;
}
  where
    entry : Row → RowChange
    entry before = record { table = put.table; key = put.key; before = before; after = put.after }

-- tables stay
has_table-made : (p : PrimaryState) (table : List ℕ) → has_table p table ≡ is_some (made_at p table)
has_table-made p table = by (table_at p table)
  where
    by : (o : Option TableState) → is_some o ≡ is_some (option_map (λ (t : TableState). t.made) o)
    by None = refl
    by (Some t) = refl

pub has_table-puts : (old new : PrimaryState) (puts : List RowPut) → PutsMade old puts new → (table : List ℕ) → has_table old table ≡ true → has_table new table ≡ true
has_table-puts old new puts made table has = has_table-made new table ∙ ap is_some (made.made table) ∙ sym (has_table-made old table) ∙ has

-- the room of a log
pub room-put : (old : PrimaryState) (put : RowPut) (new : PrimaryState) → has_room old.log ≡ true → IsPut old put new → room_in old ≡ room_in new + 1
room-put old put new room is =
    let l = ltb-true (end_of old) longest_log room in
    let m : end_of new ≡ log_end (with_entry old.log (change_by old put)) = ap log_end is.log in
    let n = length-append old.log.entries (change_by old put ∷ []) in
    omega (arith, l, n)

pub room-some : (p : PrimaryState) → has_room p.log ≡ true → 0 < room_in p
room-some p room = let l = ltb-true (end_of p) longest_log room in omega (arith, l)

pub room-none : (p : PrimaryState) → has_room p.log ≡ false → room_in p ≡ 0
room-none p full = let l = ltb-false (end_of p) longest_log full in omega (arith, l)
