-- What an edit of a row does, by what its pages, the log's room and memory answer.
use Rattle.std.proofs.Common.{◌≡◌, ◌≢◌, ℕ, Bool, true, false, cond, eqb, List, Result, Ok, Err, refl, sym, subst, ◌∙◌, nat_lt}
use Rattle.std.proofs.lemmas.Bool.{eq-eqb, ne_eqb}
use Rattle.mt_model.specs.declared.faults.PrimaryFault.{PrimaryFault}
use Rattle.mt_model.specs.declared.faults.PrimaryFault.TheVariants.{LogFull, Memory}
use Rattle.mt_model.specs.Limits.{longest_log}
use Rattle.mt_model.specs.Rows.{Row}
use Rattle.mt_primary.specs.Primary.{IsInKeyOrder, TableState, row_in}
use Rattle.mt_primary.specs.Tables.{ChangesRow, IsRowPut, LoggedTable, RowEdit, changed_row, edit_key, edited_row}
use Rattle.mt_store.specs.Log.{LogState, TellsRoom, has_room, log_end, with_entry}

-- room that was made is there
told_ok : {A : Type 0} (log : LogState) (room : Result A PrimaryFault) (done : A) → room ≡ Ok done → TellsRoom log room → has_room log ≡ true
told_ok log (Ok done) any is tells = tells
told_ok log (Err fault) any is tells = absurd cc

-- a table with one row as told, and the others as they were
row_put : (old new : TableState) (key : ℕ) (row : Row) → ((q : ℕ) → row_in new q ≡ cond (eqb q key) row (row_in old q)) → new.made ≡ old.made → new.denied ≡ old.denied → IsInKeyOrder new → IsRowPut old key row new
row_put old new key row updates made denied ordered = record {
  here = updates key ∙ rw (eq-eqb key key refl) refl;
  others = λ other apart. updates other ∙ rw (ne_eqb other key apart) refl;
  made = made;
  denied = denied;
  ordered = ordered;
}

module _ (old new : TableState) (log new_log : LogState) (name : List ℕ) (edit : RowEdit) (stood : Row) (result : Result ℕ PrimaryFault) (row_is : row_in old (edit_key edit) ≡ stood) where
  abbrev before : LoggedTable
  before = record { table = old; log = log }

  abbrev behind : LoggedTable
  behind = record { table = new; log = new_log }

  unchanged : new ≡ old → new_log ≡ log → behind ≡ before
  unchanged same same_log = rw (same, same_log) refl

  -- the row refuses the edit
  pub refused_row : (fault : PrimaryFault) → edited_row edit stood ≡ Err fault → fault ≢ Memory → result ≡ Err fault → new ≡ old → new_log ≡ log → ChangesRow before name edit result behind
  refused_row fault refused other is same same_log = rw is (by fault (rw (row_is, refused) refl) other)
    where
      by : (f : PrimaryFault) → changed_row before edit ≡ Err f → f ≢ Memory → ChangesRow before name edit (Err f) behind
      by Memory e apart = absurd (apart refl)
      by f e apart = (e, unchanged same same_log)

  module _ (left : Row) (allowed : edited_row edit stood ≡ Ok left) {A : Type 0} (room : Result A PrimaryFault) (tells : TellsRoom log room) where
    left_is : edited_row edit (row_in old (edit_key edit)) ≡ Ok left
    left_is = rw row_is allowed

    -- the log has no room for the entry
    pub refused_room : (fault : PrimaryFault) → room ≡ Err fault → result ≡ Err fault → new ≡ old → new_log ≡ log → ChangesRow before name edit result behind
    refused_room fault full is same same_log = rw is (by (nat_lt (log_end log) longest_log) refl)
      where
        told : TellsRoom {A = A} log (Err fault)
        told = subst (TellsRoom {A = A} log) full tells

        by : (b : Bool) → nat_lt (log_end log) longest_log ≡ b → ChangesRow before name edit (Err fault) behind
        by true below = let t = rw below at told in let of : fault ≡ Memory = cc in rw of ((left, rw (left_is, below) refl), unchanged same same_log)
        by false above = let t = rw above at told in let of : fault ≡ LogFull = cc in rw of (rw (left_is, above) refl, unchanged same same_log)

    -- there is no memory for the row
    pub refused_memory : (done : A) → room ≡ Ok done → result ≡ Err Memory → new ≡ old → new_log ≡ log → ChangesRow before name edit result behind
    refused_memory done made is same same_log = rw is ((left, rw (left_is, told_ok log room done made tells) refl), unchanged same same_log)

    -- the row is put, and its entry stands in the log
    pub entered : (done : A) → room ≡ Ok done → ((q : ℕ) → row_in new q ≡ cond (eqb q (edit_key edit)) left (row_in old q))
        → new.made ≡ old.made → new.denied ≡ old.denied → IsInKeyOrder new
        → new_log ≡ with_entry log (record { table = name; key = edit_key edit; before = stood; after = left }) → (answer : ℕ) → result ≡ Ok answer → answer ≡ log_end new_log → ChangesRow before name edit result behind
    entered done made updates same_made same_denied ordered pushed answer is at =
        let put : IsRowPut old (edit_key edit) left new = row_put old new (edit_key edit) left updates same_made same_denied ordered in
        let here : left ≡ row_in new (edit_key edit) = sym put.here in
        rw is (record {
          row = subst (λ row. changed_row before edit ≡ Ok row) here (rw (left_is, told_ok log room done made tells) refl);
          put = subst (λ row. IsRowPut old (edit_key edit) row new) here put;
          log = subst (λ row. new_log ≡ with_entry log (record { table = name; key = edit_key edit; before = row_in old (edit_key edit); after = row })) here (rw row_is pushed);
          position = at;
        })
