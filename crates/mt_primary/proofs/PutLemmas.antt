-- What a row that is put changes, and what stays.
use Rattle.std.proofs.Common.{◌≡◌, ℕ, ◌≤◌, Bool, true, false, eqb, List, [], ◌∷◌, ◌++◌, ◌-◌, arith, Option, Some, None, is_some, refl, sym, ap, ◌∙◌}
use Rattle.std.proofs.lemmas.Bool.{eq-eqb, eqb-true, true≢false}
use Rattle.std.proofs.lemmas.List.{drop-append-le}
use Rattle.std.specs.Option.{option_map}
use Rattle.mt_names.proofs.SameLemmas.{same_text_decides}
use Rattle.mt_names.specs.Names.{same_text}
use Rattle.mt_store.specs.Log.{entries_past}
use Rattle.mt_primary.specs.Primary.{PrimaryState, TableState, end_of, has_table, row_at, table_at}
use Rattle.mt_primary.specs.Reads.{entries_from}
use Rattle.mt_primary.specs.Writes.{IsPut, RowPut, change_by, row_after_put}

module _ (old new : PrimaryState) (put : RowPut) (is : IsPut old put new) where
  pub put-rows : (table : List ℕ) (key : ℕ) → row_at new table key ≡ row_after_put table key (row_at old table key) put
  put-rows table key = by (same_text table put.table) (eqb key put.key) refl refl
    where
      by : (t k : Bool) → same_text table put.table ≡ t → eqb key put.key ≡ k → row_at new table key ≡ row_after_put table key (row_at old table key) put
      by true true t k = rw ((same_text_decides table put.table).0 t, eqb-true key put.key k, (same_text_decides put.table put.table).1 refl, eq-eqb put.key put.key refl) is.row
      by true false t k = rw (t, k) (is.others table key (λ h. true≢false (sym (eq-eqb key put.key h.1) ∙ k)))
      by false k t e = rw t (is.others table key (λ h. true≢false (sym ((same_text_decides table put.table).1 h.0) ∙ t)))

  pub put-tables : (name : List ℕ) → has_table new name ≡ has_table old name
  put-tables name = by (table_at new name) (table_at old name) (is.made name)
    where
      by : (a b : Option TableState) → option_map (λ (t : TableState). t.made) a ≡ option_map (λ (t : TableState). t.made) b → is_some a ≡ is_some b
      by None None e = refl
      by None (Some t) e = absurd cc
      by (Some t) None e = absurd cc
      by (Some t) (Some u) e = refl

  pub put-entry : (position : ℕ) → old.log.purged ≤ position → position ≤ end_of old → entries_from new position ≡ entries_from old position ++ change_by old put ∷ []
  put-entry position kept within = ap (λ l. entries_past l position) is.log ∙ drop-append-le (position - old.log.purged) old.log.entries (change_by old put ∷ []) (omega (arith, kept, within))
