-- What one entry more makes of what a log tells.
use Rattle.std.proofs.Common.{◌≡◌, ◌≢◌, ℕ, suc, zero, ◌⊎◌, eqb, List, [], ◌∷◌, ◌++◌, length, slice_get, Some, refl, ap, inl, inr, ⊎_elim}
use Rattle.std.proofs.lemmas.Bool.{and_right, eqb-true, eq-eqb, false_from_ne_true}
use Rattle.mt_names.proofs.SameLemmas.{same_text_decides}
use Rattle.mt_names.specs.Names.{same_text}
use Rattle.mt_model.specs.declared.rows.RowChange.{RowChange}
use Rattle.mt_model.specs.Rows.{Row, row_with}

-- an entry of this row, of another row of the table, and of another table
pub row_with-here : (row : Row) (change : RowChange) → row_with change.table change.key row change ≡ change.after
row_with-here row change = rw ((same_text_decides change.table change.table).1 refl, eq-eqb change.key change.key refl) refl

pub row_with-other_key : (name : List ℕ) (key : ℕ) (row : Row) (change : RowChange) → key ≢ change.key → row_with name key row change ≡ row
row_with-other_key name key row change other =
    rw (and_right (same_text name change.table) (eqb key change.key) (false_from_ne_true (eqb key change.key) (λ t. other (eqb-true key change.key t)))) refl

pub row_with-other_table : (name : List ℕ) (key : ℕ) (row : Row) (change : RowChange) → name ≢ change.table → row_with name key row change ≡ row
row_with-other_table name key row change other =
    rw (false_from_ne_true (same_text name change.table) (λ t. other ((same_text_decides name change.table).0 t))) refl

-- an entry of the longer log is one of the log, or the last
pub slice_get_push : {X : Type 0} (xs : List X) (last x : X) (i : ℕ) → slice_get (xs ++ last ∷ []) i ≡ Some x → (slice_get xs i ≡ Some x) ⊎ ((i ≡ length xs) × (x ≡ last))
slice_get_push [] last x zero e = inr (refl, cc)
slice_get_push [] last x (suc i) e = absurd cc
slice_get_push (y ∷ xs) last x zero e = inl e
slice_get_push (y ∷ xs) last x (suc i) e = ⊎_elim (λ h. inl h) (λ h. inr (ap suc h.0, h.1)) (slice_get_push xs last x i e)
