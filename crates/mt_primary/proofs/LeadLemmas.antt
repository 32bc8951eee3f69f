-- The kept entries lead to the rows.
use Rattle.std.proofs.Common.{◌≡◌, ℕ, zero, suc, ◌≤◌, ◌+◌, Bool, true, false, cond, eqb, List, [], ◌∷◌, length, take, drop, fold, Some, refl, sym, ap, ◌∙◌, arith}
use Rattle.std.proofs.lemmas.Bool.{and_parts, eqb-true}
use Rattle.std.proofs.lemmas.List.{drop_all, take_all}
use Rattle.std.specs.List.{find}
use Rattle.std.specs.Option.{option_map_or}
use Rattle.mt_names.specs.Names.{same_text}
use Rattle.mt_names.proofs.SameLemmas.{same_text_decides}
use Rattle.mt_model.specs.declared.rows.RowChange.{RowChange}
use Rattle.mt_model.specs.Rows.{is_change_of, row_with}
use Rattle.mt_store.proofs.ReadLemmas.{from_entry, past_more, stands_at}
use Rattle.mt_primary.specs.Primary.{IsPrimary, PrimaryState, made_at, row_at, row_at_position}
use Rattle.mt_primary.specs.Reads.{entries_from}

module _ (source : PrimaryState) (is : IsPrimary source) (table : List ℕ) (key made : ℕ) (at : made_at source table ≡ Some made) where
  tail : (x y : RowChange) → {xs ys : List RowChange} → x ∷ xs ≡ y ∷ ys → xs ≡ ys
  tail x y e = cc

  -- one entry on
  further : (change : RowChange) (rest : List RowChange) (p : ℕ) → entries_from source p ≡ change ∷ rest → made ≤ p → source.log.purged ≤ p
      → row_with table key (row_at_position source p table key) change ≡ row_at_position source (p + 1) table key
  further change rest p e low kept = by (is_change_of table key change) refl
    where
      next : entries_from source (p + 1) ≡ rest
      next = tail change change (sym (from_entry source.log p change kept (stands_at source.log p change rest e)) ∙ e)

      by : (b : Bool) → is_change_of table key change ≡ b → cond b change.after (row_at_position source p table key) ≡ row_at_position source (p + 1) table key
      by true this =
          let both = and_parts (same_text table change.table) (eqb key change.key) this in
          let t : table ≡ change.table = (same_text_decides table change.table).0 both.0 in
          let k : key ≡ change.key = eqb-true key change.key both.1 in
          sym (is.leads table made p change at low kept (stands_at source.log p change rest e) (sym t)) ∙ ap (λ n. row_at_position source (p + 1) table n) (sym k)
      by false other =
          ap (λ l. option_map_or (λ (c : RowChange). c.before) (find (is_change_of table key) l) (row_at source table key)) e
          ∙ ap (λ b. option_map_or (λ (c : RowChange). c.before) (cond b (Some change) (find (is_change_of table key) rest)) (row_at source table key)) other
          ∙ ap (λ l. option_map_or (λ (c : RowChange). c.before) (find (is_change_of table key) l) (row_at source table key)) (sym next)

  -- so many entries on
  pub entries_on : (n p : ℕ) → made ≤ p → source.log.purged ≤ p → fold (row_with table key) (row_at_position source p table key) (take n (entries_from source p)) ≡ row_at_position source (p + n) table key
  entries_on zero p low kept = let z : p + 0 ≡ p = omega arith in rw z refl
  entries_on (suc n) p low kept = by (entries_from source p) refl (entries_on n (p + 1) (omega arith) (omega arith))
    where
      by : (rest : List RowChange) → entries_from source p ≡ rest
          → fold (row_with table key) (row_at_position source (p + 1) table key) (take n (entries_from source (p + 1))) ≡ row_at_position source (p + 1 + n) table key
          → fold (row_with table key) (row_at_position source p table key) (take (suc n) rest) ≡ row_at_position source (p + suc n) table key
      by [] e again =
          let none : entries_from source (p + suc n) ≡ [] = sym (past_more source.log p (suc n) kept) ∙ ap (drop (suc n)) e in
          ap (λ l. option_map_or (λ (c : RowChange). c.before) (find (is_change_of table key) l) (row_at source table key)) (e ∙ sym none)
      by (change ∷ rest) e again =
          let more : p + suc n ≡ p + 1 + n = omega arith in
          let same_rest : rest ≡ entries_from source (p + 1) = tail change change (sym e ∙ from_entry source.log p change kept (stands_at source.log p change rest e)) in
          ap (λ r. fold (row_with table key) r (take n rest)) (further change rest p e low kept)
          ∙ ap (λ l. fold (row_with table key) (row_at_position source (p + 1) table key) (take n l)) same_rest ∙ again ∙ ap (λ m. row_at_position source m table key) (sym more)

  -- all of them on
  pub to_the_rows : (p : ℕ) → made ≤ p → source.log.purged ≤ p → fold (row_with table key) (row_at_position source p table key) (entries_from source p) ≡ row_at source table key
  to_the_rows p low kept =
      let all = entries_from source p in
      let none : entries_from source (p + length all) ≡ [] = sym (past_more source.log p (length all) kept) ∙ drop_all (length all) all (omega arith) in
      ap (λ l. fold (row_with table key) (row_at_position source p table key) l) (sym (take_all (length all) all (omega arith)))
      ∙ entries_on (length all) p low kept
      ∙ ap (λ l. option_map_or (λ (c : RowChange). c.before) (find (is_change_of table key) l) (row_at source table key)) none
