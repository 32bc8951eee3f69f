-- What stands at a place of a map whose keys are distinct is what is found by its key, and a value set there is set at the key.
use Rattle.std.proofs.Common.{◌≡◌, ℕ, Bool, true, false, List, [], ◌∷◌, slice_get, get_or, position, None, Some, Result, Err, zero, suc, refl, sym, ap, subst, ◌∙◌}
use Rattle.std.proofs.lemmas.List.Quantifiers.{position-Some}
use Rattle.std.proofs.lemmas.Option.{slice_get-get_or}
use Rattle.std.specs.Bool.{Decides, ⊤}
use Rattle.std.specs.List.{AllByRecursion, IsDistinct}
use Rattle.std.specs.Map.{keys_of, lookup, set_value, values_of}
use Rattle.std.specs.Result.{MatchResult, is_ok}
use Rattle.indexmap.specs.IndexMap.{set_value_at}
use Rattle.mt_names.proofs.EntryLemmas.{same_turned}
use Rattle.mt_names.proofs.SameLemmas.{same_text_decides}
use Rattle.mt_names.specs.Names.{same_text}
use Rattle.mt_model.specs.declared.faults.PrimaryFault.{PrimaryFault}
use Rattle.mt_model.specs.declared.faults.PrimaryFault.TheVariants.{Denied}
use Rattle.mt_model.specs.declared.rows.Op.{Op}
use Rattle.mt_model.specs.Rows.{Row}
use Rattle.mt_store.specs.Log.{LogState}
use Rattle.mt_primary.specs.Denials.{AreDenialsSet, told_by_mark}
use Rattle.mt_primary.specs.Primary.{IsPrimary, PrimaryState, TableState, table_at}
use Rattle.mt_primary.specs.Tables.{ChangesRow, Put, Write}
use Rattle.mt_primary.specs.Writes.{Puts, Writes, written_row}
use Rattle.mt_primary.proofs.DenialLemmas.{IsPrimary-mark, denials-one}
use Rattle.mt_primary.proofs.PrimaryLemmas.{change_is_put, change_is_write, denied_write, same_table, with_table}

-- the key of an entry stands at its place
pub key-at : {K V : Type 0} (es : List (K × V)) (i : ℕ) (e : K × V) → slice_get es i ≡ Some e → slice_get (keys_of es) i ≡ Some e.0
key-at [] i e is = absurd cc
key-at (d ∷ es) zero e is = let same : d ≡ e = cc in ap (λ (x : _ × _). Some x.0) same
key-at (d ∷ es) (suc i) e is = key-at es i e is

-- so does its value
pub value-at : {K V : Type 0} (es : List (K × V)) (i : ℕ) (e : K × V) → slice_get es i ≡ Some e → slice_get (values_of es) i ≡ Some e.1
value-at [] i e is = absurd cc
value-at (d ∷ es) zero e is = let same : d ≡ e = cc in ap (λ (x : _ × _). Some x.1) same
value-at (d ∷ es) (suc i) e is = value-at es i e is

-- a key that is apart from all is apart from the one at a place
apart-at : {K : Type 0} (same : K → K → Bool) (ks : List K) (i : ℕ) (k j : K) → AllByRecursion (λ x. same j x ≡ false) ks → slice_get ks i ≡ Some k → same j k ≡ false
apart-at same [] i k j apart is = absurd cc
apart-at same (x ∷ ks) zero k j apart is = let at : x ≡ k = cc in subst (λ y. same j y ≡ false) at apart.0
apart-at same (x ∷ ks) (suc i) k j apart is = apart-at same ks i k j apart.1 is

module _ {K V : Type 0} (same : K → K → Bool) (decides : (a b : K) → Decides (same a b) (a ≡ b)) where
  pub lookup-at : (es : List (K × V)) (i : ℕ) (k : K) (v : V) → IsDistinct same (keys_of es) → slice_get (keys_of es) i ≡ Some k → slice_get (values_of es) i ≡ Some v → lookup (same k) es ≡ Some v
  unfolding IsDistinct
  lookup-at [] i k v distinct is_k is_v = absurd cc
  lookup-at (e ∷ es) zero k v distinct is_k is_v =
      let at : e.0 ≡ k = cc in
      let has : e.1 ≡ v = cc in
      rw ((decides k e.0).1 (sym at)) (ap Some has)
  lookup-at (e ∷ es) (suc i) k v distinct is_k is_v =
      rw (same_turned same decides k e.0 ∙ apart-at same (keys_of es) i k e.0 distinct.0 is_k) (lookup-at es i k v distinct.1 is_k is_v)

  pub set_value-at : (es : List (K × V)) (i : ℕ) (k : K) (v : V) → IsDistinct same (keys_of es) → slice_get (keys_of es) i ≡ Some k → set_value_at es i v ≡ set_value (same k) es v
  unfolding IsDistinct
  set_value-at [] i k v distinct is_k = absurd cc
  set_value-at (e ∷ es) zero k v distinct is_k = let at : e.0 ≡ k = cc in rw ((decides k e.0).1 (sym at)) refl
  set_value-at (e ∷ es) (suc i) k v distinct is_k =
      rw (same_turned same decides k e.0 ∙ apart-at same (keys_of es) i k e.0 distinct.0 is_k) (ap (λ l. e ∷ l) (set_value-at es i k v distinct.1 is_k))

-- where a name is found, its key stands
pub found-at : (names : List (List ℕ)) (name : List ℕ) (i : ℕ) → position (same_text name) names ≡ Some i → slice_get names i ≡ Some name
found-at names name i is =
    let found = position-Some (same_text name) names i name is in
    slice_get-get_or names i name found.0 ∙ ap Some (sym ((same_text_decides name (get_or names i name)).0 found.1))

-- a primary with another table at a place, and another log
abbrev pub with_table_at : PrimaryState → ℕ → TableState → LogState → PrimaryState
with_table_at p place put log = record { tables = set_value_at p.tables place put; log = log }

module _ (old : PrimaryState) (place : ℕ) (name at : List ℕ) (table : TableState) (is : IsPrimary old) (there : slice_get (keys_of old.tables) place ≡ Some name) (stood : slice_get old.tables place ≡ Some (at, table)) where
  -- the entry at the place has this name
  named : at ≡ name
  named = let here : Some at ≡ Some name = sym (key-at old.tables place (at, table) stood) ∙ there in cc

  found_at : table_at old name ≡ Some table
  found_at = lookup-at same_text same_text_decides old.tables place name table is.distinct there (value-at old.tables place (at, table) stood)

  -- it is the one with another table of this name
  by_name : (put : TableState) (log : LogState) → with_table old name table put found_at log ≡ with_table_at old place put log
  by_name put log = ap (λ tables. record { tables = tables; log = log }) (sym (set_value-at same_text same_text_decides old.tables place name put is.distinct there))

  pub same_table_at : with_table_at old place table old.log ≡ old
  same_table_at = sym (by_name table old.log) ∙ same_table old name table found_at

  pub denied_write_at : (op : Op) → table.denied ≡ true → written_row old name op ≡ Err Denied
  denied_write_at op is_denied = denied_write old name table table found_at op is_denied

  -- the entry at the place is marked, which is what a denial by name does
  pub denial_at : (mark : Bool) → IsPrimary (with_table_at old place (record table { denied = mark }) old.log)
      × AreDenialsSet old (λ n. told_by_mark n None (name, mark)) (with_table_at old place (record table { denied = mark }) old.log)
  denial_at mark =
      subst (λ new. IsPrimary new × AreDenialsSet old (λ n. told_by_mark n None (name, mark)) new) (by_name (record table { denied = mark }) old.log)
      (IsPrimary-mark old name table mark found_at is, denials-one old name table mark found_at is.distinct)

  module _ (put : TableState) (log : LogState) (r : Result ℕ PrimaryFault) where
    pub change_at_is_write : (op : Op) → table.denied ≡ false → ChangesRow (record { table = table; log = old.log }) at (Write op) r (record { table = put; log = log })
        → IsPrimary (with_table_at old place put log) × Writes old name op r (with_table_at old place put log)
    change_at_is_write op allowed changes =
        let here = subst (λ n. ChangesRow (record { table = table; log = old.log }) n (Write op) r (record { table = put; log = log })) named changes in
        subst (λ new. IsPrimary new × Writes old name op r new) (by_name put log) (change_is_write old name table put found_at op log r allowed is here)

    pub change_at_is_put : (key : ℕ) (after : Row) (told : Result ⊤ PrimaryFault) → MatchResult r (λ position. is_ok told ≡ true) (λ fault. told ≡ Err fault) → ChangesRow (record { table = table; log = old.log }) at (Put key after) r (record { table = put; log = log })
        → IsPrimary (with_table_at old place put log) × Puts old (record { table = name; key = key; after = after }) told (with_table_at old place put log)
    change_at_is_put key after told mapped changes =
        let here = subst (λ n. ChangesRow (record { table = table; log = old.log }) n (Put key after) r (record { table = put; log = log })) named changes in
        subst (λ new. IsPrimary new × Puts old (record { table = name; key = key; after = after }) told new) (by_name put log) (change_is_put old name table put found_at key after log r told mapped is here)
