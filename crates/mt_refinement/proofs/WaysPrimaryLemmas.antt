-- The primaries behind Complete: the source's have lost the tables, and all others stand as before.
use Rattle.std.proofs.Common.{◌≡◌, ◌≢◌, ℕ, ◌<◌, Bool, true, false, not, fold, List, length, Option, None, Some, refl, sym, ap, ◌∙◌, subst, ⊎_elim}
use Rattle.std.proofs.lemmas.Bool.{cases_lt}
use Rattle.std.proofs.lemmas.Map.{length-set_value}
use Rattle.std.specs.Map.{set_value}
use Rattle.std.specs.Option.{option_map_or}
use Rattle.std.specs.Prelude.{◌&&◌}
use Rattle.mt_names.specs.Names.{same_text}
use Rattle.mt_names.specs.Shards.{AreCuts, shard_count}
use Rattle.mt_model.specs.Topology.{HasDistinctPlaces, KeyspaceState, Keyspaces, keyspace_at, with_keyspace_state}
use Rattle.mt_model.proofs.PlaceLemmas.{keyspace_at-stays}
use Rattle.mt_plain.specs.Next.{with_completed, with_tables, without_tables}
use Rattle.mt_plain.specs.Plain.{Live, Plain, among, has_keyspace, mover, moves}
use Rattle.mt_plain.specs.Refuse.{complete_refusal}
use Rattle.mt_plain.specs.Serve as plain
use Rattle.mt_primary.proofs.PrimariesLemmas.{count-with_all, cuts-with_all, has-with_all, length-with_all, primary_past, with_all-elsewhere, with_all-here, with_all-past}
use Rattle.mt_primary.specs.Primaries.{Primaries, count_of, primary_of, with_all}
use Rattle.mt_primary.specs.Primary.{IsPrimary, PrimaryState, has_table, is_denied_at}
use Rattle.mt_primary.specs.Writes.{without_table}
use Rattle.mt_laws.specs.Reached.{IsInPlace}
use Rattle.mt_laws.proofs.LiveLemmas.{Apart, IsIn}
use Rattle.mt_stands.specs.Rows.{OtherKeyspacesStay, OtherTablesStay}
use Rattle.mt_stands.specs.Stands.{ArePrimaries}
use Rattle.mt_stands.proofs.KnownLemmas.{same_or}
use Rattle.mt_refinement.proofs.CompleteNextLemmas.{allowed_before, none_refuses, same_cuts, same_refuses, table_away, table_left, table_unmoved}
use Rattle.mt_laws.proofs.CountLemmas.{length-changed}

-- a keyspace that changes leaves as many as there were
module _ (p : Plain) (old : Primaries) (stands : ArePrimaries p old) (are : (keyspace : List ℕ) (n : ℕ) → IsPrimary (primary_of old keyspace n))
    (apart : Apart p.lives) (w : Live) (is_in : IsIn w p.lives) (none : complete_refusal w ≡ None) (placed : IsInPlace p.topology w) (distinct : HasDistinctPlaces p.topology)
    (mover_is : (table : List ℕ) → moves w table ≡ true → mover p table ≡ Some w)
    (dropped : (old : PrimaryState) (tables : List (List ℕ)) → OtherTablesStay tables old (fold without_table old tables))
    (gone : (old : PrimaryState) (tables : List (List ℕ)) → IsPrimary old → (table : List ℕ)
    → has_table (fold without_table old tables) table ≡ (not (among tables table) && has_table old table))
    (gone_denied : (old : PrimaryState) (tables : List (List ℕ)) → IsPrimary old → (table : List ℕ)
    → is_denied_at (fold without_table old tables) table ≡ (not (among tables table) && is_denied_at old table)) where
  abbrev q : Plain
  q = with_completed p (Some w)

  -- a primary of the source loses the tables
  abbrev drop_tables : PrimaryState → PrimaryState
  drop_tables primary = fold without_table primary w.tables

  abbrev made : Primaries
  made = with_all old w.source drop_tables

  pub others_stay : OtherKeyspacesStay w.source (primary_of old) (primary_of made)
  others_stay other apart n = with_all-elsewhere old w.source drop_tables other n apart

  pub tables_stay : (n : ℕ) → OtherTablesStay w.tables (primary_of old w.source n) (primary_of made w.source n)
  tables_stay n =
      ⊎_elim (λ within. subst (OtherTablesStay w.tables (primary_of old w.source n)) (sym (with_all-here old w.source drop_tables n within)) (dropped (primary_of old w.source n) w.tables))
      (λ past. subst (OtherTablesStay w.tables (primary_of old w.source n)) (sym (with_all-past old w.source drop_tables n past ∙ sym (primary_past old w.source n past)))
      (record { log = refl; rows = λ table other key. refl }))
      (cases_lt n (count_of old w.source))

  -- ---- each primary

  -- what is true of the source's primaries without the tables, and of the others as they are, is true of each
  each_now : (P : List ℕ → ℕ → PrimaryState → Type 0) → ((n : ℕ) → n < count_of old w.source → P w.source n (drop_tables (primary_of old w.source n)))
      → ((k : List ℕ) (n : ℕ) → w.source ≢ k → n < count_of old k → P k n (primary_of old k n)) → (k : List ℕ) (n : ℕ) → n < count_of made k → P k n (primary_of made k n)
  each_now P at_source elsewhere k n below = ⊎_elim here (λ other. subst (P k n) (sym (others_stay k other n)) (elsewhere k n other was)) (same_or w.source k)
    where
      was : n < count_of old k
      was = subst (λ c. n < c) (count-with_all old w.source drop_tables k) below

      here : w.source ≡ k → P k n (primary_of made k n)
      here e =
          let within = subst (λ x. n < count_of old x) (sym e) was in
          subst (λ x. P x n (primary_of made x n)) e (subst (P w.source n) (sym (with_all-here old w.source drop_tables n within)) (at_source n within))

  -- ---- tables

  tables_now : (k : List ℕ) (n : ℕ) → n < count_of made k → (t : List ℕ) → has_table (primary_of made k n) t ≡ plain.has_table q k t
  tables_now = each_now (λ k n s. (t : List ℕ) → has_table s t ≡ plain.has_table q k t) (λ n within t. gone (primary_of old w.source n) w.tables (are w.source n) t ∙ lost n within t (moves w t) refl)
      (λ k n other within t. stands.tables k n within t ∙ same k t other (moves w t) refl)
    where
      lost : (n : ℕ) → n < count_of old w.source → (t : List ℕ) (b : Bool) → moves w t ≡ b → (not b && has_table (primary_of old w.source n) t) ≡ plain.has_table q w.source t
      lost n within t true moved = sym (table_left p apart w is_in placed distinct t moved)
      lost n within t false other = stands.tables w.source n within t ∙ sym (table_unmoved p apart w is_in placed distinct w.source t other)

      same : (k t : List ℕ) → w.source ≢ k → (b : Bool) → moves w t ≡ b → plain.has_table p k t ≡ plain.has_table q k t
      same k t other true moved = sym (table_away p apart w is_in placed distinct k t moved other)
      same k t other false not_moved = sym (table_unmoved p apart w is_in placed distinct k t not_moved)

  -- ---- own lists

  denials_now : (k : List ℕ) (n : ℕ) → n < count_of made k → (t : List ℕ) → is_denied_at (primary_of made k n) t ≡ plain.refuses q k n t
  denials_now =
      each_now (λ k n s. (t : List ℕ) → is_denied_at s t ≡ plain.refuses q k n t) (λ n within t. gone_denied (primary_of old w.source n) w.tables (are w.source n) t ∙ lost n within t (moves w t) refl)
      (λ k n other within t. stands.denials k n within t ∙ same k n t other (moves w t) refl)
    where
      lost : (n : ℕ) → n < count_of old w.source → (t : List ℕ) (b : Bool) → moves w t ≡ b → (not b && is_denied_at (primary_of old w.source n) t) ≡ plain.refuses q w.source n t
      lost n within t true moved = sym (none_refuses p apart w is_in w.source n t moved)
      lost n within t false other = stands.denials w.source n within t ∙ sym (same_refuses p apart w is_in w.source n t other)

      same : (k : List ℕ) (n : ℕ) (t : List ℕ) → w.source ≢ k → (b : Bool) → moves w t ≡ b → plain.refuses p k n t ≡ plain.refuses q k n t
      same k n t other true moved =
          ap (λ o. option_map_or (λ v. plain.refuses_by v k n) o false) (mover_is t moved) ∙ allowed_before w none k n other
          ∙ sym (none_refuses p apart w is_in k n t moved)
      same k n t other false not_moved = sym (same_refuses p apart w is_in k n t not_moved)

  -- ---- keyspaces

  keyspaces_stay : (k : List ℕ) → has_keyspace q k ≡ has_keyspace p k
  keyspaces_stay k =
      keyspace_at-stays (with_tables w.tables) (with_keyspace_state (without_tables w.tables) p.topology.keyspaces w.source) w.target k
      ∙ keyspace_at-stays (without_tables w.tables) p.topology.keyspaces w.source k

  as_many : length q.topology.keyspaces ≡ length p.topology.keyspaces
  as_many =
      length-changed (with_tables w.tables) (with_keyspace_state (without_tables w.tables) p.topology.keyspaces w.source) w.target
      ∙ length-changed (without_tables w.tables) p.topology.keyspaces w.source

  pub primaries_stand : ArePrimaries q made
  primaries_stand = record {
    there = λ k. has-with_all old w.source drop_tables k ∙ stands.there k ∙ sym (keyspaces_stay k);
    count = length-with_all old w.source drop_tables ∙ stands.count ∙ sym as_many;
    cuts = λ k. cuts-with_all old w.source drop_tables k ∙ stands.cuts k ∙ sym (same_cuts p apart w is_in k);
    ascend = λ k. subst AreCuts (sym (same_cuts p apart w is_in k)) (stands.ascend k);
    shards = λ k there. count-with_all old w.source drop_tables k ∙ stands.shards k (sym (keyspaces_stay k) ∙ there) ∙ ap shard_count (sym (same_cuts p apart w is_in k));
    tables = tables_now;
    denials = denials_now;
  }
