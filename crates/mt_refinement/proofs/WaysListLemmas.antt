-- Primaries with other own lists, and the next state that they stand for.
use Rattle.std.proofs.Common.{◌≡◌, ◌≢◌, ℕ, ◌<◌, ◌≤◌, Bool, true, false, cond, List, length, Option, Some, is_some, refl, sym, ap, ◌∙◌, subst, ⊎_elim}
use Rattle.std.proofs.lemmas.Bool.{cases_lt, or_from}
use Rattle.std.specs.Option.{option_map_or}
use Rattle.mt_names.specs.Names.{same_text}
use Rattle.mt_names.specs.Shards.{AreCuts, shard_count}
use Rattle.mt_model.specs.Topology.{cuts_at, keyspace_at}
use Rattle.mt_store.specs.Log.{LogState}
use Rattle.mt_primary.proofs.PrimariesLemmas.{primary_past}
use Rattle.mt_primary.specs.Primaries.{Primaries, count_of, has_primaries, primary_of, shards_of}
use Rattle.mt_primary.specs.Primary.{PrimaryState, is_denied_at, row_at}
use Rattle.mt_primary.specs.Primary as primary
use Rattle.mt_plain.specs.Plain.{Live, Plain, is_side, mover, moves, owner, shard_at}
use Rattle.mt_plain.specs.Serve.{has_table, refuses, refuses_by}
use Rattle.mt_plain.specs.Slots.{log_of}
use Rattle.mt_stands.specs.Rows.{IsPending, KeepsEndOf, RowsStand, StandAbove, owner_shard}
use Rattle.mt_stands.proofs.KnownLemmas.{differs}
use Rattle.mt_stands.specs.Stands.{ArePrimaries}
use Rattle.mt_steps.specs.Shards.{target_at}
use Rattle.mt_refinement.proofs.SidesLemmas.{both_counts, both_cuts, both_length, both_set, both_there, of_each}

-- a primary as it was, but for its own list, which has all of the tables that a workflow moves, or none
pub record IsListed (w : Live) (listed : Bool) (old new : PrimaryState) : Type 0 where
  pub tables : (table : List ℕ) → primary.has_table new table ≡ primary.has_table old table
  pub denied : (table : List ℕ) → is_denied_at new table ≡ cond (moves w table) listed (is_denied_at old table)
  pub log : new.log ≡ old.log
  pub rows : (table : List ℕ) (key : ℕ) → row_at new table key ≡ row_at old table key

-- a next state with the same keyspaces and tables, where the own lists may be others on the tables of one workflow alone
pub record IsNext (p q : Plain) (w : Live) (lists : List ℕ → ℕ → Bool) : Type 0 where
  pub topology : q.topology ≡ p.topology
  pub tables : (keyspace table : List ℕ) → has_table q keyspace table ≡ has_table p keyspace table
  pub refused : (keyspace : List ℕ) (shard : ℕ) (table : List ℕ) → refuses q keyspace shard table ≡ cond (moves w table) (lists keyspace shard) (refuses p keyspace shard table)
  pub moved : (table : List ℕ) → moves w table ≡ true → mover p table ≡ Some w

module _ (p q : Plain) (w : Live) (lists : List ℕ → ℕ → Bool) (next : IsNext p q w lists) (old : Primaries) (are : ArePrimaries p old) (stand : RowsStand q (primary_of old)) where
  -- a list that stays
  pub same_list : (keyspace : List ℕ) (n : ℕ) → n < count_of old keyspace → lists keyspace n ≡ refuses_by w keyspace n
      → IsListed w (lists keyspace n) (primary_of old keyspace n) (primary_of old keyspace n)
  same_list keyspace n within same = record { tables = λ table. refl; denied = λ table. by table (moves w table) refl; log = refl; rows = λ table key. refl }
    where
      by : (table : List ℕ) (b : Bool) → moves w table ≡ b → is_denied_at (primary_of old keyspace n) table ≡ cond b (lists keyspace n) (is_denied_at (primary_of old keyspace n) table)
      by table true is = are.denials keyspace n within table ∙ ap (λ (o : Option Live). option_map_or (λ v. refuses_by v keyspace n) o false) (next.moved table is) ∙ sym same
      by table false is = refl

  -- ---- all of them

  module _ (new : Primaries) (there : (keyspace : List ℕ) → has_primaries new keyspace ≡ has_primaries old keyspace) (as_many : length new ≡ length old)
      (cuts : (keyspace : List ℕ) → (shards_of new keyspace).cuts ≡ (shards_of old keyspace).cuts) (counts : (keyspace : List ℕ) → count_of new keyspace ≡ count_of old keyspace)
      (listed : (keyspace : List ℕ) (n : ℕ) → n < count_of old keyspace → IsListed w (lists keyspace n) (primary_of old keyspace n) (primary_of new keyspace n)) where
    -- what is the same of each primary that is there is the same of all
    same_of : {A : Type 0} (read : PrimaryState → A) → ((keyspace : List ℕ) (n : ℕ) → n < count_of old keyspace → read (primary_of new keyspace n) ≡ read (primary_of old keyspace n))
        → (keyspace : List ℕ) (n : ℕ) → read (primary_of new keyspace n) ≡ read (primary_of old keyspace n)
    same_of read same keyspace n =
        ⊎_elim (same keyspace n)
        (λ past. ap read (primary_past new keyspace n (subst (λ c. c ≤ n) (sym (counts keyspace)) past) ∙ sym (primary_past old keyspace n past)))
        (cases_lt n (count_of old keyspace))

    same_log : (keyspace : List ℕ) (n : ℕ) → (primary_of new keyspace n).log ≡ (primary_of old keyspace n).log
    same_log = same_of (λ s. s.log) (λ keyspace n within. (listed keyspace n within).log)

    same_row : (keyspace : List ℕ) (n : ℕ) (table : List ℕ) (key : ℕ) → row_at (primary_of new keyspace n) table key ≡ row_at (primary_of old keyspace n) table key
    same_row keyspace n table key = same_of (λ s. row_at s table key) (λ k m within. (listed k m within).rows table key) keyspace n

    -- a shard of a keyspace was one of it
    was_within : (keyspace : List ℕ) (n : ℕ) → n < count_of new keyspace → n < count_of old keyspace
    was_within keyspace n = subst (λ c. n < c) (counts keyspace)

    listed_stand : ArePrimaries q new × RowsStand q (primary_of new)
    listed_stand = (
      record {
        there = λ keyspace. there keyspace ∙ are.there keyspace ∙ sym (ap (λ u. is_some (keyspace_at u.keyspaces keyspace)) next.topology);
        count = as_many ∙ are.count ∙ sym (ap (λ u. length u.keyspaces) next.topology);
        cuts = λ keyspace. cuts keyspace ∙ are.cuts keyspace ∙ sym (ap (λ u. cuts_at u.keyspaces keyspace) next.topology);
        ascend = λ keyspace. subst (λ u. AreCuts (cuts_at u.keyspaces keyspace)) (sym next.topology) (are.ascend keyspace);
        shards = λ keyspace known. counts keyspace ∙ are.shards keyspace (ap (λ u. is_some (keyspace_at u.keyspaces keyspace)) (sym next.topology) ∙ known)
            ∙ sym (ap (λ u. shard_count (cuts_at u.keyspaces keyspace)) next.topology);
        tables = λ keyspace n within table.
            (listed keyspace n (was_within keyspace n within)).tables table ∙ are.tables keyspace n (was_within keyspace n within) table ∙ sym (next.tables keyspace table);
        denials = λ keyspace n within table.
            (listed keyspace n (was_within keyspace n within)).denied table ∙ ap (cond (moves w table) (lists keyspace n)) (are.denials keyspace n (was_within keyspace n within) table)
            ∙ sym (next.refused keyspace n table);
      },
      record {
        log = λ keyspace n. subst (KeepsEndOf (log_of q keyspace n) keyspace n) (sym (same_log keyspace n)) (stand.log keyspace n);
        rows = λ keyspace table has key. same_row keyspace (shard_at q keyspace key) table key ∙ stand.rows keyspace table has key;
        apart = λ keyspace table has key n other. same_row keyspace n table key ∙ stand.apart keyspace table has key n other;
        pending = λ name v is n lane laned.
            subst (λ (l : LogState). IsPending q v lane l.entries) (sym (same_log (owner v) (owner_shard v lane))) (stand.pending name v is n lane laned);
        unread = λ keyspace n. subst (λ (l : LogState). StandAbove q keyspace n l.purged) (sym (same_log keyspace n)) (stand.unread keyspace n);
      },
    )

  -- where no list changes the primaries stay as they are
  pub same_stand : ((keyspace : List ℕ) (n : ℕ) → lists keyspace n ≡ refuses_by w keyspace n) → ArePrimaries q old × RowsStand q (primary_of old)
  same_stand same = listed_stand old (λ keyspace. refl) refl (λ keyspace. refl) (λ keyspace. refl) (λ keyspace n within. same_list keyspace n within (same keyspace n))

  -- ---- those of the workflow's sides

  module _ (source target : List ℕ) (is_source : w.source ≡ source) (is_target : w.target ≡ target) (apart : source ≢ target)
      (one : count_of old source ≡ 1) (target_there : has_primaries old target ≡ true)
      (outside : (keyspace : List ℕ) (n : ℕ) → is_side w keyspace ≡ false → lists keyspace n ≡ refuses_by w keyspace n)
      (at_source : PrimaryState) (targets : List PrimaryState) (long : length targets ≡ count_of old target) where
    no_side : (keyspace : List ℕ) → source ≢ keyspace → target ≢ keyspace → is_side w keyspace ≡ false
    no_side keyspace s t = or_from (same_text w.source keyspace) (same_text w.target keyspace) (differs w.source keyspace (λ e. s (sym is_source ∙ e))) (differs w.target keyspace (λ e. t (sym is_target ∙ e)))

    pub sides_stand : IsListed w (lists source 0) (primary_of old source 0) at_source
        → ((n : ℕ) → n < count_of old target → IsListed w (lists target n) (primary_of old target n) (target_at targets n))
        → ArePrimaries q (both_set old source target at_source targets) × RowsStand q (primary_of (both_set old source target at_source targets))
    sides_stand s t =
        listed_stand (both_set old source target at_source targets) (both_there old source target at_source targets) (both_length old source target at_source targets)
        (both_cuts old source target at_source targets) (both_counts old source target at_source targets long)
        (of_each old source target at_source targets apart one target_there (λ keyspace n state. IsListed w (lists keyspace n) (primary_of old keyspace n) state) s t
        (λ keyspace n not_s not_t within. same_list keyspace n within (outside keyspace n (no_side keyspace not_s not_t))))
