-- Rows and logs behind Complete: the target's tables go on with the numbers of the source's, and so with their rows.
use Rattle.std.proofs.Common.{◌≡◌, ◌≢◌, inl, inr, ℕ, Bool, true, false, not, cond, eqb, List, [], ◌∷◌, ◌++◌, drop, filter, take, map, Option, None, Some, refl, sym, ap, ◌∙◌, subst, ⊎_elim}
use Rattle.std.proofs.lemmas.Bool.{true≢false, and_from, and_parts}
use Rattle.std.specs.List.{list_any}
use Rattle.std.specs.Option.{option_map_or}
use Rattle.std.specs.Prelude.{◌&&◌, ◌||◌}
use Rattle.mt_names.specs.Names.{same_text}
use Rattle.mt_names.specs.Shards.{shard_of}
use Rattle.mt_names.proofs.SameLemmas.{same_text_decides}
use Rattle.mt_model.specs.declared.rows.RowChange.{RowChange}
use Rattle.mt_model.specs.Topology.{HasDistinctPlaces, is_present}
use Rattle.mt_store.specs.Log.{LogState}
use Rattle.mt_primary.specs.Primary.{PrimaryState, row_at}
use Rattle.mt_plain.specs.Next.{with_completed}
use Rattle.mt_plain.specs.Plain.{Lane, Live, Plain, Write, in_lane, is_side, lane_at, lane_of, live_at, mover, moves, number_of, owner, shard_at}
use Rattle.mt_plain.specs.Refuse.{complete_refusal}
use Rattle.mt_plain.specs.Serve.{has_table}
use Rattle.mt_plain.specs.Writes.{client_number, client_row, in_range, is_write_to, lane_row, lane_writes, other_row, row_after_writes, row_by_mover, row_of, writes_to}
use Rattle.mt_laws.proofs.AllWritesLemmas.{any_same, filter_same}
use Rattle.mt_laws.proofs.EntryValueLemmas.{in_moved}
use Rattle.mt_laws.proofs.InPlaceLemmas.{live_in}
use Rattle.mt_laws.proofs.LiveLemmas.{Apart, IsIn, any-in, in-filter, text_apart, text_differs}
use Rattle.mt_plain.specs.Slots.{log_of}
use Rattle.mt_stands.specs.Rows.{IsPending, KeepsEndOf, OtherKeyspacesStay, OtherTablesStay, Primaries, RowsStand, is_moved, owner_shard, rows_before, write_of}
use Rattle.mt_stands.proofs.UnreadLemmas.{StreamsGoOn, unread_next}
use Rattle.mt_stands.proofs.KnownLemmas.{Known, itself, row_at_owner, row_elsewhere, row_free, same_or}
use Rattle.mt_refinement.proofs.GoneLemmas.{live_gone}
use Rattle.mt_refinement.proofs.CompleteNextLemmas.{client_stays, none_moves, number_away, number_stays, owner_at_target, same_cuts, same_mover, table_away, table_left, table_moved, table_unmoved}

-- ---- lists

in_right : {X : Type 0} (before left : List X) (x : X) → IsIn x left → IsIn x (before ++ left)
in_right [] left x is = is
in_right (b ∷ before) left x is = inr (in_right before left x is)

map_agree : {X Y : Type 0} (f g : X → Y) (xs : List X) → ((x : X) → IsIn x xs → f x ≡ g x) → map f xs ≡ map g xs
map_agree f g [] each = refl
map_agree f g (x ∷ xs) each = ap (λ y. y ∷ map f xs) (each x (inl refl)) ∙ ap (λ ys. g x ∷ ys) (map_agree f g xs (λ y is. each y (inr is)))

-- ---- the state

module _ (p : Plain) (known : Known p) (apart : Apart p.lives) (w : Live) (live : live_at p w.name ≡ Some w) (none : complete_refusal w ≡ None) (distinct : HasDistinctPlaces p.topology) where
  abbrev q : Plain
  q = with_completed p (Some w)

  is_in : IsIn w p.lives
  is_in = live_in p w.name w live

  module _ (known_q : Known q) (elsewhere : (n : List ℕ) → w.name ≢ n → live_at q n ≡ live_at p n)
      (goes_on : (table : List ℕ) → moves w table ≡ true → (key : ℕ) → client_row q w.target table key ≡ client_row p w.target table key) where
    -- one that is live still is another, and moves none of its tables
    live_before : (n : List ℕ) (v : Live) → live_at q n ≡ Some v → live_at p n ≡ Some v
    live_before n v found = ⊎_elim
        (λ (e : w.name ≡ n). absurd (let h : None ≡ Some v = sym (live_gone w.name p.lives) ∙ ap (λ x. live_at q x) e ∙ found in cc))
        (λ (e : w.name ≢ n). sym (elsewhere n e) ∙ found)
        (same_or w.name n)

    not_moved : (n : List ℕ) (v : Live) → live_at q n ≡ Some v → (table : List ℕ) → moves v table ≡ true → moves w table ≡ false
    not_moved n v found table moved = by (moves w table) refl
      where
        by : (b : Bool) → moves w table ≡ b → moves w table ≡ false
        by true e = let h : None ≡ Some v = sym (none_moves p apart w is_in table e) ∙ known_q.found n v found table moved in absurd cc
        by false e = e

    -- ---- the writes to its tables, and the rows of the other side

    module _ (n : List ℕ) (v : Live) (found : live_at q n ≡ Some v) where
      same_number : (table : List ℕ) → moves v table ≡ true → number_of q v.source table ≡ number_of p v.source table
      same_number table moved = number_stays p apart w is_in v.source table (not_moved n v found table moved)

      same_test : (x : Write) → is_write_to q v x ≡ is_write_to p v x
      same_test x = any_same (λ table. eqb (number_of q v.source table) x.table) (λ table. eqb (number_of p v.source table) x.table) v.tables
          (λ table is. ap (λ m. eqb m x.table) (same_number table (in_moved v table is)))

      same_writes : writes_to q v ≡ writes_to p v
      same_writes = filter_same (is_write_to q v) (is_write_to p v) p.writes same_test

      same_lane : (lane : Lane) → lane_writes q v lane ≡ lane_writes p v lane
      same_lane lane = ap (filter (λ (x : Write). in_lane v lane x.key)) same_writes

      same_other : (table : List ℕ) → moves v table ≡ true → (key : ℕ) → other_row q v table key ≡ other_row p v table key
      same_other table moved key = by (lane_of v key)
        where
          by : (o : Option Lane) → option_map_or (λ lane. lane_row q v lane table key) o None ≡ option_map_or (λ lane. lane_row p v lane table key) o None
          by None = refl
          by (Some lane) =
              ap (λ ws. cond (in_range v.tables lane.copied table key) (row_after_writes (take lane.fed ws) (number_of q v.source table) key) None) (same_lane lane)
              ∙ ap (λ m. cond (in_range v.tables lane.copied table key) (row_after_writes (take lane.fed (lane_writes p v lane)) m key) None) (same_number table moved)

    -- ---- the row of a table that it did not move

    row_unmoved : (keyspace table : List ℕ) → moves w table ≡ false → (key : ℕ) → row_of q keyspace table key ≡ row_of p keyspace table key
    row_unmoved keyspace table other key = by (mover q table) refl
      where
        client : client_row q keyspace table key ≡ client_row p keyspace table key
        client = ap (λ m. row_after_writes p.writes m key) (client_stays p apart w is_in keyspace table other)

        was : mover p table ≡ mover q table
        was = sym (same_mover p apart w is_in table other)

        by : (o : Option Live) → mover q table ≡ o → row_of q keyspace table key ≡ row_of p keyspace table key
        by None e = row_free q keyspace table e key ∙ client ∙ sym (row_free p keyspace table (was ∙ e) key)
        by (Some v) e =
            let now = known_q.moving table v e in
            ap (λ o. row_by_mover q o keyspace table key) e
            ∙ ap (λ r. cond (is_side v keyspace && not (same_text (owner v) keyspace)) r (client_row q keyspace table key)) (same_other v.name v now.1 table now.0 key)
            ∙ ap (λ r. cond (is_side v keyspace && not (same_text (owner v) keyspace)) (other_row p v table key) r) client
            ∙ sym (ap (λ o. row_by_mover p o keyspace table key) (was ∙ e))

    -- ---- the primaries

    module _ (old new : Primaries) (stands : RowsStand p old) (others : OtherKeyspacesStay w.source old new)
        (stay : (n : ℕ) → OtherTablesStay w.tables (old w.source n) (new w.source n)) where
      log_same : (k : List ℕ) (n : ℕ) → (new k n).log ≡ (old k n).log
      log_same k n = ⊎_elim
          (λ (e : w.source ≡ k). subst (λ x. (new x n).log ≡ (old x n).log) e (stay n).log)
          (λ (e : w.source ≢ k). ap (λ (s : PrimaryState). s.log) (others k e n)) (same_or w.source k)

      row_same : (k : List ℕ) (n : ℕ) (t : List ℕ) → moves w t ≡ false → (key : ℕ) → row_at (new k n) t key ≡ row_at (old k n) t key
      row_same k n t other key = ⊎_elim
          (λ (e : w.source ≡ k). subst (λ x. row_at (new x n) t key ≡ row_at (old x n) t key) e ((stay n).rows t other key))
          (λ (e : w.source ≢ k). ap (λ s. row_at s t key) (others k e n)) (same_or w.source k)

      -- keys stand in the shards where they stood
      same_shard : (k : List ℕ) (key : ℕ) → shard_at q k key ≡ shard_at p k key
      same_shard k key = ap (λ cuts. shard_of cuts key) (same_cuts p apart w is_in k)

      module _ (t : List ℕ) (moved : moves w t ≡ true) (key : ℕ) where
        was_moved : mover p t ≡ Some w
        was_moved = known.found w.name w live t moved

        gone : mover q t ≡ None
        gone = none_moves p apart w is_in t moved

        -- the target owned the table, and has its rows still
        row_at_target : row_at (new w.target (shard_at p w.target key)) t key ≡ row_of q w.target t key
        row_at_target =
            ap (λ s. row_at s t key) (others w.target (known.placed w.name w live).sides.apart (shard_at p w.target key))
            ∙ stands.rows w.target t has key
            ∙ row_at_owner p w.target t w was_moved key (sym (owner_at_target w none))
            ∙ sym (goes_on t moved key)
            ∙ sym (row_free q w.target t gone key)
          where
            has : has_table p w.target t ≡ true
            has = ap (λ b. cond b true (is_present p.topology.keyspaces w.target t))
                (any-in (λ (v : Live). moves v t && same_text v.target w.target) p.lives w is_in (and_from (moves w t) (same_text w.target w.target) moved (itself w.target)))

        -- a table of that name elsewhere is another one
        row_away : (k : List ℕ) → w.source ≢ k → w.target ≢ k → is_present p.topology.keyspaces k t ≡ true → row_at (new k (shard_at p k key)) t key ≡ row_of q k t key
        row_away k from to there =
            ap (λ s. row_at s t key) (others k from (shard_at p k key))
            ∙ stands.rows k t (has (list_any (λ (v : Live). moves v t && same_text v.target k) p.lives)) key
            ∙ row_elsewhere p k t w was_moved key no_side
            ∙ ap (λ m. row_after_writes p.writes m key) number
            ∙ sym (row_free q k t gone key)
          where
            has : (b : Bool) → cond b true (is_present p.topology.keyspaces k t) ≡ true
            has true = refl
            has false = there

            no_side : is_side w k ≡ false
            no_side = ap (λ b. b || same_text w.target k) (text_differs w.source k from) ∙ text_differs w.target k to

            number : client_number p k t ≡ client_number q k t
            number =
                ap (λ o. number_of p (option_map_or (λ (v : Live). cond (is_side v k) v.source k) o k) t) was_moved
                ∙ ap (λ b. number_of p (cond b w.source k) t) no_side
                ∙ sym (number_away p apart w is_in k t from to)
                ∙ sym (ap (λ o. number_of q (option_map_or (λ (v : Live). cond (is_side v k) v.source k) o k) t) gone)

        row_moved : (k : List ℕ) → has_table q k t ≡ true → row_at (new k (shard_at p k key)) t key ≡ row_of q k t key
        row_moved k has = by (same_text w.target k) refl (same_text w.source k) refl
          where
            now : (a b : Bool) → same_text w.target k ≡ a → same_text w.source k ≡ b → cond (b || a) a (is_present p.topology.keyspaces k t) ≡ true
            now a b e f =
                ap (λ x. cond (x || a) a (is_present p.topology.keyspaces k t)) (sym f)
                ∙ ap (λ x. cond (same_text w.source k || x) x (is_present p.topology.keyspaces k t)) (sym e)
                ∙ sym (table_moved p apart w is_in (known.placed w.name w live) distinct k t moved) ∙ has

            by : (a : Bool) → same_text w.target k ≡ a → (b : Bool) → same_text w.source k ≡ b → row_at (new k (shard_at p k key)) t key ≡ row_of q k t key
            by true e b f = subst (λ x. row_at (new x (shard_at p x key)) t key ≡ row_of q x t key) ((same_text_decides w.target k).0 e) row_at_target
            by false e true f = absurd (true≢false (sym (now false true e f)))
            by false e false f = row_away k (text_apart w.source k f) (text_apart w.target k e) (now false false e f)

        -- where the table is now it was before, and not at the source
        was_there : (k : List ℕ) → has_table q k t ≡ true → (w.source ≢ k) × (has_table p k t ≡ true)
        was_there k has = (from, sym (table_away p apart w is_in (known.placed w.name w live) distinct k t moved from) ∙ has)
          where
            from : w.source ≢ k
            from e = true≢false (sym has ∙ ap (λ x. has_table q x t) (sym e) ∙ table_left p apart w is_in (known.placed w.name w live) distinct t moved)

        apart_moved : (k : List ℕ) → has_table q k t ≡ true → (n : ℕ) → shard_at p k key ≢ n → row_at (new k n) t key ≡ None
        apart_moved k has n other =
            let was = was_there k has in
            ap (λ s. row_at s t key) (others k was.0 n) ∙ stands.apart k t was.1 key n other

      apart_now : (k t : List ℕ) → has_table q k t ≡ true → (key n : ℕ) → shard_at p k key ≢ n → row_at (new k n) t key ≡ None
      apart_now k t has key n other = by (moves w t) refl
        where
          by : (b : Bool) → moves w t ≡ b → row_at (new k n) t key ≡ None
          by true moved = apart_moved t moved key k has n other
          by false not_its =
              row_same k n t not_its key
              ∙ stands.apart k t (sym (table_unmoved p apart w is_in (known.placed w.name w live) distinct k t not_its) ∙ has) key n other

      row_now : (k t : List ℕ) → has_table q k t ≡ true → (key : ℕ) → row_at (new k (shard_at p k key)) t key ≡ row_of q k t key
      row_now k t has key = by (moves w t) refl
        where
          by : (b : Bool) → moves w t ≡ b → row_at (new k (shard_at p k key)) t key ≡ row_of q k t key
          by true moved = row_moved t moved key k has
          by false other =
              row_same k (shard_at p k key) t other key
              ∙ stands.rows k t (sym (table_unmoved p apart w is_in (known.placed w.name w live) distinct k t other) ∙ has) key
              ∙ sym (row_unmoved k t other key)

      -- ---- what was not fed

      pending_now : (n : List ℕ) (v : Live) → live_at q n ≡ Some v → (m : ℕ) (lane : Lane) → lane_at v m ≡ Some lane → IsPending q v lane (new (owner v) (owner_shard v lane)).log.entries
      pending_now n v found m lane laned = subst (λ (l : LogState). IsPending q v lane l.entries) (sym (log_same (owner v) (owner_shard v lane))) (record {
        before = was.before;
        left = was.left;
        entries = was.entries;
        writes = map_agree (write_of q v) (write_of p v) was.left (λ x is. ap (written x) (same_number n v found x.table (about_moved x is))) ∙ was.writes
            ∙ ap (drop lane.fed) (sym (same_lane n v found lane));
        rows = was.rows ∙ ap (λ ws. drop lane.fed (rows_before [] ws)) (sym (same_lane n v found lane));
      })
        where
          was : IsPending p v lane (old (owner v) (owner_shard v lane)).log.entries
          was = stands.pending n v (live_before n v found) m lane laned

          written : RowChange → ℕ → Write
          written x m = record { table = m; key = x.key; after = x.after }

          about_moved : (x : RowChange) → IsIn x was.left → moves v x.table ≡ true
          about_moved x is =
              let both = in-filter (is_moved v lane) (old (owner v) (owner_shard v lane)).log.entries x (subst (IsIn x) (sym was.entries) (in_right was.before was.left x is)) in
              (and_parts (in_lane v lane x.key) (moves v x.table) both.1).1

      pub complete_stands : StreamsGoOn p q → RowsStand q new
      complete_stands goes = record {
        log = λ k n. subst (KeepsEndOf (log_of q k n) k n) (sym (log_same k n)) (stands.log k n);
        rows = λ k t has key. ap (λ n. row_at (new k n) t key) (same_shard k key) ∙ row_now k t has key;
        apart = λ k t has key n other. apart_now k t has key n (λ e. other (same_shard k key ∙ e));
        pending = pending_now;
        unread = unread_next p q old new stands (λ k n. ap (λ (l : LogState). l.purged) (log_same k n)) goes;
      }
