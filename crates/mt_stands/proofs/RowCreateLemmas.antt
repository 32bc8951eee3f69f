-- Create: a workflow to which all writes are fed, and empty tables at its target.
use Rattle.mt_plain.specs.Slots.{log_of}
use Rattle.std.proofs.Common.{◌≡◌, ◌≢◌, ℕ, ◌⊎◌, Bool, true, false, not, cond, List, [], ◌∷◌, ◌++◌, eqb, filter, find, length, map, take, Option, None, Some, refl, sym, ap, ◌∙◌, subst, arith, inl, inr, ⊎_elim, append-nil}
use Rattle.std.proofs.lemmas.Bool.{and_right, or_right}
use Rattle.std.proofs.lemmas.List.{drop_all}
use Rattle.std.proofs.lemmas.List.Folds.{find-append}
use Rattle.std.specs.List.{list_any, range_with_len}
use Rattle.std.specs.Option.{option_map_or, option_or}
use Rattle.std.specs.Prelude.{◌&&◌, ◌||◌, is_some}
use Rattle.mt_store.specs.Log.{LogState}
use Rattle.mt_names.specs.Names.{same_text}
use Rattle.mt_model.specs.Topology.{is_present}
use Rattle.mt_primary.specs.Primary.{PrimaryState, row_at}
use Rattle.mt_plain.specs.Events.{Refusal, workflow_exists}
use Rattle.mt_names.specs.Shards.{shard_count, shard_of}
use Rattle.mt_plain.specs.Next.{all_fed, created, lane_fed, new_lane}
use Rattle.mt_plain.specs.Plain.{Lane, Live, Plain, not_begun, cuts_of, is_side, lane_at, lane_of, live_at, shard_at, mover, moves, number_of, owner}
use Rattle.mt_plain.specs.Refuse.{or_else, refuse_if}
use Rattle.mt_plain.specs.Serve.{has_table}
use Rattle.mt_plain.specs.Slots.{log_length}
use Rattle.mt_plain.specs.Writes.{client_row, in_range, lane_row, lane_writes, other_row, row_after_writes, row_by_mover, row_of}
use Rattle.mt_stands.specs.Rows.{KeepsEndOf, IsPending, OtherKeyspacesStay, OtherTablesStay, Primaries, RowsStand, is_moved, owner_shard, rows_before}
use Rattle.mt_stands.proofs.BeforeLemmas.{rows_before-length}
use Rattle.mt_stands.proofs.UnreadLemmas.{StreamsGoOn, unread_next}
use Rattle.mt_stands.proofs.KnownLemmas.{Known, differs, itself, row_at_other, row_at_owner, row_elsewhere, row_free, same_or, some_is}

pub free_name : (p : Plain) (name : List ℕ) (more : Option Refusal) → or_else (refuse_if (is_some (live_at p name)) workflow_exists) more ≡ None → live_at p name ≡ None
free_name p name more e = by (live_at p name) e
  where
    by : (o : Option Live) → or_else (refuse_if (is_some o) workflow_exists) more ≡ None → o ≡ None
    by None e = refl
    by (Some w) e = absurd cc

any_behind : (test : Live → Bool) (ws : List Live) (w : Live) → test w ≡ false → list_any test (ws ++ w ∷ []) ≡ list_any test ws
any_behind test [] w e = ap (λ b. b || false) e
any_behind test (v ∷ ws) w e = ap (λ b. test v || b) (any_behind test ws w e)

module _ (p : Plain) (known : Known p) (old new : Primaries) (stands : RowsStand p old) (name source target : List ℕ) (tables : List (List ℕ)) (free : live_at p name ≡ None)
    (others : OtherKeyspacesStay target old new) (stay : (n : ℕ) → OtherTablesStay tables (old target n) (new target n))
    (empty : (t : List ℕ) → list_any (λ n. same_text n t) tables ≡ true → (n key : ℕ) → row_at (new target n) t key ≡ None) where
  abbrev first : Live
  first = created name source target tables (cuts_of p target) (log_length p source 0)

  abbrev w : Live
  w = all_fed p first

  abbrev q : Plain
  q = record p { lives = p.lives ++ w ∷ [] }

  module _ (known_q : Known q) (elsewhere : (n : List ℕ) → name ≢ n → live_at q n ≡ live_at p n) where
    live_w : live_at q name ≡ Some w
    live_w =
        find-append (λ (v : Live). same_text v.name name) p.lives (w ∷ []) ∙ ap (λ o. option_or o (find (λ (v : Live). same_text v.name name) (w ∷ []))) free
        ∙ ap (λ b. cond b (Some w) None) (itself name)

    log_same : (k : List ℕ) (n : ℕ) → (new k n).log ≡ (old k n).log
    log_same k n = ⊎_elim (λ (e : target ≡ k). subst (λ x. (new x n).log ≡ (old x n).log) e (stay n).log) (λ (e : target ≢ k). ap (λ (s : PrimaryState). s.log) (others k e n)) (same_or target k)

    row_same : (k : List ℕ) (n : ℕ) (t : List ℕ) → moves w t ≡ false → (key : ℕ) → row_at (new k n) t key ≡ row_at (old k n) t key
    row_same k n t other key = ⊎_elim
        (λ (e : target ≡ k). subst (λ x. row_at (new x n) t key ≡ row_at (old x n) t key) e ((stay n).rows t other key))
        (λ (e : target ≢ k). ap (λ s. row_at s t key) (others k e n)) (same_or target k)

    -- nothing is copied yet
    lanes_new : (l : Lane) (n : ℕ) → lane_at w n ≡ Some l → (l.fed ≡ length (lane_writes p w l)) × (l.copied ≡ not_begun)
    lanes_new l n e = by (range_with_len 0 (shard_count first.cuts)) e
      where
        by : (ns : List ℕ) → find (λ (x : Lane). eqb x.shard n) (map (lane_fed p first) (map (new_lane (log_length p source 0)) ns)) ≡ Some l → (l.fed ≡ length (lane_writes p w l)) × (l.copied ≡ not_begun)
        by [] e = absurd cc
        by (m ∷ ns) e = at (eqb m n) e (by ns)
          where
            at : (b : Bool) → cond b (Some (lane_fed p first (new_lane (log_length p source 0) m))) (find (λ (x : Lane). eqb x.shard n) (map (lane_fed p first) (map (new_lane (log_length p source 0)) ns))) ≡ Some l
                → (find (λ (x : Lane). eqb x.shard n) (map (lane_fed p first) (map (new_lane (log_length p source 0)) ns)) ≡ Some l → (l.fed ≡ length (lane_writes p w l)) × (l.copied ≡ not_begun))
                → (l.fed ≡ length (lane_writes p w l)) × (l.copied ≡ not_begun)
            at true e again = subst (λ (x : Lane). (x.fed ≡ length (lane_writes p w x)) × (x.copied ≡ not_begun)) (some_is (lane_fed p first (new_lane (log_length p source 0) m)) l e) (refl, refl)
            at false e again = again e

    nothing : (t : List ℕ) (key : ℕ) (o : Option Lane) → lane_of w key ≡ o → other_row q w t key ≡ None
    nothing t key o e = ap (λ o. option_map_or (λ l. lane_row q w l t key) o None) e ∙ by o e
      where
        by : (o : Option Lane) → lane_of w key ≡ o → option_map_or (λ l. lane_row q w l t key) o None ≡ None
        by None e = refl
        by (Some l) e = ap (λ c. cond (in_range w.tables c t key) (row_after_writes (take l.fed (lane_writes q w l)) (number_of q w.source t) key) None) (lanes_new l (shard_of w.cuts key) e).1

    mover_now : (t : List ℕ) → mover q t ≡ option_or (mover p t) (cond (moves w t) (Some w) None)
    mover_now t = find-append (λ (v : Live). moves v t) p.lives (w ∷ [])

    apart : target ≢ source
    apart e = (known_q.placed name w live_w).sides.apart (sym e)

    module _ (k t : List ℕ) (key : ℕ) where
      abbrev numbered : Option Live → ℕ
      numbered o = number_of p (option_map_or (λ (u : Live). cond (is_side u k) u.source k) o k) t

      same_mover : mover q t ≡ mover p t → row_of q k t key ≡ row_of p k t key
      same_mover e = by (mover q t) ∙ ap (λ o. row_by_mover p o k t key) e
        where
          same_client : client_row q k t key ≡ client_row p k t key
          same_client = ap (λ n. row_after_writes p.writes n key) (ap numbered e)

          by : (o : Option Live) → row_by_mover q o k t key ≡ row_by_mover p o k t key
          by None = same_client
          by (Some v) = ap (cond (is_side v k && not (same_text (owner v) k)) (other_row p v t key)) same_client

      has_before : (moves w t && same_text target k) ≡ false → has_table q k t ≡ true → has_table p k t ≡ true
      has_before e here = ap (λ b. cond b true (is_present p.topology.keyspaces k t)) (sym (any_behind (λ (v : Live). moves v t && same_text v.target k) p.lives w e)) ∙ here

      not_moved : moves w t ≡ false → mover q t ≡ mover p t → has_table q k t ≡ true → row_at (new k (shard_at p k key)) t key ≡ row_of q k t key
      not_moved m e here = row_same k (shard_at p k key) t m key ∙ stands.rows k t (has_before (ap (λ b. b && same_text target k) m) here) key ∙ sym (same_mover e)

      moved_now : moves w t ≡ true → mover p t ≡ None → mover q t ≡ Some w → has_table q k t ≡ true → row_at (new k (shard_at p k key)) t key ≡ row_of q k t key
      moved_now m none found here = ⊎_elim at_target elsewhere_ (same_or target k)
        where
          at_target : target ≡ k → row_at (new k (shard_at p k key)) t key ≡ row_of q k t key
          at_target e = subst (λ x. row_at (new x (shard_at p x key)) t key ≡ row_of q x t key) e
              (empty t m (shard_at p target key) key ∙ sym (row_at_other q target t w found key (or_right (same_text source target) (same_text target target) (itself target)) apart ∙ nothing t key (lane_of w key) refl))

          elsewhere_ : target ≢ k → row_at (new k (shard_at p k key)) t key ≡ row_of q k t key
          elsewhere_ e =
              ap (λ s. row_at s t key) (others k e (shard_at p k key))
              ∙ stands.rows k t (has_before (ap (λ b. moves w t && b) not_target ∙ and_right (moves w t) false refl) here) key
              ∙ row_free p k t none key ∙ ap (λ n. row_after_writes p.writes n key) (ap numbered none) ∙ sym (by (same_or source k))
            where
              not_target : same_text target k ≡ false
              not_target = differs target k e

              by : (source ≡ k) ⊎ (source ≢ k) → row_of q k t key ≡ row_after_writes p.writes (number_of p k t) key
              by (inl at) =
                  row_at_owner q k t w found key (sym at)
                  ∙ ap (λ n. row_after_writes p.writes n key) (ap numbered found ∙ ap (λ b. number_of p (cond b source k) t) (ap (λ x. same_text x k || same_text target k) at ∙ ap (λ b. b || same_text target k) (itself k)) ∙ ap (λ x. number_of p x t) at)
              by (inr other) =
                  let side : is_side w k ≡ false = ap (λ b. b || same_text target k) (differs source k other) ∙ not_target in
                  row_elsewhere q k t w found key side ∙ ap (λ n. row_after_writes p.writes n key) (ap numbered found ∙ ap (λ b. number_of p (cond b source k) t) side)

      row_now : has_table q k t ≡ true → row_at (new k (shard_at p k key)) t key ≡ row_of q k t key
      row_now = by (mover p t) refl (moves w t) refl
        where
          by : (o : Option Live) → mover p t ≡ o → (m : Bool) → moves w t ≡ m → has_table q k t ≡ true → row_at (new k (shard_at p k key)) t key ≡ row_of q k t key
          by None e false m = not_moved m (mover_now t ∙ ap (λ b. option_or (mover p t) (cond b (Some w) None)) m ∙ ap (λ o. option_or o None) e ∙ sym e)
          by None e true m = moved_now m e (mover_now t ∙ ap (λ b. option_or (mover p t) (cond b (Some w) None)) m ∙ ap (λ o. option_or o (Some w)) e)
          by (Some v) e false m = not_moved m (mover_now t ∙ ap (λ b. option_or (mover p t) (cond b (Some w) None)) m ∙ ap (λ o. option_or o None) e ∙ sym e)
          by (Some v) e true m =
              let one : v ≡ w = some_is v w (sym (mover_now t ∙ ap (λ o. option_or o (cond (moves w t) (Some w) None)) e) ∙ known_q.found name w live_w t m) in
              absurd (let h : Some v ≡ None = sym (known.moving t v e).1 ∙ ap (λ (u : Live). live_at p u.name) one ∙ free in cc)

    -- no row of the new tables stands at the target, and no other row at another shard than that of its key
    apart_now : (k t : List ℕ) → has_table q k t ≡ true → (key n : ℕ) → shard_at p k key ≢ n → row_at (new k n) t key ≡ None
    apart_now k t here key n other = by (moves w t) refl (same_or target k)
      where
        by : (m : Bool) → moves w t ≡ m → (target ≡ k) ⊎ (target ≢ k) → row_at (new k n) t key ≡ None
        by true m (inl at) = subst (λ x. row_at (new x n) t key ≡ None) at (empty t m n key)
        by true m (inr e) =
            ap (λ s. row_at s t key) (others k e n)
            ∙ stands.apart k t (has_before k t key (ap (λ b. moves w t && b) (differs target k e) ∙ and_right (moves w t) false refl) here) key n other
        by false m e = row_same k n t m key ∙ stands.apart k t (has_before k t key (ap (λ b. b && same_text target k) m) here) key n other

    pending_now : (n : List ℕ) (v : Live) → live_at q n ≡ Some v → (m : ℕ) (l : Lane) → lane_at v m ≡ Some l → IsPending q v l (new (owner v) (owner_shard v l)).log.entries
    pending_now n v found m l laned = ⊎_elim here other (same_or name n)
      where
        here : name ≡ n → IsPending q v l (new (owner v) (owner_shard v l)).log.entries
        here e =
            let one : w ≡ v = some_is w v (sym live_w ∙ ap (λ x. live_at q x) e ∙ found) in
            subst (λ x. IsPending q x l (new (owner x) (owner_shard x l)).log.entries) one
            (record {
              before = filter (is_moved w l) (new source 0).log.entries;
              left = [];
              entries = sym (append-nil (filter (is_moved w l) (new source 0).log.entries));
              writes = sym (drop_all l.fed (lane_writes p w l) (let h = (lanes_new l m (ap (λ x. lane_at x m) one ∙ laned)).0 in omega (arith, h)));
              rows = sym (drop_all l.fed (rows_before [] (lane_writes p w l)) (let h = (lanes_new l m (ap (λ x. lane_at x m) one ∙ laned)).0 in let r = rows_before-length [] (lane_writes p w l) in omega (arith, h, r)));
            })

        other : name ≢ n → IsPending q v l (new (owner v) (owner_shard v l)).log.entries
        other e = subst (λ log. IsPending q v l log) (sym (ap (λ (log : LogState). log.entries) (log_same (owner v) (owner_shard v l))))
            (let was = stands.pending n v (sym (elsewhere n e) ∙ found) m l laned in record { before = was.before; left = was.left; entries = was.entries; writes = was.writes; rows = was.rows })

    pub create_stands : StreamsGoOn p q → RowsStand q new
    create_stands goes = record {
      log = λ k n. subst (KeepsEndOf (log_of p k n) k n) (sym (log_same k n)) (stands.log k n);
      rows = λ k t here key. row_now k t key here;
      apart = apart_now;
      pending = pending_now;
      unread = unread_next p q old new stands (λ k n. ap (λ (l : LogState). l.purged) (log_same k n)) goes;
    }
