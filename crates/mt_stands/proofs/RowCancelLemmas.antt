-- Cancel: a workflow is gone, and its tables at the target with it.
use Rattle.mt_plain.specs.Slots.{log_of}
use Rattle.std.proofs.Common.{◌≡◌, ◌≢◌, ℕ, Bool, true, false, not, cond, List, [], ◌∷◌, find, Option, None, Some, refl, sym, ap, ◌∙◌, subst, ⊎_elim}
use Rattle.std.proofs.lemmas.Bool.{true≢false}
use Rattle.std.specs.List.{list_any}
use Rattle.std.specs.Option.{option_map_or}
use Rattle.std.specs.Prelude.{◌&&◌, ◌||◌, is_some}
use Rattle.mt_store.specs.Log.{LogState}
use Rattle.mt_names.specs.Names.{same_text}
use Rattle.mt_names.proofs.SameLemmas.{same_text_decides}
use Rattle.mt_model.specs.Topology.{is_present}
use Rattle.mt_primary.specs.Primary.{PrimaryState, row_at}
use Rattle.mt_plain.specs.Events.{traffic_switched, under_way}
use Rattle.mt_plain.specs.Next.{without_live}
use Rattle.mt_plain.specs.Plain.{Live, Plain, is_side, live_at, shard_at, mover, moves, number_of, owner}
use Rattle.mt_plain.specs.Refuse.{cancel_refusal, or_else, refuse_if}
use Rattle.mt_plain.specs.Serve.{has_table}
use Rattle.mt_plain.specs.Writes.{client_number, client_row, other_row, row_after_writes, row_by_mover, row_of}
use Rattle.mt_stands.specs.Rows.{KeepsEndOf, IsPending, OtherKeyspacesStay, OtherTablesStay, Primaries, RowsStand, owner_shard}
use Rattle.mt_stands.proofs.UnreadLemmas.{StreamsGoOn, unread_next}
use Rattle.mt_stands.proofs.KnownLemmas.{Known, row_at_owner, row_elsewhere, row_free, same_or, some_is}

find_without : (name : List ℕ) (ws : List Live) → find (λ w. same_text w.name name) (without_live name ws) ≡ None
find_without name [] = refl
find_without name (w ∷ ws) = by (same_text w.name name) refl (find_without name ws)
  where
    by : (b : Bool) → same_text w.name name ≡ b → find (λ (v : Live). same_text v.name name) (without_live name ws) ≡ None → find (λ (v : Live). same_text v.name name) (cond (not b) (w ∷ without_live name ws) (without_live name ws)) ≡ None
    by true e again = again
    by false e again = ap (λ b. cond b (Some w) (find (λ (v : Live). same_text v.name name) (without_live name ws))) e ∙ again

none_any : {X : Type 0} (test other : X → Bool) (xs : List X) → find test xs ≡ None → list_any (λ y. test y && other y) xs ≡ false
none_any test other [] e = refl
none_any {X} test other (y ∷ ys) e = by (λ f. none_any test other ys f) (test y) e
  where
    by : (find test ys ≡ None → list_any (λ z. test z && other z) ys ≡ false) → (b : Bool) → cond b (Some y) (find test ys) ≡ None → ((b && other y) || list_any (λ z. test z && other z) ys) ≡ false
    by again true f = absurd cc
    by again false f = again f

any_without : (name : List ℕ) (test : Live → Bool) (ws : List Live) → list_any test ws ≡ false → list_any test (without_live name ws) ≡ false
any_without name test [] e = refl
any_without name test (w ∷ ws) e = by (any_without name test ws) (test w) refl e (not (same_text w.name name))
  where
    by : (list_any test ws ≡ false → list_any test (without_live name ws) ≡ false) → (b : Bool) → test w ≡ b → (b || list_any test ws) ≡ false → (n : Bool) → list_any test (cond n (w ∷ without_live name ws) (without_live name ws)) ≡ false
    by again true f e n = absurd (true≢false e)
    by again false f e true = ap (λ b. b || list_any test (without_live name ws)) f ∙ again e
    by again false f e false = again e

-- nothing is switched where Cancel isn't refused
pub owner_at_rest : (w : Live) → cancel_refusal w ≡ None → owner w ≡ w.source
owner_at_rest w none = by (is_some w.way) w.switched.primary refl none
  where
    by : (s b : Bool) → w.switched.primary ≡ b → or_else (refuse_if s under_way) (refuse_if (b || w.switched.replica || w.switched.rdonly) traffic_switched) ≡ None → owner w ≡ w.source
    by true b e none = absurd cc
    by false true e none = absurd cc
    by false false e none = ap (λ b. cond b w.target w.source) e

module _ (p : Plain) (known : Known p) (old new : Primaries) (stands : RowsStand p old) (name : List ℕ) (w : Live) (live : live_at p name ≡ Some w) (none : cancel_refusal w ≡ None)
    (named : (n : List ℕ) (v : Live) → live_at p n ≡ Some v → v.name ≡ n) (others : OtherKeyspacesStay w.target old new) (stay : (n : ℕ) → OtherTablesStay w.tables (old w.target n) (new w.target n)) where
  abbrev q : Plain
  q = record p { lives = without_live name p.lives }

  module _ (known_q : Known q) (elsewhere : (n : List ℕ) → name ≢ n → live_at q n ≡ live_at p n) where
    log_same : (k : List ℕ) (n : ℕ) → (new k n).log ≡ (old k n).log
    log_same k n = ⊎_elim (λ (e : w.target ≡ k). subst (λ x. (new x n).log ≡ (old x n).log) e (stay n).log) (λ (e : w.target ≢ k). ap (λ (s : PrimaryState). s.log) (others k e n)) (same_or w.target k)

    row_same : (k : List ℕ) (n : ℕ) (t : List ℕ) → moves w t ≡ false → (key : ℕ) → row_at (new k n) t key ≡ row_at (old k n) t key
    row_same k n t other key = ⊎_elim
        (λ (e : w.target ≡ k). subst (λ x. row_at (new x n) t key ≡ row_at (old x n) t key) e ((stay n).rows t other key))
        (λ (e : w.target ≢ k). ap (λ s. row_at s t key) (others k e n)) (same_or w.target k)

    -- those that are live still are others
    live_before : (n : List ℕ) (v : Live) → live_at q n ≡ Some v → (name ≢ n) × (live_at p n ≡ Some v)
    live_before n v found = ⊎_elim
        (λ (e : name ≡ n). absurd (let h : None ≡ Some v = sym (find_without name p.lives) ∙ ap (λ x. live_at q x) e ∙ found in cc))
        (λ (e : name ≢ n). (e, sym (elsewhere n e) ∙ found))
        (same_or name n)

    not_w : (v : Live) → live_at q v.name ≡ Some v → v ≢ w
    not_w v found e = (live_before v.name v found).0 (sym (named name w live) ∙ ap (λ (u : Live). u.name) (sym e))

    module _ (k t : List ℕ) (here : has_table q k t ≡ true) (key : ℕ) where
      client_same : client_number q k t ≡ client_number p k t → client_row q k t key ≡ client_row p k t key
      client_same e = ap (λ n. row_after_writes p.writes n key) e

      abbrev numbered : Option Live → ℕ
      numbered o = number_of p (option_map_or (λ (u : Live). cond (is_side u k) u.source k) o k) t

      same_mover : mover q t ≡ mover p t → row_of q k t key ≡ row_of p k t key
      same_mover e =
          by (mover q t) ∙ ap (λ o. row_by_mover p o k t key) e
        where
          by : (o : Option Live) → row_by_mover q o k t key ≡ row_by_mover p o k t key
          by None = client_same (ap numbered e)
          by (Some v) = ap (cond (is_side v k && not (same_text (owner v) k)) (other_row p v t key)) (client_same (ap numbered e))

      -- it was there before, and not at the target
      was_there : mover q t ≡ None → mover p t ≡ Some w → (k ≢ w.target) × (has_table p k t ≡ true)
      was_there gone found = (not_target, has_before)
        where
          there : is_present p.topology.keyspaces k t ≡ true
          there = sym (ap (λ b. cond b true (is_present p.topology.keyspaces k t)) (none_any (λ (v : Live). moves v t) (λ (v : Live). same_text v.target k) (without_live name p.lives) gone)) ∙ here

          not_target : k ≢ w.target
          not_target e = true≢false (sym (ap (λ x. is_present p.topology.keyspaces x t) (sym e) ∙ there) ∙ (known.placed name w live).at_target t (known.moving t w found).0)

          has_before : has_table p k t ≡ true
          has_before = either (list_any (λ (v : Live). moves v t && same_text v.target k) p.lives)
            where
              either : (b : Bool) → cond b true (is_present p.topology.keyspaces k t) ≡ true
              either true = refl
              either false = there

      -- a table that was moved is the source's again
      given_back : mover q t ≡ None → mover p t ≡ Some w → row_at (new k (shard_at p k key)) t key ≡ row_of q k t key
      given_back gone found = ap (λ s. row_at s t key) (others k (λ e. (was_there gone found).0 (sym e)) (shard_at p k key)) ∙ stands.rows k t (was_there gone found).1 key ∙ by (is_side w k) refl
        where
          not_target : k ≢ w.target
          not_target = (was_there gone found).0

          at_source : same_text w.source k ≡ true → row_of p k t key ≡ row_of q k t key
          at_source e =
              let at : w.source ≡ k = (same_text_decides w.source k).0 e in
              row_at_owner p k t w found key (sym at ∙ sym (owner_at_rest w none))
              ∙ ap (λ n. row_after_writes p.writes n key) (ap numbered found ∙ ap (λ b. number_of p (cond b w.source k) t) (ap (λ b. b || same_text w.target k) e) ∙ ap (λ x. number_of p x t) at ∙ sym (ap numbered gone))
              ∙ sym (row_free q k t gone key)

          by_sides : (a : Bool) → same_text w.source k ≡ a → (a || same_text w.target k) ≡ true → row_of p k t key ≡ row_of q k t key
          by_sides true e side = at_source e
          by_sides false e side = absurd (not_target (sym ((same_text_decides w.target k).0 side)))

          by : (b : Bool) → is_side w k ≡ b → row_of p k t key ≡ row_of q k t key
          by true side = by_sides (same_text w.source k) refl side
          by false other =
              row_elsewhere p k t w found key other
              ∙ ap (λ n. row_after_writes p.writes n key) (ap numbered found ∙ ap (λ b. number_of p (cond b w.source k) t) other ∙ sym (ap numbered gone))
              ∙ sym (row_free q k t gone key)

      still : has_table p k t ≡ true
      still = has_before (list_any (λ (v : Live). moves v t && same_text v.target k) p.lives) refl
        where
          has_before : (b : Bool) → list_any (λ (v : Live). moves v t && same_text v.target k) p.lives ≡ b → has_table p k t ≡ true
          has_before true e = ap (λ b. cond b true (is_present p.topology.keyspaces k t)) e
          has_before false e =
              ap (λ b. cond b true (is_present p.topology.keyspaces k t)) e
              ∙ sym (ap (λ b. cond b true (is_present p.topology.keyspaces k t)) (any_without name (λ (v : Live). moves v t && same_text v.target k) p.lives e)) ∙ here

      before : mover q t ≡ mover p t → moves w t ≡ false → row_at (new k (shard_at p k key)) t key ≡ row_of q k t key
      before e other = row_same k (shard_at p k key) t other key ∙ stands.rows k t still key ∙ sym (same_mover e)

      row_now : row_at (new k (shard_at p k key)) t key ≡ row_of q k t key
      row_now = by (mover q t) refl (mover p t) refl (moves w t) refl
        where
          by : (a : Option Live) → mover q t ≡ a → (b : Option Live) → mover p t ≡ b → (m : Bool) → moves w t ≡ m → row_at (new k (shard_at p k key)) t key ≡ row_of q k t key
          by (Some v) e b f false m =
              let l = live_before v.name v (known_q.moving t v e).1 in
              before (e ∙ sym (known.found v.name v l.1 t (known_q.moving t v e).0)) m
          by (Some v) e b f true m =
              let l = live_before v.name v (known_q.moving t v e).1 in
              absurd (not_w v (known_q.moving t v e).1 (some_is v w (sym (known.found v.name v l.1 t (known_q.moving t v e).0) ∙ known.found name w live t m)))
          by None e None f false m = before (e ∙ sym f) m
          by None e (Some u) f false m = absurd (stays_live u (known.moving t u f))
            where
              stays_live : (u : Live) → (moves u t ≡ true) × (live_at p u.name ≡ Some u) → ⊥
              stays_live u is = ⊎_elim
                  (λ (h : name ≡ u.name). true≢false (sym is.0 ∙ ap (λ v. moves v t) (some_is u w (sym is.1 ∙ ap (live_at p) (sym h) ∙ live)) ∙ m))
                  (λ (h : name ≢ u.name). let x : None ≡ Some u = sym e ∙ known_q.found u.name u (elsewhere u.name h ∙ is.1) t is.0 in absurd cc)
                  (same_or name u.name)
          by None e b f true m = given_back e (known.found name w live t m)

      apart_now : (n : ℕ) → shard_at p k key ≢ n → row_at (new k n) t key ≡ None
      apart_now n other = by (mover q t) refl (moves w t) refl
        where
          by : (a : Option Live) → mover q t ≡ a → (m : Bool) → moves w t ≡ m → row_at (new k n) t key ≡ None
          by a e false m = row_same k n t m key ∙ stands.apart k t still key n other
          by None e true m =
              let r = was_there e (known.found name w live t m) in
              ap (λ s. row_at s t key) (others k (λ h. r.0 (sym h)) n) ∙ stands.apart k t r.1 key n other
          by (Some v) e true m =
              let l = live_before v.name v (known_q.moving t v e).1 in
              absurd (not_w v (known_q.moving t v e).1 (some_is v w (sym (known.found v.name v l.1 t (known_q.moving t v e).0) ∙ known.found name w live t m)))

    pub cancel_stands : StreamsGoOn p q → RowsStand q new
    cancel_stands goes = record {
      log = λ k n. subst (KeepsEndOf (log_of p k n) k n) (sym (log_same k n)) (stands.log k n);
      rows = row_now;
      apart = apart_now;
      pending = λ n v found m l laned. subst (λ log. IsPending q v l log) (sym (ap (λ (log : LogState). log.entries) (log_same (owner v) (owner_shard v l))))
          (let was = stands.pending n v (live_before n v found).1 m l laned in record { before = was.before; left = was.left; entries = was.entries; writes = was.writes; rows = was.rows });
      unread = unread_next p q old new stands (λ k n. ap (λ (l : LogState). l.purged) (log_same k n)) goes;
    }
