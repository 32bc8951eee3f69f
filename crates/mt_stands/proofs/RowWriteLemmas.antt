-- A client's write: its answer, and what stands behind it.
use Rattle.std.proofs.Common.{◌≡◌, ◌≢◌, ℕ, suc, ◌+◌, ◌≤◌, ◌⊎◌, inl, inr, Bool, true, false, not, cond, eqb, List, [], ◌∷◌, ◌++◌, drop, take, filter, length, Option, None, Some, Result, Ok, Err, refl, sym, ap, ◌∙◌, subst, arith, ⊎_elim, append-nil, eqb-true}
use Rattle.std.proofs.lemmas.Bool.{and_right, eq-eqb, eqb-false, le-leb, lt-leb, leb-false, leb-true}
use Rattle.std.proofs.lemmas.List.{map-append, take-append-le, drop-append-le, append_assoc}
use Rattle.std.proofs.lemmas.List.Elements.{filter-append}
use Rattle.std.proofs.lemmas.List.Sums.{fold-append, length-filter}
use Rattle.std.specs.Option.{option_map_or}
use Rattle.std.specs.Prelude.{◌&&◌, nat_le, nat_lt}
use Rattle.mt_names.specs.Shards.{shard_of}
use Rattle.mt_laws.proofs.LaneLemmas.{shard_of-lt}
use Rattle.mt_store.specs.Log.{LogState, log_end}
use Rattle.mt_stands.proofs.UnreadLemmas.{EventsGoOn, StreamsGoOn, unread_next}
use Rattle.mt_stands.proofs.LogLemmas.{log-length, log-grown}
use Rattle.mt_names.specs.Names.{same_text}
use Rattle.mt_names.specs.Results.{◌>>=◌}
use Rattle.mt_model.specs.declared.faults.PrimaryFault.{PrimaryFault}
use Rattle.mt_model.specs.declared.faults.PrimaryFault.TheVariants as primary
use Rattle.mt_model.specs.declared.rows.Op.{Op}
use Rattle.mt_model.specs.declared.rows.Op.TheVariants.{Insert, Update, Append, Delete}
use Rattle.mt_model.specs.declared.rows.RowChange.{RowChange}
use Rattle.mt_model.specs.Limits.{longest_log, longest_value}
use Rattle.mt_model.specs.Rows.{Row, op_key, op_row}
use Rattle.mt_primary.specs.Primary.{end_of, PrimaryState, has_table, is_denied_at, row_at}
use Rattle.mt_primary.specs.Writes.{IsWritten, Writes, unless_full, written_row}
use Rattle.mt_plain.specs.Answers.{Answers}
use Rattle.mt_plain.specs.Events.{Refusal, write, done, denied, full, no_table, refused}
use Rattle.mt_plain.specs.Next.{next, next_taken, row_left}
use Rattle.mt_plain.specs.Plain.{Lane, Live, LogEntry, Plain, Write, cuts_of, has_keyspace, in_lane, is_side, lane_at, lane_of, live_at, shard_at, mover, moves, number_of, owner}
use Rattle.mt_plain.specs.Refuse.{or_else, refusal_of, refuse_if, row_refusal}
use Rattle.mt_plain.specs.Serve.{IsWritable, refuses}
use Rattle.mt_plain.specs.Serve as plain
use Rattle.mt_plain.specs.Slots.{is_entry_at, log_length, log_of}
use Rattle.mt_plain.specs.Writes.{client_number, client_row, in_range, is_write_to, lane_row, lane_writes, other_row, row_after_write, row_after_writes, row_by_mover, row_of, writes_to}
use Rattle.mt_laws.specs.Places.{AreSidesOfMove}
use Rattle.mt_stands.specs.Answers.{answer_by, refusal_by}
use Rattle.mt_stands.specs.Rows.{KeepsEndOf, IsPending, OthersStay, Primaries, RowsStand, is_moved, owner_shard, rows_before, write_of}
use Rattle.mt_stands.proofs.BeforeLemmas.{row_by_own, rows_before-append, rows_before-length}
use Rattle.mt_stands.proofs.KnownLemmas.{Known, client_at_side, differs, is_to, itself, owner_is_side, row_at_other, row_writable, same_at_all, same_or, same_place, same_primaries, shard_at_owner}

-- ---- the refusals

abbrev pub told_row : Result Row PrimaryFault → Option Refusal
told_row (Ok after) = None
told_row (Err fault) = Some (refusal_by fault)

-- a row that is left is written where the log has room
left_told : (after : Row) (log : LogState) → refuse_if (nat_le longest_log (log_end log)) full ≡ told_row (unless_full log after)
left_told after log = by (nat_lt (log_end log) longest_log) refl
  where
    by : (t : Bool) → nat_lt (log_end log) longest_log ≡ t → refuse_if (nat_le longest_log (log_end log)) full ≡ told_row (unless_full log after)
    by true room = rw (room, lt-leb longest_log (log_end log) (leb-true (suc (log_end log)) longest_log room)) refl
    by false none = rw (none, le-leb longest_log (log_end log) (at_least none)) refl
      where
        at_least : nat_lt (log_end log) longest_log ≡ false → longest_log ≤ log_end log
        at_least none = let h = leb-false (suc (log_end log)) longest_log none in omega (arith, h)

row_told : (op : Op) (before : Row) (log : LogState)
    → or_else (row_refusal (op_row op before)) (refuse_if (nat_le longest_log (log_end log)) full) ≡ told_row (op_row op before >>= unless_full log)
row_told (Insert key value) None log = left_told (Some value) log
row_told (Insert key value) (Some old) log = refl
row_told (Update key value) None log = refl
row_told (Update key value) (Some old) log = left_told (Some value) log
row_told (Append key value) None log = refl
row_told (Append key value) (Some old) log = by (nat_lt longest_value (length old.items + length value.items))
  where
    both : Row
    both = Some (record { items = old.items ++ value.items })

    by : (t : Bool) → or_else (row_refusal (cond t (Err primary.TooLong) (Ok both))) (refuse_if (nat_le longest_log (log_end log)) full) ≡ told_row (cond t (Err primary.TooLong) (Ok both) >>= unless_full log)
    by true = refl
    by false = left_told both log
row_told (Delete key) None log = refl
row_told (Delete key) (Some old) log = left_told None log

abbrev pub left_row : Row → Result Row PrimaryFault
left_row after = Ok after

row_left_by : (r : Result Row PrimaryFault) (log : LogState) (after : Row) → (r >>= unless_full log) ≡ Ok after → r ≡ Ok after
row_left_by (Err fault) log after e = absurd cc
row_left_by (Ok left) log after e = by (nat_lt (log_end log) longest_log) e
  where
    by : (t : Bool) → cond t (Ok left) (Err primary.LogFull) ≡ Ok after → left_row left ≡ Ok after
    by true e = e
    by false e = absurd cc

-- a write that is done finds the table there, and not denied
module _ (state : PrimaryState) (table : List ℕ) (op : Op) (after : Row) (e : written_row state table op ≡ Ok after) where
  pub written_by : (has_table state table ≡ true) × ((is_denied_at state table ≡ false) × (op_row op (row_at state table (op_key op)) ≡ Ok after))
  written_by = by (has_table state table) refl (is_denied_at state table) refl e
    where
      by : (t : Bool) → has_table state table ≡ t → (d : Bool) → is_denied_at state table ≡ d
          → cond t (cond d (Err primary.Denied) (op_row op (row_at state table (op_key op)) >>= unless_full state.log)) (Err primary.NoTable) ≡ Ok after
          → (has_table state table ≡ true) × ((is_denied_at state table ≡ false) × (op_row op (row_at state table (op_key op)) ≡ Ok after))
      by true f true g e = absurd cc
      by true f false g e = (f, (g, row_left_by (op_row op (row_at state table (op_key op))) state.log after e))
      by false f d g e = absurd cc

module _ (p : Plain) (known : Known p) (old new : Primaries) (stands : RowsStand p old) (k t : List ℕ) (op : Op)
    (there : has_keyspace p k ≡ true) (has : has_table (old k (shard_at p k (op_key op))) t ≡ plain.has_table p k t) (denies : is_denied_at (old k (shard_at p k (op_key op))) t ≡ refuses p k (shard_at p k (op_key op)) t)
    (others : OthersStay k (shard_at p k (op_key op)) old new) where
  abbrev at : ℕ
  at = shard_at p k (op_key op)

  log_there : log_length p k at ≡ end_of (old k at)
  log_there = sym (length-filter (is_entry_at k at) p.log) ∙ log-length (log_of p k at) k at (old k at).log (stands.log k at)

  write_told : refusal_of p (write k t op) ≡ told_row (written_row (old k at) t op)
  write_told =
      rw (there, log_there) (by (has_table (old k at) t) refl (is_denied_at (old k at) t) refl)
    where
      goal_at : (there denied : Bool) → Type 0
      goal_at a d =
          or_else (refuse_if (not a) no_table) (or_else (refuse_if d denied) (or_else (row_refusal (op_row op (client_row p k t (op_key op)))) (refuse_if (nat_le longest_log (end_of (old k at))) full)))
          ≡ told_row (cond a (cond d (Err primary.Denied) (op_row op (row_at (old k at) t (op_key op)) >>= unless_full (old k at).log)) (Err primary.NoTable))

      by : (a : Bool) → has_table (old k at) t ≡ a → (d : Bool) → is_denied_at (old k at) t ≡ d
          → or_else (refuse_if (not (plain.has_table p k t)) no_table) (or_else (refuse_if (refuses p k at t) denied) (or_else (row_refusal (op_row op (client_row p k t (op_key op)))) (refuse_if (nat_le longest_log (end_of (old k at))) full)))
          ≡ told_row (written_row (old k at) t op)
      by a f d g = rw (sym has, sym denies, f, g) (told_at a d f g)
        where
          told_at : (a d : Bool) → has_table (old k at) t ≡ a → is_denied_at (old k at) t ≡ d → goal_at a d
          told_at false d f g = refl
          told_at true true f g = refl
          told_at true false f g =
              let row = sym (row_writable p known k t (sym has ∙ f, (at, shard_of-lt (cuts_of p k) (op_key op), sym denies ∙ g)) (op_key op)) ∙ sym (stands.rows k t (sym has ∙ f) (op_key op)) in
              ap (λ r. or_else (row_refusal (op_row op r)) (refuse_if (nat_le longest_log (end_of (old k at))) full)) row ∙ row_told op (row_at (old k at) t (op_key op)) (old k at).log

  -- ---- a write that is done

  module _ (position : ℕ) (written : IsWritten (old k at) t op position (new k at)) where
    abbrev after : Row
    after = row_at (new k at) t (op_key op)

    did : (has_table (old k at) t ≡ true) × ((is_denied_at (old k at) t ≡ false) × (op_row op (row_at (old k at) t (op_key op)) ≡ Ok after))
    did = written_by (old k at) t op after written.row

    writable : IsWritable p k t
    writable = (sym has ∙ did.0, (at, shard_of-lt (cuts_of p k) (op_key op), sym denies ∙ did.1.0))

    abbrev q : Plain
    q = next_taken p (write k t op)

    abbrev wrote : Write
    wrote = record { table = client_number p k t; key = op_key op; after = row_left (op_row op (client_row p k t (op_key op))) }

    abbrev change : RowChange
    change = record { table = t; key = op_key op; before = row_at (old k at) t (op_key op); after = after }

    row_is : wrote.after ≡ after
    row_is = ap (λ r. row_left (op_row op r)) (sym (row_writable p known k t writable (op_key op)) ∙ sym (stands.rows k t writable.0 (op_key op))) ∙ ap row_left did.1.1

    -- the rows

    all_now : (w : Live) → writes_to q w ≡ writes_to p w ++ filter (is_write_to p w) (wrote ∷ [])
    all_now w = filter-append (is_write_to p w) p.writes (wrote ∷ [])

    lane_now : (w : Live) (lane : Lane) → lane_writes q w lane ≡ lane_writes p w lane ++ filter (λ (write : Write). in_lane w lane write.key) (filter (is_write_to p w) (wrote ∷ []))
    lane_now w lane = ap (filter (λ (write : Write). in_lane w lane write.key)) (all_now w) ∙ filter-append (λ (write : Write). in_lane w lane write.key) (writes_to p w) (filter (is_write_to p w) (wrote ∷ []))

    other_now : (name : List ℕ) (w : Live) → live_at p name ≡ Some w → (table : List ℕ) (key : ℕ) → other_row q w table key ≡ other_row p w table key
    other_now name w live table key = by (lane_of w key) refl
      where
        by : (o : Option Lane) → lane_of w key ≡ o → option_map_or (λ l. lane_row q w l table key) o None ≡ option_map_or (λ l. lane_row p w l table key) o None
        by None e = refl
        by (Some l) e =
            ap (λ ws. cond (in_range w.tables l.copied table key) (row_after_writes ws (number_of p w.source table) key) None)
            (ap (take l.fed) (lane_now w l) ∙ take-append-le l.fed (lane_writes p w l) (filter (λ (write : Write). in_lane w l write.key) (filter (is_write_to p w) (wrote ∷ []))) (known.fed name w live (shard_of w.cuts key) l e))

    client_now : (keyspace table : List ℕ) (key : ℕ) → client_row q keyspace table key
        ≡ cond (eqb (client_number p k t) (client_number p keyspace table) && eqb (op_key op) key) wrote.after (client_row p keyspace table key)
    client_now keyspace table key = fold-append (row_after_write (client_number p keyspace table) key) None p.writes (wrote ∷ [])

    module _ (keyspace table : List ℕ) (here : plain.has_table p keyspace table ≡ true) (key : ℕ) where
      -- another row stays
      stays : client_row q keyspace table key ≡ client_row p keyspace table key → row_of q keyspace table key ≡ row_of p keyspace table key
      stays client = by (mover p table) refl
        where
          either : (w : Live) → live_at p w.name ≡ Some w → (b : Bool) → cond b (other_row q w table key) (client_row q keyspace table key) ≡ cond b (other_row p w table key) (client_row p keyspace table key)
          either w live true = other_now w.name w live table key
          either w live false = client

          by : (o : Option Live) → mover p table ≡ o → row_by_mover q o keyspace table key ≡ row_by_mover p o keyspace table key
          by None none = client
          by (Some w) found = either w (known.moving table w found).1 (is_side w keyspace && not (same_text (owner w) keyspace))

      abbrev n : ℕ
      n = shard_at p keyspace key

      row_stays : client_row q keyspace table key ≡ client_row p keyspace table key → ¬ ((k ≡ keyspace) × ((table ≡ t) × (key ≡ op_key op))) → row_at (new keyspace n) table key ≡ row_of q keyspace table key
      row_stays client apart = ⊎_elim at_place elsewhere (same_place k at keyspace n) ∙ stands.rows keyspace table here key ∙ sym (stays client)
        where
          at_place : (k ≡ keyspace) × (at ≡ n) → row_at (new keyspace n) table key ≡ row_at (old keyspace n) table key
          at_place e = subst (λ x. row_at (new x n) table key ≡ row_at (old x n) table key) e.0 (subst (λ m. row_at (new k m) table key ≡ row_at (old k m) table key) e.1 (written.put.others table key (λ h. apart (e.0, h))))

          elsewhere : (k ≡ keyspace → at ≡ n → ⊥) → row_at (new keyspace n) table key ≡ row_at (old keyspace n) table key
          elsewhere other = ap (λ s. row_at s table key) (others keyspace n other)

      -- no row stands at another shard than that of its key
      apart_now : (m : ℕ) → n ≢ m → row_at (new keyspace m) table key ≡ None
      apart_now m other = ⊎_elim at_place elsewhere (same_place k at keyspace m) ∙ stands.apart keyspace table here key m other
        where
          at_place : (k ≡ keyspace) × (at ≡ m) → row_at (new keyspace m) table key ≡ row_at (old keyspace m) table key
          at_place e = subst (λ x. row_at (new x m) table key ≡ row_at (old x m) table key) e.0 (subst (λ i. row_at (new k i) table key ≡ row_at (old k i) table key) e.1
              (written.put.others table key (λ h. other (ap (shard_at p keyspace) h.1 ∙ ap (λ x. shard_at p x (op_key op)) (sym e.0) ∙ e.1))))

          elsewhere : (k ≡ keyspace → at ≡ m → ⊥) → row_at (new keyspace m) table key ≡ row_at (old keyspace m) table key
          elsewhere no_place = ap (λ s. row_at s table key) (others keyspace m no_place)

      -- the row that was written, and the same one at the other side of a move
      written_here : k ≡ keyspace → t ≡ table → op_key op ≡ key → client_row q keyspace table key ≡ wrote.after → row_at (new keyspace n) table key ≡ row_of q keyspace table key
      written_here here_k of is client = row ∙ sym row_is ∙ sym client ∙ sym (owned (mover p table) refl)
        where
          row : row_at (new keyspace n) table key ≡ after
          row = sym (subst (λ x. after ≡ row_at (new x (shard_at p x key)) table key) here_k (subst (λ x. after ≡ row_at (new k (shard_at p k key)) x key) of (ap (λ y. row_at (new k (shard_at p k y)) t y) is)))

          writable_here : IsWritable p keyspace table
          writable_here = subst (λ x. IsWritable p x table) here_k (subst (λ x. IsWritable p k x) of writable)

          either : (w : Live) → mover p table ≡ Some w → (b : Bool) → is_side w keyspace ≡ b → cond (b && not (same_text (owner w) keyspace)) (other_row q w table key) (client_row q keyspace table key) ≡ client_row q keyspace table key
          either w found false none = refl
          either w found true side = ap (λ b. cond (not b) (other_row q w table key) (client_row q keyspace table key)) (ap (same_text (owner w)) (known.writable table w found keyspace side writable_here) ∙ itself (owner w))

          owned : (o : Option Live) → mover p table ≡ o → row_by_mover q o keyspace table key ≡ client_row q keyspace table key
          owned None none = refl
          owned (Some w) found = either w found (is_side w keyspace) refl

      at_other_side : k ≢ keyspace → AreSidesOfMove p t k keyspace → t ≡ table → row_at (new keyspace n) table key ≡ row_of q keyspace table key
      at_other_side other sides of =
          let found : mover p table ≡ Some sides.live = subst (λ x. mover p x ≡ Some sides.live) of sides.moving in
          let owns : k ≡ owner sides.live = known.writable t sides.live sides.moving k sides.first writable in
          let not_owner : keyspace ≢ owner sides.live = λ e. other (owns ∙ sym e) in
          ap (λ s. row_at s table key) (others keyspace n (λ h i. other h)) ∙ stands.rows keyspace table here key
          ∙ row_at_other p keyspace table sides.live found key sides.second not_owner
          ∙ sym (other_now sides.live.name sides.live (known.moving table sides.live found).1 table key)
          ∙ sym (row_at_other q keyspace table sides.live found key sides.second not_owner)

      same_number : client_number p k t ≡ client_number p keyspace table → op_key op ≡ key → row_at (new keyspace n) table key ≡ row_of q keyspace table key
      same_number number is =
          let same = known.apart k t keyspace table writable.0 here number in
          let client = client_now keyspace table key
          ∙ ap (λ b. cond (b && eqb (op_key op) key) wrote.after (client_row p keyspace table key)) (eq-eqb (client_number p k t) (client_number p keyspace table) number)
          ∙ ap (λ b. cond b wrote.after (client_row p keyspace table key)) (eq-eqb (op_key op) key is) in
          ⊎_elim (λ e. written_here e same.0 is client) (λ other. ⊎_elim (λ e. absurd (other e)) (λ sides. at_other_side other sides same.0) same.1) (same_or k keyspace)

      row_now : row_at (new keyspace n) table key ≡ row_of q keyspace table key
      row_now = by (eqb (client_number p k t) (client_number p keyspace table)) refl (eqb (op_key op) key) refl
        where
          by : (b : Bool) → eqb (client_number p k t) (client_number p keyspace table) ≡ b → (i : Bool) → eqb (op_key op) key ≡ i → row_at (new keyspace n) table key ≡ row_of q keyspace table key
          by true number true is = same_number (eqb-true (client_number p k t) (client_number p keyspace table) number) (eqb-true (op_key op) key is)
          by true number false is =
              row_stays (client_now keyspace table key ∙ ap (λ b. cond (eqb (client_number p k t) (client_number p keyspace table) && b) wrote.after (client_row p keyspace table key)) is ∙ ap (λ b. cond (b && false) wrote.after (client_row p keyspace table key)) number)
              (λ h. eqb-false (op_key op) key is (sym h.1.1))
          by false number i is =
              row_stays (client_now keyspace table key ∙ ap (λ b. cond (b && eqb (op_key op) key) wrote.after (client_row p keyspace table key)) number)
              (λ h. eqb-false (client_number p k t) (client_number p keyspace table) number (ap (λ x. client_number p x t) h.0 ∙ ap (client_number p keyspace) (sym h.1.0)))

    -- the log

    log_now : (keyspace : List ℕ) (n : ℕ) → KeepsEndOf (log_of q keyspace n) keyspace n (new keyspace n).log
    log_now keyspace n = subst (λ es. KeepsEndOf es keyspace n (new keyspace n).log) (sym (filter-append (is_entry_at keyspace n) p.log (entry ∷ []))) (⊎_elim here there_ (same_place k at keyspace n))
      where
        entry : LogEntry
        entry = record { keyspace = k; shard = at; table = t; key = op_key op }

        Logs : List ℕ → ℕ → Type 0
        Logs x m = KeepsEndOf (log_of p x m ++ cond (same_text k x && eqb at m) (entry ∷ []) []) x m (new x m).log

        self : (same_text k k && eqb at at) ≡ true
        self = ap (λ b. b && eqb at at) (itself k) ∙ eq-eqb at at refl

        here : (k ≡ keyspace) × (at ≡ n) → Logs keyspace n
        here e = subst (λ x. Logs x n) e.0 (subst (Logs k) e.1
            (subst (λ b. KeepsEndOf (log_of p k at ++ cond b (entry ∷ []) []) k at (new k at).log) (sym self)
            (subst (KeepsEndOf (log_of p k at ++ entry ∷ []) k at) (sym written.put.log) (log-grown (log_of p k at) k at (old k at).log (stands.log k at) (change ∷ [])))))

        there_ : (k ≡ keyspace → at ≡ n → ⊥) → Logs keyspace n
        there_ other =
            subst (λ b. KeepsEndOf (log_of p keyspace n ++ cond b (entry ∷ []) []) keyspace n (new keyspace n).log) (sym (no_entry (same_or k keyspace) (eqb at n) refl))
            (subst (λ es. KeepsEndOf es keyspace n (new keyspace n).log) (sym (append-nil (log_of p keyspace n))) (subst (λ (s : PrimaryState). KeepsEndOf (log_of p keyspace n) keyspace n s.log) (sym (others keyspace n other)) (stands.log keyspace n)))
          where
            no_entry : (k ≡ keyspace) ⊎ (k ≢ keyspace) → (b : Bool) → eqb at n ≡ b → (same_text k keyspace && eqb at n) ≡ false
            no_entry (inr apart) b e = ap (λ x. x && eqb at n) (differs k keyspace apart)
            no_entry (inl same) true e = absurd (other same (eqb-true at n e))
            no_entry (inl same) false e = ap (λ x. same_text k keyspace && x) e ∙ and_right (same_text k keyspace) false refl

    -- what was not fed

    module _ (name : List ℕ) (w : Live) (live : live_at p name ≡ Some w) (m : ℕ) (lane : Lane) (laned : lane_at w m ≡ Some lane) where
      to_w : is_write_to p w wrote ≡ (moves w t && is_side w k)
      to_w = is_to p known name w live k t writable.0

      number_is : moves w t ≡ true → is_side w k ≡ true → number_of p w.source t ≡ client_number p k t
      number_is moved side = sym (client_at_side p w t (known.found name w live t moved) k side)

      -- what the write adds to those of the lane
      now : (moved side inside : Bool) → moves w t ≡ moved → is_side w k ≡ side → in_lane w lane (op_key op) ≡ inside → lane_writes q w lane ≡ lane_writes p w lane ++ cond ((moved && side) && inside) (wrote ∷ []) []
      now moved side inside f s i =
          lane_now w lane
          ∙ ap (λ b. lane_writes p w lane ++ filter (λ (write : Write). in_lane w lane write.key) (cond b (wrote ∷ []) [])) (to_w ∙ ap (λ b. b && is_side w k) f ∙ ap (λ b. moved && b) s)
          ∙ ap (λ l. lane_writes p w lane ++ l) (by (moved && side))
        where
          by : (b : Bool) → filter (λ (write : Write). in_lane w lane write.key) (cond b (wrote ∷ []) []) ≡ cond (b && inside) (wrote ∷ []) []
          by false = refl
          by true = ap (λ c. cond c (wrote ∷ []) []) i

      -- the log of the owner that has the lane's rows goes on, with a write of the lane or of another one
      at_owner : (k ≡ owner w) × (at ≡ owner_shard w lane) → IsPending q w lane (new (owner w) (owner_shard w lane)).log.entries
      at_owner here = subst (λ x. IsPending q w lane (new x (owner_shard w lane)).log.entries) here.0 (subst (λ x. IsPending q w lane (new k x).log.entries) here.1 (by (in_lane w lane (op_key op)) refl (moves w t) refl))
        where
          side : is_side w k ≡ true
          side = subst (λ x. is_side w x ≡ true) (sym here.0) (owner_is_side w)

          was : IsPending p w lane (old k at).log.entries
          was = subst (λ x. IsPending p w lane (old k x).log.entries) (sym here.1) (subst (λ x. IsPending p w lane (old x (owner_shard w lane)).log.entries) (sym here.0) (stands.pending name w live m lane laned))

          entries : (b : Bool) → is_moved w lane change ≡ b → filter (is_moved w lane) (new k at).log.entries ≡ was.before ++ (was.left ++ cond b (change ∷ []) [])
          entries b f =
              ap (λ (l : LogState). filter (is_moved w lane) l.entries) written.put.log ∙ filter-append (is_moved w lane) (old k at).log.entries (change ∷ [])
              ∙ ap (λ l. l ++ filter (is_moved w lane) (change ∷ [])) was.entries ∙ append_assoc was.before was.left (filter (is_moved w lane) (change ∷ []))
              ∙ ap (λ b. was.before ++ (was.left ++ cond b (change ∷ []) [])) f

          none : is_moved w lane change ≡ false → lane_writes q w lane ≡ lane_writes p w lane ++ [] → IsPending q w lane (new k at).log.entries
          none f e = record {
            before = was.before;
            left = was.left;
            entries = entries false f ∙ ap (λ l. was.before ++ l) (append-nil was.left);
            writes = was.writes ∙ ap (drop lane.fed) (sym (e ∙ append-nil (lane_writes p w lane)));
            rows = was.rows ∙ ap (λ ws. drop lane.fed (rows_before [] ws)) (sym (e ∙ append-nil (lane_writes p w lane)));
          }

          by : (i : Bool) → in_lane w lane (op_key op) ≡ i → (b : Bool) → moves w t ≡ b → IsPending q w lane (new k at).log.entries
          by false i b f = none (ap (λ x. x && moves w t) i) (now b true false f side i ∙ ap (λ x. lane_writes p w lane ++ cond x (wrote ∷ []) []) (and_right (b && true) false refl))
          by true i false f = none (ap (λ x. x && moves w t) i ∙ f) (now false true true f side i)
          by true i true f = record {
            before = was.before;
            left = was.left ++ change ∷ [];
            entries = entries true (ap (λ x. x && moves w t) i ∙ f);
            writes =
                map-append (write_of p w) was.left (change ∷ []) ∙ ap (λ l. l ++ write_of p w change ∷ []) was.writes
                ∙ ap (λ x. drop lane.fed (lane_writes p w lane) ++ x ∷ []) is_wrote
                ∙ sym (ap (drop lane.fed) (now true true true f side i) ∙ drop-append-le lane.fed (lane_writes p w lane) (wrote ∷ []) (known.fed name w live m lane laned));
            rows =
                map-append (λ (c : RowChange). c.before) was.left (change ∷ []) ∙ ap (λ l. l ++ change.before ∷ []) was.rows
                ∙ ap (λ r. drop lane.fed (rows_before [] (lane_writes p w lane)) ++ r ∷ []) stood
                ∙ sym (drop-append-le lane.fed (rows_before [] (lane_writes p w lane)) (row_after_writes (lane_writes p w lane) wrote.table wrote.key ∷ []) (subst (λ n. lane.fed ≤ n) (sym (rows_before-length [] (lane_writes p w lane))) (known.fed name w live m lane laned)))
                ∙ ap (drop lane.fed) (sym (rows_before-append [] (lane_writes p w lane) wrote)) ∙ ap (λ ws. drop lane.fed (rows_before [] ws)) (sym (now true true true f side i));
          }
            where
              -- the row that stood is what the writes of the lane left
              stood : change.before ≡ row_after_writes (lane_writes p w lane) wrote.table wrote.key
              stood =
                  stands.rows k t writable.0 (op_key op) ∙ row_writable p known k t writable (op_key op)
                  ∙ sym (subst (λ n. row_after_writes (lane_writes p w lane) n (op_key op) ≡ row_after_writes p.writes n (op_key op)) (number_is f side) (row_by_own p w lane t f (op_key op) i))

              is_wrote : write_of p w change ≡ wrote
              is_wrote =
                  ap (λ n. let x : Write = record { table = n; key = op_key op; after = after } in x) (number_is f side)
                  ∙ ap (λ r. let x : Write = record { table = client_number p k t; key = op_key op; after = r } in x) (sym row_is)

      -- the other logs stay, and the write is none of the lane
      elsewhere : (k ≡ owner w → at ≡ owner_shard w lane → ⊥) → IsPending q w lane (new (owner w) (owner_shard w lane)).log.entries
      elsewhere other = subst (λ (s : PrimaryState). IsPending q w lane s.log.entries) (sym (others (owner w) (owner_shard w lane) other)) (by (moves w t) refl (is_side w k) refl (in_lane w lane (op_key op)) refl)
        where
          was : IsPending p w lane (old (owner w) (owner_shard w lane)).log.entries
          was = stands.pending name w live m lane laned

          same : lane_writes q w lane ≡ lane_writes p w lane ++ [] → IsPending q w lane (old (owner w) (owner_shard w lane)).log.entries
          same e = record { before = was.before; left = was.left; entries = was.entries; writes = was.writes ∙ ap (drop lane.fed) (sym (e ∙ append-nil (lane_writes p w lane))); rows = was.rows ∙ ap (λ ws. drop lane.fed (rows_before [] ws)) (sym (e ∙ append-nil (lane_writes p w lane))) }

          by : (b : Bool) → moves w t ≡ b → (s : Bool) → is_side w k ≡ s → (i : Bool) → in_lane w lane (op_key op) ≡ i → IsPending q w lane (old (owner w) (owner_shard w lane)).log.entries
          by false f s e i h = same (now false s i f e h)
          by true f false e i h = same (now true false i f e h)
          by true f true e false h = same (now true true false f e h)
          by true f true e true h =
              let owns : k ≡ owner w = known.writable t w (known.found name w live t f) k e writable in
              absurd (other owns (ap (λ x. shard_at p x (op_key op)) owns ∙ shard_at_owner p known name w live lane (op_key op) h))

    write_stands : StreamsGoOn p q → RowsStand q new
    write_stands goes = record {
      log = log_now;
      rows = row_now;
      apart = λ keyspace table here key m other. apart_now keyspace table here key m other;
      pending = λ name w live m lane laned. ⊎_elim (at_owner name w live m lane laned) (elsewhere name w live m lane laned) (same_place k at (owner w) (owner_shard w lane));
      unread = unread_next p q old new stands (same_at_all (λ (s : PrimaryState). s.log.purged) old new k at others (ap (λ (l : LogState). l.purged) written.put.log)) goes;
    }

  -- ---- all answers

  write_refused : (fault : PrimaryFault) → Writes (old k at) t op (Err fault) (new k at) → Answers p (write k t op) (refused (refusal_by fault)) × (new k at ≡ old k at)
  write_refused primary.Memory did = ((write_told ∙ ap told_row did.0.1, refl), did.1)
  write_refused primary.NoTable did = (write_told ∙ ap told_row did.0, did.1)
  write_refused primary.Denied did = (write_told ∙ ap told_row did.0, did.1)
  write_refused primary.RowExists did = (write_told ∙ ap told_row did.0, did.1)
  write_refused primary.NoRow did = (write_told ∙ ap told_row did.0, did.1)
  write_refused primary.TooLong did = (write_told ∙ ap told_row did.0, did.1)
  write_refused primary.LogFull did = (write_told ∙ ap told_row did.0, did.1)
  write_refused primary.Purged did = (write_told ∙ ap told_row did.0, did.1)

  pub write_keeps : EventsGoOn p → (result : Result ℕ PrimaryFault) → Writes (old k at) t op result (new k at) → Answers p (write k t op) (answer_by result) × RowsStand (next p (write k t op) (answer_by result)) new
  write_keeps goes (Ok position) did =
      let given : Answers p (write k t op) done = (write_told ∙ ap told_row did.row, refl) in
      (given, write_stands position did (goes (write k t op) done given))
  write_keeps goes (Err fault) did = let r = write_refused fault did in (r.0, same_primaries p old new stands (same_at_all (λ s. s) old new k at others r.1))
