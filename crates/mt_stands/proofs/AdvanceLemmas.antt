-- An advance that is done: what stands behind it.
use Rattle.std.proofs.Common.{◌-◌}
use Rattle.std.proofs.Common.{◌≡◌, ◌≢◌, ℕ, ◌+◌, ◌≤◌, ◌⊎◌, Bool, true, false, not, cond, List, [], ◌∷◌, ◌++◌, drop, take, filter, length, Option, None, Some, refl, sym, ap, ◌∙◌, subst, arith, inl, inr, ⊎_elim, map, append-nil, eqb, eqb-true}
use Rattle.std.proofs.lemmas.Bool.{and_right, eq-eqb, eqb-false, ne_eqb, true≢false}
use Rattle.std.proofs.lemmas.List.{append_assoc, drop-map, drop_all, length-drop, length-map, map-append, take-append-drop, take-map}
use Rattle.std.proofs.lemmas.List.Elements.{filter-append}
use Rattle.std.proofs.lemmas.List.Sums.{fold-append, length-filter}
use Rattle.std.specs.List.{count_by, find, fold}
use Rattle.std.specs.Option.{option_map, option_map_or}
use Rattle.std.specs.Prelude.{◌&&◌}
use Rattle.mt_store.specs.Log.{LogState}
use Rattle.mt_stands.proofs.UnreadLemmas.{StreamsGoOn, unread_next}
use Rattle.mt_stands.proofs.LogLemmas.{log-grown}
use Rattle.mt_names.specs.Names.{same_text}
use Rattle.mt_names.proofs.EntryLemmas.{some_from}
use Rattle.mt_model.specs.declared.rows.RowChange.{RowChange}
use Rattle.mt_model.specs.Rows.{is_change_of}
use Rattle.mt_primary.specs.Primary.{IsPrimary, PrimaryState, TableState, row_at, row_at_position, table_at}
use Rattle.mt_primary.specs.Primary as primary_words
use Rattle.mt_primary.specs.Writes.{RowPut, put_of, row_after_put}
use Rattle.mt_plain.specs.Events.{StreamName, forward, back, running, Slot}
use Rattle.mt_plain.specs.Next.{with_advance}
use Rattle.mt_names.specs.Shards.{shard_of}
use Rattle.mt_plain.specs.Answers.{range_at}
use Rattle.mt_plain.specs.Plain.{Lane, Live, LogEntry, Plain, Write, in_lane, is_side, lane_at, lane_of, live_at, mover, moves, number_of, owner, shard_at}
use Rattle.mt_plain.specs.Serve.{has_table}
use Rattle.mt_plain.specs.Slots.{copied_after, entry_of_row, is_for, lane_advanced, live_advanced, log_of, logged, read_shard, read_side, running_at, slot_of, written_shard, written_side}
use Rattle.mt_plain.specs.Slots as plain
use Rattle.mt_plain.specs.Writes.{client_row, in_range, lane_row, lane_writes, other_row, row_after_write, row_after_writes, row_by_mover, row_of, writes_to}
use Rattle.mt_stream.specs.Advance.{applies, places, puts_of, rows_left, stream_after, to_copy}
use Rattle.mt_stream.specs.Follows.{FollowsSource}
use Rattle.mt_stream.specs.Puts.{PutsMade, changes_by}
use Rattle.mt_stream.specs.Streams.{StreamValue, past}
use Rattle.mt_laws.specs.Advances.{IsAfterAdvance, advanced_live}
use Rattle.mt_laws.proofs.LaneLemmas.{shard-advanced}
use Rattle.mt_laws.proofs.LiveLemmas.{find-map}
use Rattle.mt_laws.specs.Pending.{pending}
use Rattle.mt_stands.specs.Rows.{HoldsItsKeys, KeepsEndOf, IsPending, IsStreamOf, OthersStay, Primaries, RowsStand, entry_at, is_moved, owner_shard, rows_before, stream_of, write_of}
use Rattle.mt_stands.proofs.FeedLemmas.{AllMoved, IsMoved, all_append, all_take, applied_logged, applied_moved, changes_logged, copied_same, fold_passed, fold_read, fold_untouched, lane_test, left_moved, moved_entries, moved_to, none_moved, same_end, slot_goes, take_more, take_none, take_passing, tests_are}
use Rattle.mt_laws.proofs.PastLemmas.{drop_twice}
use Rattle.mt_stands.proofs.KnownLemmas.{Known, differs, in_lane_is, itself, lane_here, numbered, row_at_other, row_at_owner, row_elsewhere, row_free, same_at_all, same_or, same_place, shard_owned, side_either, sides_apart, some_is, written_is_side}
use Rattle.mt_stands.proofs.StreamLemmas.{copy_places, has_at_side, past_is, reads_owner, source_row}

-- what the laws say of the streams of a state that a run reaches
pub record KnownStreams (p : Plain) : Type 0 where
  pub named : (name : List ℕ) (w : Live) → live_at p name ≡ Some w → w.name ≡ name
  pub reads : (name : List ℕ) (w : Live) → live_at p name ≡ Some w → (lane : Lane) (stream : StreamName) (at : ℕ) → running_at (slot_of w lane stream) ≡ Some at → read_side w stream ≡ owner w
  pub counted : (name : List ℕ) (w : Live) → live_at p name ≡ Some w → (shard : ℕ) (lane : Lane) → lane_at w shard ≡ Some lane
      → (stream : StreamName) (s : Slot) → slot_of w lane stream ≡ Some s → read_side w stream ≡ owner w
      → lane.fed + length (pending p w lane stream s.position) ≡ length (lane_writes p w lane)
  pub catches : (name : List ℕ) (w : Live) → live_at p name ≡ Some w → (table : List ℕ) → moves w table ≡ true → (key : ℕ) (lane : Lane) → lane_of w key ≡ Some lane → in_range w.tables lane.copied table key ≡ true
      → fold (row_after_write (number_of p w.source table) key) (other_row p w table key) (drop lane.fed (lane_writes p w lane)) ≡ client_row p (owner w) table key

module _ (p : Plain) (known : Known p) (streams : KnownStreams p) (old new : Primaries) (stands : RowsStand p old) (name : List ℕ) (w : Live) (live : live_at p name ≡ Some w)
    (shard : ℕ) (lane : Lane) (laned : lane_at w shard ≡ Some lane) (split : HoldsItsKeys w lane)
    (stream : StreamName) (slot : Slot) (there : slot_of w lane stream ≡ Some slot) (is : IsPrimary (old (read_side w stream) (read_shard lane stream)))
    (held : (old (read_side w stream) (read_shard lane stream)).log.purged ≤ slot.position) (runs : slot.state ≡ running)
    (others : OthersStay (written_side w stream) (written_shard lane stream) old new) (at_most events rows : ℕ)
    (left_is : places (rows_left (old (read_side w stream) (read_shard lane stream)) (range_at w.cuts lane.shard) w.tables lane.copied) ≡ plain.uncopied p w lane) where
  abbrev from : List ℕ
  from = read_side w stream

  abbrev to : List ℕ
  to = written_side w stream

  abbrev from_shard : ℕ
  from_shard = read_shard lane stream

  abbrev to_shard : ℕ
  to_shard = written_shard lane stream

  abbrev source : PrimaryState
  source = old from from_shard

  abbrev sink : PrimaryState
  sink = old to to_shard

  abbrev new_sink : PrimaryState
  new_sink = new to to_shard

  abbrev value : StreamValue
  value = stream_of w lane slot

  abbrev read : List RowChange
  read = past value source

  abbrev q : Plain
  q = with_advance p stream shard slot.position at_most events rows (Some w)

  abbrev further : Lane → Lane
  further l = cond (eqb l.shard shard) (lane_advanced p w l stream slot.position at_most events rows) l

  abbrev w' : Live
  w' = live_advanced p w stream shard slot.position at_most events rows

  abbrev lane' : Lane
  lane' = lane_advanced p w lane stream slot.position at_most events rows

  abbrev adv : Live → Live
  adv v = advanced_live p name stream shard slot.position at_most events rows v

  abbrev all : List Write
  all = lane_writes p w lane

  entries_are : map (entry_at from from_shard) read ≡ plain.past p w lane stream slot.position
  entries_are = past_is p known streams.reads old stands name w live shard lane laned split stream slot there is held

  owns : from ≡ owner w
  owns = reads_owner p known streams.reads old stands name w live shard lane laned split stream slot there is held runs

  apart : from ≢ to
  apart = sides_apart w stream ((known.placed name w live).sides.apart)

  owns_shard : from_shard ≡ owner_shard w lane
  owns_shard = shard_owned w lane stream ((known.placed name w live).sides.apart) owns

  -- ---- the lanes behind it

  shard_same : lane'.shard ≡ lane.shard
  shard_same = shard-advanced p w lane stream slot.position at_most events rows

  further_same : (l : Lane) → (further l).shard ≡ l.shard
  further_same l = by (eqb l.shard shard)
    where
      by : (b : Bool) → (cond b (lane_advanced p w l stream slot.position at_most events rows) l).shard ≡ l.shard
      by true = shard-advanced p w l stream slot.position at_most events rows
      by false = refl

  lane_now : (n : ℕ) → lane_at w' n ≡ option_map further (lane_at w n)
  lane_now n = find-map (λ l. eqb l.shard n) further w.lanes (λ l. ap (λ m. eqb m n) (further_same l))

  laned_now : lane_at w' shard ≡ Some lane'
  laned_now = lane_now shard ∙ ap (option_map further) laned ∙ ap (λ b. Some (cond b lane' lane)) (eq-eqb lane.shard shard (numbered w shard lane laned))

  beside : (n : ℕ) → n ≢ shard → lane_at w' n ≡ lane_at w n
  beside n other = lane_now n ∙ by (lane_at w n) refl
    where
      by : (o : Option Lane) → lane_at w n ≡ o → option_map further o ≡ o
      by None e = refl
      by (Some l) e = ap (λ b. Some (cond b (lane_advanced p w l stream slot.position at_most events rows) l)) (ne_eqb l.shard shard (λ h. other (sym (numbered w n l e) ∙ h)))

  -- a key of the lane, and another one
  here_shard : (key : ℕ) → in_lane w lane key ≡ true → shard_of w.cuts key ≡ shard
  here_shard key here = eqb-true (shard_of w.cuts key) shard (sym (in_lane_is w shard lane laned key) ∙ here)

  lane_of_here : (key : ℕ) → in_lane w lane key ≡ true → lane_of w' key ≡ Some lane'
  lane_of_here key here = ap (lane_at w') (here_shard key here) ∙ laned_now

  lane_of_other : (key : ℕ) → in_lane w lane key ≡ false → lane_of w' key ≡ lane_of w key
  lane_of_other key other = beside (shard_of w.cuts key) (eqb-false (shard_of w.cuts key) shard (sym (in_lane_is w shard lane laned key) ∙ other))

  writes_same : lane_writes q w' lane' ≡ all
  writes_same = ap (λ n. filter (λ (write : Write). eqb (shard_of w.cuts write.key) n) (writes_to p w)) shard_same

  -- the shard at the side that is written
  shard_written : (key : ℕ) → in_lane w lane key ≡ true → shard_at p to key ≡ to_shard
  shard_written key here = by stream
    where
      by : (n : StreamName) → shard_at p (written_side w n) key ≡ written_shard lane n
      by forward = known.target_by name w live key ∙ eqb-true (shard_of w.cuts key) lane.shard here
      by back = known.source_one name w live key

  module _ (after : IsAfterAdvance p q name w lane stream shard slot.position at_most events rows) (puts : PutsMade sink (puts_of value source events rows) new_sink) where
    adv_w : adv w ≡ w'
    adv_w = ap (λ b. cond b w' w) (ap (λ n. same_text n name) (streams.named name w live) ∙ itself name)

    live_now : live_at q name ≡ Some w'
    live_now = after.live name ∙ ap (option_map adv) live ∙ ap Some adv_w

    found_now : (t : List ℕ) → moves w t ≡ true → mover q t ≡ Some w'
    found_now t moved = after.movers t ∙ ap (option_map adv) (known.found name w live t moved) ∙ ap Some adv_w

    -- ---- what is put

    puts_are : puts_of value source events rows ≡ map put_of (filter (lane_test w lane) (take events read)) ++ take rows (to_copy value source read)
    puts_are = ap (λ l. map put_of l ++ take rows (to_copy value source read)) (tests_are w lane slot split (take events read))

    puts_moved : AllMoved w lane (puts_of value source events rows)
    puts_moved = subst (AllMoved w lane) (sym puts_are)
        (all_append (λ (put : RowPut). IsMoved w lane put.table put.key) (map put_of (filter (lane_test w lane) (take events read))) (take rows (to_copy value source read))
        (applied_moved w lane (take events read)) (all_take (λ (put : RowPut). IsMoved w lane put.table put.key) rows (to_copy value source read) (copied read)))
      where
        copied : (cs : List RowChange) → AllMoved w lane (to_copy value source cs)
        copied [] = left_moved w lane split source w.tables (λ t named. named)
        copied (c ∷ cs) = tt

    -- ---- the logs

    copies_are : (cs : List RowChange) → places (to_copy value source cs) ≡ plain.to_copy p w lane (map (entry_at from from_shard) cs)
    copies_are = copy_places p known streams.reads old stands name w live shard lane laned split stream slot there is held runs left_is

    written_entries : map (entry_of_row to to_shard) (places (puts_of value source events rows)) ≡ logged w lane stream (take events (plain.past p w lane stream slot.position)) (take rows (plain.to_copy p w lane (plain.past p w lane stream slot.position)))
    written_entries =
        ap (map (entry_of_row to to_shard)) (map-append (λ (put : RowPut). (put.table, put.key)) (map put_of (filter (applies value) (take events read))) (take rows (to_copy value source read)))
        ∙ map-append (entry_of_row to to_shard) (places (map put_of (filter (applies value) (take events read)))) (places (take rows (to_copy value source read)))
        ∙ ap (λ l. l ++ map (entry_of_row to to_shard) (places (take rows (to_copy value source read)))) (applied_logged w lane slot split from from_shard to to_shard (take events read))
        ∙ ap (λ l. map (λ (e : LogEntry). entry_of_row to to_shard (e.table, e.key)) (filter (plain.applies w lane) l) ++ map (entry_of_row to to_shard) (places (take rows (to_copy value source read)))) (sym (take-map (entry_at from from_shard) events read))
        ∙ ap (λ l. map (λ (e : LogEntry). entry_of_row to to_shard (e.table, e.key)) (filter (plain.applies w lane) (take events (map (entry_at from from_shard) read))) ++ map (entry_of_row to to_shard) l)
        (sym (take-map (λ (put : RowPut). (put.table, put.key)) rows (to_copy value source read)) ∙ ap (take rows) (copies_are read))
        ∙ ap (λ es. logged w lane stream (take events es) (take rows (plain.to_copy p w lane es))) entries_are

    log_now : (k : List ℕ) (n : ℕ) → KeepsEndOf (log_of q k n) k n (new k n).log
    log_now k n = ⊎_elim here elsewhere (same_place to to_shard k n)
      where
        here : (to ≡ k) × (to_shard ≡ n) → KeepsEndOf (log_of q k n) k n (new k n).log
        here e = subst (λ x. KeepsEndOf (log_of q x n) x n (new x n).log) e.0 (subst (λ m. KeepsEndOf (log_of q to m) to m (new to m).log) e.1
            (subst (λ es. KeepsEndOf es to to_shard new_sink.log) (ap (λ l. log_of p to to_shard ++ l) (changes_logged to to_shard (row_at sink) (puts_of value source events rows) ∙ written_entries) ∙ sym after.log)
            (subst (KeepsEndOf (log_of p to to_shard ++ map (entry_at to to_shard) (changes_by (row_at sink) (puts_of value source events rows))) to to_shard) (sym puts.log)
            (log-grown (log_of p to to_shard) to to_shard sink.log (stands.log to to_shard) (changes_by (row_at sink) (puts_of value source events rows))))))

        elsewhere : (to ≡ k → to_shard ≡ n → ⊥) → KeepsEndOf (log_of q k n) k n (new k n).log
        elsewhere other = subst (λ es. KeepsEndOf es k n (new k n).log) (sym (after.other_logs k n other)) (subst (λ (s : PrimaryState). KeepsEndOf (log_of p k n) k n s.log) (sym (others k n other)) (stands.log k n))

    -- ---- the writes that are left

    abbrev was : IsPending p w lane source.log.entries
    was = subst (λ n. IsPending p w lane (old from n).log.entries) (sym owns_shard) (subst (λ k. IsPending p w lane (old k (owner_shard w lane)).log.entries) (sym owns) (stands.pending name w live shard lane laned))

    pending_length : length (filter (is_moved w lane) read) ≡ length (pending p w lane stream slot.position)
    pending_length =
        sym (length-map (filter (is_moved w lane) read) (entry_at from from_shard)) ∙ ap length (sym (moved_entries w lane from from_shard read))
        ∙ ap (λ es. length (filter (is_for w lane) es)) entries_are

    left_read : was.left ≡ filter (is_moved w lane) read
    left_read = same_end was.before was.left (filter (is_moved w lane) (take (slot.position - source.log.purged) source.log.entries)) (filter (is_moved w lane) read)
        (sym was.entries ∙ ap (filter (is_moved w lane)) (sym (take-append-drop (slot.position - source.log.purged) source.log.entries)) ∙ filter-append (is_moved w lane) (take (slot.position - source.log.purged) source.log.entries) read)
        (let a = length-map was.left (write_of p w) in
        let b = ap length was.writes in
        let c = length-drop lane.fed all in
        let d = pending_length in
        let e = streams.counted name w live shard lane laned stream slot there owns in
        omega arith)

    abbrev more : ℕ
    more = count_by (is_for w lane) (take events (plain.past p w lane stream slot.position))

    more_is : more ≡ length (filter (is_moved w lane) (take events read))
    more_is =
        ap (λ es. count_by (is_for w lane) (take events es)) (sym entries_are)
        ∙ ap (count_by (is_for w lane)) (take-map (entry_at from from_shard) events read)
        ∙ sym (length-filter (is_for w lane) (map (entry_at from from_shard) (take events read)))
        ∙ ap length (moved_entries w lane from from_shard (take events read)) ∙ length-map (filter (is_moved w lane) (take events read)) (entry_at from from_shard)

    read_writes : take more (drop lane.fed all) ≡ map (write_of p w) (filter (is_moved w lane) (take events read))
    read_writes =
        ap (take more) (sym was.writes) ∙ take-map (write_of p w) more was.left
        ∙ ap (map (write_of p w)) (ap (take more) left_read ∙ ap (λ n. take n (filter (is_moved w lane) read)) more_is ∙ take_passing (is_moved w lane) events read)

    fed_is : lane'.fed ≡ lane.fed + more
    fed_is = refl

    -- ---- rows that stay

    -- another row of a lane of the workflow
    lane_row_same : (t : List ℕ) (key : ℕ) (o : Option Lane) → option_map_or (λ l. lane_row q w' l t key) o None ≡ option_map_or (λ l. lane_row p w l t key) o None
    lane_row_same t key None = refl
    lane_row_same t key (Some l) = refl

    other_same : (t : List ℕ) (key : ℕ) → in_lane w lane key ≡ false → other_row q w' t key ≡ other_row p w t key
    other_same t key other = ap (λ o. option_map_or (λ l. lane_row q w' l t key) o None) (lane_of_other key other) ∙ lane_row_same t key (lane_of w key)

    module _ (k t : List ℕ) (key : ℕ) where
      untouched : (n : ℕ) → (moves w t && in_lane w lane key) ≡ false → row_at (new k n) t key ≡ row_at (old k n) t key
      untouched n none = ⊎_elim
          (λ (e : (to ≡ k) × (to_shard ≡ n)). subst (λ x. row_at (new x n) t key ≡ row_at (old x n) t key) e.0 (subst (λ m. row_at (new to m) t key ≡ row_at (old to m) t key) e.1
          (puts.rows t key ∙ fold_untouched w lane (puts_of value source events rows) puts_moved t key none (row_at sink t key))))
          (λ (other : to ≡ k → to_shard ≡ n → ⊥). ap (λ s. row_at s t key) (others k n other))
          (same_place to to_shard k n)

      other_lane : moves w t ≡ true → in_lane w lane key ≡ false → row_of q k t key ≡ row_of p k t key
      other_lane moved other =
          ap (λ o. row_by_mover q o k t key) (found_now t moved) ∙ by (is_side w k && not (same_text (owner w) k))
          ∙ sym (ap (λ o. row_by_mover p o k t key) (known.found name w live t moved))
        where
          by : (b : Bool) → cond b (other_row q w' t key) (client_row q k t key) ≡ cond b (other_row p w t key) (client_row p k t key)
          by true = other_same t key other
          by false = after.client_rows k t key

      unmoved : moves w t ≡ false → row_of q k t key ≡ row_of p k t key
      unmoved none = by (mover p t) refl
        where
          stays : (v : Live) → mover p t ≡ Some v → adv v ≡ v
          stays v found =
              ap (λ b. cond b (live_advanced p v stream shard slot.position at_most events rows) v)
              (differs v.name name (λ e. true≢false (sym (known.moving t v found).0 ∙ ap (λ u. moves u t) (some_is v w (sym (known.moving t v found).1 ∙ ap (live_at p) e ∙ live)) ∙ none)))

          row_stays : (v : Live) (o : Option Lane) → option_map_or (λ l. lane_row q v l t key) o None ≡ option_map_or (λ l. lane_row p v l t key) o None
          row_stays v None = refl
          row_stays v (Some l) = refl

          by_other : (v : Live) → (b : Bool) → cond b (other_row q v t key) (client_row q k t key) ≡ cond b (other_row p v t key) (client_row p k t key)
          by_other v false = after.client_rows k t key
          by_other v true = row_stays v (lane_of v key)

          by : (o : Option Live) → mover p t ≡ o → row_of q k t key ≡ row_of p k t key
          by None none = row_free q k t (after.movers t ∙ ap (option_map adv) none) key ∙ after.client_rows k t key ∙ sym (row_free p k t none key)
          by (Some v) found =
              ap (λ o. row_by_mover q o k t key) (after.movers t ∙ ap (option_map adv) found ∙ ap Some (stays v found))
              ∙ by_other v (is_side v k && not (same_text (owner v) k)) ∙ sym (ap (λ o. row_by_mover p o k t key) found)

      row_same : (moves w t && in_lane w lane key) ≡ false → row_of q k t key ≡ row_of p k t key
      row_same none = by (moves w t) refl
        where
          by : (b : Bool) → moves w t ≡ b → row_of q k t key ≡ row_of p k t key
          by true m = other_lane m (sym (ap (λ b. b && in_lane w lane key) m) ∙ none)
          by false m = unmoved m

      at_owner : moves w t ≡ true → to ≢ k → row_of q k t key ≡ row_of p k t key
      at_owner moved other = by (is_side w k) refl
        where
          was_found : mover p t ≡ Some w
          was_found = known.found name w live t moved

          by : (b : Bool) → is_side w k ≡ b → row_of q k t key ≡ row_of p k t key
          by true side =
              let at : k ≡ owner w = side_either w stream k side (λ e. other (sym e)) ∙ owns in
              row_at_owner q k t w' (found_now t moved) key at ∙ after.client_rows k t key ∙ sym (row_at_owner p k t w was_found key at)
          by false none =
              row_elsewhere q k t w' (found_now t moved) key none ∙ after.client_rows k t key ∙ sym (row_elsewhere p k t w was_found key none)

    -- ---- rows at the side that is written

    copied_is : lane'.copied ≡ copied_after lane.copied read (places (to_copy value source read)) rows at_most
    copied_is =
        ap (λ es. copied_after lane.copied es (plain.to_copy p w lane es) rows at_most) (sym entries_are)
        ∙ copied_same lane.copied from from_shard read (plain.to_copy p w lane (map (entry_at from from_shard) read)) rows at_most
        ∙ ap (λ l. copied_after lane.copied read l rows at_most) (sym (copies_are read))

    module _ (t : List ℕ) (moved : moves w t ≡ true) (key : ℕ) (inside : in_lane w lane key ≡ true) where
      -- the row of the lane, before and behind it
      other_is : other_row p w t key ≡ lane_row p w lane t key
      other_is = ap (λ o. option_map_or (λ l. lane_row p w l t key) o None) (lane_here w shard lane laned key inside)

      sink_row : row_at sink t key ≡ lane_row p w lane t key
      sink_row =
          ap (λ n. row_at (old to n) t key) (sym (shard_written key inside))
          ∙ stands.rows to t (has_at_side p known name w live t moved to (written_is_side w stream)) key
          ∙ row_at_other p to t w (known.found name w live t moved) key (written_is_side w stream) (λ e. apart (owns ∙ sym e))
          ∙ other_is

      range_is : in_range w.tables lane'.copied t key ≡ in_range w.tables (copied_after lane.copied read (places (to_copy value source read)) rows at_most) t key
      range_is = ap (λ c. in_range w.tables c t key) copied_is

      other_now : other_row q w' t key
          ≡ cond (in_range w.tables (copied_after lane.copied read (places (to_copy value source read)) rows at_most) t key) (row_after_writes (take (lane.fed + more) all) (number_of p w.source t) key) None
      other_now =
          ap (λ o. option_map_or (λ l. lane_row q w' l t key) o None) (lane_of_here key inside)
          ∙ ap (λ ws. cond (in_range w.tables lane'.copied t key) (row_after_writes (take lane'.fed ws) (number_of p w.source t) key) None) writes_same
          ∙ ap (λ b. cond b (row_after_writes (take (lane.fed + more) all) (number_of p w.source t) key) None) range_is

      -- entries were read
      row_read : (c : RowChange) (cs : List RowChange) → read ≡ c ∷ cs → row_at new_sink t key ≡ other_row q w' t key
      row_read c cs e =
          puts.rows t key ∙ ap (fold (row_after_put t key) (row_at sink t key)) puts_are
          ∙ ap (λ l. fold (row_after_put t key) (row_at sink t key) (map put_of (filter (lane_test w lane) (take events read)) ++ take rows (to_copy value source l))) e
          ∙ ap (λ l. fold (row_after_put t key) (row_at sink t key) (map put_of (filter (lane_test w lane) (take events read)) ++ l)) (take_none {X = RowPut} rows)
          ∙ ap (fold (row_after_put t key) (row_at sink t key)) (append-nil (map put_of (filter (lane_test w lane) (take events read))))
          ∙ ap (λ r. fold (row_after_put t key) r (map put_of (filter (lane_test w lane) (take events read)))) sink_row
          ∙ by (in_range w.tables lane.copied t key) refl
          ∙ ap (λ l. cond (in_range w.tables (copied_after lane.copied l (places (to_copy value source l)) rows at_most) t key) (row_after_writes (take (lane.fed + more) all) (number_of p w.source t) key) None) (sym e)
          ∙ sym other_now
        where
          fed_more : take (lane.fed + more) all ≡ take lane.fed all ++ take more (drop lane.fed all)
          fed_more = take_more lane.fed more all

          by : (b : Bool) → in_range w.tables lane.copied t key ≡ b
              → fold (row_after_put t key) (lane_row p w lane t key) (map put_of (filter (lane_test w lane) (take events read)))
              ≡ cond (in_range w.tables lane.copied t key) (row_after_writes (take (lane.fed + more) all) (number_of p w.source t) key) None
          by true within =
              ap (λ b. fold (row_after_put t key) (cond b (row_after_writes (take lane.fed all) (number_of p w.source t) key) None) (map put_of (filter (lane_test w lane) (take events read)))) within
              ∙ fold_read p known name w live lane t key inside moved within (take events read) (row_after_writes (take lane.fed all) (number_of p w.source t) key)
              ∙ ap (fold (row_after_write (number_of p w.source t) key) (row_after_writes (take lane.fed all) (number_of p w.source t) key)) (sym read_writes)
              ∙ sym (fold-append (row_after_write (number_of p w.source t) key) None (take lane.fed all) (take more (drop lane.fed all)))
              ∙ ap (fold (row_after_write (number_of p w.source t) key) None) (sym fed_more)
              ∙ ap (λ b. cond b (row_after_writes (take (lane.fed + more) all) (number_of p w.source t) key) None) (sym within)
          by false outside =
              fold_passed p known name w live lane t key inside outside (take events read) (lane_row p w lane t key)
              ∙ ap (λ b. cond b (row_after_writes (take lane.fed all) (number_of p w.source t) key) None) outside
              ∙ ap (λ b. cond b (row_after_writes (take (lane.fed + more) all) (number_of p w.source t) key) None) (sym outside)

    -- ---- rows that are copied

    module _ (none : read ≡ []) (has : (t : List ℕ) → moves w t ≡ true → primary_words.has_table source t ≡ true) (after_q : KnownStreams q) (live_q : live_at q name ≡ Some w')
        (follows : FollowsSource value source sink → FollowsSource (stream_after value source at_most events rows) source new_sink) where
      at_end : length source.log.entries ≤ slot.position - source.log.purged
      at_end = let a = length-drop (slot.position - source.log.purged) source.log.entries in let b = ap length none in omega arith

      all_fed : length all ≤ lane.fed
      all_fed =
          let a = pending_length in let b = ap (λ l. length (filter (is_moved w lane) l)) none in
          let c = streams.counted name w live shard lane laned stream slot there owns in
          omega arith

      row_there : (position : ℕ) → slot.position ≤ position → (t : List ℕ) (key : ℕ) → row_at_position source position t key ≡ row_at source t key
      row_there position le t key = ap (λ l. option_map_or (λ (c : RowChange). c.before) (find (is_change_of t key) l) (row_at source t key)) (drop_all (position - source.log.purged) source.log.entries (let h = at_end in omega (arith, le, h)))

      copied_row : (t : List ℕ) → moves w t ≡ true → (key : ℕ) → in_lane w lane key ≡ true → in_range w.tables lane.copied t key ≡ true → other_row p w t key ≡ row_at source t key
      copied_row t moved key inside copied =
          sym (ap (fold (row_after_write (number_of p w.source t) key) (other_row p w t key)) (drop_all lane.fed all all_fed))
          ∙ streams.catches name w live t moved key lane (lane_here w shard lane laned key inside) copied ∙ ap (λ k. client_row p k t key) (sym owns)
          ∙ sym (source_row p known streams.reads old stands name w live shard lane laned split stream slot there is held runs t key moved inside)

      follows_now : FollowsSource value source sink
      follows_now = record {
        made = λ t named.
            let table = some_from (table_at source t) (has t named) in
            let made_is = ap (option_map (λ (s : TableState). s.made)) table.1 in
            (table.0.made, (made_is, (let a = is.made t table.0.made made_is in let b = at_end in omega (arith, a, b))));
        rows = λ t key named ranged.
            let inside : in_lane w lane key ≡ true = sym (split key) ∙ ranged in
            sink_row t named key inside ∙ by t key named inside (in_range w.tables lane.copied t key) refl;
      }
        where
          by : (t : List ℕ) (key : ℕ) → moves w t ≡ true → in_lane w lane key ≡ true → (b : Bool) → in_range w.tables lane.copied t key ≡ b
              → lane_row p w lane t key ≡ cond (in_range w.tables lane.copied t key) (row_at_position source slot.position t key) None
          by t key named inside true within =
              sym (other_is t named key inside) ∙ copied_row t named key inside within ∙ sym (row_there slot.position (omega arith) t key) ∙ ap (λ b. cond b (row_at_position source slot.position t key) None) (sym within)
          by t key named inside false outside =
              ap (λ b. cond b (row_after_writes (take lane.fed all) (number_of p w.source t) key) None) outside ∙ ap (λ b. cond b (row_at_position source slot.position t key) None) (sym outside)

      fed_all : length (lane_writes q w' lane') ≤ lane'.fed
      fed_all = let a = ap length writes_same in let b = all_fed in let c = fed_is in omega (arith, a, b, c)

      row_copied_now : (t : List ℕ) → moves w t ≡ true → (key : ℕ) → in_lane w lane key ≡ true → row_at new_sink t key ≡ other_row q w' t key
      row_copied_now t moved key inside =
          (follows follows_now).rows t key moved (split key ∙ inside)
          ∙ ap (λ b. cond b (row_at_position source (slot.position + events) t key) None) (sym (range_is t moved key inside))
          ∙ by (in_range w.tables lane'.copied t key) refl
        where
          now : other_row q w' t key ≡ lane_row q w' lane' t key
          now = ap (λ o. option_map_or (λ l. lane_row q w' l t key) o None) (lane_of_here key inside)

          by : (b : Bool) → in_range w.tables lane'.copied t key ≡ b → cond (in_range w.tables lane'.copied t key) (row_at_position source (slot.position + events) t key) None ≡ other_row q w' t key
          by true within =
              ap (λ b. cond b (row_at_position source (slot.position + events) t key) None) within ∙ row_there (slot.position + events) (omega arith) t key
              ∙ source_row p known streams.reads old stands name w live shard lane laned split stream slot there is held runs t key moved inside ∙ ap (λ k. client_row p k t key) owns
              ∙ sym (after.client_rows (owner w) t key)
              ∙ sym (after_q.catches name w' live_q t moved key lane' (lane_of_here key inside) within)
              ∙ ap (fold (row_after_write (number_of q w'.source t) key) (other_row q w' t key)) (drop_all lane'.fed (lane_writes q w' lane') fed_all)
          by false outside =
              ap (λ b. cond b (row_at_position source (slot.position + events) t key) None) outside
              ∙ ap (λ b. cond b (row_after_writes (take lane'.fed (lane_writes q w' lane')) (number_of q w'.source t) key) None) (sym outside) ∙ sym now

    -- ---- all of it

    module _ (at_sink : (t : List ℕ) → moves w t ≡ true → (key : ℕ) → in_lane w lane key ≡ true → row_at new_sink t key ≡ other_row q w' t key) (live_q : live_at q name ≡ Some w') where
      row_now : (k t : List ℕ) → has_table q k t ≡ true → (key : ℕ) → row_at (new k (shard_at p k key)) t key ≡ row_of q k t key
      row_now k t here key = by (moves w t) refl (in_lane w lane key) refl
        where
          before : row_at (old k (shard_at p k key)) t key ≡ row_of p k t key
          before = stands.rows k t (sym (after.present k t) ∙ here) key

          same : (moves w t && in_lane w lane key) ≡ false → row_at (new k (shard_at p k key)) t key ≡ row_of q k t key
          same none = untouched k t key (shard_at p k key) none ∙ before ∙ sym (row_same k t key none)

          written : moves w t ≡ true → in_lane w lane key ≡ true → row_at (new to (shard_at p to key)) t key ≡ row_of q to t key
          written moved inside =
              ap (λ n. row_at (new to n) t key) (shard_written key inside) ∙ at_sink t moved key inside
              ∙ sym (row_at_other q to t w' (found_now t moved) key (written_is_side w stream) (λ e. apart (owns ∙ sym e)))

          by : (b : Bool) → moves w t ≡ b → (i : Bool) → in_lane w lane key ≡ i → row_at (new k (shard_at p k key)) t key ≡ row_of q k t key
          by true moved true inside = ⊎_elim
              (λ (e : to ≡ k). subst (λ x. row_at (new x (shard_at p x key)) t key ≡ row_of q x t key) e (written moved inside))
              (λ (other : to ≢ k). ap (λ s. row_at s t key) (others k (shard_at p k key) (λ h i. other h)) ∙ before ∙ sym (at_owner k t key moved other))
              (same_or to k)
          by true moved false other = same (ap (λ b. b && in_lane w lane key) moved ∙ other)
          by false none i e = same (ap (λ b. b && in_lane w lane key) none)

      -- no row stands at another shard than that of its key
      apart_now : (k t : List ℕ) → has_table q k t ≡ true → (key n : ℕ) → shard_at p k key ≢ n → row_at (new k n) t key ≡ None
      apart_now k t here key n other = ⊎_elim at elsewhere (same_place to to_shard k n)
        where
          before : row_at (old k n) t key ≡ None
          before = stands.apart k t (sym (after.present k t) ∙ here) key n other

          elsewhere : (to ≡ k → to_shard ≡ n → ⊥) → row_at (new k n) t key ≡ None
          elsewhere no_sink = ap (λ s. row_at s t key) (others k n no_sink) ∙ before

          at : (to ≡ k) × (to_shard ≡ n) → row_at (new k n) t key ≡ None
          at e = untouched k t key n (by (in_lane w lane key) refl) ∙ before
            where
              by : (i : Bool) → in_lane w lane key ≡ i → (moves w t && in_lane w lane key) ≡ false
              by true inside = absurd (other (subst (λ x. shard_at p x key ≡ n) e.0 (shard_written key inside ∙ e.1)))
              by false out = ap (λ b. moves w t && b) out ∙ and_right (moves w t) false refl

      -- the lane that was advanced: its log is another one than that which was written
      lane_pending : IsPending q w' lane' (new (owner w) (owner_shard w lane)).log.entries
      lane_pending = subst (λ (x : PrimaryState). IsPending q w' lane' x.log.entries) (sym (ap (λ n. new (owner w) n) (sym owns_shard) ∙ ap (λ k. new k from_shard) (sym owns) ∙ others from from_shard (λ e i. apart (sym e))))
          (record {
            before = was.before ++ take more was.left;
            left = drop more was.left;
            entries =
                ap (λ n. filter (λ (c : RowChange). eqb (shard_of w.cuts c.key) n && moves w c.table) source.log.entries) shard_same ∙ was.entries
                ∙ ap (λ l. was.before ++ l) (sym (take-append-drop more was.left)) ∙ sym (append_assoc was.before (take more was.left) (drop more was.left));
            writes =
                sym (drop-map (write_of p w) more was.left) ∙ ap (drop more) was.writes ∙ drop_twice lane.fed more all ∙ ap (drop (lane.fed + more)) (sym writes_same);
            rows =
                sym (drop-map (λ (c : RowChange). c.before) more was.left) ∙ ap (drop more) was.rows ∙ drop_twice lane.fed more (rows_before [] all)
                ∙ ap (λ ws. drop (lane.fed + more) (rows_before [] ws)) (sym writes_same);
          })

      -- the lanes beside it: none of their logs is the one that was written
      beside_pending : (n : ℕ) (l : Lane) → lane_at w n ≡ Some l → IsPending q w' l (new (owner w) (owner_shard w l)).log.entries
      beside_pending n l e =
          let pend = stands.pending name w live n l e in
          subst (λ (x : PrimaryState). IsPending q w' l x.log.entries) (sym (others (owner w) (owner_shard w l) (λ h i. apart (owns ∙ sym h))))
          (record { before = pend.before; left = pend.left; entries = pend.entries; writes = pend.writes; rows = pend.rows })

      w_pending : (n : ℕ) (l : Lane) → lane_at w' n ≡ Some l → IsPending q w' l (new (owner w') (owner_shard w' l)).log.entries
      w_pending n l e = by (eqb n shard) refl
        where
          by : (b : Bool) → eqb n shard ≡ b → IsPending q w' l (new (owner w) (owner_shard w l)).log.entries
          by true at =
              let one : l ≡ lane' = some_is l lane' (sym e ∙ ap (lane_at w') (eqb-true n shard at) ∙ laned_now) in
              subst (λ x. IsPending q w' x (new (owner w) (owner_shard w x)).log.entries) (sym one)
              (subst (λ m. IsPending q w' lane' (new (owner w) m).log.entries) (ap (λ m. cond w.switched.primary m 0) (sym shard_same)) lane_pending)
          by false other = beside_pending n l (sym (beside n (eqb-false n shard other)) ∙ e)

      other_pending : (n : List ℕ) (v : Live) → live_at p n ≡ Some v → n ≢ name → (m : ℕ) (l : Lane) → lane_at v m ≡ Some l → IsPending q v l (new (owner v) (owner_shard v l)).log.entries
      other_pending n v found other m l e = ⊎_elim
          (λ (at : (to ≡ owner v) × (to_shard ≡ owner_shard v l)).
          subst (λ x. IsPending p v l (old x (owner_shard v l)).log.entries → IsPending q v l (new x (owner_shard v l)).log.entries) at.0
          (subst (λ x. IsPending p v l (old to x).log.entries → IsPending q v l (new to x).log.entries) at.1 at_sink_log) (stands.pending n v found m l e))
          (λ no_sink. subst (λ (x : PrimaryState). IsPending q v l x.log.entries) (sym (others (owner v) (owner_shard v l) no_sink)) (same (stands.pending n v found m l e)))
          (same_place to to_shard (owner v) (owner_shard v l))
        where
          same : {log : List RowChange} → IsPending p v l log → IsPending q v l log
          same pend = record { before = pend.before; left = pend.left; entries = pend.entries; writes = pend.writes; rows = pend.rows }

          tables_apart : (t : List ℕ) → moves w t ≡ true → moves v t ≡ false
          tables_apart t moved = by (moves v t) refl
            where
              by : (b : Bool) → moves v t ≡ b → moves v t ≡ false
              by false e = e
              by true e =
                  let one : v ≡ w = some_is v w (sym (known.found n v found t e) ∙ known.found name w live t moved) in
                  absurd (other (sym (streams.named n v found) ∙ ap (λ (u : Live). u.name) one ∙ streams.named name w live))

          at_sink_log : IsPending p v l sink.log.entries → IsPending q v l new_sink.log.entries
          at_sink_log pend = record {
            before = pend.before;
            left = pend.left;
            entries =
                ap (λ (log : LogState). filter (is_moved v l) log.entries) puts.log ∙ filter-append (is_moved v l) sink.log.entries (changes_by (row_at sink) (puts_of value source events rows))
                ∙ ap (λ es. filter (is_moved v l) sink.log.entries ++ es) (none_moved w v lane l tables_apart (row_at sink) (puts_of value source events rows) puts_moved)
                ∙ append-nil (filter (is_moved v l) sink.log.entries) ∙ pend.entries;
            writes = pend.writes;
            rows = pend.rows;
          }

      abbrev Pends : Live → Type 0
      Pends u = (m : ℕ) (l : Lane) → lane_at u m ≡ Some l → IsPending q u l (new (owner u) (owner_shard u l)).log.entries

      pending_now : (n : List ℕ) (u : Live) → live_at q n ≡ Some u → Pends u
      pending_now n u found = by (live_at p n) refl
        where
          of : (v : Live) → live_at p n ≡ Some v → (n ≡ name) ⊎ (n ≢ name) → Pends (adv v)
          of v was_found (inl e) =
              let one : v ≡ w = some_is v w (sym was_found ∙ ap (live_at p) e ∙ live) in
              subst Pends (sym (ap adv one ∙ adv_w)) w_pending
          of v was_found (inr e) =
              let stays : adv v ≡ v =
              ap (λ b. cond b (live_advanced p v stream shard slot.position at_most events rows) v) (differs v.name name (λ h. e (sym (streams.named n v was_found) ∙ h))) in
              subst Pends (sym stays) (other_pending n v was_found e)

          by : (o : Option Live) → live_at p n ≡ o → Pends u
          by None none = absurd (let h : Some u ≡ None = sym found ∙ after.live n ∙ ap (option_map adv) none in cc)
          by (Some v) was_found =
              let one : u ≡ adv v = some_is u (adv v) (sym found ∙ after.live n ∙ ap (option_map adv) was_found) in
              subst Pends (sym one) (of v was_found (same_or n name))

      pub advanced_stands : StreamsGoOn p q → RowsStand q new
      advanced_stands goes = record { log = log_now; rows = row_now; apart = apart_now; pending = pending_now; unread = unread_next p q old new stands (same_at_all (λ (s : PrimaryState). s.log.purged) old new to to_shard others (ap (λ (l : LogState). l.purged) puts.log)) goes }

      pub advanced_stream : IsStreamOf q name shard stream (stream_after value source at_most events rows)
      advanced_stream = record {
        live = w';
        lane = lane';
        slot = record { state = slot.state; position = slot.position + events };
        found = live_q;
        laned = laned_now;
        there = slot_goes w lane (slot.position + events) (lane.fed + more) lane'.copied stream ∙ ap (moved_to (slot.position + events)) there;
        is =
            ap (λ n. let x : StreamValue = record { tables = w.tables; range = range_at w.cuts n; copied = copied_after lane.copied read (places (to_copy value source read)) rows at_most; position = slot.position + events; state = slot.state } in x) (sym shard_same)
            ∙ ap (λ c. let x : StreamValue = record { tables = w.tables; range = range_at w.cuts lane'.shard; copied = c; position = slot.position + events; state = slot.state } in x) (sym copied_is);
      }

    module _ (has : (t : List ℕ) → moves w t ≡ true → primary_words.has_table source t ≡ true) (after_q : KnownStreams q)
        (follows : FollowsSource value source sink → FollowsSource (stream_after value source at_most events rows) source new_sink) where
      sink_now : (t : List ℕ) → moves w t ≡ true → (key : ℕ) → in_lane w lane key ≡ true → row_at new_sink t key ≡ other_row q w' t key
      sink_now t moved key inside = by read refl
        where
          by : (l : List RowChange) → read ≡ l → row_at new_sink t key ≡ other_row q w' t key
          by [] e = row_copied_now e has after_q live_now follows t moved key inside
          by (c ∷ cs) e = row_read t moved key inside c cs e

      pub advanced_keeps : StreamsGoOn p q → RowsStand q new × IsStreamOf q name shard stream (stream_after value source at_most events rows)
      advanced_keeps goes = (advanced_stands sink_now live_now goes, advanced_stream sink_now live_now)
