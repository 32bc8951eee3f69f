-- What an advance of a stream answers, in the primaries' words and in those of the state.
use Rattle.mt_names.specs.Shards.{shard_of}
use Rattle.mt_plain.specs.Slots.{is_entry_at, log_of}
use Rattle.std.proofs.Common.{◌≤◌}
use Rattle.std.proofs.Common.{◌≡◌, ℕ, zero, suc, ◌-◌, ◌⊎◌, Bool, true, false, not, cond, eqb, List, [], ◌∷◌, take, length, min, slice_get, None, Some, Result, Ok, Err, refl, sym, ap, ◌∙◌, subst, arith, inl, inr, ⊎_elim, map, eqb-true, ltb-true}
use Rattle.std.proofs.lemmas.Bool.{true≢false, eq-eqb, ltb-false, ne_eqb}
use Rattle.std.proofs.lemmas.List.{length-map, take-map}
use Rattle.std.proofs.lemmas.List.Sums.{length-filter}
use Rattle.std.specs.List.{find, list_any}
use Rattle.std.specs.Option.{option_map, option_map_or}
use Rattle.std.specs.Prelude.{◌&&◌, ◌||◌, nat_lt}
use Rattle.mt_store.specs.Log.{has_room}
use Rattle.mt_stands.proofs.LogLemmas.{log-length, log-past}
use Rattle.mt_names.specs.Names.{same_text}
use Rattle.mt_names.proofs.SameLemmas.{same_text_decides}
use Rattle.mt_model.specs.declared.rows.RowChange.{RowChange}
use Rattle.mt_model.specs.Limits.{longest_log}
use Rattle.mt_model.specs.Topology.{is_present}
use Rattle.mt_primary.specs.Primary.{end_of, IsPrimary, PrimaryState, row_at}
use Rattle.mt_plain.specs.Answers.{Answers, advanced_of, lane_advanced_of, range_at}
use Rattle.mt_plain.specs.Events.{StreamName, forward, back, StreamState, running, stopped, frozen, Slot, advance, advanced, full, stale, refused}
use Rattle.mt_plain.specs.Plain.{Lane, Live, LogEntry, Plain, in_lane, is_side, lane_at, live_at, moves, owner, shard_at}
use Rattle.mt_plain.specs.Refuse.{advance_at, advance_refusal, in_lane_at, in_workflow, or_else, refusal_of, refuse_if}
use Rattle.mt_plain.specs.Serve.{has_table}
use Rattle.mt_plain.specs.Slots.{log_length, read_shard, read_side, readable, room_in_log, running_at, running_by, slot_of, written_shard, written_side}
use Rattle.mt_plain.specs.Slots as plain
use Rattle.mt_plain.specs.Writes.{client_row, row_after_writes}
use Rattle.mt_stream.specs.declared.fault.StreamFault.{StreamFault}
use Rattle.mt_stream.specs.declared.fault.StreamFault.TheVariants as fault
use Rattle.mt_stream.specs.declared.stream.Advanced.{Advanced}
use Rattle.mt_stream.specs.Advance.{Advances, HasCounts, applies, may_be_cut, most_events, most_rows, places, refused_by, room_in, rows_left, to_copy, writes_any}
use Rattle.mt_stream.specs.Advance as stream_words
use Rattle.mt_stream.specs.Sources.{HasClientRows}
use Rattle.mt_stream.specs.Streams.{StreamValue, past}
use Rattle.mt_stands.specs.Answers.{answer_by_stream, refusal_by_stream}
use Rattle.mt_stands.specs.Rows.{HoldsItsKeys, Primaries, RowsStand, entry_at, stream_of}
use Rattle.mt_stands.proofs.FeedLemmas.{test_is}
use Rattle.mt_stands.proofs.KnownLemmas.{Known, client_at_side, has_at_source, owner_is_side, row_at_owner, some_is, source_is_side}

-- ---- lists

found_any : {X : Type 0} (test other : X → Bool) (xs : List X) (x : X) → find test xs ≡ Some x → other x ≡ true → list_any (λ y. test y && other y) xs ≡ true
found_any test other [] x e is = absurd cc
found_any {X} test other (y ∷ ys) x e is = by (λ f. found_any test other ys x f is) (test y) e
  where
    by : (find test ys ≡ Some x → list_any (λ z. test z && other z) ys ≡ true) → (b : Bool) → cond b (Some y) (find test ys) ≡ Some x → ((b && other y) || list_any (λ z. test z && other z) ys) ≡ true
    by again true f = ap (λ b. b || list_any (λ z. test z && other z) ys) (ap other (some_is y x f) ∙ is)
    by again false f = again f

none_left : (limit n : ℕ) → eqb (limit - n) 0 ≡ not (nat_lt n limit)
none_left limit n = by (nat_lt n limit) refl
  where
    by : (b : Bool) → nat_lt n limit ≡ b → eqb (limit - n) 0 ≡ not b
    by true e = let l = ltb-true n limit e in ne_eqb (limit - n) 0 (λ h. omega (arith, l, h))
    by false e = let l = ltb-false n limit e in eq-eqb (limit - n) 0 (omega (arith, l))

-- ---- entries of a primary's log, as the state has them

module _ (w : Live) (lane : Lane) (slot : Slot) (split : HoldsItsKeys w lane) (k : List ℕ) (n : ℕ) where
  abbrev test : RowChange → Bool
  test = applies (stream_of w lane slot)

  one : (c : RowChange) → plain.applies w lane (entry_at k n c) ≡ test c
  one c = sym (test_is w lane slot split c)

  any_entries : (cs : List RowChange) → list_any (plain.applies w lane) (map (entry_at k n) cs) ≡ list_any test cs
  any_entries [] = refl
  any_entries (c ∷ cs) = ap (λ b. b || list_any (plain.applies w lane) (map (entry_at k n) cs)) (one c) ∙ ap (λ b. test c || b) (any_entries cs)

  readable_entries : (room : ℕ) (cs : List RowChange) → readable (plain.applies w lane) room (map (entry_at k n) cs) ≡ readable test room cs
  readable_entries room [] = refl
  readable_entries room (c ∷ cs) =
      ap (λ b. cond (b && eqb room 0) 0 (suc (readable (plain.applies w lane) (cond b (room - 1) room) (map (entry_at k n) cs)))) (one c)
      ∙ ap (λ m. cond (test c && eqb room 0) 0 (suc m)) (readable_entries (cond (test c) (room - 1) room) cs)

  entry_next : (cs : List RowChange) (i : ℕ) → option_map_or (plain.applies w lane) (slice_get (map (entry_at k n) cs) i) false ≡ option_map_or test (slice_get cs i) false
  entry_next [] i = refl
  entry_next (c ∷ cs) zero = one c
  entry_next (c ∷ cs) (suc i) = entry_next cs i

-- ---- a live workflow's tables are at its sides

pub has_at_side : (p : Plain) → Known p → (name : List ℕ) (w : Live) → live_at p name ≡ Some w → (t : List ℕ) → moves w t ≡ true → (k : List ℕ) → is_side w k ≡ true → has_table p k t ≡ true
has_at_side p known name w live t moved k side = by (same_text w.source k) refl (same_text w.target k) refl side
  where
    at_target : same_text w.target k ≡ true → has_table p k t ≡ true
    at_target e =
        ap (λ b. cond b true (is_present p.topology.keyspaces k t))
        (found_any (λ v. moves v t) (λ v. same_text v.target k) p.lives w (known.found name w live t moved) e)

    by : (a : Bool) → same_text w.source k ≡ a → (b : Bool) → same_text w.target k ≡ b → (a || b) ≡ true → has_table p k t ≡ true
    by true a b e f = subst (λ x. has_table p x t ≡ true) ((same_text_decides w.source k).0 a) (has_at_source p known name w live t moved)
    by false a true e f = at_target e
    by false a false e f = absurd (true≢false (sym f))

-- ---- a stream of a live workflow

module _ (p : Plain) (known : Known p) (reads : (name : List ℕ) (w : Live) → live_at p name ≡ Some w → (lane : Lane) (stream : StreamName) (at : ℕ) → running_at (slot_of w lane stream) ≡ Some at → read_side w stream ≡ owner w)
    (at : Primaries) (stands : RowsStand p at) (name : List ℕ) (w : Live) (live : live_at p name ≡ Some w)
    (shard : ℕ) (lane : Lane) (laned : lane_at w shard ≡ Some lane) (split : HoldsItsKeys w lane)
    (stream : StreamName) (slot : Slot) (there : slot_of w lane stream ≡ Some slot) (is : IsPrimary (at (read_side w stream) (read_shard lane stream)))
    (held : (at (read_side w stream) (read_shard lane stream)).log.purged ≤ slot.position) where
  abbrev pub source : PrimaryState
  source = at (read_side w stream) (read_shard lane stream)

  abbrev pub sink : PrimaryState
  sink = at (written_side w stream) (written_shard lane stream)

  abbrev pub value : StreamValue
  value = stream_of w lane slot

  pub log_is : (k : List ℕ) (n : ℕ) → log_length p k n ≡ end_of (at k n)
  log_is k n = sym (length-filter (is_entry_at k n) p.log) ∙ log-length (log_of p k n) k n (at k n).log (stands.log k n)

  pub past_is : map (entry_at (read_side w stream) (read_shard lane stream)) (past value source) ≡ plain.past p w lane stream slot.position
  past_is = log-past (log_of p (read_side w stream) (read_shard lane stream)) (read_side w stream) (read_shard lane stream) source.log (stands.log (read_side w stream) (read_shard lane stream)) slot.position held

  room_is : room_in_log p (written_side w stream) (written_shard lane stream) ≡ room_in sink
  room_is = ap (λ n. longest_log - n) (log_is (written_side w stream) (written_shard lane stream))

  no_room : eqb (room_in_log p (written_side w stream) (written_shard lane stream)) 0 ≡ not (has_room sink.log)
  no_room = ap (λ n. eqb n 0) room_is ∙ none_left longest_log (end_of sink)

  module _ (runs : slot.state ≡ running) where
    pub reads_owner : read_side w stream ≡ owner w
    reads_owner = reads name w live lane stream slot.position (ap running_at there ∙ ap (λ state. running_by state slot.position) runs)

    pub side_read : is_side w (read_side w stream) ≡ true
    side_read = subst (λ k. is_side w k ≡ true) (sym reads_owner) (owner_is_side w)

    -- a key of the lane stands at the primary that is read
    pub shard_read : (key : ℕ) → in_lane w lane key ≡ true → shard_at p (read_side w stream) key ≡ read_shard lane stream
    shard_read key here = by stream
      where
        by : (name : StreamName) → shard_at p (read_side w name) key ≡ read_shard lane name
        by forward = known.source_one name w live key
        by back = known.target_by name w live key ∙ eqb-true (shard_of w.cuts key) lane.shard here

    pub source_row : (table : List ℕ) (key : ℕ) → moves w table ≡ true → in_lane w lane key ≡ true → row_at source table key ≡ client_row p (read_side w stream) table key
    source_row table key moved here =
        ap (λ n. row_at (at (read_side w stream) n) table key) (sym (shard_read key here))
        ∙ stands.rows (read_side w stream) table (has_at_side p known name w live table moved (read_side w stream) side_read) key
        ∙ row_at_owner p (read_side w stream) table w (known.found name w live table moved) key reads_owner

    pub client_rows : HasClientRows p w lane source
    client_rows = record {
      moved = known.found name w live;
      rows = λ table key moved here.
          let found = known.found name w live table moved in
          source_row table key moved here
          ∙ ap (λ n. row_after_writes p.writes n key) (client_at_side p w table found (read_side w stream) side_read ∙ sym (client_at_side p w table found w.source (source_is_side w)));
    }

    module _ (left_is : places (rows_left source (range_at w.cuts lane.shard) w.tables lane.copied) ≡ plain.uncopied p w lane) where
      pub copy_places : (cs : List RowChange) → places (to_copy value source cs) ≡ plain.to_copy p w lane (map (entry_at (read_side w stream) (read_shard lane stream)) cs)
      copy_places [] = left_is
      copy_places (c ∷ cs) = refl

      copy_length : (cs : List RowChange) → length (plain.to_copy p w lane (map (entry_at (read_side w stream) (read_shard lane stream)) cs)) ≡ length (to_copy value source cs)
      copy_length cs = sym (ap length (copy_places cs)) ∙ length-map (to_copy value source cs) (λ put. (put.table, put.key))

      module _ (at_most : ℕ) where
        taken : (cs : List RowChange) (n : ℕ) → list_any (plain.applies w lane) (take n (map (entry_at (read_side w stream) (read_shard lane stream)) cs)) ≡ list_any (applies value) (take n cs)
        taken cs n = ap (list_any (plain.applies w lane)) (take-map (entry_at (read_side w stream) (read_shard lane stream)) n cs) ∙ any_entries w lane slot split (read_side w stream) (read_shard lane stream) (take n cs)

        writes_by : (cs : List RowChange)
            → (list_any (plain.applies w lane) (take at_most (map (entry_at (read_side w stream) (read_shard lane stream)) cs)) || nat_lt 0 (min at_most (length (plain.to_copy p w lane (map (entry_at (read_side w stream) (read_shard lane stream)) cs)))))
            ≡ (list_any (applies value) (take at_most cs) || nat_lt 0 (min at_most (length (to_copy value source cs))))
        writes_by cs = ap (λ b. b || nat_lt 0 (min at_most (length (plain.to_copy p w lane (map (entry_at (read_side w stream) (read_shard lane stream)) cs))))) (taken cs at_most)
            ∙ ap (λ n. list_any (applies value) (take at_most cs) || nat_lt 0 (min at_most n)) (copy_length cs)

        pub writes_is : plain.writes_any p w lane stream slot.position at_most ≡ writes_any value source at_most
        writes_is =
            ap (λ es. list_any (plain.applies w lane) (take at_most es) || nat_lt 0 (min at_most (length (plain.to_copy p w lane es)))) (sym past_is)
            ∙ writes_by (past value source)

        events_is : plain.most_events p w lane stream slot.position at_most ≡ most_events value source sink at_most
        events_is =
            ap (λ room. readable (plain.applies w lane) room (take at_most (plain.past p w lane stream slot.position))) room_is
            ∙ ap (λ es. readable (plain.applies w lane) (room_in sink) (take at_most es)) (sym past_is)
            ∙ ap (readable (plain.applies w lane) (room_in sink)) (take-map (entry_at (read_side w stream) (read_shard lane stream)) at_most (past value source))
            ∙ readable_entries w lane slot split (read_side w stream) (read_shard lane stream) (room_in sink) (take at_most (past value source))

        rows_is : plain.most_rows p w lane stream slot.position at_most ≡ most_rows value source sink at_most
        rows_is =
            ap (λ room. min room (min at_most (length (plain.to_copy p w lane (plain.past p w lane stream slot.position))))) room_is
            ∙ ap (λ es. min (room_in sink) (min at_most (length (plain.to_copy p w lane es)))) (sym past_is)
            ∙ ap (λ n. min (room_in sink) (min at_most n)) (copy_length (past value source))

        cut_is : (events rows : ℕ) → plain.may_be_cut p w lane stream slot.position at_most events rows ≡ may_be_cut value source sink at_most events rows
        cut_is events rows =
            ap (λ n. cut n (plain.most_rows p w lane stream slot.position at_most) (plain.past p w lane stream slot.position)) events_is
            ∙ ap (λ n. cut (most_events value source sink at_most) n (plain.past p w lane stream slot.position)) rows_is
            ∙ ap (cut (most_events value source sink at_most) (most_rows value source sink at_most)) (sym past_is)
            ∙ ap (λ b. (eqb rows 0 && nat_lt events (most_events value source sink at_most) && b && option_map_or (plain.applies w lane) (slice_get (map (entry_at (read_side w stream) (read_shard lane stream)) (past value source)) events) false)
            || (eqb events 0 && nat_lt 0 rows && nat_lt rows (most_rows value source sink at_most))) (taken (past value source) events)
            ∙ ap (λ b. (eqb rows 0 && nat_lt events (most_events value source sink at_most) && list_any (applies value) (take events (past value source)) && b)
            || (eqb events 0 && nat_lt 0 rows && nat_lt rows (most_rows value source sink at_most))) (entry_next w lane slot split (read_side w stream) (read_shard lane stream) (past value source) events)
          where
            cut : ℕ → ℕ → List LogEntry → Bool
            cut most most_copied es =
                (eqb rows 0 && nat_lt events most && list_any (plain.applies w lane) (take events es) && option_map_or (plain.applies w lane) (slice_get es events) false)
                || (eqb events 0 && nat_lt 0 rows && nat_lt rows most_copied)

  -- ---- the refusals

  module _ (left : slot.state ≡ running → places (rows_left source (range_at w.cuts lane.shard) w.tables lane.copied) ≡ plain.uncopied p w lane) (position at_most : ℕ) where
    told_running : slot.state ≡ running
        → or_else (refuse_if (not (eqb position slot.position)) (stale slot.position)) (refuse_if (plain.writes_any p w lane stream slot.position at_most && eqb (room_in_log p (written_side w stream) (written_shard lane stream)) 0) full)
        ≡ option_map refusal_by_stream (cond (eqb position slot.position) (cond (writes_any value source at_most && not (has_room sink.log)) (Some fault.LogFull) None) (Some (fault.Stale slot.position)))
    told_running runs =
        ap (λ b. or_else (refuse_if (not (eqb position slot.position)) (stale slot.position)) (refuse_if (b && eqb (room_in_log p (written_side w stream) (written_shard lane stream)) 0) full)) (writes_is runs (left runs) at_most)
        ∙ ap (λ b. or_else (refuse_if (not (eqb position slot.position)) (stale slot.position)) (refuse_if (writes_any value source at_most && b) full)) no_room
        ∙ by (eqb position slot.position) (writes_any value source at_most && not (has_room sink.log))
      where
        by : (a b : Bool) → or_else (refuse_if (not a) (stale slot.position)) (refuse_if b full) ≡ option_map refusal_by_stream (cond a (cond b (Some fault.LogFull) None) (Some (fault.Stale slot.position)))
        by true true = refl
        by true false = refl
        by false b = refl

    pub told : refusal_of p (advance name stream shard position at_most) ≡ option_map refusal_by_stream (stream_words.refusal_of value source sink position at_most)
    told =
        ap (λ o. in_workflow o (advance_refusal p stream shard position at_most)) live
        ∙ ap (λ o. in_lane_at o (λ l. advance_at p w l stream position at_most (running_at (slot_of w l stream)))) laned
        ∙ ap (λ o. advance_at p w lane stream position at_most (running_at o)) there
        ∙ by slot.state refl
      where
        by : (state : StreamState) → slot.state ≡ state
            → advance_at p w lane stream position at_most (running_by state slot.position)
            ≡ option_map refusal_by_stream (refused_by state (cond (eqb position slot.position) (cond (writes_any value source at_most && not (has_room sink.log)) (Some fault.LogFull) None) (Some (fault.Stale slot.position))))
        by running e = told_running e
        by stopped e = refl
        by frozen e = refl

    -- an advance that isn't refused finds the stream running, at its position
    pub ran : stream_words.refusal_of value source sink position at_most ≡ None → (slot.state ≡ running) × (position ≡ slot.position)
    ran none = by slot.state refl (eqb position slot.position) refl none
      where
        by : (state : StreamState) → slot.state ≡ state → (b : Bool) → eqb position slot.position ≡ b
            → refused_by state (cond b (cond (writes_any value source at_most && not (has_room sink.log)) (Some fault.LogFull) None) (Some (fault.Stale slot.position))) ≡ None
            → (slot.state ≡ running) × (position ≡ slot.position)
        by running e true f none = (e, eqb-true position slot.position f)
        by running e false f none = absurd cc
        by stopped e b f none = absurd cc
        by frozen e b f none = absurd cc

    -- ---- the counts

    counted : (events rows : ℕ) → slot.state ≡ running → HasCounts value source sink at_most events rows
        → (advanced events rows ≡ lane_advanced_of p stream slot.position at_most w (Some lane)) ⊎ (plain.may_be_cut p w lane stream slot.position at_most events rows ≡ true)
    counted events rows runs (inl counts) =
        inl (ap (λ n. advanced n rows) (counts.0 ∙ sym (events_is runs (left runs) at_most)) ∙ ap (advanced (plain.most_events p w lane stream slot.position at_most)) (counts.1 ∙ sym (rows_is runs (left runs) at_most)))
    counted events rows runs (inr cut) = inr (cut_is runs (left runs) at_most events rows ∙ cut)

    pub answered : (events rows : ℕ) → stream_words.refusal_of value source sink position at_most ≡ None → HasCounts value source sink at_most events rows
        → Answers p (advance name stream shard position at_most) (advanced events rows)
    answered events rows none counts =
        let r = ran none in (
          told ∙ ap (option_map refusal_by_stream) none,
          ⊎_elim
              (λ all. inl (all ∙ sym (ap (lane_advanced_of p stream slot.position at_most w) laned) ∙ sym (ap (advanced_of p stream shard slot.position at_most) live) ∙ ap (λ n. advanced_of p stream shard n at_most (live_at p name)) (sym r.1)))
              (λ cut. inr (ap (λ o. option_map_or (λ v. option_map_or (λ l. plain.may_be_cut p v l stream position at_most events rows) (lane_at v shard) false) o false) live ∙ ap (λ o. option_map_or (λ l. plain.may_be_cut p w l stream position at_most events rows) o false) laned ∙ ap (λ n. plain.may_be_cut p w lane stream n at_most events rows) r.1 ∙ cut))
              (counted events rows r.0 counts),
        )

    pub stream_refused : (f : StreamFault) (new : StreamValue) (new_sink : PrimaryState) → Advances value source sink position at_most (Err f) new new_sink
        → Answers p (advance name stream shard position at_most) (refused (refusal_by_stream f))
    stream_refused fault.Memory new new_sink did =
        let r = ran did.0 in (
          told ∙ ap (option_map refusal_by_stream) did.0,
          ap (λ o. option_map_or (λ v. option_map_or (λ l. plain.writes_any p v l stream position at_most) (lane_at v shard) false) o false) live ∙ ap (λ o. option_map_or (λ l. plain.writes_any p w l stream position at_most) o false) laned ∙ ap (λ n. plain.writes_any p w lane stream n at_most) r.1 ∙ writes_is r.0 (left r.0) at_most ∙ did.1,
        )
    stream_refused (fault.Stale n) new new_sink did = told ∙ ap (option_map refusal_by_stream) did.0
    stream_refused fault.Stopped new new_sink did = told ∙ ap (option_map refusal_by_stream) did.0
    stream_refused fault.Frozen new new_sink did = told ∙ ap (option_map refusal_by_stream) did.0
    stream_refused fault.LogFull new new_sink did = told ∙ ap (option_map refusal_by_stream) did.0

    pub stream_answers : (result : Result Advanced StreamFault) (new : StreamValue) (new_sink : PrimaryState) → Advances value source sink position at_most result new new_sink
        → Answers p (advance name stream shard position at_most) (answer_by_stream result)
    stream_answers (Ok counts) new new_sink did = answered counts.events counts.rows did.0 did.1.counts
    stream_answers (Err f) new new_sink did = stream_refused f new new_sink did
