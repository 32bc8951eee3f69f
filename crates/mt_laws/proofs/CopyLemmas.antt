-- The copy at the side that isn't the owner, and the tests that nothing is left to be fed.
use Rattle.std.proofs.Common.{◌≡◌, ◌≢◌, ◌↔◌, ◌⊎◌, inl, inr, ℕ, ◌≤◌, Bool, true, false, not, cond, eqb, ltb, leb, List, [], ◌∷◌, take, length, filter, map, Option, None, Some, is_some, refl, sym, ap, ◌∙◌, subst, arith, eqb-true}
use Rattle.std.proofs.Math.Bool.{and-false}
use Rattle.std.proofs.lemmas.Bool.{ltb-false, true≢false, eq-eqb, and_parts, not-false, or_right}
use Rattle.std.proofs.lemmas.List.{take_all}
use Rattle.std.specs.List.{fold, list_any, flat_map}
use Rattle.std.specs.Option.{option_map_or}
use Rattle.std.specs.Prelude.{◌&&◌, ◌||◌}
use Rattle.mt_names.specs.declared.types.TabletType.{TabletType}
use Rattle.mt_names.specs.Names.{same_text}
use Rattle.mt_names.specs.Shards.{shard_of}
use Rattle.mt_names.proofs.SameLemmas.{same_text_decides}
use Rattle.mt_model.specs.Rows.{Row}
use Rattle.mt_plain.specs.Answers.{Answers}
use Rattle.mt_plain.specs.Events.{Event, read, step, StreamName, Refusal, full, no_watcher, not_level, nothing_under_way, stale, undoing, Answer, done, row, refused, Way}
use Rattle.mt_plain.specs.Next.{closes, lane_closed, lane_stepped, next}
use Rattle.mt_plain.specs.Plain.{Copied, not_begun, up_to, Lane, Live, changes_primary, create_back, in_lane, lane_of, LogEntry, Plain, Write, catch_up, is_side, live_at, mover, moves, next_step, number_of, owner, refresh_source, refresh_target, switch_reads, write_journal, lane_at, ended}
use Rattle.mt_plain.specs.Refuse.{advance_at, in_workflow, is_behind, lane_is_behind, is_of_primary, is_still_copying, most_journal_entries, new_owner, old_owner, or_else, own_refusal, refusal_of, refuse_if, step_refusal, will_read_other_side}
use Rattle.mt_plain.specs.Slots.{copied_after, keys_of_rows, past, room_in_log, to_copy, uncopied, writes_any, written_shard, written_side, lane_advanced}
use Rattle.mt_plain.specs.Writes.{client_number, client_row, in_range, is_write_to, lane_row, lane_writes, other_row, row_after_write, row_after_writes, row_by_mover, row_of, writes_to}
use Rattle.mt_laws.specs.Copies.{tests_level}
use Rattle.mt_laws.specs.WayBack.{IsReached}
use Rattle.mt_laws.proofs.ChangeLemmas.{made_live, live_after, lives_after}
use Rattle.mt_laws.proofs.KeepLemmas.{next_has}
use Rattle.mt_laws.proofs.LaneLemmas.{EachLane, IsNumbered, KeepsLane, in_its_lane, lane_found, lane_of_key, reached_lanes, reached_numbered, lane_at_it, lanes_kept, shard-advanced, shard-stepped}
use Rattle.mt_laws.proofs.LiveLemmas.{IsIn, find_some, find_the_one, text_differs}
use Rattle.mt_laws.proofs.ReachLemmas.{reached_has_parts, live_by_name}
use Rattle.mt_laws.proofs.RefusalLemmas.{or_else-none, refuse_if-none, reverse-none, switch-none}
use Rattle.mt_laws.proofs.WritableLemmas.{side_by-is_side}

-- ---- the tests of the level

abbrev own_by : (at_reads at_source at_catch_up at_journal at_target will behind one two three : Bool) → Option Refusal
own_by at_reads at_source at_catch_up at_journal at_target will behind one two three =
    cond at_reads (refuse_if (will && behind) not_level) (cond at_source (refuse_if one no_watcher) (cond at_catch_up (refuse_if behind not_level)
    (cond at_journal (refuse_if two full) (cond at_target (refuse_if three no_watcher) None))))

refuse_other : (test : Bool) (refusal : Refusal) → refusal ≢ not_level → refuse_if test refusal ≡ Some not_level → ⊥
refuse_other true refusal other e = other cc
refuse_other false refusal other e = absurd cc

refuse_same : (test : Bool) (refusal : Refusal) → refuse_if test refusal ≡ Some refusal → test ≡ true
refuse_same true refusal e = refl
refuse_same false refusal e = absurd cc

own-level : (a b c d t will behind one two three : Bool) → own_by a b c d t will behind one two three ≡ Some not_level → ((c || a && will) ≡ true) × (behind ≡ true)
own-level true b c d t will behind one two three e =
    let r = and_parts will behind (refuse_same (will && behind) not_level e) in (or_right c will r.0, r.1)
own-level false true c d t will behind one two three e = absurd (refuse_other one no_watcher (λ x. absurd cc) e)
own-level false false true d t will behind one two three e = (refl, refuse_same behind not_level e)
own-level false false false true t will behind one two three e = absurd (refuse_other two full (λ x. absurd cc) e)
own-level false false false false true will behind one two three e = absurd (refuse_other three no_watcher (λ x. absurd cc) e)
own-level false false false false false will behind one two three e = absurd cc

own-refused : (a b c d t will behind one two three : Bool) → (c ≡ true → (a ≡ false) × (b ≡ false)) → (c || a && will) ≡ true → behind ≡ true → own_by a b c d t will behind one two three ≡ Some not_level
own-refused true b true d t will behind one two three apart e f = absurd (true≢false (apart refl).0)
own-refused true b false d t will behind one two three apart e f = rw (e, f) refl
own-refused false true true d t will behind one two three apart e f = absurd (true≢false (apart refl).1)
own-refused false false true d t will behind one two three apart e f = rw f refl
own-refused false b false d t will behind one two three apart e f = absurd (true≢false (sym e))

own-none : (a b c d t will behind one two three : Bool) → (c ≡ true → (a ≡ false) × (b ≡ false)) → (c || a && will) ≡ true → own_by a b c d t will behind one two three ≡ None → behind ≡ false
own-none true b true d t will behind one two three apart e none = absurd (true≢false (apart refl).0)
own-none true b false d t will behind one two three apart e none = sym (ap (λ x. x && behind) e) ∙ refuse_if-none (will && behind) not_level none
own-none false true true d t will behind one two three apart e none = absurd (true≢false (apart refl).1)
own-none false false true d t will behind one two three apart e none = refuse_if-none behind not_level none
own-none false b false d t will behind one two three apart e none = absurd (true≢false (sym e))

-- a step is one
apart_steps : (n : ℕ) → eqb n catch_up ≡ true → (eqb n switch_reads ≡ false) × (eqb n refresh_source ≡ false)
apart_steps n e = let is = eqb-true n catch_up e in (ap (λ m. eqb m 0) is, ap (λ m. eqb m 2) is)

module _ (p : Plain) (name : List ℕ) (w : Live) (way : Way) (live : live_at p name ≡ Some w) (opens : w.way ≡ Some way) where
  abbrev own : Option Refusal
  own = own_refusal p w way (next_step way)

  -- what refuses a step, by the number that it asks for
  refusal_at : (at : ℕ) → refusal_of p (step name at) ≡ or_else (refuse_if way.undoing undoing) (or_else (refuse_if (not (eqb at way.done)) (stale way.done)) own)
  refusal_at at = ap (λ o. in_workflow o (step_refusal p at)) live ∙ ap (λ o. option_map_or by_way o (Some nothing_under_way)) opens
    where
      by_way : Way → Option Refusal
      by_way v = or_else (refuse_if v.undoing undoing) (or_else (refuse_if (not (eqb at v.done)) (stale v.done)) (own_refusal p w v (next_step v)))

  refusal_now : way.undoing ≡ false → refusal_of p (step name way.done) ≡ own
  refusal_now goes_on =
      refusal_at way.done ∙ ap (λ u. or_else (refuse_if u undoing) (or_else (refuse_if (not (eqb way.done way.done)) (stale way.done)) own)) goes_on
      ∙ ap (λ t. or_else (refuse_if (not t) (stale way.done)) own) (eq-eqb way.done way.done refl)

  abbrev at_step : ℕ → Bool
  at_step number = eqb (next_step way) number

  abbrev unwatched : List ℕ → Bool
  unwatched keyspace = not (list_any (is_of_primary keyspace) p.scopes)

  abbrev will : Bool
  will = will_read_other_side w way

  pub not_level_if : way.undoing ≡ false → Answers p (step name way.done) (refused not_level) ↔ (tests_level w way ≡ true) × (is_behind p w ≡ true)
  not_level_if goes_on = (
    λ given. own-level (at_step switch_reads) (at_step refresh_source) (at_step catch_up) (at_step write_journal) (at_step refresh_target) will (is_behind p w) (unwatched (old_owner w)) (leb most_journal_entries p.journal) (unwatched (new_owner w)) (sym (refusal_now goes_on) ∙ given),
    λ is. refusal_now goes_on ∙ own-refused (at_step switch_reads) (at_step refresh_source) (at_step catch_up) (at_step write_journal) (at_step refresh_target) will (is_behind p w) (unwatched (old_owner w)) (leb most_journal_entries p.journal) (unwatched (new_owner w)) (apart_steps (next_step way)) is.0 is.1,
  )

  -- a step that tests the level and is taken finds nothing left
  pub level_if_taken : (at : ℕ) → tests_level w way ≡ true → Answers p (step name at) done → is_behind p w ≡ false
  level_if_taken at tests given =
      let rest = or_else (refuse_if (not (eqb at way.done)) (stale way.done)) own in
      let r = or_else-none (refuse_if way.undoing undoing) rest (sym (refusal_at at) ∙ given.0) in
      let none = (or_else-none (refuse_if (not (eqb at way.done)) (stale way.done)) own r.1).1 in
      own-none (at_step switch_reads) (at_step refresh_source) (at_step catch_up) (at_step write_journal) (at_step refresh_target) will (is_behind p w) (unwatched (old_owner w)) (leb most_journal_entries p.journal) (unwatched (new_owner w)) (apart_steps (next_step way)) tests none

-- so nothing is left in any lane
pub none_of_any : {X : Type 0} (test : X → Bool) (xs : List X) → list_any test xs ≡ false → (x : X) → IsIn x xs → test x ≡ false
none_of_any test [] e x is = absurd is
none_of_any test (y ∷ ys) e x is = by (λ h i. none_of_any test ys h x i) (test y) refl is
  where
    by : (list_any test ys ≡ false → IsIn x ys → test x ≡ false) → (t : Bool) → test y ≡ t → (y ≡ x) ⊎ IsIn x ys → test x ≡ false
    by again true t is = absurd (true≢false (sym (ap (λ b. b || list_any test ys) t) ∙ e))
    by again false t (inl same) = ap test (sym same) ∙ t
    by again false t (inr is) = again (sym (ap (λ b. b || list_any test ys) t) ∙ e) is

pub lane_level : (p : Plain) (w : Live) → is_behind p w ≡ false → (lane : Lane) → IsIn lane w.lanes → length (lane_writes p w lane) ≤ lane.fed
lane_level p w level lane is = ltb-false lane.fed (length (lane_writes p w lane)) (none_of_any (lane_is_behind p w) w.lanes level lane is)

-- ---- what is fed is all there is

-- a list without the items that change nothing
pub fold_filter : {A B : Type 0} (f : B → A → B) (test : A → Bool) (xs : List A) (first : B) → ((x : A) (b : B) → test x ≡ false → f b x ≡ b) → fold f first (filter test xs) ≡ fold f first xs
fold_filter f test [] first same = refl
fold_filter {A} {B} f test (x ∷ xs) first same = by (λ b. fold_filter f test xs b same) (test x) refl
  where
    by : ((b : B) → fold f b (filter test xs) ≡ fold f b xs) → (t : Bool) → test x ≡ t → fold f first (cond (test x) (x ∷ filter test xs) (filter test xs)) ≡ fold f (f first x) xs
    by again true t = rw t (again (f first x))
    by again false t = rw t (again first ∙ ap (λ b. fold f b xs) (sym (same x first t)))

-- a test that a moved table passes
pub any_moved : (test : List ℕ → Bool) (tables : List (List ℕ)) (table : List ℕ) → list_any (λ t. same_text t table) tables ≡ true → test table ≡ true → list_any test tables ≡ true
any_moved test [] table e holds = absurd (true≢false (sym e))
any_moved test (t ∷ ts) table e holds = by (same_text t table) refl (any_moved test ts table)
  where
    by : (b : Bool) → same_text t table ≡ b → (list_any (λ x. same_text x table) ts ≡ true → test table ≡ true → list_any test ts ≡ true) → (test t || list_any test ts) ≡ true
    by true b again = ap (λ x. x || list_any test ts) (ap test ((same_text_decides t table).0 b) ∙ holds)
    by false b again = or_right (test t) (list_any test ts) (again (rw b at e) holds)

module _ (p : Plain) (w : Live) (table : List ℕ) (moved : moves w table ≡ true) (key : ℕ) where
  abbrev number : ℕ
  number = number_of p w.source table

  -- a write to no table of the workflow leaves the row
  pub other_write : (write : Write) (before : Row) → is_write_to p w write ≡ false → row_after_write number key before write ≡ before
  other_write write before other = by (eqb write.table number) refl
    where
      by : (t : Bool) → eqb write.table number ≡ t → row_after_write number key before write ≡ before
      by true t =
          let here : eqb number write.table ≡ true = eq-eqb number write.table (sym (eqb-true write.table number t)) in
          absurd (true≢false (sym (any_moved (λ x. eqb (number_of p w.source x) write.table) w.tables table moved here) ∙ other))
      by false t = rw t refl

  -- a write with a key in another shard leaves it too
  pub other_lane : (lane : Lane) → in_lane w lane key ≡ true → (write : Write) (before : Row) → in_lane w lane write.key ≡ false → row_after_write number key before write ≡ before
  other_lane lane inside write before other = by (eqb write.key key) refl
    where
      by : (t : Bool) → eqb write.key key ≡ t → cond (eqb write.table number && eqb write.key key) write.after before ≡ before
      by true t = absurd (true≢false (sym inside ∙ ap (in_lane w lane) (sym (eqb-true write.key key t)) ∙ other))
      by false t = ap (λ b. cond (eqb write.table number && b) write.after before) t ∙ ap (λ b. cond b write.after before) (and-false (eqb write.table number))

  pub all_fed : (lane : Lane) → in_lane w lane key ≡ true → length (lane_writes p w lane) ≤ lane.fed → row_after_writes (take lane.fed (lane_writes p w lane)) number key ≡ row_after_writes p.writes number key
  all_fed lane inside level =
      ap (λ ws. row_after_writes ws number key) (take_all lane.fed (lane_writes p w lane) level)
      ∙ fold_filter (row_after_write number key) (λ write. in_lane w lane write.key) (writes_to p w) None (other_lane lane inside)
      ∙ fold_filter (row_after_write number key) (is_write_to p w) p.writes None (λ write before other. other_write write before other)

  pub client_number-side : mover p table ≡ Some w → (keyspace : List ℕ) → is_side w keyspace ≡ true → client_number p keyspace table ≡ number
  client_number-side found keyspace side =
      ap (λ o. number_of p (option_map_or (λ v. cond (is_side v keyspace) v.source keyspace) o keyspace) table) found
      ∙ ap (λ t. number_of p (cond t w.source keyspace) table) side

  -- where all is fed in the lane of a key, its copied range has the row of the owner
  pub copied_row : mover p table ≡ Some w → (lane : Lane) → lane_of w key ≡ Some lane → in_range w.tables lane.copied table key ≡ true → length (lane_writes p w lane) ≤ lane.fed → other_row p w table key ≡ client_row p (owner w) table key
  copied_row found lane here copied level =
      ap (λ o. option_map_or (λ x. lane_row p w x table key) o None) here
      ∙ ap (λ t. cond t (row_after_writes (take lane.fed (lane_writes p w lane)) number key) None) copied ∙ all_fed lane (in_its_lane w key lane here) level
      ∙ ap (λ n. row_after_writes p.writes n key) (sym (client_number-side found (owner w) (side_by-is_side w w.switched.primary)))

-- ---- a copy has ended where something is switched, or a way is open

abbrev pub IsBusy : Live → Type 0
IsBusy w = (is_some w.way || (w.switched.primary || (w.switched.replica || w.switched.rdonly))) ≡ true

abbrev pub IsEnded : Live → Lane → Type 0
IsEnded w lane = IsBusy w → lane.copied ≡ ended

ended_open : (w : Live) (lane : Lane) (way : Way) → w.way ≡ Some way → IsEnded w lane → lane.copied ≡ ended
ended_open w lane way opens holds = holds (ap (λ o. is_some o || (w.switched.primary || (w.switched.replica || w.switched.rdonly))) opens)

not_copying : (c : Copied) → is_still_copying c ≡ false → c ≡ ended
not_copying not_begun e = absurd (true≢false e)
not_copying (up_to table key) e = absurd (true≢false e)
not_copying ended e = refl

share-any : (a b c x y z : Bool) → ((a && x || b && y) || c && z) ≡ true → (x || (y || z)) ≡ true
share-any a b c true y z e = refl
share-any a b c false true z e = refl
share-any a b c false false true e = refl
share-any a b c false false false e = absurd (true≢false (sym e ∙ rw (and-false a, and-false b, and-false c) refl))

-- a step leaves the copy
copy-cond : {A : Type 0} (field : Lane → A) (t : Bool) (a b : Lane) (x : A) → field a ≡ x → field b ≡ x → field (cond t a b) ≡ x
copy-cond field true a b x e f = e
copy-cond field false a b x e f = f

module _ (p : Plain) (w : Live) (way : Way) (lane : Lane) where
  pub copied-stepped : (lane_stepped p w way lane).copied ≡ lane.copied
  copied-stepped =
      copy-cond (λ l. l.copied) (eqb (next_step way) create_back) _ _ lane.copied refl
      (copy-cond (λ l. l.copied) (closes way && changes_primary way) (lane_closed way lane) lane lane.copied (copy-cond (λ l. l.copied) way.back _ _ lane.copied refl refl) refl)

  pub fed-stepped : (lane_stepped p w way lane).fed ≡ lane.fed
  fed-stepped =
      copy-cond (λ l. l.fed) (eqb (next_step way) create_back) _ _ lane.fed refl
      (copy-cond (λ l. l.fed) (closes way && changes_primary way) (lane_closed way lane) lane lane.fed (copy-cond (λ l. l.fed) way.back _ _ lane.fed refl refl) refl)

-- nothing is left to copy behind the end
pub none_kept : {A : Type 0} (test : A → Bool) (xs : List A) → ((x : A) → test x ≡ false) → filter test xs ≡ []
none_kept test [] each = refl
none_kept test (x ∷ xs) each = rw (each x) (none_kept test xs each)

none_flat : {A B : Type 0} (f : A → List B) (xs : List A) → ((x : A) → f x ≡ []) → flat_map f xs ≡ []
none_flat f [] each = refl
none_flat f (x ∷ xs) each = rw (each x) (none_flat f xs each)

ended_copied : (w : Live) (lane : Lane) → lane.copied ≡ ended → (table : List ℕ) (key : ℕ) → in_range w.tables lane.copied table key ≡ true
ended_copied w lane e table key = rw e refl

none_uncopied : (p : Plain) (w : Live) (lane : Lane) → lane.copied ≡ ended → uncopied p w lane ≡ []
none_uncopied p w lane e =
    none_flat (λ table. map (λ key. (table, key)) (filter (λ key. in_lane w lane key && not (in_range w.tables lane.copied table key)) (keys_of_rows p w table))) w.tables
    (λ table. ap (map (λ key. (table, key))) (none_kept (λ key. in_lane w lane key && not (in_range w.tables lane.copied table key)) (keys_of_rows p w table) (λ key. ap (λ t. in_lane w lane key && not t) (ended_copied w lane e table key) ∙ and-false (in_lane w lane key))))

take-none : {A : Type 0} (n : ℕ) (xs : List A) → xs ≡ [] → take n xs ≡ []
take-none n xs e = take_all n xs (by (ap length e)) ∙ e
  where
    by : length xs ≡ 0 → length xs ≤ n
    by is = omega arith

stays_ended : (w : Lane) (entries : List LogEntry) (left : List (List ℕ × ℕ)) (rows at_most : ℕ) → w.copied ≡ ended → left ≡ [] → copied_after w.copied entries left rows at_most ≡ ended
stays_ended w (e ∷ es) left rows at_most is none = is
stays_ended w [] left rows at_most is none = by (ltb rows at_most && eqb rows (length left))
  where
    by : (t : Bool) → cond t ended (fold (λ range row. up_to row.0 row.1) w.copied (take rows left)) ≡ ended
    by true = refl
    by false = ap (fold (λ range row. up_to row.0 row.1) w.copied) (take-none rows left none) ∙ is

none_to_copy : (p : Plain) (w : Live) (lane : Lane) (entries : List LogEntry) → lane.copied ≡ ended → to_copy p w lane entries ≡ []
none_to_copy p w lane [] e = none_uncopied p w lane e
none_to_copy p w lane (entry ∷ entries) e = refl

ended_kept : (p : Plain) (event : Event) (w : Live) → IsNumbered w → (lane : Lane) → IsIn lane w.lanes → IsEnded w lane → KeepsLane IsEnded p event w lane
ended_kept p event w numbered lane is holds = record {
  same = holds;
  switch = λ types begins none any. not_copying lane.copied (none_of_any (λ l. is_still_copying l.copied) w.lanes (switch-none p types w none).2 lane is);
  reverse = λ types begins none any.
      holds (or_right (is_some w.way) (w.switched.primary || (w.switched.replica || w.switched.rdonly))
      (share-any types.primary types.replica types.rdonly w.switched.primary w.switched.replica w.switched.rdonly (reverse-none p types w none).1));
  steps = λ at way steps opens none any. copied-stepped p w way lane ∙ ended_open w lane way opens holds;
  undoes = λ at way undoes opens none any. ended_open w lane way opens holds;
  advances = λ adv workflow stream shard at at_most events rows live here none given any.
      stays_ended lane (past p w lane stream at) (to_copy p w lane (past p w lane stream at)) rows at_most (holds any) (none_to_copy p w lane (past p w lane stream at) (holds any));
  beside = λ adv workflow stream shard at at_most events rows live other none. holds;
}

ended_new : (p : Plain) (name source target : List ℕ) (tables : List (List ℕ)) → EachLane IsEnded (made_live p name source target tables)
ended_new p name source target tables lane is any = absurd (true≢false (sym any))

pub reached_ended : (p : Plain) → IsReached p → (w : Live) → IsIn w p.lives → EachLane IsEnded w
reached_ended = reached_lanes IsEnded ended_new ended_kept

-- at the tests of the level nothing is lost
module _ (p : Plain) (reached : IsReached p) (name : List ℕ) (w : Live) (way : Way) (live : live_at p name ≡ Some w) (opens : w.way ≡ Some way) where
  is_live : IsIn w p.lives
  is_live = (find_some (λ v. same_text v.name name) p.lives w live).0

  pub all_copied : (lane : Lane) → IsIn lane w.lanes → lane.copied ≡ ended
  all_copied lane is = ended_open w lane way opens (reached_ended p reached w is_live lane is)

  -- where all is fed while a way is open, the other side has the rows of the owner, for each key
  pub same_rows : is_behind p w ≡ false → (table : List ℕ) → moves w table ≡ true → (key : ℕ) → other_row p w table key ≡ client_row p (owner w) table key
  same_rows level table moved key =
      copied_row p w table moved key found here.0 here.1 (ended_copied w here.0 (all_copied here.0 there) table key) (lane_level p w level here.0 there)
    where
      here : (lane : Lane) × (lane_of w key ≡ Some lane)
      here = lane_of_key w (reached_numbered p reached w is_live) key

      there : IsIn here.0 w.lanes
      there = (lane_found w (shard_of w.cuts key) here.0 here.1).0

      found : mover p table ≡ Some w
      found =
          find_the_one (λ v. moves v table) p.lives w (reached_has_parts p reached).apart
          (λ v is apart. apart.tables table is moved) is_live moved

  pub nothing_lost : (at : ℕ) → tests_level w way ≡ true → Answers p (step name at) done → (table : List ℕ) → moves w table ≡ true → (key : ℕ) → other_row p w table key ≡ client_row p (owner w) table key
  nothing_lost at tests given = same_rows (level_if_taken p name w way live opens at tests given)

-- an advance is taken of a stream that runs
pub advance_runs : (p : Plain) (w : Live) (lane : Lane) (stream : StreamName) (at at_most : ℕ) (o : Option ℕ) → advance_at p w lane stream at at_most o ≡ None → o ≡ Some at
advance_runs p w lane stream at at_most None none = absurd cc
advance_runs p w lane stream at at_most (Some position) none =
    let room = refuse_if (writes_any p w lane stream position at_most && eqb (room_in_log p (written_side w stream) (written_shard lane stream)) 0) full in
    let here = refuse_if-none (not (eqb at position)) (stale position) (or_else-none (refuse_if (not (eqb at position)) (stale position)) room none).0 in
    ap Some (sym (eqb-true at position (not-false (eqb at position) here)))

-- ---- what is fed never falls

-- of the lane of each shard
abbrev IsFurther : Live → Live → Lane → Type 0
IsFurther w v later = (lane : Lane) → lane_at w later.shard ≡ Some lane → lane.fed ≤ later.fed

further_kept : (p : Plain) (event : Event) (w : Live) → IsNumbered w → (lane : Lane) → IsIn lane w.lanes → KeepsLane (IsFurther w) p event w lane
further_kept p event w numbered lane is = record {
  same = by lane refl (omega arith);
  switch = λ types begins none. by lane refl (omega arith);
  reverse = λ types begins none. by lane refl (omega arith);
  steps = λ at way steps opens none. by (lane_stepped p w way lane) (shard-stepped p w way lane) (let e = fed-stepped p w way lane in omega arith);
  undoes = λ at way undoes opens none. by lane refl (omega arith);
  advances = λ adv workflow stream shard at at_most events rows live here none given. by (lane_advanced p w lane stream at at_most events rows) (shard-advanced p w lane stream at at_most events rows) (omega arith);
  beside = λ adv workflow stream shard at at_most events rows live other none. by lane refl (omega arith);
}
  where
    by : (later : Lane) → later.shard ≡ lane.shard → lane.fed ≤ later.fed → (x : Lane) → lane_at w later.shard ≡ Some x → x.fed ≤ later.fed
    by later own le x found =
        let e : Some x ≡ Some lane = sym found ∙ ap (lane_at w) own ∙ lane_at_it w numbered lane is in
        let one : x ≡ lane = cc in
        let f = ap (λ l. l.fed) one in
        omega arith

pub fed_never_falls : (p : Plain) → IsReached p → (event : Event) (answer : Answer) → Answers p event answer → (name : List ℕ) (w v : Live)
    → live_at p name ≡ Some w → live_at (next p event answer) name ≡ Some v → (shard : ℕ) (lane later : Lane) → lane_at w shard ≡ Some lane → lane_at v shard ≡ Some later → lane.fed ≤ later.fed
fed_never_falls p reached event answer given name w v before now shard lane later found there =
    let is = live_after p (next p event answer) event answer (lives_after p event answer) name w v before now in
    let in_it = (find_some (λ x. same_text x.name name) p.lives w before).0 in
    let numbered = reached_numbered p reached w in_it in
    let each = next_has (EachLane (IsFurther w)) p w (live_by_name p (reached_has_parts p reached).apart w in_it) event answer (lanes_kept (IsFurther w) p event w numbered (λ x i. further_kept p event w numbered x i)) given in
    let r = lane_found v shard later there in
    subst (λ x. EachLane (IsFurther w) x) (sym is) each later r.0 lane (ap (lane_at w) r.1 ∙ found)

-- ---- a read at the side that is not the owner

module _ (p : Plain) (table : List ℕ) (w : Live) (found : mover p table ≡ Some w) (keyspace : List ℕ) (side : is_side w keyspace ≡ true) (other : keyspace ≢ owner w) (key : ℕ) where
  differs : same_text (owner w) keyspace ≡ false
  differs = text_differs (owner w) keyspace (λ e. other (sym e))

  at_other_side : row_of p keyspace table key ≡ other_row p w table key
  at_other_side =
      ap (λ o. row_by_mover p o keyspace table key) found
      ∙ ap (λ t. cond (t && not (same_text (owner w) keyspace)) (other_row p w table key) (client_row p keyspace table key)) side
      ∙ ap (λ t. cond (not t) (other_row p w table key) (client_row p keyspace table key)) differs

  pub is_answer : (tablet_type : TabletType) (r : Row) → Answers p (read keyspace table key tablet_type) (row r) → r ≡ other_row p w table key
  is_answer tablet_type r given =
      let e : row r ≡ row (row_of p keyspace table key) = given.1 in
      let is : r ≡ row_of p keyspace table key = cc in
      is ∙ at_other_side

  -- in the lane of the key
  module _ (lane : Lane) (here : lane_of w key ≡ Some lane) where
    abbrev fed_row : Row
    fed_row = row_after_writes (take lane.fed (lane_writes p w lane)) (number_of p w.source table) key

    is_lane_row : other_row p w table key ≡ cond (in_range w.tables lane.copied table key) fed_row None
    is_lane_row = ap (λ o. option_map_or (λ x. lane_row p w x table key) o None) here

    pub read_copied : in_range w.tables lane.copied table key ≡ true → (tablet_type : TabletType) (r : Row) → Answers p (read keyspace table key tablet_type) (row r) → r ≡ fed_row
    read_copied copied tablet_type r given = is_answer tablet_type r given ∙ is_lane_row ∙ ap (λ t. cond t fed_row None) copied

    pub read_uncopied : in_range w.tables lane.copied table key ≡ false → (tablet_type : TabletType) (r : Row) → Answers p (read keyspace table key tablet_type) (row r) → r ≡ None
    read_uncopied copied tablet_type r given = is_answer tablet_type r given ∙ is_lane_row ∙ ap (λ t. cond t fed_row None) copied
