-- A run is a run with more watchers too: only where none is found there is a refusal, and nothing else is read of them.
use Rattle.std.proofs.Common.{◌≡◌, inl, inr, ℕ, Bool, true, false, not, cond, eqb, List, [], ◌∷◌, ◌++◌, map, Option, None, Some, is_some, refl, sym, ap, subst, ◌∙◌}
use Rattle.std.proofs.lemmas.Bool.{not-false}
use Rattle.std.specs.List.{AllByRecursion, list_any}
use Rattle.std.specs.Prelude.{◌||◌, ◌&&◌, ◌+◌, ◌⊎◌, count_by, length, min, nat_le, nat_lt, slice_get, take}
use Rattle.std.specs.Option.{option_map_or}
use Rattle.mt_names.specs.declared.types.TabletType.TheVariants.{Primary, Replica, Rdonly}
use Rattle.mt_names.specs.Names.{same_text}
use Rattle.mt_model.specs.declared.entries.Scope.{Scope}
use Rattle.mt_plain.specs.Answers.{Answers, IsCut, Run, advanced_of, after, lane_advanced_of, reply_of}
use Rattle.mt_plain.specs.Events.{Event, write, read, add_keyspace, add_table, edit_rule, create, advance, begin_switch, begin_reverse, step, undo, cancel, complete, show, StreamName, Way, Refusal, full, stale, no_keyspace, no_tables, no_watcher, not_level, same_keyspace, sharded_source, nothing_under_way, undoing, workflow_exists, Answer, done, row, advanced, shown, refused}
use Rattle.mt_plain.specs.Next.{next, next_taken, after_advance, journal_after, live_stepped, on_way_of, with_advance, with_completed, with_live}
use Rattle.mt_plain.specs.Plain.{Lane, Live, LogEntry, Plain, catch_up, each_once, has_keyspace, is_sharded, lane_at, live_at, mover, next_step, refresh_source, refresh_target, switch_reads, write_journal}
use Rattle.mt_plain.specs.Refuse.{advance_at, advance_refusal, create_is_full, create_refusal, in_lane_at, in_workflow, is_behind, is_of_primary, most_journal_entries, moved_tables_refusal, new_owner, old_owner, or_else, own_refusal, refusal_of, refuse_if, step_refusal, watcher_refusal, will_read_other_side}
use Rattle.mt_plain.specs.Slots.{applies, copied_after, is_for, is_fresh, lane_advanced, live_advanced, log_advanced, logged, may_be_cut, most_events, most_rows, past, room_in_log, running_at, slot_of, to_copy, with_position, writes_any, written_shard, written_side}
use Rattle.mt_plain.specs.Writes.{row_by_mover, row_of}
use Rattle.mt_laws.specs.Texts.{BringsNames}
use Rattle.mt_laws.proofs.RefusalLemmas.{refuse_if-none}

-- ---- refusals

else_kept : (o a b : Option Refusal) → (a ≡ None → b ≡ None) → or_else o a ≡ None → or_else o b ≡ None
else_kept None a b kept e = kept e
else_kept (Some refusal) a b kept e = absurd cc

first_kept : (a b o : Option Refusal) → (a ≡ None → b ≡ None) → or_else a o ≡ None → or_else b o ≡ None
first_kept None b o kept e = ap (λ x. or_else x o) (kept refl) ∙ e
first_kept (Some refusal) b o kept e = absurd cc

in_kept : (o : Option Live) (f g : Live → Option Refusal) → ((w : Live) → f w ≡ None → g w ≡ None) → in_workflow o f ≡ None → in_workflow o g ≡ None
in_kept None f g kept e = e
in_kept (Some w) f g kept e = kept w e

any_more : {X : Type 0} (test : X → Bool) (xs ys : List X) → list_any test xs ≡ true → list_any test (xs ++ ys) ≡ true
any_more test [] ys e = absurd cc
any_more {X} test (x ∷ xs) ys e = by (test x) (any_more test xs ys) e
  where
    by : (b : Bool) → (list_any test xs ≡ true → list_any test (xs ++ ys) ≡ true) → (b || list_any test xs) ≡ true → (b || list_any test (xs ++ ys)) ≡ true
    by true again e = refl
    by false again e = again e

module _ (more : List Scope) where
  -- the state with more watchers
  abbrev pub wider : Plain → Plain
  wider p = record p { scopes = p.scopes ++ more }

  copy_same : (p : Plain) (w : Live) (lane : Lane) (entries : List LogEntry) → to_copy (wider p) w lane entries ≡ to_copy p w lane entries
  copy_same p w lane [] = refl
  copy_same p w lane (e ∷ es) = refl

  watched : (p : Plain) (keyspace : List ℕ) → watcher_refusal p keyspace ≡ None → watcher_refusal (wider p) keyspace ≡ None
  watched p keyspace e =
      let is = not-false (list_any (is_of_primary keyspace) p.scopes) (refuse_if-none (not (list_any (is_of_primary keyspace) p.scopes)) no_watcher e) in
      ap (λ b. refuse_if (not b) no_watcher) (any_more (is_of_primary keyspace) p.scopes more is)

  created_still : (p : Plain) (workflow source target : List ℕ) (tables : List (List ℕ)) → create_refusal p workflow source target tables ≡ None → create_refusal (wider p) workflow source target tables ≡ None
  created_still p workflow source target tables =
      let f = refuse_if (create_is_full p source target tables) full in
      let a = or_else (watcher_refusal p target) f in
      let b = or_else (watcher_refusal (wider p) target) f in
      let ta = or_else (moved_tables_refusal p source target tables) a in
      let tb = or_else (moved_tables_refusal p source target tables) b in
      let no_target = refuse_if (not (has_keyspace p target)) no_keyspace in
      let no_source = refuse_if (not (has_keyspace p source)) no_keyspace in
      let same = refuse_if (same_text source target) same_keyspace in
      let none = refuse_if (eqb (length tables) 0) no_tables in
      else_kept (refuse_if (is_some (live_at p workflow)) workflow_exists) _ _
      (else_kept none _ _ (else_kept same _ _ (else_kept no_source _ _ (else_kept no_target _ _
      (else_kept (refuse_if (is_sharded p source) sharded_source) _ _
      (else_kept (moved_tables_refusal p source target tables) a b (first_kept (watcher_refusal p target) (watcher_refusal (wider p) target) f (watched p target))))))))

  own_still : (p : Plain) (w : Live) (way : Way) (n : ℕ) → own_refusal p w way n ≡ None → own_refusal (wider p) w way n ≡ None
  own_still p w way n = by (eqb n switch_reads) (eqb n refresh_source) (eqb n catch_up) (eqb n write_journal) (eqb n refresh_target)
      (refuse_if (will_read_other_side w way && is_behind p w) not_level) (refuse_if (is_behind p w) not_level) (refuse_if (nat_le most_journal_entries p.journal) full)
    where
      by : (a b c d e : Bool) (x y z : Option Refusal)
          → cond a x (cond b (watcher_refusal p (old_owner w)) (cond c y (cond d z (cond e (watcher_refusal p (new_owner w)) None)))) ≡ None
          → cond a x (cond b (watcher_refusal (wider p) (old_owner w)) (cond c y (cond d z (cond e (watcher_refusal (wider p) (new_owner w)) None)))) ≡ None
      by true b c d e x y z is = is
      by false true c d e x y z is = watched p (old_owner w) is
      by false false true d e x y z is = is
      by false false false true e x y z is = is
      by false false false false true x y z is = watched p (new_owner w) is
      by false false false false false x y z is = is

  step_still : (p : Plain) (at : ℕ) (w : Live) → step_refusal p at w ≡ None → step_refusal (wider p) at w ≡ None
  step_still p at w = by w.way
    where
      refusals : Plain → Way → Option Refusal
      refusals q way = or_else (refuse_if way.undoing undoing) (or_else (refuse_if (not (eqb at way.done)) (stale way.done)) (own_refusal q w way (next_step way)))

      by : (o : Option Way) → option_map_or (refusals p) o (Some nothing_under_way) ≡ None → option_map_or (refusals (wider p)) o (Some nothing_under_way) ≡ None
      by None e = e
      by (Some way) e =
          else_kept (refuse_if way.undoing undoing) _ _ (else_kept (refuse_if (not (eqb at way.done)) (stale way.done)) _ _ (own_still p w way (next_step way))) e

  -- ---- what is copied

  rows_same : (p : Plain) (w : Live) (lane : Lane) (name : StreamName) (position at_most : ℕ) → most_rows (wider p) w lane name position at_most ≡ most_rows p w lane name position at_most
  rows_same p w lane name position at_most =
      ap (λ (left : List (List ℕ × ℕ)). min (room_in_log p (written_side w name) (written_shard lane name)) (min at_most (length left))) (copy_same p w lane (past p w lane name position))

  any_same : (p : Plain) (w : Live) (lane : Lane) (name : StreamName) (position at_most : ℕ) → writes_any (wider p) w lane name position at_most ≡ writes_any p w lane name position at_most
  any_same p w lane name position at_most =
      ap (λ (left : List (List ℕ × ℕ)). list_any (applies w lane) (take at_most (past p w lane name position)) || nat_lt 0 (min at_most (length left))) (copy_same p w lane (past p w lane name position))

  cut_same : (p : Plain) (w : Live) (lane : Lane) (name : StreamName) (position at_most events rows : ℕ)
      → may_be_cut (wider p) w lane name position at_most events rows ≡ may_be_cut p w lane name position at_most events rows
  cut_same p w lane name position at_most events rows =
      ap (λ n. (eqb rows 0) && nat_lt events (most_events p w lane name position at_most)
      && list_any (applies w lane) (take events (past p w lane name position)) && option_map_or (applies w lane) (slice_get (past p w lane name position) events) false
      || (eqb events 0) && nat_lt 0 rows && nat_lt rows n) (rows_same p w lane name position at_most)

  position_still : (p : Plain) (w : Live) (lane : Lane) (name : StreamName) (at at_most : ℕ) (o : Option ℕ) → advance_at (wider p) w lane name at at_most o ≡ advance_at p w lane name at at_most o
  position_still p w lane name at at_most None = refl
  position_still p w lane name at at_most (Some position) =
      ap (λ b. or_else (refuse_if (not (eqb at position)) (stale position)) (refuse_if (b && (eqb (room_in_log p (written_side w name) (written_shard lane name)) 0)) full)) (any_same p w lane name position at_most)

  -- ---- events

  refused_none : (p : Plain) (event : Event) → refusal_of p event ≡ None → refusal_of (wider p) event ≡ None
  refused_none p (write keyspace table op) e = e
  refused_none p (read keyspace table key Primary) e = e
  refused_none p (read keyspace table key Replica) e = e
  refused_none p (read keyspace table key Rdonly) e = e
  refused_none p (add_keyspace keyspace cuts) e = e
  refused_none p (add_table keyspace table) e = e
  refused_none p (edit_rule key None) e = e
  refused_none p (edit_rule key (Some target)) e = e
  refused_none p (create workflow source target tables) e = created_still p workflow source target (each_once tables) e
  refused_none p (advance workflow name shard at at_most) e =
      in_kept (live_at p workflow) (advance_refusal p name shard at at_most) (advance_refusal (wider p) name shard at at_most) (λ w. by w (lane_at w shard)) e
    where
      by : (w : Live) (o : Option Lane) → in_lane_at o (λ lane. advance_at p w lane name at at_most (running_at (slot_of w lane name))) ≡ None
          → in_lane_at o (λ lane. advance_at (wider p) w lane name at at_most (running_at (slot_of w lane name))) ≡ None
      by w None none = none
      by w (Some lane) none = position_still p w lane name at at_most (running_at (slot_of w lane name)) ∙ none
  refused_none p (begin_switch workflow types) e = e
  refused_none p (begin_reverse workflow types) e = e
  refused_none p (step workflow at) e = in_kept (live_at p workflow) (step_refusal p at) (step_refusal (wider p) at) (step_still p at) e
  refused_none p (undo workflow at) e = e
  refused_none p (cancel workflow) e = e
  refused_none p (complete workflow) e = e
  refused_none p (show workflow) e = e

  pub row_same : (p : Plain) (keyspace table : List ℕ) (key : ℕ) → row_of (wider p) keyspace table key ≡ row_of p keyspace table key
  row_same p keyspace table key = by (mover p table)
    where
      by : (o : Option Live) → row_by_mover (wider p) o keyspace table key ≡ row_by_mover p o keyspace table key
      by None = refl
      by (Some w) = refl

  reply_same : (p : Plain) (event : Event) → reply_of (wider p) event ≡ reply_of p event
  reply_same p (read keyspace table key tablet_type) = ap row (row_same p keyspace table key)
  reply_same p (advance workflow name shard at at_most) = by (live_at p workflow)
    where
      of_lane : (w : Live) (o : Option Lane) → lane_advanced_of (wider p) name at at_most w o ≡ lane_advanced_of p name at at_most w o
      of_lane w None = refl
      of_lane w (Some lane) = ap (advanced (most_events p w lane name at at_most)) (rows_same p w lane name at at_most)

      by : (o : Option Live) → advanced_of (wider p) name shard at at_most o ≡ advanced_of p name shard at at_most o
      by None = refl
      by (Some w) = of_lane w (lane_at w shard)
  reply_same p (show workflow) = refl
  reply_same p (write keyspace table op) = refl
  reply_same p (add_keyspace keyspace cuts) = refl
  reply_same p (add_table keyspace table) = refl
  reply_same p (edit_rule key target) = refl
  reply_same p (create workflow source target tables) = refl
  reply_same p (begin_switch workflow types) = refl
  reply_same p (begin_reverse workflow types) = refl
  reply_same p (step workflow at) = refl
  reply_same p (undo workflow at) = refl
  reply_same p (cancel workflow) = refl
  reply_same p (complete workflow) = refl

  cut_still : (p : Plain) (event : Event) (events rows : ℕ) → IsCut p event events rows → IsCut (wider p) event events rows
  cut_still p (advance workflow name shard at at_most) events rows = by (live_at p workflow)
    where
      of_lane : (w : Live) (o : Option Lane) → option_map_or (λ lane. may_be_cut p w lane name at at_most events rows) o false ≡ true
          → option_map_or (λ lane. may_be_cut (wider p) w lane name at at_most events rows) o false ≡ true
      of_lane w None e = e
      of_lane w (Some lane) e = cut_same p w lane name at at_most events rows ∙ e

      by : (o : Option Live) → option_map_or (λ w. option_map_or (λ lane. may_be_cut p w lane name at at_most events rows) (lane_at w shard) false) o false ≡ true
          → option_map_or (λ w. option_map_or (λ lane. may_be_cut (wider p) w lane name at at_most events rows) (lane_at w shard) false) o false ≡ true
      by None e = e
      by (Some w) e = of_lane w (lane_at w shard) e
  cut_still p other events rows = λ is. is

  advanced_still : (p : Plain) (event : Event) (events rows : ℕ) → Answers p event (advanced events rows) → Answers (wider p) event (advanced events rows)
  advanced_still p event events rows given = (refused_none p event given.0, by given.1)
    where
      by : (advanced events rows ≡ reply_of p event) ⊎ IsCut p event events rows → (advanced events rows ≡ reply_of (wider p) event) ⊎ IsCut (wider p) event events rows
      by (inl is) = inl (is ∙ sym (reply_same p event))
      by (inr cut) = inr (cut_still p event events rows cut)

  -- ---- the next state

  journal_same : (p : Plain) (o : Option Live) → journal_after (wider p) o ≡ journal_after p o
  journal_same p None = refl
  journal_same p (Some w) = refl

  completed_same : (p : Plain) (o : Option Live) → with_completed (wider p) o ≡ wider (with_completed p o)
  completed_same p None = refl
  completed_same p (Some w) = refl

  lane_same : (p : Plain) (w : Live) (lane : Lane) (name : StreamName) (at at_most events rows : ℕ)
      → lane_advanced (wider p) w lane name at at_most events rows ≡ lane_advanced p w lane name at at_most events rows
  lane_same p w lane name at at_most events rows =
      ap (λ (left : List (List ℕ × ℕ)). record (with_position lane name (is_fresh w.way name) (at + events)) {
        fed = lane.fed + count_by (is_for w lane) (take events (past p w lane name at));
        copied = copied_after lane.copied (past p w lane name at) left rows at_most;
      }) (copy_same p w lane (past p w lane name at))

  lanes_same : (p : Plain) (w : Live) (name : StreamName) (shard at at_most events rows : ℕ) (lanes : List Lane)
      → map (λ (lane : Lane). cond (eqb lane.shard shard) (lane_advanced (wider p) w lane name at at_most events rows) lane) lanes
      ≡ map (λ (lane : Lane). cond (eqb lane.shard shard) (lane_advanced p w lane name at at_most events rows) lane) lanes
  lanes_same p w name shard at at_most events rows [] = refl
  lanes_same p w name shard at at_most events rows (lane ∷ lanes) =
      ap (λ x. cond (eqb lane.shard shard) x lane ∷ map (λ (lane : Lane). cond (eqb lane.shard shard) (lane_advanced (wider p) w lane name at at_most events rows) lane) lanes)
      (lane_same p w lane name at at_most events rows)
      ∙ ap (λ xs. cond (eqb lane.shard shard) (lane_advanced p w lane name at at_most events rows) lane ∷ xs) (lanes_same p w name shard at at_most events rows lanes)

  lives_same : (p : Plain) (workflow : List ℕ) (name : StreamName) (shard at at_most events rows : ℕ) (lives : List Live)
      → with_live (λ v. live_advanced (wider p) v name shard at at_most events rows) workflow lives ≡ with_live (λ v. live_advanced p v name shard at at_most events rows) workflow lives
  lives_same p workflow name shard at at_most events rows [] = refl
  lives_same p workflow name shard at at_most events rows (v ∷ vs) =
      ap (λ lanes. cond (same_text v.name workflow) (record v { lanes = lanes }) v ∷ with_live (λ v. live_advanced (wider p) v name shard at at_most events rows) workflow vs)
      (lanes_same p v name shard at at_most events rows v.lanes)
      ∙ ap (λ xs. cond (same_text v.name workflow) (live_advanced p v name shard at at_most events rows) v ∷ xs) (lives_same p workflow name shard at at_most events rows vs)

  log_same : (p : Plain) (w : Live) (name : StreamName) (at events rows : ℕ) (o : Option Lane)
      → option_map_or (λ lane. log_advanced (wider p) w lane name at events rows) o p.log ≡ option_map_or (λ lane. log_advanced p w lane name at events rows) o p.log
  log_same p w name at events rows None = refl
  log_same p w name at events rows (Some lane) =
      ap (λ (left : List (List ℕ × ℕ)). p.log ++ logged w lane name (take events (past p w lane name at)) (take rows left)) (copy_same p w lane (past p w lane name at))

  advance_same : (p : Plain) (name : StreamName) (shard at at_most events rows : ℕ) (o : Option Live)
      → with_advance (wider p) name shard at at_most events rows o ≡ wider (with_advance p name shard at at_most events rows o)
  advance_same p name shard at at_most events rows None = refl
  advance_same p name shard at at_most events rows (Some w) =
      ap (λ lives. record (wider p) { lives = lives; log = option_map_or (λ lane. log_advanced (wider p) w lane name at events rows) (lane_at w shard) p.log })
      (lives_same p w.name name shard at at_most events rows p.lives)
      ∙ ap (λ log. record (wider p) { lives = with_live (λ v. live_advanced p v name shard at at_most events rows) w.name p.lives; log = log }) (log_same p w name at events rows (lane_at w shard))

  counted_same : (p : Plain) (event : Event) (events rows : ℕ) → after_advance (wider p) event events rows ≡ wider (after_advance p event events rows)
  counted_same p (advance workflow name shard at at_most) events rows = advance_same p name shard at at_most events rows (live_at p workflow)
  counted_same p other events rows = refl

  taken_same : (p : Plain) (event : Event) → next_taken (wider p) event ≡ wider (next_taken p event)
  taken_same p (step workflow at) =
      ap (λ n. record (wider p) { lives = with_live (λ w. on_way_of (live_stepped p w) w) workflow p.lives; journal = n }) (journal_same p (live_at p workflow))
  taken_same p (complete workflow) = completed_same p (live_at p workflow)
  taken_same p (write keyspace table op) = refl
  taken_same p (read keyspace table key tablet_type) = refl
  taken_same p (add_keyspace keyspace cuts) = refl
  taken_same p (add_table keyspace table) = refl
  taken_same p (edit_rule key target) = refl
  taken_same p (create workflow source target tables) = refl
  taken_same p (advance workflow name shard at at_most) = refl
  taken_same p (begin_switch workflow types) = refl
  taken_same p (begin_reverse workflow types) = refl
  taken_same p (undo workflow at) = refl
  taken_same p (cancel workflow) = refl
  taken_same p (show workflow) = refl

  -- ---- runs

  -- a run with more watchers to a state that is the same but for them
  pub record IsWide (p q : Plain) : Type 0 where
    pub events : List Event
    pub answers : List Answer
    pub run : Run (wider p) events answers
    pub is : after (wider p) events answers ≡ wider q
    pub named : AllByRecursion BringsNames events

  -- an event more in front of it
  fronted : (p q : Plain) (event : Event) (answer : Answer) → Answers (wider p) event answer → next (wider p) event answer ≡ wider (next p event answer) → BringsNames event → IsWide (next p event answer) q → IsWide p q
  fronted p q event answer given same named wide = record {
    events = event ∷ wide.events;
    answers = answer ∷ wide.answers;
    run = (given, subst (λ s. Run s wide.events wide.answers) (sym same) wide.run);
    is = ap (λ s. after s wide.events wide.answers) same ∙ wide.is;
    named = (named, wide.named);
  }

  -- what was refused is left out
  pub widened : (p : Plain) (events : List Event) (answers : List Answer) → Run p events answers → AllByRecursion BringsNames events → IsWide p (after p events answers)
  widened p [] [] run named = record { events = []; answers = []; run = tt; is = refl; named = tt }
  widened p [] (answer ∷ answers) run named = absurd run
  widened p (event ∷ events) [] run named = absurd run
  widened p (event ∷ events) (refused refusal ∷ answers) run named = widened p events answers run.1 named.1
  widened p (event ∷ events) (done ∷ answers) run named =
      fronted p (after (next p event done) events answers) event done (refused_none p event run.0.0, run.0.1 ∙ sym (reply_same p event)) (taken_same p event) named.0
      (widened (next p event done) events answers run.1 named.1)
  widened p (event ∷ events) (row r ∷ answers) run named =
      fronted p (after (next p event (row r)) events answers) event (row r) (refused_none p event run.0.0, run.0.1 ∙ sym (reply_same p event)) (taken_same p event) named.0
      (widened (next p event (row r)) events answers run.1 named.1)
  widened p (event ∷ events) (shown s ∷ answers) run named =
      fronted p (after p events answers) event (shown s) (refused_none p event run.0.0, run.0.1 ∙ sym (reply_same p event)) refl named.0
      (widened p events answers run.1 named.1)
  widened p (event ∷ events) (advanced n rows ∷ answers) run named =
      fronted p (after (next p event (advanced n rows)) events answers) event (advanced n rows) (advanced_still p event n rows run.0) (counted_same p event n rows) named.0
      (widened (next p event (advanced n rows)) events answers run.1 named.1)
