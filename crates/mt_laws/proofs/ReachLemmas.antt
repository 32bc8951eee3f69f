-- Each state that a run reaches has the parts of its live workflows apart.
use Rattle.std.proofs.Common.{◌≡◌, ◌⊎◌, inl, inr, ℕ, Bool, true, false, not, cond, eqb, List, [], ◌∷◌, length, Option, None, Some, is_some, refl, sym, ap, ◌∙◌, subst}
use Rattle.std.proofs.lemmas.Bool.{true≢false, and_from, not-false}
use Rattle.std.specs.List.{list_any}
use Rattle.std.specs.Prelude.{◌&&◌, ◌||◌}
use Rattle.mt_names.specs.Names.{same_text}
use Rattle.mt_names.proofs.EntryLemmas.{none_from}
use Rattle.mt_names.proofs.SameLemmas.{same_text_decides}
use Rattle.mt_model.specs.declared.entries.EntryKey.TheVariants as about
use Rattle.mt_model.specs.Topology.{is_denied, is_present, keyspace_at, with_keyspace, with_keyspace_state, with_new_table, with_table}
use Rattle.mt_model.specs.declared.entries.Scope.{Scope}
use Rattle.mt_model.proofs.PlaceLemmas.{keyspace_at-stays, place-push}
use Rattle.mt_model.proofs.TopologyLemmas.{value_of-with_keyspace, value_of-with_table_elsewhere}
use Rattle.mt_plain.specs.Answers.{Answers, Run, after}
use Rattle.mt_plain.specs.Events.{Event, add_keyspace, add_table, edit_rule, create, advance, cancel, complete, Answer, done, row, advanced, shown, refused, full, no_keyspace, no_table, no_tables, same_keyspace, table_in_workflow, target_has_table, workflow_exists, sharded_source}
use Rattle.mt_plain.specs.Next.{next, next_taken, with_completed, with_tables, without_tables}
use Rattle.mt_plain.specs.Plain.{Live, Plain, each_once, has_keyspace, live_at, mover, moves, opening, stands_done, write_journal, is_sharded}
use Rattle.mt_plain.specs.Refuse.{conflict_refusal, create_is_full, moved_table_refusal, moved_tables_refusal, or_else, refusal_of, refuse_if, watcher_refusal}
use Rattle.mt_plain.specs.Serve.{has_table}
use Rattle.mt_laws.specs.Changes.{ChangesTopology, HasSides}
use Rattle.mt_laws.specs.WayBack.{IsReached, ends_workflow}
use Rattle.mt_laws.proofs.ChangeLemmas.{LivesAfter, ended, live_next, lives-completed, lives_after, made, made_live, mapped, sides-next}
use Rattle.mt_laws.proofs.EntryValueLemmas.{denied_from_value, is_denied-completed, present_from_value}
use Rattle.mt_laws.proofs.KeepLemmas.{Keeps, next_has}
use Rattle.mt_laws.proofs.LiveLemmas.{Apart, IsApart, IsIn, any-nowhere, apart-filter, apart-map, apart-push, find_none, find_the_one, in-filter, in-map, in-push, text_apart}
use Rattle.mt_laws.proofs.PartLemmas.{HasParts, IsPlaced, IsSettled, opening_has_parts, value-kept}
use Rattle.mt_laws.proofs.RefusalLemmas.{fold_or_else-none, or_else-none, refuse_if-none}
use Rattle.mt_laws.proofs.UntouchedLemmas.{same_topology}
use Rattle.mt_laws.proofs.WayLemmas.{WayChange, abandoned, begun, completed, goes_on, kept, way_change}
use Rattle.mt_laws.proofs.WayStepLemmas.{no_way, one_way}

-- ---- the workflow that Create makes

pub record IsNew (p : Plain) (name source target : List ℕ) (tables : List (List ℕ)) : Type 0 where
  pub unnamed : live_at p name ≡ None
  pub sides : same_text source target ≡ false
  pub source_there : has_keyspace p source ≡ true
  pub target_there : has_keyspace p target ≡ true
  -- and no limit is passed by it
  pub unsharded : is_sharded p source ≡ false
  pub room : create_is_full p source target tables ≡ false
  pub each : (table : List ℕ) → IsIn table tables → (has_table p source table ≡ true) × (mover p table ≡ None) × (has_table p target table ≡ false)

each_new : (p : Plain) (source target table : List ℕ) → moved_table_refusal p source target table ≡ None → (has_table p source table ≡ true) × (mover p table ≡ None) × (has_table p target table ≡ false)
each_new p source target table none =
    let at_target = refuse_if (has_table p target table) (target_has_table table) in
    let rest = or_else at_target (conflict_refusal p source target table) in
    let r = or_else-none (refuse_if (not (has_table p source table)) no_table) (or_else (refuse_if (is_some (mover p table)) table_in_workflow) rest) none in
    let s = or_else-none (refuse_if (is_some (mover p table)) table_in_workflow) rest r.1 in (
      not-false (has_table p source table) (refuse_if-none (not (has_table p source table)) no_table r.0),
      none_from (mover p table) (refuse_if-none (is_some (mover p table)) table_in_workflow s.0),
      refuse_if-none (has_table p target table) (target_has_table table) (or_else-none at_target (conflict_refusal p source target table) s.1).0,
    )

pub create-none : (p : Plain) (name source target : List ℕ) (tables : List (List ℕ)) → refusal_of p (create name source target tables) ≡ None → IsNew p name source target (each_once tables)
create-none p name source target tables none =
    let once = each_once tables in
    let h7 = refuse_if (create_is_full p source target once) full in
    let h6 = or_else (watcher_refusal p target) h7 in
    let h5 = or_else (moved_tables_refusal p source target once) h6 in
    let h5' = or_else (refuse_if (is_sharded p source) sharded_source) h5 in
    let h4 = or_else (refuse_if (not (has_keyspace p target)) no_keyspace) h5' in
    let h3 = or_else (refuse_if (not (has_keyspace p source)) no_keyspace) h4 in
    let h2 = or_else (refuse_if (same_text source target) same_keyspace) h3 in
    let h1 = or_else (refuse_if (eqb (length once) 0) no_tables) h2 in
    let r0 = or_else-none (refuse_if (is_some (live_at p name)) workflow_exists) h1 none in
    let r1 = or_else-none (refuse_if (eqb (length once) 0) no_tables) h2 r0.1 in
    let r2 = or_else-none (refuse_if (same_text source target) same_keyspace) h3 r1.1 in
    let r3 = or_else-none (refuse_if (not (has_keyspace p source)) no_keyspace) h4 r2.1 in
    let r4 = or_else-none (refuse_if (not (has_keyspace p target)) no_keyspace) h5' r3.1 in
    let r4' = or_else-none (refuse_if (is_sharded p source) sharded_source) h5 r4.1 in
    let r5 = or_else-none (moved_tables_refusal p source target once) h6 r4'.1 in
    let r6 = or_else-none (watcher_refusal p target) h7 r5.1 in
    record {
      unnamed = none_from (live_at p name) (refuse_if-none (is_some (live_at p name)) workflow_exists r0.0);
      sides = refuse_if-none (same_text source target) same_keyspace r2.0;
      source_there = not-false (has_keyspace p source) (refuse_if-none (not (has_keyspace p source)) no_keyspace r3.0);
      target_there = not-false (has_keyspace p target) (refuse_if-none (not (has_keyspace p target)) no_keyspace r4.0);
      unsharded = refuse_if-none (is_sharded p source) sharded_source r4'.0;
      room = refuse_if-none (create_is_full p source target once) full r6.1;
      each = λ table is. each_new p source target table ((fold_or_else-none (moved_table_refusal p source target) once None r5.0).1 table is);
    }

-- a table that a list names
pub named : (tables : List (List ℕ)) (table : List ℕ) → list_any (λ t. same_text t table) tables ≡ true → IsIn table tables
named [] table e = absurd (true≢false (sym e))
named (t ∷ ts) table e = by (named ts table) (same_text t table) refl
  where
    by : (list_any (λ x. same_text x table) ts ≡ true → IsIn table ts) → (b : Bool) → same_text t table ≡ b → IsIn table (t ∷ ts)
    by again true b = inl ((same_text_decides t table).0 b)
    by again false b = inr (again (rw b at e))

-- where no live workflow moves a table, its keyspace has it by the topology alone
pub there_unmoved : (p : Plain) (keyspace table : List ℕ) → mover p table ≡ None → has_table p keyspace table ≡ true → is_present p.topology.keyspaces keyspace table ≡ true
there_unmoved p keyspace table none has =
    sym (ap (λ t. cond t true (is_present p.topology.keyspaces keyspace table))
    (any-nowhere (λ w. moves w table && same_text w.target keyspace) p.lives
    (λ w is. ap (λ t. t && same_text w.target keyspace) (find_none (λ v. moves v table) p.lives none w is)))) ∙ has

module _ (p : Plain) (name source target : List ℕ) (tables : List (List ℕ)) (new : IsNew p name source target tables) (w : Live)
    (is_name : w.name ≡ name) (is_source : w.source ≡ source) (is_target : w.target ≡ target) (is_tables : w.tables ≡ tables) where
  pub moved_new : (table : List ℕ) → moves w table ≡ true → IsIn table tables
  moved_new table moved = named tables table (sym (ap (list_any (λ t. same_text t table)) is_tables) ∙ moved)

  pub placed-new : IsPlaced p.topology w
  placed-new = record {
    sides = λ e. text_apart source target new.sides (sym is_source ∙ e ∙ is_target);
    source = ap (λ k. is_some (keyspace_at p.topology.keyspaces k)) is_source ∙ new.source_there;
    target = ap (λ k. is_some (keyspace_at p.topology.keyspaces k)) is_target ∙ new.target_there;
    there = λ table moved. let r = new.each table (moved_new table moved) in
        ap (λ k. is_present p.topology.keyspaces k table) is_source ∙ there_unmoved p source table r.1 r.0;
  }

  pub apart-new : (v : Live) → IsIn v p.lives → IsApart v w
  apart-new v is = record {
    names = λ e. text_apart v.name name (find_none (λ x. same_text x.name name) p.lives new.unnamed v is) (e ∙ is_name);
    tables = λ table a b. true≢false (sym a ∙ find_none (λ x. moves x table) p.lives (new.each table (moved_new table b)).1 v is);
  }

-- ---- where a live workflow comes from

pub not_ended : (p : Plain) (event : Event) (answer : Answer) (w : Live) → IsIn w (next p event answer).lives → ends_workflow w.name event answer ≡ false
not_ended p (cancel name) done w is = by (same_text name w.name) refl
  where
    by : (t : Bool) → same_text name w.name ≡ t → same_text name w.name ≡ false
    by true t =
        let keeps = (in-filter (λ x. not (same_text x.name name)) p.lives w is).1 in
        absurd (true≢false (sym keeps ∙ ap not ((same_text_decides w.name name).1 (sym ((same_text_decides name w.name).0 t)))))
    by false t = t
not_ended p (complete name) done w is = by (same_text name w.name) refl
  where
    by : (t : Bool) → same_text name w.name ≡ t → same_text name w.name ≡ false
    by true t =
        let keeps = (in-filter (λ x. not (same_text x.name name)) p.lives w (subst (IsIn w) (lives-completed p name (live_at p name) refl) is)).1 in
        absurd (true≢false (sym keeps ∙ ap not ((same_text_decides w.name name).1 (sym ((same_text_decides name w.name).0 t)))))
    by false t = t
not_ended p event answer w is = refl

pub data ComesFrom (p : Plain) (event : Event) (answer : Answer) (w : Live) : Type 0 where
  old : (v : Live) → IsIn v p.lives → live_next p event answer v ≡ w → ComesFrom p event answer w
  new : (name source target : List ℕ) (tables : List (List ℕ)) → event ≡ create name source target tables
      → w.name ≡ name → w.source ≡ source → w.target ≡ target → w.tables ≡ each_once tables → w.way ≡ None → ComesFrom p event answer w

-- each live workflow after an event is one from before it, as the event leaves it, or the one that Create made
module _ (P : Live → Type 0) (p : Plain) (event : Event) (answer : Answer)
    (each : (w : Live) → IsIn w p.lives → P (live_next p event answer w))
    (new_one : (name source target : List ℕ) (tables : List (List ℕ)) → event ≡ create name source target tables → P (made_live p name source target (each_once tables))) where
  pub each_next : (w : Live) → IsIn w (next p event answer).lives → P w
  each_next w is = by (lives_after p event answer)
    where
      by : LivesAfter p (next p event answer) event answer → P w
      by (mapped lives) =
          let r = in-map (live_next p event answer) p.lives w (subst (IsIn w) lives is) in
          subst P r.2 (each r.0 r.1)
      by (made name source target tables e lives same) = pushed (in-push p.lives (made_live p name source target (each_once tables)) w (subst (IsIn w) lives is))
        where
          pushed : IsIn w p.lives ⊎ (made_live p name source target (each_once tables) ≡ w) → P w
          pushed (inl i) = subst P (same w) (each w i)
          pushed (inr f) = subst P f (new_one name source target tables e)
      by (ended name e lives same) = subst P (same w) (each w (in-filter (λ x. not (same_text x.name name)) p.lives w (subst (IsIn w) lives is)).0)

pub comes_from : (p : Plain) (event : Event) (answer : Answer) (w : Live) → IsIn w (next p event answer).lives → ComesFrom p event answer w
comes_from p event answer =
    each_next (ComesFrom p event answer) p event answer (λ v is. old v is refl) (λ name source target tables e. new name source target tables e refl refl refl refl refl)

-- ---- the next state

abbrev pub name_of : Plain → Live → Type 0
name_of p w = (name : List ℕ) → same_text w.name name ≡ true → live_at p name ≡ Some w

pub live_by_name : (p : Plain) → Apart p.lives → (w : Live) → IsIn w p.lives → name_of p w
live_by_name p apart w is name e =
    find_the_one (λ v. same_text v.name name) p.lives w apart
    (λ v f one. one.names ((same_text_decides v.name name).0 f ∙ sym ((same_text_decides w.name name).0 e))) is e

settled-change : (event : Event) (w v : Live) → WayChange event w v → IsSettled w → IsSettled v
settled-change event w v (kept same_way same_switched) settled way opens before =
    same_switched ∙ settled way (sym same_way ∙ opens) before
settled-change event w v (begun first begins rests opens is same) settled way now before =
    same ∙ sym is ∙ ap (λ x. x.before) (one_way v.way first way opens now)
settled-change event w v (goes_on first later was is same_before same_after holds) settled way now before =
    let one = one_way v.way later way is now in
    holds (settled first was) (ap (λ x. stands_done x write_journal) one ∙ before) ∙ ap (λ x. x.before) one
settled-change event w v (completed first steps was rests is) settled way now before = no_way v.way way rests now
settled-change event w v (abandoned first undoes was rests is journal) settled way now before = no_way v.way way rests now

undenied-taken : (p : Plain) (event : Event) (keyspace table : List ℕ) → refusal_of p event ≡ None → is_denied (next_taken p event).topology.keyspaces keyspace table ≡ is_denied p.topology.keyspaces keyspace table
undenied-taken p (add_keyspace name cuts) keyspace table none = denied_from_value (with_keyspace p.topology name cuts) p.topology keyspace table (value_of-with_keyspace p.topology name cuts (about.Denied keyspace table))
undenied-taken p (add_table k t) keyspace table none =
    denied_from_value (with_table p.topology k t) p.topology keyspace table (value_of-with_table_elsewhere p.topology k t (about.Denied keyspace table) (λ e. absurd cc))
undenied-taken p (edit_rule key target) keyspace table none = refl
undenied-taken p (complete workflow) keyspace table none = by (live_at p workflow)
  where
    by : (o : Option Live) → is_denied (with_completed p o).topology.keyspaces keyspace table ≡ is_denied p.topology.keyspaces keyspace table
    by None = refl
    by (Some w) = is_denied-completed p.topology w keyspace table
undenied-taken p event keyspace table none = ap (λ u. is_denied u.keyspaces keyspace table) (same_topology p event done (λ h. h))

undenied-next : (p : Plain) (event : Event) (answer : Answer) (keyspace table : List ℕ) → Answers p event answer → is_denied (next p event answer).topology.keyspaces keyspace table ≡ is_denied p.topology.keyspaces keyspace table
undenied-next p event done keyspace table given = undenied-taken p event keyspace table given.0
undenied-next p event (row r) keyspace table given = undenied-taken p event keyspace table given.0
undenied-next p event (shown s) keyspace table given = refl
undenied-next p event (refused refusal) keyspace table given = refl
undenied-next p (advance workflow name shard at at_most) (advanced events rows) keyspace table given =
    ap (λ u. is_denied u.keyspaces keyspace table) (same_topology p (advance workflow name shard at at_most) (advanced events rows) (λ h. h))
undenied-next p event (advanced events rows) keyspace table given = refl

-- no keyspace is ever taken away
keyspace-taken : (p : Plain) (event : Event) (k : List ℕ) → is_some (keyspace_at p.topology.keyspaces k) ≡ true → is_some (keyspace_at (next_taken p event).topology.keyspaces k) ≡ true
keyspace-taken p (add_keyspace name cuts) k has = place-push (same_text k) p.topology.keyspaces _ has
keyspace-taken p (add_table keyspace table) k has = keyspace_at-stays (with_new_table table) p.topology.keyspaces keyspace k ∙ has
keyspace-taken p (edit_rule key target) k has = has
keyspace-taken p (complete workflow) k has = by (live_at p workflow)
  where
    by : (o : Option Live) → is_some (keyspace_at (with_completed p o).topology.keyspaces k) ≡ true
    by None = has
    by (Some w) =
        keyspace_at-stays (with_tables w.tables) (with_keyspace_state (without_tables w.tables) p.topology.keyspaces w.source) w.target k
        ∙ keyspace_at-stays (without_tables w.tables) p.topology.keyspaces w.source k ∙ has
keyspace-taken p event k has = ap (λ u. is_some (keyspace_at u.keyspaces k)) (same_topology p event done (λ h. h)) ∙ has

keyspace-next : (p : Plain) (event : Event) (answer : Answer) (k : List ℕ) → is_some (keyspace_at p.topology.keyspaces k) ≡ true → is_some (keyspace_at (next p event answer).topology.keyspaces k) ≡ true
keyspace-next p event done k has = keyspace-taken p event k has
keyspace-next p event (row r) k has = keyspace-taken p event k has
keyspace-next p event (shown s) k has = has
keyspace-next p event (refused refusal) k has = has
keyspace-next p (advance workflow name shard at at_most) (advanced events rows) k has =
    ap (λ u. is_some (keyspace_at u.keyspaces k)) (same_topology p (advance workflow name shard at at_most) (advanced events rows) (λ h. h)) ∙ has
keyspace-next p event (advanced events rows) k has = has

-- an event that is not refused, or that changes nothing
pub taken_or_same : (p : Plain) (event : Event) (answer : Answer) → Answers p event answer → (refusal_of p event ≡ None) ⊎ (next p event answer ≡ p)
taken_or_same p event done given = inl given.0
taken_or_same p event (row r) given = inl given.0
taken_or_same p event (shown s) given = inl given.0
taken_or_same p event (advanced events rows) given = inl given.0
taken_or_same p event (refused refusal) given = inr refl

module _ (p : Plain) (event : Event) (answer : Answer) (has : HasParts p) (given : Answers p event answer) where
  abbrev q : Plain
  q = next p event answer

  topology-create : (name source target : List ℕ) (tables : List (List ℕ)) → event ≡ create name source target tables → q.topology ≡ p.topology
  topology-create name source target tables e = same_topology p event answer (λ h. subst ChangesTopology e h)

  apart-next : refusal_of p event ≡ None → LivesAfter p q event answer → Apart q.lives
  apart-next none (mapped lives) = subst Apart (sym lives) (apart-map (live_next p event answer) p.lives (sides-next p event answer) has.apart)
  apart-next none (made name source target tables e lives same) =
      let new = create-none p name source target tables (subst (λ x. refusal_of p x ≡ None) e none) in
      let live = made_live p name source target (each_once tables) in
      subst Apart (sym lives) (apart-push p.lives live (apart-new p name source target (each_once tables) new live refl refl refl refl) has.apart)
  apart-next none (ended name e lives same) = subst Apart (sym lives) (apart-filter (λ w. not (same_text w.name name)) p.lives has.apart)

  placed-next : refusal_of p event ≡ None → (w : Live) → IsIn w q.lives → ComesFrom p event answer w → IsPlaced q.topology w
  placed-next none w is (old v i e) =
      let sides : HasSides v w = subst (HasSides v) e (sides-next p event answer v) in
      let was = has.placed v i in
      let lives = subst (λ n. ends_workflow n event answer ≡ false) (sym sides.name) (not_ended p event answer w is) in
      record {
        sides = λ f. was.sides (sides.source ∙ f ∙ sym sides.target);
        source = ap (λ k. is_some (keyspace_at q.topology.keyspaces k)) (sym sides.source) ∙ keyspace-next p event answer v.source was.source;
        target = ap (λ k. is_some (keyspace_at q.topology.keyspaces k)) (sym sides.target) ∙ keyspace-next p event answer v.target was.target;
        there = λ table moved.
            let before : moves v table ≡ true = ap (list_any (λ t. same_text t table)) sides.tables ∙ moved in
            let keeps = and_from (moves v table) (same_text v.source v.source || same_text v.target v.source) before (ap (λ t. t || same_text v.target v.source) ((same_text_decides v.source v.source).1 refl)) in
            ap (λ k. is_present q.topology.keyspaces k table) (sym sides.source)
            ∙ present_from_value q.topology p.topology v.source table (value-kept p v has i (about.Present v.source table) keeps event answer given lives)
            ∙ was.there table before;
      }
  placed-next none w is (new name source target tables e is_name is_source is_target is_tables rests) =
      subst (λ u. IsPlaced u w) (sym (topology-create name source target tables e))
      (placed-new p name source target (each_once tables) (create-none p name source target tables (subst (λ x. refusal_of p x ≡ None) e none)) w is_name is_source is_target is_tables)

  settled-next : (w : Live) → ComesFrom p event answer w → IsSettled w
  settled-next w (old v i e) =
      subst IsSettled e (settled-change event v (live_next p event answer v) (way_change p event answer v (live_by_name p has.apart v i) given) (has.settled v i))
  settled-next w (new name source target tables e is_name is_source is_target is_tables rests) = λ way opens before. no_way w.way way rests opens

  from_taken : (refusal_of p event ≡ None) ⊎ (q ≡ p) → HasParts q
  from_taken (inr same) = subst HasParts (sym same) has
  from_taken (inl none) = record {
    apart = apart-next none (lives_after p event answer);
    placed = λ w is. placed-next none w is (comes_from p event answer w is);
    settled = λ w is. settled-next w (comes_from p event answer w is);
    undenied = λ keyspace table. undenied-next p event answer keyspace table given ∙ has.undenied keyspace table;
  }

  pub next_has_parts : HasParts q
  next_has_parts = from_taken (taken_or_same p event answer given)

-- ---- each state that a run reaches

-- what each event keeps, a run keeps
module _ (Q : Plain → Type 0) (keeps : (p : Plain) (event : Event) (answer : Answer) → Answers p event answer → Q p → Q (next p event answer)) where
  pub run_keeps : (events : List Event) (answers : List Answer) (p : Plain) → Run p events answers → Q p → Q (after p events answers)
  run_keeps [] answers p run holds = holds
  run_keeps (event ∷ events) [] p run holds = holds
  run_keeps (event ∷ events) (answer ∷ answers) p run holds = run_keeps events answers (next p event answer) run.1 (keeps p event answer run.0 holds)

  pub reached_holds : ((scopes : List Scope) → Q (opening scopes)) → (p : Plain) → IsReached p → Q p
  reached_holds first p reached = subst Q reached.is (run_keeps reached.events reached.answers (opening reached.scopes) reached.run (first reached.scopes))

pub run_has_parts : (events : List Event) (answers : List Answer) (p : Plain) → Run p events answers → HasParts p → HasParts (after p events answers)
run_has_parts = run_keeps HasParts (λ p event answer given has. next_has_parts p event answer has given)

pub reached_has_parts : (p : Plain) → IsReached p → HasParts p
reached_has_parts = reached_holds HasParts (λ p event answer given has. next_has_parts p event answer has given) opening_has_parts

-- what each event keeps where the parts are apart
module _ (Q : Plain → Type 0) (first : (scopes : List Scope) → Q (opening scopes))
    (keeps : (p : Plain) (event : Event) (answer : Answer) → HasParts p → Answers p event answer → Q p → Q (next p event answer)) where
  pub reached_keeps : (p : Plain) → IsReached p → Q p
  reached_keeps p reached =
      (reached_holds (λ q. HasParts q × Q q) (λ q event answer given both. (next_has_parts q event answer both.0 given, keeps q event answer both.0 given both.1))
      (λ scopes. (opening_has_parts scopes, first scopes)) p reached).1

-- what a new workflow has, and each event keeps, has each live workflow in each state that a run reaches
module _ (P : Live → Type 0) (new : (p : Plain) (name source target : List ℕ) (tables : List (List ℕ)) → P (made_live p name source target tables))
    (keeps : (p : Plain) (event : Event) (w : Live) → P w → Keeps P p event w) where
  abbrev AllHave : Plain → Type 0
  AllHave p = (w : Live) → IsIn w p.lives → P w

  pub reached_have : (p : Plain) → IsReached p → AllHave p
  reached_have =
      reached_keeps AllHave (λ scopes w is. absurd is)
      (λ p event answer has given all.
      each_next P p event answer (λ w is. next_has P p w (live_by_name p has.apart w is) event answer (keeps p event w (all w is)) given)
      (λ name source target tables e. new p name source target (each_once tables)))
