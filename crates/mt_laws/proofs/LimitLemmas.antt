-- In each state that a run reaches no limit is passed.
use Rattle.std.proofs.Common.{◌≡◌, ◌≢◌, ◌⊎◌, inl, inr, ℕ, suc, ◌+◌, ◌≤◌, ◌<◌, Bool, true, false, not, cond, eqb, eqb-true, List, [], ◌∷◌, ◌++◌, map, length, Option, None, Some, refl, sym, ap, ◌∙◌, subst, arith, leb, ltb, ltb-false, length-append}
use Rattle.std.proofs.lemmas.Bool.{leb-false, true≢false}
use Rattle.std.proofs.lemmas.List.{length-map}
use Rattle.std.proofs.lemmas.List.Sums.{sum_by_push}
use Rattle.std.specs.List.{fold, sum_by}
use Rattle.std.specs.Option.{option_map_or}
use Rattle.std.specs.Prelude.{◌||◌}
use Rattle.mt_names.specs.Names.{same_text}
use Rattle.mt_names.proofs.EntryLemmas.{same_or_other}
use Rattle.mt_names.proofs.SameLemmas.{same_text_decides}
use Rattle.mt_model.specs.Topology.{new_keyspace, Keyspaces, TopologyState, keyspace_at, with_keyspace_state, with_new_table}
use Rattle.mt_model.specs.declared.entries.Scope.{Scope}
use Rattle.mt_model.specs.Limits.{most_keyspaces, most_rules, most_tables_in_keyspace}
use Rattle.mt_plain.specs.Answers.{Answers}
use Rattle.mt_plain.specs.Events.{Event, add_keyspace, add_table, create, advance, begin_switch, begin_reverse, step, undo, cancel, complete, StreamName, Answer, done, row, advanced, shown, refused, exists, full, no_keyspace, stale, undoing, Way}
use Rattle.mt_plain.specs.Next.{completed, journal_after, next, next_taken, with_advance, with_completed, with_tables, without_live, without_tables}
use Rattle.mt_plain.specs.Plain.{Live, Plain, each_once, has_keyspace, live_at, next_step, opening, twelve_keys, write_journal}
use Rattle.mt_plain.specs.Refuse.{begin_reverse_refusal, begin_switch_refusal, keys_without_rule, most_journal_entries, most_ways, most_workflows, or_else, own_refusal, refusal_of, refuse_if, rule_count, step_refusal, table_count}
use Rattle.mt_plain.specs.Serve.{has_table}
use Rattle.mt_laws.specs.Changes.{HasSides}
use Rattle.mt_laws.specs.WayBack.{IsReached}
use Rattle.mt_laws.proofs.ChangeLemmas.{live_next, live_taken, lives-advance, sides-next}
use Rattle.mt_laws.proofs.CountLemmas.{fold-passing, length-changed, length-kept, new_table-count, sum-filter, sum-map, sum-without, tables-changed, tables-elsewhere, tables-kept, tables-pushed, tables_in, with_tables-count, without_tables-count}
use Rattle.mt_laws.proofs.LiveLemmas.{IsIn, find_some, text_differs}
use Rattle.mt_laws.proofs.PartLemmas.{HasParts}
use Rattle.mt_laws.proofs.ReachLemmas.{create-none, reached_keeps}
use Rattle.mt_laws.proofs.RefusalLemmas.{at_rest-none, in_workflow-none, on_way-none, or_else-none, refuse_if-none}

-- ---- what each event that is taken keeps, and an advance

module _ (Q : Plain → Type 0) (first : (scopes : List Scope) → Q (opening scopes))
    (taken : (p : Plain) (event : Event) → HasParts p → refusal_of p event ≡ None → Q p → Q (next_taken p event))
    (advances : (p : Plain) (workflow : List ℕ) (stream : StreamName) (shard at at_most events rows : ℕ) (o : Option Live) → live_at p workflow ≡ o → Q p → Q (with_advance p stream shard at at_most events rows o)) where
  keeps : (p : Plain) (event : Event) (answer : Answer) → HasParts p → Answers p event answer → Q p → Q (next p event answer)
  keeps p event done has given holds = taken p event has given.0 holds
  keeps p event (row r) has given holds = taken p event has given.0 holds
  keeps p event (shown s) has given holds = holds
  keeps p event (refused refusal) has given holds = holds
  keeps p (advance workflow stream shard at at_most) (advanced events rows) has given holds = advances p workflow stream shard at at_most events rows (live_at p workflow) refl holds
  keeps p event (advanced events rows) has given holds = holds

  pub reached_taken : (p : Plain) → IsReached p → Q p
  reached_taken = reached_keeps Q first keeps

-- neither of three tests holds
pub neither : (a b c : Bool) → (a || b || c) ≡ false → (a ≡ false) × (b ≡ false) × (c ≡ false)
neither true b c e = absurd (true≢false e)
neither false true c e = absurd (true≢false e)
neither false false c e = (refl, refl, e)

-- ---- keyspaces

abbrev KeyspacesFit : Plain → Type 0
KeyspacesFit p = length p.topology.keyspaces ≤ most_keyspaces

length-completed : (u : TopologyState) (w : Live) → length (completed u w).keyspaces ≡ length u.keyspaces
length-completed u w =
    length-changed (with_tables w.tables) (with_keyspace_state (without_tables w.tables) u.keyspaces w.source) w.target ∙ length-changed (without_tables w.tables) u.keyspaces w.source

keyspaces-taken : (p : Plain) (event : Event) → HasParts p → refusal_of p event ≡ None → KeyspacesFit p → KeyspacesFit (next_taken p event)
keyspaces-taken p (add_keyspace name cuts) has none fits =
    let limit = refuse_if (leb most_keyspaces (length p.topology.keyspaces)) full in
    let test = refuse_if-none (leb most_keyspaces (length p.topology.keyspaces)) full (or_else-none (refuse_if (has_keyspace p name) exists) limit none).1 in
    let below = leb-false most_keyspaces (length p.topology.keyspaces) test in
    let longer = length-append p.topology.keyspaces ((name, new_keyspace cuts) ∷ []) in
    omega arith
keyspaces-taken p (add_table k t) has none fits = subst (λ n. n ≤ most_keyspaces) (sym (length-changed (with_new_table t) p.topology.keyspaces k)) fits
keyspaces-taken p (complete workflow) has none fits = by (live_at p workflow)
  where
    by : (o : Option Live) → KeyspacesFit (with_completed p o)
    by None = fits
    by (Some w) = subst (λ n. n ≤ most_keyspaces) (sym (length-completed p.topology w)) fits
keyspaces-taken p event has none fits = fits

keyspaces-advance : (p : Plain) (workflow : List ℕ) (stream : StreamName) (shard at at_most events rows : ℕ) (o : Option Live) → live_at p workflow ≡ o → KeyspacesFit p → KeyspacesFit (with_advance p stream shard at at_most events rows o)
keyspaces-advance p workflow stream shard at at_most events rows None live fits = fits
keyspaces-advance p workflow stream shard at at_most events rows (Some w) live fits = fits

pub keyspaces_fit : (p : Plain) → IsReached p → KeyspacesFit p
keyspaces_fit = reached_taken KeyspacesFit (λ scopes. omega arith) keyspaces-taken keyspaces-advance

-- ---- live workflows

abbrev WorkflowsFit : Plain → Type 0
WorkflowsFit p = length p.lives ≤ most_workflows

workflows-mapped : (f : Live → Live) (lives : List Live) → length lives ≤ most_workflows → length (map f lives) ≤ most_workflows
workflows-mapped f lives fits = subst (λ n. n ≤ most_workflows) (sym (length-map lives f)) fits

workflows-without : (name : List ℕ) (lives : List Live) → length lives ≤ most_workflows → length (without_live name lives) ≤ most_workflows
workflows-without name lives fits = let a = length-kept (λ w. not (same_text w.name name)) lives in omega arith

workflows-taken : (p : Plain) (event : Event) → HasParts p → refusal_of p event ≡ None → WorkflowsFit p → WorkflowsFit (next_taken p event)
workflows-taken p (create name source target tables) has none fits =
    let tests = neither (leb most_workflows (length p.lives)) (ltb most_tables_in_keyspace (table_count p target + length (each_once tables))) (ltb most_rules (fold (λ n table. n + keys_without_rule p.topology.rules (twelve_keys source target table)) (rule_count p) (each_once tables))) (create-none p name source target tables none).room in
    let below = leb-false most_workflows (length p.lives) tests.0 in
    subst (λ n. n ≤ most_workflows) (sym (length-append p.lives _)) (omega arith)
workflows-taken p (begin_switch workflow types) has none fits = workflows-mapped (live_taken p (begin_switch workflow types)) p.lives fits
workflows-taken p (begin_reverse workflow types) has none fits = workflows-mapped (live_taken p (begin_reverse workflow types)) p.lives fits
workflows-taken p (step workflow at) has none fits = workflows-mapped (live_taken p (step workflow at)) p.lives fits
workflows-taken p (undo workflow at) has none fits = workflows-mapped (live_taken p (undo workflow at)) p.lives fits
workflows-taken p (cancel workflow) has none fits = workflows-without workflow p.lives fits
workflows-taken p (complete workflow) has none fits = by (live_at p workflow)
  where
    by : (o : Option Live) → WorkflowsFit (with_completed p o)
    by None = fits
    by (Some w) = workflows-without w.name p.lives fits
workflows-taken p event has none fits = fits

workflows-advance : (p : Plain) (workflow : List ℕ) (stream : StreamName) (shard at at_most events rows : ℕ) (o : Option Live) → live_at p workflow ≡ o → WorkflowsFit p → WorkflowsFit (with_advance p stream shard at at_most events rows o)
workflows-advance p workflow stream shard at at_most events rows None live fits = fits
workflows-advance p workflow stream shard at at_most events rows (Some w) live fits = workflows-mapped _ p.lives fits

pub workflows_fit : (p : Plain) → IsReached p → WorkflowsFit p
workflows_fit = reached_taken WorkflowsFit (λ scopes. omega arith) workflows-taken workflows-advance

-- ---- ways, and the journal

abbrev WaysFit : Plain → Type 0
WaysFit p = p.ways ≤ most_ways

begun-fits : (p : Plain) → refuse_if (leb most_ways p.ways) full ≡ None → suc p.ways ≤ most_ways
begun-fits p none = let below = leb-false most_ways p.ways (refuse_if-none (leb most_ways p.ways) full none) in omega arith

ways-taken : (p : Plain) (event : Event) → HasParts p → refusal_of p event ≡ None → WaysFit p → WaysFit (next_taken p event)
ways-taken p (begin_switch workflow types) has none fits =
    let r = in_workflow-none (live_at p workflow) (begin_switch_refusal p types) none in
    begun-fits p (or_else-none _ _ (or_else-none _ _ (at_rest-none r.0 _ r.2).1).1).1
ways-taken p (begin_reverse workflow types) has none fits =
    let r = in_workflow-none (live_at p workflow) (begin_reverse_refusal p types) none in
    begun-fits p (or_else-none _ _ (at_rest-none r.0 _ r.2).1).1
ways-taken p (complete workflow) has none fits = by (live_at p workflow)
  where
    by : (o : Option Live) → WaysFit (with_completed p o)
    by None = fits
    by (Some w) = fits
ways-taken p event has none fits = fits

ways-advance : (p : Plain) (workflow : List ℕ) (stream : StreamName) (shard at at_most events rows : ℕ) (o : Option Live) → live_at p workflow ≡ o → WaysFit p → WaysFit (with_advance p stream shard at at_most events rows o)
ways-advance p workflow stream shard at at_most events rows None live fits = fits
ways-advance p workflow stream shard at at_most events rows (Some w) live fits = fits

pub ways_fit : (p : Plain) → IsReached p → WaysFit p
ways_fit = reached_taken WaysFit (λ scopes. omega arith) ways-taken ways-advance

abbrev JournalFits : Plain → Type 0
JournalFits p = p.journal ≤ most_journal_entries

-- a step that writes the journal is refused where that is full
step-fits : (p : Plain) (w : Live) (way : Way) → own_refusal p w way (next_step way) ≡ None → JournalFits p → cond (eqb (next_step way) write_journal) (suc p.journal) p.journal ≤ most_journal_entries
step-fits p w way none fits = by (eqb (next_step way) write_journal) refl
  where
    by : (t : Bool) → eqb (next_step way) write_journal ≡ t → cond t (suc p.journal) p.journal ≤ most_journal_entries
    by true t =
        let here : refuse_if (leb most_journal_entries p.journal) full ≡ None = sym (ap (own_refusal p w way) (eqb-true (next_step way) 6 t)) ∙ none in
        let below = leb-false most_journal_entries p.journal (refuse_if-none (leb most_journal_entries p.journal) full here) in
        omega arith
    by false t = fits

journal-taken : (p : Plain) (event : Event) → HasParts p → refusal_of p event ≡ None → JournalFits p → JournalFits (next_taken p event)
journal-taken p (step workflow at) has none fits =
    let r = in_workflow-none (live_at p workflow) (step_refusal p at) none in
    let w = r.0 in
    let s = on_way-none w.way (λ way. or_else (refuse_if way.undoing undoing) (or_else (refuse_if (not (eqb at way.done)) (stale way.done)) (own_refusal p w way (next_step way)))) r.2 in
    let way = s.0 in
    let own = own_refusal p w way (next_step way) in
    let tested = or_else (refuse_if (not (eqb at way.done)) (stale way.done)) own in
    let none_own = (or_else-none (refuse_if (not (eqb at way.done)) (stale way.done)) own (or_else-none (refuse_if way.undoing undoing) tested s.2).1).1 in
    let is : journal_after p (live_at p workflow) ≡ cond (eqb (next_step way) write_journal) (suc p.journal) p.journal =
    ap (journal_after p) r.1 ∙ ap (λ o. option_map_or (λ (v : Way). cond (eqb (next_step v) write_journal) (suc p.journal) p.journal) o p.journal) s.1 in
    subst (λ n. n ≤ most_journal_entries) (sym is) (step-fits p w way none_own fits)
journal-taken p (complete workflow) has none fits = by (live_at p workflow)
  where
    by : (o : Option Live) → JournalFits (with_completed p o)
    by None = fits
    by (Some w) = fits
journal-taken p event has none fits = fits

journal-advance : (p : Plain) (workflow : List ℕ) (stream : StreamName) (shard at at_most events rows : ℕ) (o : Option Live) → live_at p workflow ≡ o → JournalFits p → JournalFits (with_advance p stream shard at at_most events rows o)
journal-advance p workflow stream shard at at_most events rows None live fits = fits
journal-advance p workflow stream shard at at_most events rows (Some w) live fits = fits

pub journal_fits : (p : Plain) → IsReached p → JournalFits p
journal_fits = reached_taken JournalFits (λ scopes. omega arith) journal-taken journal-advance

-- ---- tables

-- those that workflows move to a keyspace
abbrev moved_to : List ℕ → List Live → ℕ
moved_to keyspace lives = sum_by (λ w. cond (same_text w.target keyspace) (length w.tables) 0) lives

abbrev count_in : Keyspaces → List Live → List ℕ → ℕ
count_in keyspaces lives keyspace = tables_in (keyspace_at keyspaces keyspace) + moved_to keyspace lives

count_is : (p : Plain) (keyspace : List ℕ) → table_count p keyspace ≡ count_in p.topology.keyspaces p.lives keyspace
count_is p keyspace = fold-passing (λ w. same_text w.target keyspace) (λ w. length w.tables) (tables_in (keyspace_at p.topology.keyspaces keyspace)) p.lives

abbrev TablesFit : Plain → Type 0
TablesFit p = (keyspace : List ℕ) → count_in p.topology.keyspaces p.lives keyspace ≤ 256

moved-mapped : (f : Live → Live) (lives : List Live) (keyspace : List ℕ) → ((w : Live) → HasSides w (f w)) → moved_to keyspace (map f lives) ≡ moved_to keyspace lives
moved-mapped f lives keyspace same =
    sum-map (λ w. cond (same_text w.target keyspace) (length w.tables) 0) f lives
    (λ w. ap (λ k. cond (same_text k keyspace) (length (f w).tables) 0) (sym (same w).target) ∙ ap (λ l. cond (same_text w.target keyspace) (length l) 0) (sym (same w).tables))

tables-mapped : (p : Plain) (f : Live → Live) → ((w : Live) → HasSides w (f w)) → TablesFit p → (keyspace : List ℕ) → count_in p.topology.keyspaces (map f p.lives) keyspace ≤ 256
tables-mapped p f same fits keyspace = let a = moved-mapped f p.lives keyspace same in let b = fits keyspace in omega arith

tables-without : (p : Plain) (name : List ℕ) → TablesFit p → (keyspace : List ℕ) → count_in p.topology.keyspaces (without_live name p.lives) keyspace ≤ 256
tables-without p name fits keyspace =
    let a = sum-filter (λ w. cond (same_text w.target keyspace) (length w.tables) 0) (λ w. not (same_text w.name name)) p.lives in
    let b = fits keyspace in
    omega arith

new_table-fits : (p : Plain) (k t : List ℕ) → refusal_of p (add_table k t) ≡ None → TablesFit p → (keyspace : List ℕ) → count_in (with_keyspace_state (with_new_table t) p.topology.keyspaces k) p.lives keyspace ≤ 256
new_table-fits p k t none fits keyspace = by (same_or_other same_text same_text_decides k keyspace)
  where
    limit : table_count p k < 256
    limit =
        let last = refuse_if (leb most_tables_in_keyspace (table_count p k)) full in
        let rest = or_else (refuse_if (has_table p k t) exists) last in
        leb-false most_tables_in_keyspace (table_count p k)
        (refuse_if-none (leb most_tables_in_keyspace (table_count p k)) full (or_else-none (refuse_if (has_table p k t) exists) last (or_else-none (refuse_if (not (has_keyspace p k)) no_keyspace) rest none).1).1)

    by : (k ≡ keyspace) ⊎ (k ≢ keyspace) → count_in (with_keyspace_state (with_new_table t) p.topology.keyspaces k) p.lives keyspace ≤ 256
    by (inl is) =
        subst (λ n. count_in (with_keyspace_state (with_new_table t) p.topology.keyspaces k) p.lives n ≤ 256) is
        (let a = tables-changed (with_new_table t) p.topology.keyspaces k 1 (new_table-count t) in
        let b = count_is p k in
        let c = limit in
        omega arith)
    by (inr other) = let a = tables-elsewhere (with_new_table t) p.topology.keyspaces k keyspace other in let b = fits keyspace in omega arith

created-fits : (p : Plain) (name source target : List ℕ) (tables : List (List ℕ)) (w : Live) → w.target ≡ target → w.tables ≡ each_once tables → refusal_of p (create name source target tables) ≡ None → TablesFit p
    → (keyspace : List ℕ) → count_in p.topology.keyspaces (p.lives ++ w ∷ []) keyspace ≤ 256
created-fits p name source target tables w is_target is_tables none fits keyspace = by (same_or_other same_text same_text_decides target keyspace)
  where
    limit : table_count p target + length (each_once tables) ≤ 256
    limit =
        let tests = neither (leb most_workflows (length p.lives)) (ltb most_tables_in_keyspace (table_count p target + length (each_once tables))) (ltb most_rules (fold (λ n table. n + keys_without_rule p.topology.rules (twelve_keys source target table)) (rule_count p) (each_once tables))) (create-none p name source target tables none).room in
        ltb-false most_tables_in_keyspace (table_count p target + length (each_once tables)) tests.1

    more : moved_to keyspace (p.lives ++ w ∷ []) ≡ moved_to keyspace p.lives + cond (same_text target keyspace) (length (each_once tables)) 0
    more =
        sum_by_push (λ v. cond (same_text v.target keyspace) (length v.tables) 0) p.lives w
        ∙ ap (λ k. moved_to keyspace p.lives + cond (same_text k keyspace) (length w.tables) 0) is_target
        ∙ ap (λ l. moved_to keyspace p.lives + cond (same_text target keyspace) (length l) 0) is_tables

    by : (target ≡ keyspace) ⊎ (target ≢ keyspace) → count_in p.topology.keyspaces (p.lives ++ w ∷ []) keyspace ≤ 256
    by (inl is) =
        let a = more in
        let b : cond (same_text target keyspace) (length (each_once tables)) 0 ≡ length (each_once tables) = ap (λ t. cond t (length (each_once tables)) 0) ((same_text_decides target keyspace).1 is) in
        let c : table_count p target ≡ count_in p.topology.keyspaces p.lives keyspace = ap (table_count p) is ∙ count_is p keyspace in
        let d = limit in
        omega arith
    by (inr other) =
        let a = more in
        let b : cond (same_text target keyspace) (length (each_once tables)) 0 ≡ 0 = ap (λ t. cond t (length (each_once tables)) 0) (text_differs target keyspace other) in
        let c = fits keyspace in
        omega arith

module _ (p : Plain) (w : Live) (in_it : IsIn w p.lives) (apart : w.source ≢ w.target) (fits : TablesFit p) where
  abbrev sourced : Keyspaces
  sourced = with_keyspace_state (without_tables w.tables) p.topology.keyspaces w.source

  abbrev targeted : Keyspaces
  targeted = with_keyspace_state (with_tables w.tables) sourced w.target

  completed-fits : (keyspace : List ℕ) → count_in targeted (without_live w.name p.lives) keyspace ≤ 256
  completed-fits keyspace = by (same_or_other same_text same_text_decides w.target keyspace)
    where
      by : (w.target ≡ keyspace) ⊎ (w.target ≢ keyspace) → count_in targeted (without_live w.name p.lives) keyspace ≤ 256
      by (inl is) =
          subst (λ n. count_in targeted (without_live w.name p.lives) n ≤ 256) is
          (let a = tables-changed (with_tables w.tables) sourced w.target (length w.tables) (with_tables-count w.tables) in
          let b = tables-elsewhere (without_tables w.tables) p.topology.keyspaces w.source w.target apart in
          let c = sum-without (λ v. cond (same_text v.target w.target) (length v.tables) 0) (λ v. not (same_text v.name w.name)) p.lives w in_it (ap not ((same_text_decides w.name w.name).1 refl)) in
          let d : cond (same_text w.target w.target) (length w.tables) 0 ≡ length w.tables = ap (λ t. cond t (length w.tables) 0) ((same_text_decides w.target w.target).1 refl) in
          let e = fits w.target in
          omega arith)
      by (inr other) =
          let a = tables-elsewhere (with_tables w.tables) sourced w.target keyspace other in
          let b = tables-kept (without_tables w.tables) p.topology.keyspaces w.source keyspace (without_tables-count w.tables) in
          let c = sum-filter (λ v. cond (same_text v.target keyspace) (length v.tables) 0) (λ v. not (same_text v.name w.name)) p.lives in
          let e = fits keyspace in
          omega arith

tables-taken : (p : Plain) (event : Event) → HasParts p → refusal_of p event ≡ None → TablesFit p → TablesFit (next_taken p event)
tables-taken p (add_keyspace name cuts) has none fits = λ keyspace. let a = tables-pushed p.topology.keyspaces name cuts keyspace in let b = fits keyspace in omega arith
tables-taken p (add_table k t) has none fits = new_table-fits p k t none fits
tables-taken p (create name source target tables) has none fits = created-fits p name source target tables _ refl refl none fits
tables-taken p (begin_switch workflow types) has none fits = tables-mapped p (live_taken p (begin_switch workflow types)) (sides-next p (begin_switch workflow types) done) fits
tables-taken p (begin_reverse workflow types) has none fits = tables-mapped p (live_taken p (begin_reverse workflow types)) (sides-next p (begin_reverse workflow types) done) fits
tables-taken p (step workflow at) has none fits = tables-mapped p (live_taken p (step workflow at)) (sides-next p (step workflow at) done) fits
tables-taken p (undo workflow at) has none fits = tables-mapped p (live_taken p (undo workflow at)) (sides-next p (undo workflow at) done) fits
tables-taken p (cancel workflow) has none fits = tables-without p workflow fits
tables-taken p (complete workflow) has none fits = by (live_at p workflow) refl
  where
    by : (o : Option Live) → live_at p workflow ≡ o → TablesFit (with_completed p o)
    by None live = fits
    by (Some w) live = let is = (find_some (λ v. same_text v.name workflow) p.lives w live).0 in completed-fits p w is (has.placed w is).sides fits
tables-taken p event has none fits = fits

tables-advance : (p : Plain) (workflow : List ℕ) (stream : StreamName) (shard at at_most events rows : ℕ) (o : Option Live) → live_at p workflow ≡ o → TablesFit p → TablesFit (with_advance p stream shard at at_most events rows o)
tables-advance p workflow stream shard at at_most events rows None live fits = fits
tables-advance p workflow stream shard at at_most events rows (Some w) live fits = λ keyspace.
    subst (λ l. count_in p.topology.keyspaces l keyspace ≤ 256) (sym (lives-advance p workflow stream shard at at_most events rows (Some w) live))
    (tables-mapped p (live_next p (advance workflow stream shard at at_most) (advanced events rows)) (sides-next p (advance workflow stream shard at at_most) (advanced events rows)) fits keyspace)

pub tables_fit : (p : Plain) → IsReached p → (keyspace : List ℕ) → table_count p keyspace ≤ most_tables_in_keyspace
tables_fit p reached keyspace =
    let a = count_is p keyspace in
    let b = reached_taken TablesFit (λ scopes keyspace. omega arith) tables-taken tables-advance p reached keyspace in
    omega arith
