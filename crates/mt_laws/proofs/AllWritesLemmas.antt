-- All acknowledged writes to the tables of a live workflow: a write to one of them at one of its sides adds itself, and no other event
-- changes them.
use Rattle.std.proofs.Common.{◌≡◌, inl, inr, ℕ, ◌+◌, Bool, true, false, not, cond, eqb, List, [], ◌∷◌, ◌++◌, length, filter, Option, None, Some, refl, sym, ap, ◌∙◌, subst, arith, unwrap_or, eqb-true, length-append}
use Rattle.std.proofs.lemmas.Bool.{true≢false, eq-eqb, and_from, and_parts, not-false, or_right}
use Rattle.std.proofs.lemmas.List.Elements.{filter-append}
use Rattle.std.specs.List.{list_any}
use Rattle.std.specs.Option.{option_map_or}
use Rattle.std.specs.Prelude.{◌&&◌, ◌||◌, nat_le}
use Rattle.mt_names.specs.declared.keys.RuleTarget.{RuleTarget}
use Rattle.mt_names.specs.Names.{same_text}
use Rattle.mt_names.specs.Same.{same_target}
use Rattle.mt_names.proofs.EntryLemmas.{lookup-push_stood}
use Rattle.mt_names.proofs.SameLemmas.{same_text_decides}
use Rattle.mt_model.specs.declared.rows.Op.{Op}
use Rattle.mt_model.specs.Limits.{longest_log}
use Rattle.mt_model.specs.Rows.{op_key, op_row}
use Rattle.mt_model.specs.Topology.{is_present}
use Rattle.mt_plain.specs.Answers.{Answers, Run, after}
use Rattle.mt_plain.specs.Events.{Event, write, add_table, complete, Answer, done, row, advanced, shown, refused, denied, full, no_keyspace, no_table}
use Rattle.mt_plain.specs.Next.{next, row_left, with_completed}
use Rattle.mt_plain.specs.Plain.{Live, Plain, Write, has_keyspace, in_keyspace, is_side, live_at, mover, moves, number_of, opening, shard_at}
use Rattle.mt_plain.specs.Refuse.{or_else, refusal_of, refuse_if, row_refusal, unknown_table}
use Rattle.mt_plain.specs.Serve.{has_table, refuses}
use Rattle.mt_plain.specs.Slots.{log_length}
use Rattle.mt_plain.specs.Writes.{client_number, client_row, is_write_to, writes_to}
use Rattle.mt_laws.specs.Changes.{HasSides}
use Rattle.mt_laws.specs.Numbers.{number_at}
use Rattle.mt_laws.specs.WayBack.{IsReached, ends_workflow}
use Rattle.mt_laws.proofs.CompleteLemmas.{number-unmoved}
use Rattle.mt_laws.proofs.CopyLemmas.{any_moved, client_number-side}
use Rattle.mt_laws.proofs.EntryValueLemmas.{in_moved}
use Rattle.mt_laws.proofs.LiveLemmas.{IsIn, find_some, find_the_one, unique}
use Rattle.mt_laws.proofs.NumberLemmas.{one_name-run}
use Rattle.mt_laws.proofs.NumberedLemmas.{reached_is_numbered}
use Rattle.mt_laws.proofs.PartLemmas.{HasParts}
use Rattle.mt_laws.proofs.ReachLemmas.{reached_has_parts, there_unmoved}
use Rattle.mt_laws.proofs.RefusalLemmas.{or_else-none, refuse_if-none}
use Rattle.mt_laws.proofs.UntouchedLemmas.{same_numbers, same_writes}
use Rattle.mt_laws.proofs.WritableLemmas.{side_by-is_side}

-- ---- each state that a run reaches, with the event that comes next

pub run_push : (events : List Event) (answers : List Answer) (p : Plain) (event : Event) (answer : Answer) → Run p events answers → Answers (after p events answers) event answer
    → Run p (events ++ event ∷ []) (answers ++ answer ∷ []) × (after p (events ++ event ∷ []) (answers ++ answer ∷ []) ≡ next (after p events answers) event answer)
run_push [] [] p event answer run given = ((given, tt), refl)
run_push [] (a ∷ answers) p event answer run given = absurd run
run_push (e ∷ events) [] p event answer run given = absurd run
run_push (e ∷ events) (a ∷ answers) p event answer run given =
    let r = run_push events answers (next p e a) event answer run.1 given in
    ((run.0, r.0), r.1)

pub reached_next : (p : Plain) (event : Event) (answer : Answer) → IsReached p → Answers p event answer → IsReached (next p event answer)
reached_next p event answer reached given =
    let r = run_push reached.events reached.answers (opening reached.scopes) event answer reached.run (subst (λ q. Answers q event answer) (sym reached.is) given) in
    record {
      scopes = reached.scopes;
      events = reached.events ++ event ∷ [];
      answers = reached.answers ++ answer ∷ [];
      run = r.0;
      is = r.1 ∙ ap (λ q. next q event answer) reached.is;
    }

-- ---- two tables have two numbers

pub one_name : (p : Plain) → IsReached p → (a b : RuleTarget) (n : ℕ) → number_at p.numbers a ≡ Some n → number_at p.numbers b ≡ Some n → a ≡ b
one_name p reached a b n at_a at_b =
    one_name-run reached.scopes reached.events reached.answers a b n (subst (λ q. number_at q.numbers a ≡ Some n) (sym reached.is) at_a) (subst (λ q. number_at q.numbers b ≡ Some n) (sym reached.is) at_b)

-- tables that are there, of one number, are one
pub one_table : (p : Plain) → IsReached p → (k t keyspace table : List ℕ) → is_present p.topology.keyspaces k t ≡ true → is_present p.topology.keyspaces keyspace table ≡ true → number_of p k t ≡ number_of p keyspace table → (k ≡ keyspace) × (t ≡ table)
one_table p reached k t keyspace table here there same =
    let is = reached_is_numbered p reached in
    let m = is.numbered k t here in
    let n = is.numbered keyspace table there in
    let m_is : number_of p k t ≡ m.0 = ap (λ o. unwrap_or o p.made) m.1 in
    let n_is : number_of p keyspace table ≡ n.0 = ap (λ o. unwrap_or o p.made) n.1 in
    let e = one_name p reached (in_keyspace k t) (in_keyspace keyspace table) m.0 m.1 (n.1 ∙ ap Some (sym n_is ∙ sym same ∙ m_is)) in
    (ap (λ x. x.keyspace) e, ap (λ x. x.table) e)

-- ---- to which tables a write is

pub any_some : {X : Type 0} (test : X → Bool) (xs : List X) → list_any test xs ≡ true → (x : X) × IsIn x xs × (test x ≡ true)
any_some test [] e = absurd (true≢false (sym e))
any_some {X} test (x ∷ xs) e = by (any_some test xs) (test x) refl
  where
    by : (list_any test xs ≡ true → (y : X) × IsIn y xs × (test y ≡ true)) → (t : Bool) → test x ≡ t → (y : X) × IsIn y (x ∷ xs) × (test y ≡ true)
    by again true t = (x, inl refl, t)
    by again false t = let r = again (sym (ap (λ b. b || list_any test xs) t) ∙ e) in (r.0, inr r.1, r.2)

pub write_there : (p : Plain) (k t : List ℕ) (op : Op) → refusal_of p (write k t op) ≡ None → has_table p k t ≡ true
write_there p k t op none =
    let by_row = or_else (row_refusal (op_row op (client_row p k t (op_key op)))) (refuse_if (nat_le longest_log (log_length p k (shard_at p k (op_key op)))) full) in
    let by_list = refuse_if (refuses p k (shard_at p k (op_key op)) t) denied in
    let r = or_else-none (unknown_table p k t) (or_else by_list by_row) none in
    let s = or_else-none (refuse_if (not (has_keyspace p k)) no_keyspace) (refuse_if (not (has_table p k t)) no_table) r.0 in
    not-false (has_table p k t) (refuse_if-none (not (has_table p k t)) no_table s.1)

module _ (p : Plain) (reached : IsReached p) (w : Live) (in_it : IsIn w p.lives) where
  has : HasParts p
  has = reached_has_parts p reached

  abbrev there_at : List ℕ → List ℕ → Bool
  there_at k t = is_present p.topology.keyspaces k t

  there : (table : List ℕ) → moves w table ≡ true → there_at w.source table ≡ true
  there table moved = (has.placed w in_it).there table moved

  one_mover : (x : Live) (table : List ℕ) → IsIn x p.lives → moves x table ≡ true → moves w table ≡ true → x ≡ w
  one_mover x table i a b = unique p.lives x w has.apart i in_it (λ apart. apart.tables table a b)

  pub found : (table : List ℕ) → moves w table ≡ true → mover p table ≡ Some w
  found table moved = find_the_one (λ v. moves v table) p.lives w has.apart (λ v a apart. apart.tables table a moved) in_it moved

  -- a table of the number of a moved one is that table, at a side
  at_a_side : (k t table : List ℕ) → moves w table ≡ true → has_table p k t ≡ true → number_of p w.source table ≡ client_number p k t → (moves w t ≡ true) × (is_side w k ≡ true)
  at_a_side k t table moved here same = by (mover p t) refl
    where
      number_by : Option Live → ℕ
      number_by o = number_of p (option_map_or (λ v. cond (is_side v k) v.source k) o k) t

      -- a table at its own keyspace
      own : there_at k t ≡ true → number_of p w.source table ≡ number_of p k t → (moves w t ≡ true) × (is_side w k ≡ true)
      own at_k e =
          let one = one_table p reached w.source table k t (there table moved) at_k e in
          (ap (moves w) (sym one.1) ∙ moved, ap (is_side w) (sym one.0) ∙ side_by-is_side w false)

      listed : (x : Live) → mover p t ≡ Some x → is_side x k ≡ false → there_at k t ≡ true
      listed x f other = elsewhere (list_any (λ v. moves v t && same_text v.target k) p.lives) refl
        where
          elsewhere : (b : Bool) → list_any (λ v. moves v t && same_text v.target k) p.lives ≡ b → there_at k t ≡ true
          elsewhere false b = sym (ap (λ c. cond c true (there_at k t)) b) ∙ here
          elsewhere true b =
              let r = any_some (λ v. moves v t && same_text v.target k) p.lives b in
              let s = and_parts (moves r.0 t) (same_text r.0.target k) r.2 in
              let in_x = find_some (λ v. moves v t) p.lives x f in
              let one = unique p.lives r.0 x has.apart r.1 in_x.0 (λ apart. apart.tables t s.0 in_x.1) in
              absurd (true≢false (sym (or_right (same_text x.source k) (same_text x.target k) (ap (λ y. same_text y.target k) (sym one) ∙ s.1)) ∙ other))

      by_some : (x : Live) → mover p t ≡ Some x → (b : Bool) → is_side x k ≡ b → (moves w t ≡ true) × (is_side w k ≡ true)
      by_some x f true side =
          let in_x = find_some (λ v. moves v t) p.lives x f in
          let e : number_of p w.source table ≡ number_of p x.source t = same ∙ ap number_by f ∙ ap (λ c. number_of p (cond c x.source k) t) side in
          let one = one_table p reached w.source table x.source t (there table moved) ((has.placed x in_x.0).there t in_x.1) e in
          let moves_it = ap (moves w) (sym one.1) ∙ moved in
          (moves_it, ap (λ y. is_side y k) (sym (one_mover x t in_x.0 in_x.1 moves_it)) ∙ side)
      by_some x f false side = own (listed x f side) (same ∙ ap number_by f ∙ ap (λ c. number_of p (cond c x.source k) t) side)

      by : (o : Option Live) → mover p t ≡ o → (moves w t ≡ true) × (is_side w k ≡ true)
      by None f = own (there_unmoved p k t f here) (same ∙ ap number_by f)
      by (Some x) f = by_some x f (is_side x k) refl

  -- a write is to one of the workflow's tables just where it names one at a side
  pub is_to : (k t : List ℕ) → has_table p k t ≡ true → list_any (λ table. eqb (number_of p w.source table) (client_number p k t)) w.tables ≡ (moves w t && is_side w k)
  is_to k t here = by (moves w t && is_side w k) refl
    where
      test : List ℕ → Bool
      test table = eqb (number_of p w.source table) (client_number p k t)

      other : (b : Bool) → list_any test w.tables ≡ b → (moves w t && is_side w k) ≡ false → b ≡ false
      other true e = λ no.
          let r = any_some test w.tables e in
          let s = at_a_side k t r.0 (in_moved w r.0 r.1) here (eqb-true (number_of p w.source r.0) (client_number p k t) r.2) in
          absurd (true≢false (sym (and_from (moves w t) (is_side w k) s.0 s.1) ∙ no))
      other false e = λ no. refl

      by : (b : Bool) → (moves w t && is_side w k) ≡ b → list_any test w.tables ≡ b
      by true e =
          let r = and_parts (moves w t) (is_side w k) e in
          any_moved test w.tables t r.0 (eq-eqb (number_of p w.source t) (client_number p k t) (sym (client_number-side p w t r.0 0 (found t r.0) k r.1)))
      by false e = other (list_any test w.tables) refl e

  -- ---- the numbers of its tables stay

  pub number_stays : (event : Event) (answer : Answer) → Answers p event answer → ends_workflow w.name event answer ≡ false → (table : List ℕ) → moves w table ≡ true
      → number_of (next p event answer) w.source table ≡ number_of p w.source table
  number_stays event answer given lives table moved =
      ap (λ o. unwrap_or o (next p event answer).made) (stays event answer given lives) ∙ sym (ap (λ o. unwrap_or o p.made) n.1)
    where
      n : (m : ℕ) × (number_at p.numbers (in_keyspace w.source table) ≡ Some m)
      n = (reached_is_numbered p reached).numbered w.source table (there table moved)

      completes : (workflow : List ℕ) → same_text workflow w.name ≡ false → (o : Option Live) → live_at p workflow ≡ o → number_at (with_completed p o).numbers (in_keyspace w.source table) ≡ Some n.0
      completes workflow other None f = n.1
      completes workflow other (Some x) f = number-unmoved x p.numbers w.source table (unmoved (moves x table) refl) ∙ n.1
        where
          unmoved : (b : Bool) → moves x table ≡ b → moves x table ≡ false
          unmoved false b = b
          unmoved true b =
              let in_x = find_some (λ v. same_text v.name workflow) p.lives x f in
              absurd (true≢false (sym ((same_text_decides workflow w.name).1 (sym ((same_text_decides x.name workflow).0 in_x.1) ∙ ap (λ y. y.name) (one_mover x table in_x.0 b moved))) ∙ other))

      stays : (event : Event) (answer : Answer) → Answers p event answer → ends_workflow w.name event answer ≡ false → number_at (next p event answer).numbers (in_keyspace w.source table) ≡ Some n.0
      stays event (refused refusal) given lives = n.1
      stays event (shown s) given lives = n.1
      stays (add_table k t) done given lives = lookup-push_stood same_target p.numbers (in_keyspace k t, p.made) (in_keyspace w.source table) n.0 n.1
      stays (add_table k t) (row r) given lives = lookup-push_stood same_target p.numbers (in_keyspace k t, p.made) (in_keyspace w.source table) n.0 n.1
      stays (add_table k t) (advanced events rows) given lives = n.1
      stays (complete workflow) done given lives = completes workflow lives (live_at p workflow) refl
      stays (complete workflow) (row r) given lives = let h : row r ≡ done = given.1 in absurd cc
      stays (complete workflow) (advanced events rows) given lives = n.1
      stays event answer given lives = ap (λ ns. number_at ns (in_keyspace w.source table)) (same_numbers p event answer (λ h. h)) ∙ n.1

-- ---- all writes after an event

-- how many writes to the workflow's tables an event acknowledges
abbrev pub adds : Live → Event → Answer → ℕ
adds w (write k t op) done = cond (moves w t && is_side w k) 1 0
adds w event answer = 0

pub any_same : {X : Type 0} (f g : X → Bool) (xs : List X) → ((x : X) → IsIn x xs → f x ≡ g x) → list_any f xs ≡ list_any g xs
any_same f g [] each = refl
any_same f g (x ∷ xs) each = ap (λ b. b || list_any f xs) (each x (inl refl)) ∙ ap (λ b. g x || b) (any_same f g xs (λ y is. each y (inr is)))

pub filter_same : {X : Type 0} (f g : X → Bool) (xs : List X) → ((x : X) → f x ≡ g x) → filter f xs ≡ filter g xs
filter_same f g [] each = refl
filter_same f g (x ∷ xs) each = ap (λ b. cond b (x ∷ filter f xs) (filter f xs)) (each x) ∙ ap (λ l. cond (g x) (x ∷ l) l) (filter_same f g xs each)

module _ (p : Plain) (reached : IsReached p) (w v : Live) (in_it : IsIn w p.lives) (event : Event) (answer : Answer) (given : Answers p event answer)
    (lives : ends_workflow w.name event answer ≡ false) (same : HasSides w v) where
  abbrev q : Plain
  q = next p event answer

  same_test : (x : Write) → is_write_to q v x ≡ is_write_to p w x
  same_test x =
      ap (λ k. list_any (λ table. eqb (number_of q k table) x.table) v.tables) (sym same.source)
      ∙ ap (list_any (λ table. eqb (number_of q w.source table) x.table)) (sym same.tables)
      ∙ any_same (λ table. eqb (number_of q w.source table) x.table) (λ table. eqb (number_of p w.source table) x.table) w.tables
      (λ table is. ap (λ n. eqb n x.table) (number_stays p reached w in_it event answer given lives table (in_moved w table is)))

  pub all_by : writes_to q v ≡ filter (is_write_to p w) q.writes
  all_by = filter_same (is_write_to q v) (is_write_to p w) q.writes same_test

  count_one : (b : Bool) (x : Write) → is_write_to p w x ≡ b → length (filter (is_write_to p w) (p.writes ++ x ∷ [])) ≡ length (writes_to p w) + cond b 1 0
  count_one b x e =
      ap length (filter-append (is_write_to p w) p.writes (x ∷ [])) ∙ length-append (filter (is_write_to p w) p.writes) (filter (is_write_to p w) (x ∷ []))
      ∙ ap (λ n. length (filter (is_write_to p w) p.writes) + n) (ap (λ c. length (cond c (x ∷ []) [])) e ∙ by b)
    where
      by : (c : Bool) → length (cond c (x ∷ []) []) ≡ cond c 1 0
      by true = refl
      by false = refl

  none_more : q.writes ≡ p.writes → length (writes_to q v) ≡ length (writes_to p w) + 0
  none_more e = let f : length (writes_to q v) ≡ length (writes_to p w) = ap length (all_by ∙ ap (filter (is_write_to p w)) e) in omega arith

-- all writes after an event
module _ (p : Plain) (reached : IsReached p) (w v : Live) (in_it : IsIn w p.lives) (same : HasSides w v) where
  pub all_after : (event : Event) (answer : Answer) → Answers p event answer → ends_workflow w.name event answer ≡ false → length (writes_to (next p event answer) v) ≡ length (writes_to p w) + adds w event answer
  all_after (write k t op) done given lives =
      ap length (all_by p reached w v in_it (write k t op) done given lives same)
      ∙ count_one p reached w v in_it (write k t op) done given lives same (moves w t && is_side w k)
      (record { table = client_number p k t; key = op_key op; after = row_left (op_row op (client_row p k t (op_key op))) })
      (is_to p reached w in_it k t (write_there p k t op given.0))
  all_after (write k t op) (row r) given lives = let h : row r ≡ done = given.1 in absurd cc
  all_after (write k t op) (advanced events rows) given lives = none_more p reached w v in_it (write k t op) (advanced events rows) given lives same refl
  all_after (write k t op) (shown s) given lives = none_more p reached w v in_it (write k t op) (shown s) given lives same refl
  all_after (write k t op) (refused refusal) given lives = none_more p reached w v in_it (write k t op) (refused refusal) given lives same refl
  all_after event answer given lives = none_more p reached w v in_it event answer given lives same (same_writes p event answer (λ h. h))
