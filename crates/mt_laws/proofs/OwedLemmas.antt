-- What is owed to the live workflows: an undo and a Cancel take from it, and no event adds more than one.
use Rattle.std.proofs.Common.{◌≡◌, ◌≢◌, inl, inr, ℕ, suc, ◌+◌, ◌-◌, ◌*◌, ◌≤◌, max, Bool, true, false, not, cond, eqb, leb, ltb, fold, length, List, [], ◌∷◌, map, filter, Option, None, Some, refl, sym, ap, ◌∙◌, subst, arith, length-append}
use Rattle.std.proofs.lemmas.Bool.{true≢false, leb-false, leb-true}
use Rattle.std.proofs.lemmas.List.{length-map}
use Rattle.std.proofs.lemmas.List.Sums.{sum_by-cons, sum_by_push}
use Rattle.std.specs.Option.{option_map_or}
use Rattle.std.specs.Prelude.{◌⊎◌, ◌||◌, sum_by}
use Rattle.mt_names.specs.Names.{same_text}
use Rattle.mt_names.specs.Shards.{Cuts, shard_count}
use Rattle.mt_names.proofs.SameLemmas.{same_text_decides}
use Rattle.mt_model.specs.Limits.{most_rules, most_tables_in_keyspace}
use Rattle.mt_plain.specs.Next.{closes, live_stepped, live_undone, next, types_and, types_without, with_way_to}
use Rattle.mt_plain.specs.Answers.{Answers}
use Rattle.mt_plain.specs.Events.{Event, create, begin_switch, begin_reverse, step, undo, cancel, Answer, done, Way}
use Rattle.mt_plain.specs.Plain.{Live, Plain, each_once, live_at, stands_done, twelve_keys, write_journal, next_place, repeated_step}
use Rattle.mt_plain.specs.Refuse.{cancel_refusal, keys_without_rule, most_workflows, owed, owed_by, refusal_of, rule_count, table_count, undo_refusal}
use Rattle.mt_plain.proofs.PlaceLemmas.{step-behind, step-first}
use Rattle.mt_laws.specs.Changes.{ChangesWay, IsOf}
use Rattle.mt_laws.specs.WayBack.{IsReached}
use Rattle.mt_laws.proofs.OpenWayLemmas.{HasShards, reached_shards}
use Rattle.mt_laws.proofs.StepCountLemmas.{few_done}
use Rattle.mt_laws.proofs.ChangeLemmas.{LivesAfter, ended, live_next, lives_after, made, made_live, mapped}
use Rattle.mt_laws.proofs.KeepLemmas.{Keeps, next_has}
use Rattle.mt_laws.proofs.LiveLemmas.{Apart, IsApart, IsIn, find_none, find_some, in_all}
use Rattle.mt_laws.proofs.ListLemmas.{cond-either}
use Rattle.mt_laws.proofs.PartLemmas.{HasParts}
use Rattle.mt_laws.proofs.ReachLemmas.{create-none, live_by_name, reached_has_parts, reached_holds, taken_or_same}
use Rattle.mt_laws.proofs.RefusalLemmas.{in_workflow-none}
use Rattle.mt_laws.proofs.StepUndoneLemmas.{at_way_undone, undo_way}
use Rattle.mt_laws.proofs.UntouchedLemmas.{next_elsewhere, same_traffic, traffic-advanced}
use Rattle.mt_laws.proofs.WayLemmas.{undo_before_journal}
use Rattle.mt_laws.proofs.WayStepLemmas.{fewer, more, not_before, way-stepped, way-undone}

-- ---- sums over live workflows

module _ (f : Live → ℕ) where
  sum_same : (g : Live → Live) (xs : List Live) → ((x : Live) → IsIn x xs → f (g x) ≡ f x) → sum_by f (map g xs) ≡ sum_by f xs
  sum_same g [] each = refl
  sum_same g (x ∷ xs) each =
      sum_by-cons f (g x) (map g xs)
      ∙ ap (λ n. n + sum_by f (map g xs)) (each x (inl refl))
      ∙ ap (λ n. f x + n) (sum_same g xs (λ y is. each y (inr is)))
      ∙ sym (sum_by-cons f x xs)

  -- where one is changed, and none that is apart from it
  sum_changed : (g : Live → Live) (xs : List Live) (w : Live) → Apart xs → IsIn w xs → ((x : Live) → x.name ≢ w.name → g x ≡ x) → sum_by f (map g xs) + f w ≡ sum_by f xs + f (g w)
  sum_changed g [] w apart is each = absurd is
  sum_changed g (x ∷ xs) w apart (inl e) each =
      let a = sum_by-cons f (g x) (map g xs) in
      let b = sum_by-cons f x xs in
      let c = sum_same g xs (λ y is. ap f (each y (λ same. (in_all (IsApart x) xs y apart.0 is).names (ap (λ v. v.name) e ∙ sym same)))) in
      let d : f x ≡ f w = ap f e in
      let h : f (g x) ≡ f (g w) = ap (λ v. f (g v)) e in
      omega (arith, a, b, c, d, h)
  sum_changed g (x ∷ xs) w apart (inr is) each =
      let a = sum_by-cons f (g x) (map g xs) in
      let b = sum_by-cons f x xs in
      let c = sum_changed g xs w apart.1 is each in
      let d : f (g x) ≡ f x = ap f (each x (in_all (IsApart x) xs w apart.0 is).names) in
      omega (arith, a, b, c, d)

  sum_filter : (keep : Live → Bool) (xs : List Live) → sum_by f (filter keep xs) ≤ sum_by f xs
  sum_filter keep [] = omega arith
  sum_filter keep (x ∷ xs) = by (keep x) (sum_filter keep xs)
    where
      by : (t : Bool) → sum_by f (filter keep xs) ≤ sum_by f xs → sum_by f (cond t (x ∷ filter keep xs) (filter keep xs)) ≤ sum_by f (x ∷ xs)
      by true le = let a = sum_by-cons f x (filter keep xs) in let b = sum_by-cons f x xs in omega (arith, a, b, le)
      by false le = let b = sum_by-cons f x xs in omega (arith, b, le)

  -- where one is taken away
  sum_gone : (keep : Live → Bool) (xs : List Live) (w : Live) → IsIn w xs → keep w ≡ false → sum_by f (filter keep xs) + f w ≤ sum_by f xs
  sum_gone keep [] w is gone = absurd is
  sum_gone keep (x ∷ xs) w (inl e) gone = by (keep x) (ap keep e ∙ gone)
    where
      by : (t : Bool) → t ≡ false → sum_by f (cond t (x ∷ filter keep xs) (filter keep xs)) + f w ≤ sum_by f (x ∷ xs)
      by true kept = absurd (true≢false kept)
      by false kept =
          let b = sum_by-cons f x xs in
          let le = sum_filter keep xs in
          let d : f x ≡ f w = ap f e in
          omega (arith, b, le, d)
  sum_gone keep (x ∷ xs) w (inr is) gone = by (keep x) (sum_gone keep xs w is gone)
    where
      by : (t : Bool) → sum_by f (filter keep xs) + f w ≤ sum_by f xs → sum_by f (cond t (x ∷ filter keep xs) (filter keep xs)) + f w ≤ sum_by f (x ∷ xs)
      by true le = let a = sum_by-cons f x (filter keep xs) in let b = sum_by-cons f x xs in omega (arith, a, b, le)
      by false le = let b = sum_by-cons f x xs in omega (arith, b, le)

-- ---- what is owed to one

-- by the way that is open
abbrev owed_way : Option Way → ℕ
owed_way o = option_map_or (λ (way : Way). cond (stands_done way write_journal) 0 (max 1 way.done)) o 0

owed_of_way : (w : Live) (o : Option Way) → w.way ≡ o → owed_by w ≡ 1 + owed_way o
owed_of_way w o is = ap (λ x. 1 + owed_way x) is

at_most_one : (way : Way) → way.done ≡ 0 → owed_way (Some way) ≤ 1
at_most_one way none = cond-either (λ n. n ≤ 1) (stands_done way write_journal) 0 (max 1 way.done) (omega arith) (omega arith)

-- one step more adds one at most
one_more_owed : (way : Way) (t : Bool) → owed_way (cond t None (Some (more way))) ≤ owed_way (Some way) + 1
one_more_owed way true = omega arith
one_more_owed way false = by (stands_done way write_journal) refl (stands_done (more way) write_journal) refl
  where
    by : (t : Bool) → stands_done way write_journal ≡ t → (u : Bool) → stands_done (more way) write_journal ≡ u → cond u 0 (max 1 (suc way.done)) ≤ cond t 0 (max 1 way.done) + 1
    by t e true g = omega arith
    by true e false g = absurd (true≢false (sym e ∙ not_before way write_journal g))
    by false e false g = omega arith

-- one less takes one at least
one_less_owed : (way : Way) → stands_done way write_journal ≡ false → (t : Bool) → eqb (way.done - 1) 0 ≡ t → owed_way (cond t None (Some (fewer way))) + 1 ≤ owed_way (Some way)
one_less_owed way before true e = let is : owed_way (Some way) ≡ max 1 way.done = ap (λ b. cond b 0 (max 1 way.done)) before in let n = way.done in omega (arith, is)
one_less_owed way before false e =
    let is : owed_way (Some way) ≡ max 1 way.done = ap (λ b. cond b 0 (max 1 way.done)) before in
    let left : way.done - 1 ≢ 0 = λ none. true≢false (sym (ap (λ n. eqb n 0) none) ∙ e) in
    by (stands_done (fewer way) write_journal) is left
  where
    by : (t : Bool) → owed_way (Some way) ≡ max 1 way.done → way.done - 1 ≢ 0 → cond t 0 (max 1 (way.done - 1)) + 1 ≤ owed_way (Some way)
    by true is left = omega (arith, is)
    by false is left = omega (arith, is, left)

-- an event adds one at most
abbrev AtMost : ℕ → Live → Type 0
AtMost n v = owed_by v ≤ n

owed_begun : (n : ℕ) (v : Live) (way : Way) → v.way ≡ Some way → way.done ≡ 0 → 1 ≤ n → owed_by v ≤ n + 1
owed_begun n v way opens none le = let e = owed_of_way v (Some way) opens in let m = at_most_one way none in omega (arith, e, m, le)

pub at_least_one : (w : Live) → 1 ≤ owed_by w
at_least_one w = from (owed_way w.way)
  where
    from : (n : ℕ) → 1 ≤ 1 + n
    from n = omega arith

owed_kept : (p : Plain) (event : Event) (w : Live) → Keeps (AtMost (owed_by w + 1)) p event w
owed_kept p event w = record {
  same = grows (owed_by w);
  switch = λ types begins none. owed_begun (owed_by w) (with_way_to false (λ switched. types_and switched types) w) _ refl refl (at_least_one w);
  reverse = λ types begins none. owed_begun (owed_by w) (with_way_to true (λ switched. types_without switched types) w) _ refl refl (at_least_one w);
  steps = λ at way steps opens none.
      stepped (owed_by w) (owed_by (live_stepped p w way)) (owed_way (Some way)) (owed_way (cond (closes way) None (Some (more way)))) (owed_of_way w (Some way) opens)
      (owed_of_way (live_stepped p w way) (cond (closes way) None (Some (more way))) (way-stepped p w way)) (one_more_owed way (closes way));
  undoes = λ at way undoes opens none.
      undone (owed_by w) (owed_by (live_undone w way)) (owed_way (Some way)) (owed_way (cond (eqb (way.done - 1) 0) None (Some (fewer way)))) (owed_of_way w (Some way) opens)
      (owed_of_way (live_undone w way) (cond (eqb (way.done - 1) 0) None (Some (fewer way))) (way-undone w way))
      (one_less_owed way (undo_before_journal at w way opens none) (eqb (way.done - 1) 0) refl);
  advances = λ adv workflow stream shard at at_most events rows live none given.
      subst (λ n. n ≤ owed_by w + 1) (sym (ap (λ t. 1 + owed_way t.1) (traffic-advanced p w stream shard at at_most events rows))) (grows (owed_by w));
}
  where
    grows : (n : ℕ) → n ≤ n + 1
    grows n = omega arith

    stepped : (a b m n : ℕ) → a ≡ 1 + m → b ≡ 1 + n → n ≤ m + 1 → b ≤ a + 1
    stepped a b m n e f le = omega arith

    undone : (a b m n : ℕ) → a ≡ 1 + m → b ≡ 1 + n → n + 1 ≤ m → b ≤ a + 1
    undone a b m n e f le = omega arith

-- ---- what is owed to all

module _ (p : Plain) (has : HasParts p) where
  -- an event on the workflow of a name
  owed_of_name : (event : Event) (answer : Answer) (workflow : List ℕ) → ((name : List ℕ) → IsOf name event → workflow ≡ name) → Answers p event answer → sum_by owed_by (map (live_next p event answer) p.lives) ≤ sum_by owed_by p.lives + 1
  owed_of_name event answer workflow of given = by (live_at p workflow) refl
    where
      others : (x : Live) → workflow ≢ x.name → live_next p event answer x ≡ x
      others x differs = next_elsewhere p event answer x.name x refl (λ is. differs (of x.name is))

      by : (o : Option Live) → live_at p workflow ≡ o → sum_by owed_by (map (live_next p event answer) p.lives) ≤ sum_by owed_by p.lives + 1
      by None none =
          let e = sum_same owed_by (live_next p event answer) p.lives
          (λ x is. ap owed_by (others x (λ same. true≢false (sym ((same_text_decides x.name workflow).1 (sym same)) ∙ find_none (λ v. same_text v.name workflow) p.lives none x is)))) in
          omega (arith, e)
      by (Some w) live =
          let found = find_some (λ v. same_text v.name workflow) p.lives w live in
          let is : w.name ≡ workflow = (same_text_decides w.name workflow).0 found.1 in
          let e = sum_changed owed_by (live_next p event answer) p.lives w has.apart found.0 (λ x differs. others x (λ same. differs (sym same ∙ sym is))) in
          let le = next_has (AtMost (owed_by w + 1)) p w (live_by_name p has.apart w found.0) event answer (owed_kept p event w) given in
          joined (sum_by owed_by (map (live_next p event answer) p.lives)) (owed_by w) (sum_by owed_by p.lives) (owed_by (live_next p event answer w)) e le
        where
          joined : (a b c d : ℕ) → a + b ≡ c + d → d ≤ b + 1 → a ≤ c + 1
          joined a b c d e le = omega arith

  -- an event that changes no way
  owed_of_other : (event : Event) (answer : Answer) → (ChangesWay event → ⊥) → sum_by owed_by (map (live_next p event answer) p.lives) ≤ sum_by owed_by p.lives + 1
  owed_of_other event answer other =
      let e = sum_same owed_by (live_next p event answer) p.lives (λ x is. ap (λ t. 1 + owed_way t.1) (same_traffic p event answer x other)) in
      omega (arith, e)

  owed_mapped : (event : Event) (answer : Answer) → Answers p event answer → sum_by owed_by (map (live_next p event answer) p.lives) ≤ sum_by owed_by p.lives + 1
  owed_mapped (begin_switch workflow types) answer given = owed_of_name (begin_switch workflow types) answer workflow (λ name is. is) given
  owed_mapped (begin_reverse workflow types) answer given = owed_of_name (begin_reverse workflow types) answer workflow (λ name is. is) given
  owed_mapped (step workflow at) answer given = owed_of_name (step workflow at) answer workflow (λ name is. is) given
  owed_mapped (undo workflow at) answer given = owed_of_name (undo workflow at) answer workflow (λ name is. is) given
  owed_mapped event answer given = owed_of_other event answer (λ h. h)

  owed_after : (event : Event) (answer : Answer) → Answers p event answer → LivesAfter p (next p event answer) event answer → sum_by owed_by (next p event answer).lives ≤ sum_by owed_by p.lives + 1
  owed_after event answer given (mapped lives) = subst (λ xs. sum_by owed_by xs ≤ sum_by owed_by p.lives + 1) (sym lives) (owed_mapped event answer given)
  owed_after event answer given (made name source target tables e lives same) =
      subst (λ xs. sum_by owed_by xs ≤ sum_by owed_by p.lives + 1) (sym lives) (let s = sum_by_push owed_by p.lives (made_live p name source target (each_once tables)) in omega (arith, s))
  owed_after event answer given (ended name e lives same) =
      subst (λ xs. sum_by owed_by xs ≤ sum_by owed_by p.lives + 1) (sym lives) (let s = sum_filter owed_by (λ w. not (same_text w.name name)) p.lives in omega (arith, s))

pub owed_grows : (p : Plain) → IsReached p → (event : Event) (answer : Answer) → Answers p event answer → owed (next p event answer) ≤ owed p + 1
owed_grows p reached event answer given = owed_after p (reached_has_parts p reached) event answer given (lives_after p event answer)

pub owed_by_undo : (p : Plain) → IsReached p → (name : List ℕ) (at : ℕ) → Answers p (undo name at) done → owed (next p (undo name at) done) + 1 ≤ owed p
owed_by_undo p reached name at given =
    let has = reached_has_parts p reached in
    let stop = in_workflow-none (live_at p name) (undo_refusal at) given.0 in
    let w = stop.0 in
    let found = find_some (λ v. same_text v.name name) p.lives w stop.1 in
    let is : w.name ≡ name = (same_text_decides w.name name).0 found.1 in
    let open_way = undo_way at w stop.2 in
    let way = open_way.0 in
    let g = live_next p (undo name at) done in
    let e = sum_changed owed_by g p.lives w has.apart found.0 (λ x differs. next_elsewhere p (undo name at) done x.name x refl (λ of. differs (sym of ∙ sym is))) in
    let undone : g w ≡ live_undone w way = at_way_undone w name way found.1 open_way.1 in
    let less = one_less_owed way (undo_before_journal at w way open_way.1 stop.2) (eqb (way.done - 1) 0) refl in
    joined (sum_by owed_by (map g p.lives)) (owed_by w) (sum_by owed_by p.lives) (owed_by (g w)) (owed_way (Some way)) (owed_way (cond (eqb (way.done - 1) 0) None (Some (fewer way)))) e
    (owed_of_way w (Some way) open_way.1) (ap owed_by undone ∙ owed_of_way (live_undone w way) (cond (eqb (way.done - 1) 0) None (Some (fewer way))) (way-undone w way)) less
  where
    joined : (a b c d m n : ℕ) → a + b ≡ c + d → b ≡ 1 + m → d ≡ 1 + n → n + 1 ≤ m → a + 1 ≤ c
    joined a b c d m n e f g le = omega arith

pub owed_by_cancel : (p : Plain) → IsReached p → (name : List ℕ) → Answers p (cancel name) done → owed (next p (cancel name) done) + 1 ≤ owed p
owed_by_cancel p reached name given =
    let stop = in_workflow-none (live_at p name) cancel_refusal given.0 in
    let found = find_some (λ v. same_text v.name name) p.lives stop.0 stop.1 in
    let le = sum_gone owed_by (λ v. not (same_text v.name name)) p.lives stop.0 found.0 (ap not found.1) in
    joined (sum_by owed_by (filter (λ v. not (same_text v.name name)) p.lives)) (sum_by owed_by p.lives) (owed_by stop.0) le (at_least_one stop.0)
  where
    joined : (a b n : ℕ) → a + n ≤ b → 1 ≤ n → a + 1 ≤ b
    joined a b n le one = omega arith

-- ---- how much is owed at most

-- six steps come before the journal, and as many refreshes more as there are shards more
few_places : (way : Way) → stands_done way write_journal ≡ false → way.done ≤ 6 + (way.shards - 1)
few_places way none = by (leb (next_place way) (repeated_step way)) refl
  where
    low : repeated_step way ≤ 8
    low = cond-either (λ n. n ≤ 8) way.back 2 8 (omega arith) (omega arith)

    by : (t : Bool) → leb (next_place way) (repeated_step way) ≡ t → way.done ≤ 6 + (way.shards - 1)
    by true t =
        let here = leb-true (next_place way) (repeated_step way) t in let is = step-first way (next_place way) here in let few = few_done way none in omega arith
    by false t =
        let behind = leb-false (next_place way) (repeated_step way) t in let is = step-behind way (next_place way) (omega arith) in let few = few_done way none in omega arith

most_owed : (w : Live) → HasShards w → owed_by w ≤ 14
most_owed w has = by w.way refl
  where
    open_most : (way : Way) → way.shards ≤ 8 → (t : Bool) → stands_done way write_journal ≡ t → 1 + cond t 0 (max 1 way.done) ≤ 14
    open_most way most true e = omega arith
    open_most way most false e = let few = few_places way e in by_size way.done (omega arith)
      where
        by_size : (n : ℕ) → n ≤ 13 → 1 + max 1 n ≤ 14
        by_size n few = omega arith

    eight : (cuts : Cuts) → shard_count cuts ≤ 8
    eight cuts = omega arith

    by : (o : Option Way) → w.way ≡ o → 1 + owed_way o ≤ 14
    by None e = omega arith
    by (Some way) e = let is = has way e in let most = eight w.cuts in open_most way (omega arith) (stands_done way write_journal) refl

sum_most : (f : Live → ℕ) (xs : List Live) → ((w : Live) → IsIn w xs → f w ≤ 14) → sum_by f xs ≤ 14 * length xs
sum_most f [] each = omega arith
sum_most f (x ∷ xs) each = let a = sum_by-cons f x xs in let b = sum_most f xs (λ w is. each w (inr is)) in let c = each x (inl refl) in omega (arith, a, b, c)

-- 16 workflows are live at most
abbrev AreFew : Plain → Type 0
AreFew p = length p.lives ≤ most_workflows

filter_few : (keep : Live → Bool) (xs : List Live) → length (filter keep xs) ≤ length xs
filter_few keep [] = omega arith
filter_few keep (x ∷ xs) = by (keep x) (filter_few keep xs)
  where
    by : (t : Bool) → length (filter keep xs) ≤ length xs → length (cond t (x ∷ filter keep xs) (filter keep xs)) ≤ length (x ∷ xs)
    by true le = omega (arith, le)
    by false le = omega (arith, le)

-- a Create that is taken finds room for a workflow
create_finds_room : (p : Plain) (name source target : List ℕ) (tables : List (List ℕ)) → refusal_of p (create name source target tables) ≡ None → suc (length p.lives) ≤ most_workflows
create_finds_room p name source target tables none =
    let once = each_once tables in
    let room = (create-none p name source target tables none).room in
    below (length p.lives)
    (first_of_three (leb most_workflows (length p.lives)) (ltb most_tables_in_keyspace (table_count p target + length once))
    (ltb most_rules (fold (λ n table. n + keys_without_rule p.topology.rules (twelve_keys source target table)) (rule_count p) once)) room)
  where
    first_of_three : (a b c : Bool) → (a || b || c) ≡ false → a ≡ false
    first_of_three true b c e = absurd (true≢false e)
    first_of_three false b c e = refl

    below : (n : ℕ) → leb 16 n ≡ false → suc n ≤ 16
    below n e = let h = leb-false 16 n e in omega (arith, h)

few_next : (p : Plain) (event : Event) (answer : Answer) → Answers p event answer → AreFew p → AreFew (next p event answer)
few_next p event answer given few = by_taken (taken_or_same p event answer given)
  where
    by : refusal_of p event ≡ None → LivesAfter p (next p event answer) event answer → AreFew (next p event answer)
    by none (mapped lives) = subst (λ xs. length xs ≤ most_workflows) (sym lives) (let e = length-map p.lives (live_next p event answer) in omega (arith, e, few))
    by none (made name source target tables e lives same) =
        subst (λ xs. length xs ≤ most_workflows) (sym lives)
        (let l = length-append p.lives (made_live p name source target (each_once tables) ∷ []) in
        let room = create_finds_room p name source target tables (subst (λ x. refusal_of p x ≡ None) e none) in
        omega (arith, l, room))
    by none (ended name e lives same) =
        subst (λ xs. length xs ≤ most_workflows) (sym lives) (let le = filter_few (λ w. not (same_text w.name name)) p.lives in omega (arith, le, few))

    by_taken : (refusal_of p event ≡ None) ⊎ (next p event answer ≡ p) → AreFew (next p event answer)
    by_taken (inl none) = by none (lives_after p event answer)
    by_taken (inr same) = subst AreFew (sym same) few

pub owed_bounded : (p : Plain) → IsReached p → owed p ≤ 14 * most_workflows
owed_bounded p reached =
    bound (length p.lives) (sum_by owed_by p.lives)
    (reached_holds AreFew few_next (λ scopes. none_live) p reached) (sum_most owed_by p.lives (λ w is. most_owed w (reached_shards p reached w is)))
  where
    none_live : 0 ≤ 16
    none_live = omega arith

    bound : (n s : ℕ) → n ≤ 16 → s ≤ 14 * n → s ≤ 224
    bound n s few le = omega (arith, few, le)
