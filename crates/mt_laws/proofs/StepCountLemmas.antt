-- The open way of a workflow, behind each event that a drive asks for.
use Rattle.std.proofs.Common.{◌≡◌, ℕ, suc, ◌+◌, ◌-◌, ◌<◌, ◌≤◌, Bool, true, false, not, cond, eqb, leb, ltb, ltb-false, le-ltb, le-leb, List, [], ◌∷◌, Option, None, Some, refl, sym, ap, ◌∙◌, subst, arith}
use Rattle.std.proofs.lemmas.Bool.{true≢false}
use Rattle.std.specs.Option.{option_map_or}
use Rattle.std.specs.Prelude.{◌&&◌, ◌||◌, find, option_and_then, option_map}
use Rattle.mt_names.specs.declared.types.TypeSet.{TypeSet}
use Rattle.mt_names.specs.Names.{same_text}
use Rattle.mt_plain.specs.Drive.{way_of}
use Rattle.mt_plain.specs.Events.{StreamName, Way}
use Rattle.mt_plain.specs.Next.{live_stepped, live_undone, on_way_of, with_advance, with_live, with_step, with_undo, with_way_to}
use Rattle.mt_plain.specs.Plain.{Live, Plain, behind_last, differ, first_step, live_at, next_step, stands_done, write_journal}
use Rattle.mt_plain.specs.Refuse.{has_more, share_type}
use Rattle.mt_plain.specs.Slots.{live_advanced}
use Rattle.mt_laws.proofs.ChangeLemmas.{sides-advanced, sides-live_stepped, sides-on_way, sides-undone}
use Rattle.mt_laws.proofs.ListLemmas.{cond-either}
use Rattle.mt_laws.proofs.UntouchedLemmas.{traffic-advanced}
use Rattle.mt_laws.proofs.WayStepLemmas.{first_step-le, way-stepped, way-undone}

-- ---- the workflow of a name

abbrev in_list : List ℕ → List Live → Option Live
in_list name lives = find (λ w. same_text w.name name) lives

-- a change of the workflow of a name is found under it
in_list-changed : (change : Live → Live) (name : List ℕ) (lives : List Live) → ((w : Live) → (change w).name ≡ w.name) → in_list name (with_live change name lives) ≡ option_map change (in_list name lives)
in_list-changed change name [] keeps = refl
in_list-changed change name (w ∷ lives) keeps = subst Found (sym same) (by (in_list-changed change name lives keeps) (same_text w.name name) refl)
  where
    head : Bool → Live
    head t = cond t (change w) w

    same : same_text (head (same_text w.name name)).name name ≡ same_text w.name name
    same = ap (λ n. same_text n name) (cond-either (λ v. v.name ≡ w.name) (same_text w.name name) (change w) w (keeps w) refl)

    Found : Bool → Type 0
    Found t = cond t (Some (head (same_text w.name name))) (in_list name (with_live change name lives)) ≡ option_map change (cond (same_text w.name name) (Some w) (in_list name lives))

    by : in_list name (with_live change name lives) ≡ option_map change (in_list name lives) → (t : Bool) → same_text w.name name ≡ t → Found (same_text w.name name)
    by again true t = rw t refl
    by again false t = rw t again

abbrev way_in : List ℕ → List Live → Option Way
way_in name lives = option_and_then (λ w. w.way) (in_list name lives)

-- a change that keeps names and ways
way_in-kept : (change : Live → Live) (other name : List ℕ) (lives : List Live) → ((w : Live) → (change w).name ≡ w.name) → ((w : Live) → (change w).way ≡ w.way) → way_in name (with_live change other lives) ≡ way_in name lives
way_in-kept change other name [] names ways = refl
way_in-kept change other name (w ∷ lives) names ways = subst Found (sym same) (by (way_in-kept change other name lives names ways) (same_text w.name name) refl)
  where
    head : Live
    head = cond (same_text w.name other) (change w) w

    same : same_text head.name name ≡ same_text w.name name
    same = ap (λ n. same_text n name) (cond-either (λ v. v.name ≡ w.name) (same_text w.name other) (change w) w (names w) refl)

    way : head.way ≡ w.way
    way = cond-either (λ v. v.way ≡ w.way) (same_text w.name other) (change w) w (ways w) refl

    Found : Bool → Type 0
    Found t = option_and_then (λ v. v.way) (cond t (Some head) (in_list name (with_live change other lives))) ≡ option_and_then (λ v. v.way) (cond (same_text w.name name) (Some w) (in_list name lives))

    by : way_in name (with_live change other lives) ≡ way_in name lives → (t : Bool) → same_text w.name name ≡ t → Found (same_text w.name name)
    by again true t = rw t way
    by again false t = rw t again

-- an open way is that of a live workflow
pub record HasWay (p : Plain) (workflow : List ℕ) (way : Way) : Type 0 where
  pub live : Live
  pub found : live_at p workflow ≡ Some live
  pub way_is : live.way ≡ Some way

pub has_way : (p : Plain) (workflow : List ℕ) (way : Way) → way_of p workflow ≡ Some way → HasWay p workflow way
has_way p workflow way is = by (live_at p workflow) refl
  where
    by : (o : Option Live) → live_at p workflow ≡ o → HasWay p workflow way
    by None e = absurd (let h = rw e at is in cc)
    by (Some w) e = record { live = w; found = e; way_is = rw e at is }

-- the way behind a change of the workflow
way_of-changed : (p : Plain) (change : Live → Live) (workflow : List ℕ) (w : Live) → ((v : Live) → (change v).name ≡ v.name) → live_at p workflow ≡ Some w → way_in workflow (with_live change workflow p.lives) ≡ (change w).way
way_of-changed p change workflow w keeps found =
    ap (λ o. option_and_then (λ v. v.way) o) (in_list-changed change workflow p.lives keeps ∙ ap (λ o. option_map change o) found)

-- ---- steps, undos and advances

on_way_of-way : (change : Way → Live) (w : Live) (way : Way) → w.way ≡ Some way → (on_way_of change w).way ≡ (change way).way
on_way_of-way change w way is = ap (λ o. (option_map_or change o w).way) is

pub way_of-step : (p : Plain) (workflow : List ℕ) (way : Way) → HasWay p workflow way → way_of (with_step p workflow) workflow ≡ cond (eqb (suc (next_step way)) (behind_last way)) None (Some (record way { done = suc way.done }))
way_of-step p workflow way has =
    way_of-changed p (λ w. on_way_of (live_stepped p w) w) workflow has.live (λ w. sym (sides-on_way w (live_stepped p w) (sides-live_stepped p w) w.way).name) has.found
    ∙ on_way_of-way (live_stepped p has.live) has.live way has.way_is ∙ way-stepped p has.live way

pub way_of-undo : (p : Plain) (workflow : List ℕ) (way : Way) → HasWay p workflow way → way_of (with_undo p workflow) workflow ≡ cond (eqb (way.done - 1) 0) None (Some (record way { done = way.done - 1; undoing = true }))
way_of-undo p workflow way has =
    way_of-changed p (λ w. on_way_of (live_undone w) w) workflow has.live (λ w. sym (sides-on_way w (live_undone w) (sides-undone w) w.way).name) has.found
    ∙ on_way_of-way (live_undone has.live) has.live way has.way_is ∙ way-undone has.live way

pub way_of-advance : (p : Plain) (workflow : List ℕ) (name : StreamName) (shard position at_most events rows : ℕ) (o : Option Live) → way_of (with_advance p name shard position at_most events rows o) workflow ≡ way_of p workflow
way_of-advance p workflow name shard position at_most events rows None = refl
way_of-advance p workflow name shard position at_most events rows (Some w) =
    way_in-kept (λ v. live_advanced p v name shard position at_most events rows) w.name workflow p.lives (λ v. sym (sides-advanced p v name shard position at_most events rows).name)
    (λ v. ap (λ t. t.1) (traffic-advanced p v name shard position at_most events rows))

-- a way that begins
pub way_of-begun : (p : Plain) (workflow : List ℕ) (backward : Bool) (change : TypeSet → TypeSet) (w : Live) → live_at p workflow ≡ Some w → way_in workflow (with_live (with_way_to backward change) workflow p.lives) ≡ (with_way_to backward change w).way
way_of-begun p workflow backward change w found = way_of-changed p (with_way_to backward change) workflow w (λ v. refl) found

-- ---- how many steps stand done

-- the journal does not stand done: six steps at most stand done
pub few_done : (way : Way) → stands_done way write_journal ≡ false → next_step way ≤ 6
few_done way none = by (leb (first_step way) 6) refl
  where
    by : (t : Bool) → leb (first_step way) 6 ≡ t → next_step way ≤ 6
    by true t = ltb-false 6 (next_step way) (rw t at none)
    by false t = absurd (true≢false (sym (le-leb (first_step way) 6 (omega (arith, first_step-le way))) ∙ t))

-- and conversely
pub few_undone : (way : Way) → next_step way ≤ 6 → stands_done way write_journal ≡ false
few_undone way few = by (leb (first_step way) 6)
  where
    by : (t : Bool) → (t && ltb write_journal (next_step way)) ≡ false
    by true = le-ltb write_journal (next_step way) few
    by false = refl

-- ---- the types that a way changes

differ-and : (s t : Bool) → differ s (s || t) ≡ (t && not s)
differ-and true true = refl
differ-and true false = refl
differ-and false true = refl
differ-and false false = refl

differ-without : (s t : Bool) → differ s (s && not t) ≡ (t && s)
differ-without true true = refl
differ-without true false = refl
differ-without false true = refl
differ-without false false = refl

-- one at least has the first step before the last
pub has_steps : (primary replica rdonly : Bool) → (primary || replica || rdonly) ≡ true → cond {A = ℕ} (replica || rdonly) 0 1 + 0 < cond {A = ℕ} primary 12 1
has_steps true true rdonly any = omega arith
has_steps true false true any = omega arith
has_steps true false false any = omega arith
has_steps false true rdonly any = omega arith
has_steps false false true any = omega arith
has_steps false false false any = absurd (true≢false (sym any))

pub forward_has_steps : (s t : TypeSet) → has_more t s ≡ true → (differ s.primary (s.primary || t.primary) || differ s.replica (s.replica || t.replica) || differ s.rdonly (s.rdonly || t.rdonly)) ≡ true
forward_has_steps s t more = rw (differ-and s.primary t.primary) (rw (differ-and s.replica t.replica) (rw (differ-and s.rdonly t.rdonly) more))

pub backward_has_steps : (s t : TypeSet) → share_type t s ≡ true → (differ s.primary (s.primary && not t.primary) || differ s.replica (s.replica && not t.replica) || differ s.rdonly (s.rdonly && not t.rdonly)) ≡ true
backward_has_steps s t more = rw (differ-without s.primary t.primary) (rw (differ-without s.replica t.replica) (rw (differ-without s.rdonly t.rdonly) more))
