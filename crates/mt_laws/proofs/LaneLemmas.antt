-- The lanes of a live workflow: one for each shard of its target, by their numbers; and what each event keeps of each of them.
use Rattle.std.proofs.Common.{◌≡◌, inl, inr, ℕ, zero, suc, ◌+◌, ◌≤◌, ◌<◌, Bool, true, false, cond, eqb, leb, List, [], ◌∷◌, map, find, Option, None, Some, refl, sym, ap, ◌∙◌, subst, arith, eqb-true}
use Rattle.std.proofs.lemmas.Bool.{true≢false, eq-eqb}
use Rattle.std.proofs.lemmas.List.Sums.{count_by-le-length}
use Rattle.std.specs.List.{range_with_len}
use Rattle.std.specs.Prelude.{◌&&◌}
use Rattle.mt_names.specs.declared.types.TypeSet.{TypeSet}
use Rattle.mt_names.specs.Shards.{Cuts, bound_value, shard_count, shard_of}
use Rattle.mt_plain.specs.Answers.{Answers}
use Rattle.mt_plain.specs.Events.{Event, advance, StreamName, forward, back, advanced, Way}
use Rattle.mt_plain.specs.Next.{closes, created, lane_closed, lane_fed, lane_stepped, live_stepped, live_undone, new_lane, types_and, types_without, with_way_to}
use Rattle.mt_plain.specs.Plain.{Lane, Live, Plain, changes_primary, create_back, in_lane, lane_at, lane_of, live_at, next_step}
use Rattle.mt_plain.specs.Refuse.{advance_at, advance_refusal, begin_reverse_refusal, begin_switch_refusal, in_lane_at, step_refusal, undo_refusal}
use Rattle.mt_plain.specs.Slots.{is_fresh, lane_advanced, live_advanced, log_length, running_at, slot_of, with_position}
use Rattle.mt_laws.specs.Changes.{BeginsWay, IsAdvance, IsStep}
use Rattle.mt_laws.specs.Copies.{Undoes}
use Rattle.mt_laws.specs.WayBack.{IsReached}
use Rattle.mt_laws.proofs.ChangeLemmas.{made_live}
use Rattle.mt_laws.proofs.KeepLemmas.{Keeps}
use Rattle.mt_laws.proofs.LiveLemmas.{IsIn, find_some}
use Rattle.mt_laws.proofs.ReachLemmas.{reached_have}

-- ---- lists

pub in_map : {X Y : Type 0} (f : X → Y) (xs : List X) (y : Y) → IsIn y (map f xs) → (x : X) × IsIn x xs × (f x ≡ y)
in_map f [] y is = absurd is
in_map f (x ∷ xs) y (inl e) = (x, inl refl, e)
in_map f (x ∷ xs) y (inr is) = let r = in_map f xs y is in (r.0, inr r.1, r.2)

map_kept : {X Y : Type 0} (field : X → Y) (f : X → X) (xs : List X) → ((x : X) → field (f x) ≡ field x) → map field (map f xs) ≡ map field xs
map_kept field f [] kept = refl
map_kept field f (x ∷ xs) kept = ap (λ y. y ∷ map field (map f xs)) (kept x) ∙ ap (λ ys. field x ∷ ys) (map_kept field f xs kept)

map_back : {X Y : Type 0} (field : Y → X) (f : X → Y) (xs : List X) → ((x : X) → field (f x) ≡ x) → map field (map f xs) ≡ xs
map_back field f [] kept = refl
map_back field f (x ∷ xs) kept = ap (λ y. y ∷ map field (map f xs)) (kept x) ∙ ap (λ ys. x ∷ ys) (map_back field f xs kept)

-- ---- an event changes no lane's number

shard-cond : (t : Bool) (a b : Lane) (n : ℕ) → a.shard ≡ n → b.shard ≡ n → (cond t a b).shard ≡ n
shard-cond true a b n e f = e
shard-cond false a b n e f = f

pub shard-stepped : (p : Plain) (w : Live) (way : Way) (lane : Lane) → (lane_stepped p w way lane).shard ≡ lane.shard
shard-stepped p w way lane =
    shard-cond (eqb (next_step way) create_back) _ _ lane.shard refl
    (shard-cond (closes way && changes_primary way) (lane_closed way lane) lane lane.shard (shard-cond way.back _ _ lane.shard refl refl) refl)

shard-position : (lane : Lane) (name : StreamName) (t : Bool) (position : ℕ) → (with_position lane name t position).shard ≡ lane.shard
shard-position lane name true position = refl
shard-position lane forward false position = refl
shard-position lane back false position = refl

pub shard-advanced : (p : Plain) (w : Live) (lane : Lane) (name : StreamName) (at at_most events rows : ℕ) → (lane_advanced p w lane name at at_most events rows).shard ≡ lane.shard
shard-advanced p w lane name at at_most events rows = shard-position lane name (is_fresh w.way name) (at + events)

-- ---- the lanes have the numbers of the shards, in order

abbrev pub IsNumbered : Live → Type 0
IsNumbered w = map (λ lane. lane.shard) w.lanes ≡ range_with_len 0 (shard_count w.cuts)

numbered_kept : (p : Plain) (event : Event) (w : Live) → IsNumbered w → Keeps IsNumbered p event w
numbered_kept p event w holds = record {
  same = holds;
  switch = λ types begins none. holds;
  reverse = λ types begins none. holds;
  steps = λ at way steps opens none. map_kept (λ lane. lane.shard) (lane_stepped p w way) w.lanes (shard-stepped p w way) ∙ holds;
  undoes = λ at way undoes opens none. holds;
  advances = λ adv workflow stream shard at at_most events rows live none given.
      map_kept (λ lane. lane.shard) (λ lane. cond (eqb lane.shard shard) (lane_advanced p w lane stream at at_most events rows) lane) w.lanes
      (λ lane. shard-cond (eqb lane.shard shard) _ lane lane.shard (shard-advanced p w lane stream at at_most events rows) refl) ∙ holds;
}

numbered_new : (p : Plain) (name source target : List ℕ) (tables : List (List ℕ)) → IsNumbered (made_live p name source target tables)
numbered_new p name source target tables =
    let w = made_live p name source target tables in
    map_kept (λ (lane : Lane). lane.shard) (lane_fed p (created name source target tables w.cuts (log_length p source 0))) (map (new_lane (log_length p source 0)) (range_with_len 0 (shard_count w.cuts))) (λ lane. refl)
    ∙ map_back (λ (lane : Lane). lane.shard) (new_lane (log_length p source 0)) (range_with_len 0 (shard_count w.cuts)) (λ n. refl)

pub reached_numbered : (p : Plain) → IsReached p → (w : Live) → IsIn w p.lives → IsNumbered w
reached_numbered = reached_have IsNumbered numbered_new numbered_kept

-- so a lane is found by its number
from_on : (a n : ℕ) (lanes : List Lane) → map (λ lane. lane.shard) lanes ≡ range_with_len a n → (lane : Lane) → IsIn lane lanes → (a ≤ lane.shard) × (lane.shard < a + n)
from_on a zero [] e lane is = absurd is
from_on a (suc n) [] e lane is = absurd is
from_on a zero (x ∷ xs) e lane is = absurd cc
from_on a (suc n) (x ∷ xs) e lane (inl same) =
    let h : x.shard ≡ a = cc in
    let s = ap (λ l. l.shard) same in
    (omega arith, omega arith)
from_on a (suc n) (x ∷ xs) e lane (inr is) =
    let t : map (λ lane. lane.shard) xs ≡ range_with_len (a + 1) n = cc in
    let r = from_on (a + 1) n xs t lane is in
    let low = r.0 in
    let high = r.1 in
    (omega arith, omega arith)

found_on : (a n : ℕ) (lanes : List Lane) → map (λ lane. lane.shard) lanes ≡ range_with_len a n → (lane : Lane) → IsIn lane lanes → find (λ x. eqb x.shard lane.shard) lanes ≡ Some lane
found_on a zero [] e lane is = absurd is
found_on a (suc n) [] e lane is = absurd is
found_on a zero (x ∷ xs) e lane is = absurd cc
found_on a (suc n) (x ∷ xs) e lane (inl same) =
    ap (λ t. cond t (Some x) (find (λ y. eqb y.shard lane.shard) xs)) (eq-eqb x.shard lane.shard (ap (λ l. l.shard) same)) ∙ ap Some same
found_on a (suc n) (x ∷ xs) e lane (inr is) = by (found_on (a + 1) n xs t lane is) (eqb x.shard lane.shard) refl
  where
    head : x.shard ≡ a
    head = cc

    t : map (λ lane. lane.shard) xs ≡ range_with_len (a + 1) n
    t = cc

    by : find (λ y. eqb y.shard lane.shard) xs ≡ Some lane → (b : Bool) → eqb x.shard lane.shard ≡ b → cond (eqb x.shard lane.shard) (Some x) (find (λ y. eqb y.shard lane.shard) xs) ≡ Some lane
    by again true b =
        let s = eqb-true x.shard lane.shard b in
        let h = head in
        let low = (from_on (a + 1) n xs t lane is).0 in
        absurd (omega arith)
    by again false b = ap (λ c. cond c (Some x) (find (λ y. eqb y.shard lane.shard) xs)) b ∙ again

pub lane_at_it : (w : Live) → IsNumbered w → (lane : Lane) → IsIn lane w.lanes → lane_at w lane.shard ≡ Some lane
lane_at_it w numbered lane is = found_on 0 (shard_count w.cuts) w.lanes numbered lane is

-- and each shard has one
there_on : (a n : ℕ) (lanes : List Lane) → map (λ lane. lane.shard) lanes ≡ range_with_len a n → (s : ℕ) → a ≤ s → s < a + n → (lane : Lane) × (find (λ x. eqb x.shard s) lanes ≡ Some lane)
there_on a zero lanes e s low high = absurd (omega arith)
there_on a (suc n) [] e s low high = absurd cc
there_on a (suc n) (x ∷ xs) e s low high = by (λ l h. there_on (a + 1) n xs t s l h) (eqb x.shard s) refl
  where
    head : x.shard ≡ a
    head = cc

    t : map (λ lane. lane.shard) xs ≡ range_with_len (a + 1) n
    t = cc

    by : (a + 1 ≤ s → s < a + 1 + n → (lane : Lane) × (find (λ y. eqb y.shard s) xs ≡ Some lane)) → (b : Bool) → eqb x.shard s ≡ b → (lane : Lane) × (cond (eqb x.shard s) (Some x) (find (λ y. eqb y.shard s) xs) ≡ Some lane)
    by again true b = (x, ap (λ c. cond c (Some x) (find (λ y. eqb y.shard s) xs)) b)
    by again false b =
        let h = head in
        let ne : s ≡ a → ⊥ = λ is. true≢false (sym (eq-eqb x.shard s (h ∙ sym is)) ∙ b) in
        let r = again (omega arith) (omega arith) in
        (r.0, ap (λ c. cond c (Some x) (find (λ y. eqb y.shard s) xs)) b ∙ r.1)

pub shard_of-lt : (cuts : Cuts) (key : ℕ) → shard_of cuts key < shard_count cuts
shard_of-lt cuts key = let le = count_by-le-length (λ cut. leb (bound_value cut) key) cuts in omega arith

pub lane_of_key : (w : Live) → IsNumbered w → (key : ℕ) → (lane : Lane) × (lane_of w key ≡ Some lane)
lane_of_key w numbered key = there_on 0 (shard_count w.cuts) w.lanes numbered (shard_of w.cuts key) (omega arith) (let lt = shard_of-lt w.cuts key in omega arith)

-- the lane that is found is one of them, and its key stands in it
pub lane_found : (w : Live) (shard : ℕ) (lane : Lane) → lane_at w shard ≡ Some lane → IsIn lane w.lanes × (lane.shard ≡ shard)
lane_found w shard lane found =
    let r = find_some (λ x. eqb x.shard shard) w.lanes lane found in (r.0, eqb-true lane.shard shard r.1)

pub in_its_lane : (w : Live) (key : ℕ) (lane : Lane) → lane_of w key ≡ Some lane → in_lane w lane key ≡ true
in_its_lane w key lane found = eq-eqb (shard_of w.cuts key) lane.shard (sym (lane_found w (shard_of w.cuts key) lane found).1)

-- ---- what each event keeps of each lane

abbrev pub EachLane : (Live → Lane → Type 0) → Live → Type 0
EachLane Q w = (lane : Lane) → IsIn lane w.lanes → Q w lane

pub record KeepsLane (Q : Live → Lane → Type 0) (p : Plain) (event : Event) (w : Live) (lane : Lane) : Type 0 where
  pub same : Q w lane
  pub switch : (types : TypeSet) → BeginsWay event → begin_switch_refusal p types w ≡ None → Q (with_way_to false (λ switched. types_and switched types) w) lane
  pub reverse : (types : TypeSet) → BeginsWay event → begin_reverse_refusal p types w ≡ None → Q (with_way_to true (λ switched. types_without switched types) w) lane
  pub steps : (at : ℕ) (way : Way) → IsStep event → w.way ≡ Some way → step_refusal p at w ≡ None → Q (live_stepped p w way) (lane_stepped p w way lane)
  pub undoes : (at : ℕ) (way : Way) → Undoes event → w.way ≡ Some way → undo_refusal at w ≡ None → Q (live_undone w way) lane
  -- an advance of this lane's stream, and of another lane's
  pub advances : IsAdvance event → (workflow : List ℕ) (stream : StreamName) (shard at at_most events rows : ℕ) → live_at p workflow ≡ Some w → lane.shard ≡ shard
      → advance_at p w lane stream at at_most (running_at (slot_of w lane stream)) ≡ None
      → Answers p (advance workflow stream shard at at_most) (advanced events rows) → Q (live_advanced p w stream shard at at_most events rows) (lane_advanced p w lane stream at at_most events rows)
  pub beside : IsAdvance event → (workflow : List ℕ) (stream : StreamName) (shard at at_most events rows : ℕ) → live_at p workflow ≡ Some w → (other : Lane)
      → advance_at p w other stream at at_most (running_at (slot_of w other stream)) ≡ None → Q (live_advanced p w stream shard at at_most events rows) lane

pub lanes_kept : (Q : Live → Lane → Type 0) (p : Plain) (event : Event) (w : Live) → IsNumbered w → ((lane : Lane) → IsIn lane w.lanes → KeepsLane Q p event w lane) → Keeps (EachLane Q) p event w
lanes_kept Q p event w numbered each = record {
  same = λ lane is. (each lane is).same;
  switch = λ types begins none lane is. (each lane is).switch types begins none;
  reverse = λ types begins none lane is. (each lane is).reverse types begins none;
  steps = λ at way steps opens none lane is.
      let r = in_map (lane_stepped p w way) w.lanes lane is in
      subst (Q (live_stepped p w way)) r.2 ((each r.0 r.1).steps at way steps opens none);
  undoes = λ at way undoes opens none lane is. (each lane is).undoes at way undoes opens none;
  advances = λ adv workflow stream shard at at_most events rows live none given lane is.
      let r = in_map (λ x. cond (eqb x.shard shard) (lane_advanced p w x stream at at_most events rows) x) w.lanes lane is in
      let x = r.0 in
      subst (Q (live_advanced p w stream shard at at_most events rows)) r.2 (by adv workflow stream shard at at_most events rows live none given r.0 r.1 (eqb x.shard shard) refl);
}
  where
    by : IsAdvance event → (workflow : List ℕ) (stream : StreamName) (shard at at_most events rows : ℕ) → live_at p workflow ≡ Some w → advance_refusal p stream shard at at_most w ≡ None
        → Answers p (advance workflow stream shard at at_most) (advanced events rows) → (x : Lane) → IsIn x w.lanes → (t : Bool) → eqb x.shard shard ≡ t
        → Q (live_advanced p w stream shard at at_most events rows) (cond (eqb x.shard shard) (lane_advanced p w x stream at at_most events rows) x)
    by adv workflow stream shard at at_most events rows live none given x is true t =
        let e = eqb-true x.shard shard t in
        let found : lane_at w shard ≡ Some x = ap (lane_at w) (sym e) ∙ lane_at_it w numbered x is in
        let refused : advance_at p w x stream at at_most (running_at (slot_of w x stream)) ≡ None = sym (ap (λ o. in_lane_at o (λ lane. advance_at p w lane stream at at_most (running_at (slot_of w lane stream)))) found) ∙ none in
        subst (λ b. Q (live_advanced p w stream shard at at_most events rows) (cond b (lane_advanced p w x stream at at_most events rows) x)) (sym t)
        ((each x is).advances adv workflow stream shard at at_most events rows live e refused given)
    by adv workflow stream shard at at_most events rows live none given x is false t =
        subst (λ b. Q (live_advanced p w stream shard at at_most events rows) (cond b (lane_advanced p w x stream at at_most events rows) x)) (sym t)
        ((each x is).beside adv workflow stream shard at at_most events rows live (there (lane_at w shard) none).0 (there (lane_at w shard) none).1)
      where
        there : (o : Option Lane) → in_lane_at o (λ lane. advance_at p w lane stream at at_most (running_at (slot_of w lane stream))) ≡ None → (other : Lane) × (advance_at p w other stream at at_most (running_at (slot_of w other stream)) ≡ None)
        there None e = absurd cc
        there (Some other) e = (other, e)

-- what holds of each lane in each state that a run reaches
pub reached_lanes : (Q : Live → Lane → Type 0) → ((p : Plain) (name source target : List ℕ) (tables : List (List ℕ)) → EachLane Q (made_live p name source target tables))
    → ((p : Plain) (event : Event) (w : Live) → IsNumbered w → (lane : Lane) → IsIn lane w.lanes → Q w lane → KeepsLane Q p event w lane)
    → (p : Plain) → IsReached p → (w : Live) → IsIn w p.lives → EachLane Q w
reached_lanes Q new kept p reached w is =
    (reached_have (λ v. IsNumbered v × EachLane Q v) (λ q name source target tables. (numbered_new q name source target tables, new q name source target tables))
    (λ q event v holds. both q event v holds.0 (numbered_kept q event v holds.0) (lanes_kept Q q event v holds.0 (λ lane i. kept q event v holds.0 lane i (holds.1 lane i)))) p reached w is).1
  where
    both : (q : Plain) (event : Event) (v : Live) → IsNumbered v → Keeps IsNumbered q event v → Keeps (EachLane Q) q event v → Keeps (λ x. IsNumbered x × EachLane Q x) q event v
    both q event v numbered a b = record {
      same = (a.same, b.same);
      switch = λ types begins none. (a.switch types begins none, b.switch types begins none);
      reverse = λ types begins none. (a.reverse types begins none, b.reverse types begins none);
      steps = λ at way steps opens none. (a.steps at way steps opens none, b.steps at way steps opens none);
      undoes = λ at way undoes opens none. (a.undoes at way undoes opens none, b.undoes at way undoes opens none);
      advances = λ adv workflow stream shard at at_most events rows live none given.
          (a.advances adv workflow stream shard at at_most events rows live none given, b.advances adv workflow stream shard at at_most events rows live none given);
    }
