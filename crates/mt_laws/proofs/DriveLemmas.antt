-- Each drive ends within its turns, however its events are answered.
use Rattle.std.proofs.Common.{◌≡◌, ◌≢◌, ◌⊎◌, inl, inr, ℕ, zero, suc, ◌+◌, ◌-◌, ◌<◌, ◌≤◌, Bool, true, false, not, cond, eqb, leb, List, ◌++◌, codes, Option, None, Some, Result, Ok, Err, refl, sym, ap, ◌∙◌, subst, arith, ltb, ltb-true}
use Rattle.std.proofs.lemmas.Bool.{true≢false, eqb-true, eq-eqb, leb-false, leb-true}
use Rattle.std.specs.List.{list_any}
use Rattle.std.specs.Option.{option_map_or}
use Rattle.std.specs.Prelude.{⊤, ◌&&◌, ◌||◌, option_and_then}
use Rattle.mt_names.specs.Shards.{Cuts, shard_count}
use Rattle.mt_names.specs.declared.types.TypeSet.{TypeSet}
use Rattle.mt_plain.specs.Plain.{differ, next_place, repeated_step, Live, Plain, behind_last, catch_up, first_step, live_at, next_step, refresh_source, refresh_target, stands_done, switch_reads, write_journal}
use Rattle.mt_plain.specs.Answers.{AnswerRule, Answers, Refuses}
use Rattle.mt_plain.specs.Numbers.{number_text}
use Rattle.mt_plain.specs.Drive.{Driven, abandoned, stopped, Drives, Driving, EndRule, GoesOn, begins, steps, feeds, gives_up, Heard, goes_on, ends, event_of, fails, feeding_stream, heard, lanes_of, most_at_once, most_tries, position_of, refused_step, steps_done, unless_closed, way_of}
use Rattle.mt_plain.specs.Drive as drive
use Rattle.mt_plain.specs.Events.{Event, begin_switch, begin_reverse, step, undo, Refusal, memory, nothing_under_way, not_level, past_journal, watcher_refused, no_watcher, stale, full, undoing, refusal_text, Way, Answer, done, row, advanced, shown, refused}
use Rattle.mt_plain.specs.Next.{next, with_step, with_undo, with_way_to, types_and, types_without}
use Rattle.mt_plain.specs.Output.{ended_text}
use Rattle.mt_plain.specs.Refuse.{begin_reverse_refusal, begin_switch_refusal, in_workflow, is_behind, is_of_primary, most_journal_entries, new_owner, old_owner, or_else, own_refusal, refusal_of, refuse_if, step_refusal, undo_refusal, will_read_other_side}
use Rattle.mt_plain.proofs.PlaceLemmas.{step-behind, step-first}
use Rattle.mt_laws.specs.Turns.{Enough, at_reads, before_level, at_level, behind_level, Goes, Undoes, Fits, FitsHeard}
use Rattle.mt_laws.proofs.WayStepLemmas.{OneOn, at_first, fewer-le, more, next_on}
use Rattle.mt_laws.proofs.DocumentLemmas.{refusal-no_feed}
use Rattle.mt_laws.proofs.ListLemmas.{cond-either, cond-holds}
use Rattle.mt_laws.proofs.TextLemmas.{NoFeed, no_feed-append, no_feed-number}
use Rattle.mt_laws.proofs.StepCountLemmas.{HasWay, backward_has_steps, few_done, few_undone, forward_has_steps, has_steps, has_way, way_of-advance, way_of-begun, way_of-step, way_of-undo}
use Rattle.mt_laws.proofs.PlainWords.{changes_reads, gives_up_or_stops}
use Rattle.mt_laws.proofs.RefusalLemmas.{in_workflow-none, reverse-none, switch-none}

-- ---- how many turns are enough

-- the number of the step at the next place
abbrev OnTo : (m n : ℕ) → Type 0
OnTo m n = (m ≡ suc n) ⊎ ((m ≡ n) × ((n ≡ 2) ⊎ (n ≡ 8)))

-- a step is done: the next one has all its tries
enough-step : (turns tries n m place : ℕ) → 0 < tries → OnTo m n → n ≤ place → place ≤ n + 7 → Enough (suc turns) tries n place → Enough turns most_tries m (suc place)
enough-step turns tries n m place some (inl is) low high (at_reads at first few) = before_level (omega arith) (omega arith) (omega arith)
enough-step turns tries n m place some (inr (same, inl two)) low high (at_reads at first few) = absurd (omega arith)
enough-step turns tries n m place some (inr (same, inr eight)) low high (at_reads at first few) = absurd (omega arith)
enough-step turns tries n m place some (inr (same, at)) low high (before_level past before few) = before_level (omega arith) (omega arith) (omega arith)
enough-step turns tries n m place some (inl is) low high (before_level past before few) = by n past before few is low high
  where
    by : (n : ℕ) → 0 < n → n < 3 → 601 ≤ suc turns + place → m ≡ suc n → n ≤ place → place ≤ n + 7 → Enough turns most_tries m (suc place)
    by zero past before few is low high = absurd (omega arith)
    by (suc zero) past before few is low high = before_level (omega arith) (omega arith) (omega arith)
    by (suc (suc zero)) past before few is low high = at_level (omega arith) (omega arith)
    by (suc (suc (suc n))) past before few is low high = absurd (omega arith)
enough-step turns tries n m place some (inl is) low high (at_level at few) = behind_level (omega arith) (omega arith)
enough-step turns tries n m place some (inr (same, inl two)) low high (at_level at few) = absurd (omega arith)
enough-step turns tries n m place some (inr (same, inr eight)) low high (at_level at few) = absurd (omega arith)
enough-step turns tries n m place some (inl is) low high (behind_level past few) = behind_level (omega arith) (omega arith)
enough-step turns tries n m place some (inr (same, at)) low high (behind_level past few) = behind_level (omega arith) (omega arith)

-- a step is tried again, behind an advance of each stream
enough-again : (turns left n place : ℕ) → (n ≡ 0) ⊎ (n ≡ 3) → Enough (suc turns) (suc (suc left)) n place → (t : ℕ) × (t + 8 ≡ turns + 0) × Enough t (suc left) n place
enough-again turns left n place at (at_reads is first few) = (turns - 8, omega arith, at_reads is first (omega arith))
enough-again turns left n place (inl at) (before_level past before few) = absurd (omega arith)
enough-again turns left n place (inr at) (before_level past before few) = absurd (omega arith)
enough-again turns left n place at (at_level is few) = (turns - 8, omega arith, at_level is (omega arith))
enough-again turns left n place (inl at) (behind_level past few) = absurd (omega arith)
enough-again turns left n place (inr at) (behind_level past few) = absurd (omega arith)

-- an undo has its turns
enough-undo : (turns tries n place : ℕ) → place ≤ 13 → n ≤ place → Enough (suc turns) tries n place → 13 ≤ turns
enough-undo turns tries n place few low (at_reads is first enough) = omega arith
enough-undo turns tries n place few low (before_level past before enough) = omega arith
enough-undo turns tries n place few low (at_level is enough) = omega arith
enough-undo turns tries n place few low (behind_level past enough) = omega arith

enough-more : (turns many tries n place : ℕ) → turns ≤ many → Enough turns tries n place → Enough many tries n place
enough-more turns many tries n place le (at_reads is first enough) = at_reads is first (omega arith)
enough-more turns many tries n place le (before_level past before enough) = before_level past before (omega arith)
enough-more turns many tries n place le (at_level is enough) = at_level is (omega arith)
enough-more turns many tries n place le (behind_level past enough) = behind_level past (omega arith)

enough-some : (turns tries n place : ℕ) → n < 12 → place ≤ n + 7 → Enough turns tries n place → 0 < turns
enough-some turns tries n place below high (at_reads is first enough) = omega arith
enough-some turns tries n place below high (before_level past before enough) = omega arith
enough-some turns tries n place below high (at_level is enough) = omega arith
enough-some turns tries n place below high (behind_level past enough) = omega arith

enough-begun : (reads : Bool) (turns : ℕ) → 1200 ≤ turns → Enough turns most_tries (cond {A = ℕ} reads 0 1) (cond {A = ℕ} reads 0 1 + 0)
enough-begun true turns many = at_reads (omega arith) (omega arith) (omega arith)
enough-begun false turns many = before_level (omega arith) (omega arith) (omega arith)

-- the next place is one of the next step's
place_low : (way : Way) → next_step way ≤ next_place way
place_low way = by (leb (next_place way) (repeated_step way)) refl
  where
    by : (t : Bool) → leb (next_place way) (repeated_step way) ≡ t → next_step way ≤ next_place way
    by true t = let here = leb-true (next_place way) (repeated_step way) t in let is = step-first way (next_place way) here in omega arith
    by false t = let behind = leb-false (next_place way) (repeated_step way) t in let is = step-behind way (next_place way) (omega arith) in omega arith

place_high : (way : Way) → way.shards ≤ 8 → next_place way ≤ next_step way + 7
place_high way few = by (leb (next_place way) (repeated_step way)) refl
  where
    by : (t : Bool) → leb (next_place way) (repeated_step way) ≡ t → next_place way ≤ next_step way + 7
    by true t = let here = leb-true (next_place way) (repeated_step way) t in let is = step-first way (next_place way) here in omega arith
    by false t = let behind = leb-false (next_place way) (repeated_step way) t in let is = step-behind way (next_place way) (omega arith) in omega arith

on_to : (way : Way) → OnTo (next_step (more way)) (next_step way)
on_to way = by (next_on way)
  where
    number : repeated_step way ≡ 2 ⊎ repeated_step way ≡ 8
    number = cond-either (λ n. (n ≡ 2) ⊎ (n ≡ 8)) way.back 2 8 (inl refl) (inr refl)

    by : OneOn (next_step (more way)) (next_step way) (repeated_step way) → OnTo (next_step (more way)) (next_step way)
    by (inl e) = inl e
    by (inr e) = inr (e.0, at number)
      where
        at : repeated_step way ≡ 2 ⊎ repeated_step way ≡ 8 → (next_step way ≡ 2) ⊎ (next_step way ≡ 8)
        at (inl n) = inl (e.1 ∙ n)
        at (inr n) = inr (e.1 ∙ n)

few_steps : (way : Way) → behind_last way ≤ 12
few_steps way = cond-either (λ n. n ≤ 12) _ 12 1 (omega arith) (omega arith)

-- ---- a drive that can't go on

fails-fits : (turns tries : ℕ) (p : Plain) (workflow : List ℕ) (refusal : Refusal) → Goes (suc turns) tries p workflow → FitsHeard turns p (fails p workflow refusal)
fails-fits turns tries p workflow refusal goes = subst (λ o. FitsHeard turns p (gives_up_or_stops done workflow refusal o)) (sym goes.is) by
  where
    done : ℕ
    done = steps_done p workflow

    by : FitsHeard turns p (gives_up_or_stops done workflow refusal (Some goes.way))
    by =
        cond-holds (FitsHeard turns p) (stands_done goes.way write_journal) (ends (Ok (stopped refusal done))) (goes_on (gives_up workflow refusal)) (λ past. tt)
        (λ before.
        let few : next_step goes.way ≤ 6 = few_done goes.way before in
        let low = place_low goes.way in
        let high = place_high goes.way goes.few in
        let many : 13 ≤ turns = enough-undo turns tries (next_step goes.way) (next_place goes.way) (omega arith) low goes.enough in
        let of_way : goes.way.done ≤ next_place goes.way = omega arith in
        record { way = goes.way; is = goes.is; no_journal = before; enough = omega arith; some = omega (arith, many) })

-- ---- a step

-- only two steps are refused for a side that is not level
abbrev LevelAt : ℕ → Option Refusal → Type 0
LevelAt n o = o ≡ Some not_level → (n ≡ 0) ⊎ (n ≡ 3)

refuse_if-level : (n : ℕ) (test : Bool) (refusal : Refusal) → refusal ≢ not_level → LevelAt n (refuse_if test refusal)
refuse_if-level n true refusal other e = absurd (other cc)
refuse_if-level n false refusal other e = absurd cc

or_else-level : (n : ℕ) (o next : Option Refusal) → LevelAt n o → LevelAt n next → LevelAt n (or_else o next)
or_else-level n None next first second = second
or_else-level n (Some refusal) next first second = first

own_refusal-level : (p : Plain) (w : Live) (way : Way) (n : ℕ) → LevelAt n (own_refusal p w way n)
own_refusal-level p w way n =
    let at_target = refuse_if (not (list_any (is_of_primary (new_owner w)) p.scopes)) no_watcher in
    let target_or = cond (eqb n refresh_target) at_target None in
    let at_journal = refuse_if (leb most_journal_entries p.journal) full in
    let journal_or = cond (eqb n write_journal) at_journal target_or in
    let at_catch_up = refuse_if (is_behind p w) not_level in
    let catch_up_or = cond (eqb n catch_up) at_catch_up journal_or in
    let at_source = refuse_if (not (list_any (is_of_primary (old_owner w)) p.scopes)) no_watcher in
    let source_or = cond (eqb n refresh_source) at_source catch_up_or in
    cond-holds (LevelAt n) (eqb n switch_reads) (refuse_if (will_read_other_side w way && is_behind p w) not_level) source_or (λ t e. inl (eqb-true n 0 t))
    (λ f. cond-either (LevelAt n) (eqb n refresh_source) at_source catch_up_or (refuse_if-level n (not (list_any (is_of_primary (old_owner w)) p.scopes)) no_watcher (λ e. cc))
    (cond-holds (LevelAt n) (eqb n catch_up) at_catch_up journal_or (λ t e. inr (eqb-true n 3 t))
    (λ f'. cond-either (LevelAt n) (eqb n write_journal) at_journal target_or (refuse_if-level n (leb most_journal_entries p.journal) full (λ e. cc))
    (cond-either (LevelAt n) (eqb n refresh_target) at_target None (refuse_if-level n (not (list_any (is_of_primary (new_owner w)) p.scopes)) no_watcher (λ e. cc)) (λ e. absurd cc)))))

step-level : (p : Plain) (workflow : List ℕ) (at : ℕ) (way : Way) → HasWay p workflow way → LevelAt (next_step way) (refusal_of p (step workflow at))
step-level p workflow at way has = subst (λ o. LevelAt (next_step way) (in_workflow o (step_refusal p at))) (sym has.found) (by has.live has.way_is)
  where
    refused_on_way : Live → Option Refusal
    refused_on_way w = or_else (refuse_if way.undoing undoing) (or_else (refuse_if (not (eqb at way.done)) (stale way.done)) (own_refusal p w way (next_step way)))

    by : (w : Live) → w.way ≡ Some way → LevelAt (next_step way) (step_refusal p at w)
    by w is = subst (λ o. LevelAt (next_step way) (option_map_or (λ v. or_else (refuse_if v.undoing undoing) (or_else (refuse_if (not (eqb at v.done)) (stale v.done)) (own_refusal p w v (next_step v)))) o (Some nothing_under_way))) (sym is)
        (or_else-level (next_step way) (refuse_if way.undoing undoing) _ (refuse_if-level (next_step way) way.undoing undoing (λ e. cc))
        (or_else-level (next_step way) (refuse_if (not (eqb at way.done)) (stale way.done)) (own_refusal p w way (next_step way)) (refuse_if-level (next_step way) (not (eqb at way.done)) (stale way.done) (λ e. cc))
        (own_refusal-level p w way (next_step way))))

refused_step-fits : (turns tries : ℕ) (p : Plain) (workflow : List ℕ) (refusal : Refusal) → Goes (suc turns) tries p workflow → Refuses p (step workflow (steps_done p workflow)) refusal → FitsHeard turns p (refused_step p workflow tries refusal)
refused_step-fits turns (suc (suc left)) p workflow not_level goes a =
    let at = step-level p workflow (steps_done p workflow) goes.way (has_way p workflow goes.way goes.is) a in
    let (t, is, enough) = enough-again turns left (next_step goes.way) (next_place goes.way) at goes.enough in
    (t, is, omega arith, record { way = goes.way; is = goes.is; few = goes.few; left = goes.left; tried = omega arith; enough = enough })
refused_step-fits turns tries p workflow other goes a = fails-fits turns tries p workflow other goes

stepped-fits : (turns tries : ℕ) (p : Plain) (workflow : List ℕ) → Goes (suc turns) tries p workflow → FitsHeard turns (with_step p workflow) (unless_closed (way_of (with_step p workflow) workflow) drive.done (steps workflow most_tries))
stepped-fits turns tries p workflow goes = by (eqb (suc (next_step way)) (behind_last way)) refl
  where
    way : Way
    way = goes.way

    q : Plain
    q = with_step p workflow

    is : way_of q workflow ≡ cond (eqb (suc (next_step way)) (behind_last way)) None (Some (record way { done = suc way.done }))
    is = way_of-step p workflow way (has_way p workflow way goes.is)

    left_on : OnTo (next_step (record way { done = suc way.done })) (next_step way) → next_step way < behind_last way → suc (next_step way) ≢ behind_last way → next_step (record way { done = suc way.done }) < behind_last way
    left_on (inl e) left apart = omega (arith, e, left, apart)
    left_on (inr e) left apart = let f = e.0 in omega (arith, f, left)

    by : (t : Bool) → eqb (suc (next_step way)) (behind_last way) ≡ t → FitsHeard turns q (unless_closed (way_of q workflow) drive.done (steps workflow most_tries))
    by true t = subst (λ o. FitsHeard turns q (unless_closed o drive.done (steps workflow most_tries))) (sym (is ∙ ap (λ b. cond b None (Some (record way { done = suc way.done }))) t)) tt
    by false t =
        let next : way_of q workflow ≡ Some (record way { done = suc way.done }) = is ∙ ap (λ b. cond b None (Some (record way { done = suc way.done }))) t in
        let more : suc (next_step way) ≢ behind_last way = λ e. true≢false (sym (eq-eqb (suc (next_step way)) (behind_last way) e) ∙ t) in
        let goes_next : Goes turns most_tries q workflow = record {
          way = record way { done = suc way.done };
          is = next;
          few = goes.few;
          left = left_on (on_to way) goes.left more;
          tried = omega arith;
          enough =
              let e : suc (next_place way) ≡ first_step way + suc way.done = omega arith in
              subst (Enough turns most_tries (next_step (record way { done = suc way.done }))) e
              (enough-step turns tries (next_step way) (next_step (record way { done = suc way.done })) (next_place way) goes.tried (on_to way) (place_low way) (place_high way goes.few) goes.enough);
        } in
        subst (λ o. FitsHeard turns q (unless_closed o drive.done (steps workflow most_tries))) (sym next) goes_next

-- ---- an undo

-- it isn't refused, as long as the journal does not stand done
undo-is_taken : (p : Plain) (workflow : List ℕ) (way : Way) → HasWay p workflow way → stands_done way write_journal ≡ false → refusal_of p (undo workflow (steps_done p workflow)) ≡ None
undo-is_taken p workflow way has none =
    ap (λ o. in_workflow o (undo_refusal (steps_done p workflow))) has.found
    ∙ ap (λ o. option_map_or (λ v. or_else (refuse_if (stands_done v write_journal) past_journal) (refuse_if (not (eqb (steps_done p workflow) v.done)) (stale v.done))) o (Some nothing_under_way)) has.way_is
    ∙ ap (λ b. or_else (refuse_if b past_journal) (refuse_if (not (eqb (steps_done p workflow) way.done)) (stale way.done))) none
    ∙ ap (λ b. refuse_if (not b) (stale way.done)) (eq-eqb (steps_done p workflow) way.done (ap (λ o. option_map_or (λ v. v.done) o 0) is))
  where
    is : way_of p workflow ≡ Some way
    is = ap (λ o. option_and_then (λ w. w.way) o) has.found ∙ has.way_is

undo-not_refused : (p : Plain) (workflow : List ℕ) (at : ℕ) (refusal : Refusal) → refusal_of p (undo workflow at) ≡ None → ¬ (Refuses p (undo workflow at) refusal)
undo-not_refused p workflow at memory none a = true≢false (sym a.1)
undo-not_refused p workflow at (watcher_refused index) none a = true≢false (sym a.1)
undo-not_refused p workflow at other none a = absurd (let h = sym none ∙ a in cc)

undone-fits : (turns : ℕ) (p : Plain) (workflow : List ℕ) (refusal : Refusal) → Undoes (suc turns) p workflow → FitsHeard turns (with_undo p workflow) (unless_closed (way_of (with_undo p workflow) workflow) (abandoned refusal) (gives_up workflow refusal))
undone-fits turns p workflow refusal undoes = by (eqb (way.done - 1) 0) refl
  where
    way : Way
    way = undoes.way

    q : Plain
    q = with_undo p workflow

    is : way_of q workflow ≡ cond (eqb (way.done - 1) 0) None (Some (record way { done = way.done - 1; undoing = true }))
    is = way_of-undo p workflow way (has_way p workflow way undoes.is)

    by : (t : Bool) → eqb (way.done - 1) 0 ≡ t → FitsHeard turns q (unless_closed (way_of q workflow) (abandoned refusal) (gives_up workflow refusal))
    by true t =
        subst (λ o. FitsHeard turns q (unless_closed o (abandoned refusal) (gives_up workflow refusal))) (sym (is ∙ ap (λ b. cond b None (Some (record way { done = way.done - 1; undoing = true }))) t))
        tt
    by false t =
        let next : way_of q workflow ≡ Some (record way { done = way.done - 1; undoing = true }) = is ∙ ap (λ b. cond b None (Some (record way { done = way.done - 1; undoing = true }))) t in
        let more : way.done - 1 ≢ 0 = λ e. true≢false (sym (eq-eqb (way.done - 1) 0 e) ∙ t) in
        let few : next_step way ≤ 6 = few_done way undoes.no_journal in
        let undoes_next : Undoes turns q workflow = record {
          way = record way { done = way.done - 1; undoing = true };
          is = next;
          no_journal = let le = fewer-le way in few_undone (record way { done = way.done - 1; undoing = true }) (omega (arith, few, le));
          enough = omega (arith, undoes.enough, more);
          some = omega (arith, undoes.enough, more);
        } in
        subst (λ o. FitsHeard turns q (unless_closed o (abandoned refusal) (gives_up workflow refusal))) (sym next) undoes_next

-- ---- the beginning

begun-fits : (turns : ℕ) (p : Plain) (workflow : List ℕ) (backward : Bool) (change : TypeSet → TypeSet) (w : Live) → 1200 ≤ turns → live_at p workflow ≡ Some w
    → (way : Way) → (with_way_to backward change w).way ≡ Some way → way.done ≡ 0 → way.shards ≡ shard_count w.cuts → first_step way < behind_last way → (q : Plain) → way_of q workflow ≡ (with_way_to backward change w).way → Goes turns most_tries q workflow
begun-fits turns p workflow backward change w many found way is none shards left q after_it = record {
  way = way;
  is = after_it ∙ is;
  few = eight w.cuts shards;
  left = let e = at_first way none in omega arith;
  tried = omega arith;
  enough =
      subst (λ n. Enough turns most_tries n (next_place way)) (sym (at_first way none))
      (subst (λ n. Enough turns most_tries (first_step way) (first_step way + n)) (sym none) (enough-begun (changes_reads way) turns many));
}
  where
    eight : (cuts : Cuts) → way.shards ≡ shard_count cuts → way.shards ≤ 8
    eight cuts e = omega arith

least : {n m : ℕ} → suc (n + 0) ≤ m → n < m
least le = omega arith

begun_switch-fits : (turns : ℕ) (p : Plain) (workflow : List ℕ) (types : TypeSet) → 1200 ≤ turns → refusal_of p (begin_switch workflow types) ≡ None → Goes turns most_tries (next p (begin_switch workflow types) done) workflow
begun_switch-fits turns p workflow types many none =
    let t = in_workflow-none (live_at p workflow) (begin_switch_refusal p types) none in
    let change : TypeSet → TypeSet = λ switched. types_and switched types in
    begun-fits turns p workflow false change t.0 many t.1 (record { back = false; shards = shard_count t.0.cuts; before = t.0.switched; after = types_and t.0.switched types; done = 0; undoing = false }) refl refl refl
    (least (has_steps (differ t.0.switched.primary (t.0.switched.primary || types.primary)) (differ t.0.switched.replica (t.0.switched.replica || types.replica)) (differ t.0.switched.rdonly (t.0.switched.rdonly || types.rdonly)) (forward_has_steps t.0.switched types (switch-none p types t.0 t.2).1)))
    (next p (begin_switch workflow types) done) (way_of-begun p workflow false change t.0 t.1)

begun_reverse-fits : (turns : ℕ) (p : Plain) (workflow : List ℕ) (types : TypeSet) → 1200 ≤ turns → refusal_of p (begin_reverse workflow types) ≡ None → Goes turns most_tries (next p (begin_reverse workflow types) done) workflow
begun_reverse-fits turns p workflow types many none =
    let t = in_workflow-none (live_at p workflow) (begin_reverse_refusal p types) none in
    let change : TypeSet → TypeSet = λ switched. types_without switched types in
    begun-fits turns p workflow true change t.0 many t.1 (record { back = true; shards = shard_count t.0.cuts; before = t.0.switched; after = types_without t.0.switched types; done = 0; undoing = false }) refl refl refl
    (least (has_steps (differ t.0.switched.primary (t.0.switched.primary && not types.primary)) (differ t.0.switched.replica (t.0.switched.replica && not types.replica)) (differ t.0.switched.rdonly (t.0.switched.rdonly && not types.rdonly)) (backward_has_steps t.0.switched types (reverse-none p types t.0 t.2).1)))
    (next p (begin_reverse workflow types) done) (way_of-begun p workflow true change t.0 t.1)

-- ---- each event of a drive

begins-fits : (turns : ℕ) (p : Plain) (workflow : List ℕ) (types : TypeSet) (backward : Bool) (answer : Answer) → 1200 ≤ turns → Answers p (event_of p (begins workflow types backward)) answer → FitsHeard turns (next p (event_of p (begins workflow types backward)) answer) (heard (next p (event_of p (begins workflow types backward)) answer) (begins workflow types backward) answer)
begins-fits turns p workflow types backward (refused refusal) many a = tt
begins-fits turns p workflow types true done many a = begun_reverse-fits turns p workflow types many a.0
begins-fits turns p workflow types false done many a = begun_switch-fits turns p workflow types many a.0
begins-fits turns p workflow types true (row r) many a = absurd (let h = a.1 in cc)
begins-fits turns p workflow types false (row r) many a = absurd (let h = a.1 in cc)
begins-fits turns p workflow types true (advanced events rows) many (none, inl is) = absurd cc
begins-fits turns p workflow types true (advanced events rows) many (none, inr cut) = absurd cut
begins-fits turns p workflow types false (advanced events rows) many (none, inl is) = absurd cc
begins-fits turns p workflow types false (advanced events rows) many (none, inr cut) = absurd cut
begins-fits turns p workflow types true (shown s) many a = absurd (let h = a.1 in cc)
begins-fits turns p workflow types false (shown s) many a = absurd (let h = a.1 in cc)

steps-fits : (turns : ℕ) (p : Plain) (workflow : List ℕ) (tries : ℕ) (answer : Answer) → Goes (suc turns) tries p workflow → Answers p (event_of p (steps workflow tries)) answer → FitsHeard turns (next p (event_of p (steps workflow tries)) answer) (heard (next p (event_of p (steps workflow tries)) answer) (steps workflow tries) answer)
steps-fits turns p workflow tries (refused refusal) goes a = refused_step-fits turns tries p workflow refusal goes a
steps-fits turns p workflow tries done goes a = stepped-fits turns tries p workflow goes
steps-fits turns p workflow tries (row r) goes a = absurd (let h = a.1 in cc)
steps-fits turns p workflow tries (advanced events rows) goes (none, inl is) = absurd cc
steps-fits turns p workflow tries (advanced events rows) goes (none, inr cut) = absurd cut
steps-fits turns p workflow tries (shown s) goes a = absurd (let h = a.1 in cc)

goes-more : (turns many tries : ℕ) (p : Plain) (workflow : List ℕ) → turns ≤ many → Goes turns tries p workflow → Goes many tries p workflow
goes-more turns many tries p workflow le goes =
    record { way = goes.way; is = goes.is; few = goes.few; left = goes.left; tried = goes.tried; enough = enough-more turns many tries (next_step goes.way) (next_place goes.way) le goes.enough }

-- the next shard, or the step again
fed-on : (turns t shard tries : ℕ) (p : Plain) (workflow : List ℕ) → t + 8 ≡ suc turns + shard → shard < 8 → Goes t tries p workflow
    → FitsHeard turns p (cond (ltb (suc shard) (lanes_of p workflow)) (goes_on (feeds workflow (suc shard) tries)) (goes_on (steps workflow tries)))
fed-on turns t shard tries p workflow is below goes =
    cond-holds (FitsHeard turns p) (ltb (suc shard) (lanes_of p workflow)) (goes_on (feeds workflow (suc shard) tries)) (goes_on (steps workflow tries))
    (λ on. (t, omega arith, few (live_at p workflow) (ltb-true (suc shard) (lanes_of p workflow) on), goes))
    (λ last. goes-more t turns tries p workflow (omega arith) goes)
  where
    few : (o : Option Live) → suc shard < option_map_or (λ w. shard_count w.cuts) o 0 → suc shard < 8
    few None lt = absurd (omega arith)
    few (Some w) lt = omega arith

feeds-fits : (turns : ℕ) (p : Plain) (workflow : List ℕ) (shard tries : ℕ) (answer : Answer) → Fits (suc turns) p (feeds workflow shard tries) → Answers p (event_of p (feeds workflow shard tries)) answer → FitsHeard turns (next p (event_of p (feeds workflow shard tries)) answer) (heard (next p (event_of p (feeds workflow shard tries)) answer) (feeds workflow shard tries) answer)
feeds-fits turns p workflow shard tries (refused refusal) (t, is, below, goes) a = fails-fits turns tries p workflow refusal (goes-more t (suc turns) tries p workflow (omega arith) goes)
feeds-fits turns p workflow shard tries done (t, is, below, goes) a = fed-on turns t shard tries p workflow is below goes
feeds-fits turns p workflow shard tries (row r) (t, is, below, goes) a = fed-on turns t shard tries p workflow is below goes
feeds-fits turns p workflow shard tries (shown s) (t, is, below, goes) a = fed-on turns t shard tries p workflow is below goes
feeds-fits turns p workflow shard tries (advanced events rows) (t, is, below, goes) a =
    let name = feeding_stream p workflow in
    let same = way_of-advance p workflow name shard (position_of p workflow name shard) most_at_once events rows (live_at p workflow) in
    fed-on turns t shard tries (next p (event_of p (feeds workflow shard tries)) (advanced events rows)) workflow is below
    (record { way = goes.way; is = same ∙ goes.is; few = goes.few; left = goes.left; tried = goes.tried; enough = goes.enough })

gives_up-fits : (turns : ℕ) (p : Plain) (workflow : List ℕ) (refusal : Refusal) (answer : Answer) → Undoes (suc turns) p workflow → Answers p (event_of p (gives_up workflow refusal)) answer → FitsHeard turns (next p (event_of p (gives_up workflow refusal)) answer) (heard (next p (event_of p (gives_up workflow refusal)) answer) (gives_up workflow refusal) answer)
gives_up-fits turns p workflow refusal (refused other) undoes a =
    absurd (undo-not_refused p workflow (steps_done p workflow) other (undo-is_taken p workflow undoes.way (has_way p workflow undoes.way undoes.is) undoes.no_journal) a)
gives_up-fits turns p workflow refusal done undoes a = undone-fits turns p workflow refusal undoes
gives_up-fits turns p workflow refusal (row r) undoes a = absurd (let h = a.1 in cc)
gives_up-fits turns p workflow refusal (advanced events rows) undoes (none, inl is) = absurd cc
gives_up-fits turns p workflow refusal (advanced events rows) undoes (none, inr cut) = absurd cut
gives_up-fits turns p workflow refusal (shown s) undoes a = absurd (let h = a.1 in cc)

pub heard-fits : (turns : ℕ) (p : Plain) (d : Driving) (answer : Answer) → Fits (suc turns) p d → Answers p (event_of p d) answer → FitsHeard turns (next p (event_of p d) answer) (heard (next p (event_of p d) answer) d answer)
heard-fits turns p (begins workflow types backward) answer fits a = begins-fits turns p workflow types backward answer (omega (arith, fits)) a
heard-fits turns p (steps workflow tries) answer fits a = steps-fits turns p workflow tries answer fits a
heard-fits turns p (feeds workflow shard tries) answer fits a = feeds-fits turns p workflow shard tries answer fits a
heard-fits turns p (gives_up workflow refusal) answer fits a = gives_up-fits turns p workflow refusal answer fits a

-- turns are left, as long as a drive goes on
pub fits-turns : (p : Plain) (d : Driving) → ¬ (Fits 0 p d)
fits-turns p (begins workflow types backward) fits = absurd (omega arith)
fits-turns p (steps workflow tries) fits =
    let some = enough-some 0 tries (next_step fits.way) (next_place fits.way) (omega (arith, fits.left, few_steps fits.way)) (place_high fits.way fits.few) fits.enough in absurd (omega (arith, some))
fits-turns p (feeds workflow shard tries) (t, is, below, goes) = absurd (omega (arith, is, below))
fits-turns p (gives_up workflow refusal) fits = absurd (omega (arith, fits.some))

-- ---- the end

-- by whatever rule its events are answered, among the answers that they may get
module _ (rule : AnswerRule) (may : (p : Plain) (event : Event) (answer : Answer) → rule p event answer → Answers p event answer)
    (some : (p : Plain) (event : Event) → (answer : Answer) × rule p event answer) where
  pub drive_ends : (turns : ℕ) (p : Plain) (d : Driving) → Fits turns p d → Drives rule turns (λ ended q. ⊤) d p
  drive_ends zero p d fits = absurd (fits-turns p d fits)
  drive_ends (suc turns) p d fits =
      let given = some p (event_of p d) in
      let q = next p (event_of p d) given.0 in
      (given.0, given.1, by (drive_ends turns) q (heard q d given.0) (heard-fits turns p d given.0 fits (may p (event_of p d) given.0 given.1)))
    where
      by : ((r : Plain) (e : Driving) → Fits turns r e → Drives rule turns (λ ended s. ⊤) e r) → (q : Plain) (h : Heard) → FitsHeard turns q h → GoesOn (Drives rule turns (λ ended s. ⊤)) (λ ended s. ⊤) q h
      by again q (goes_on e) fits' = again q e fits'
      by again q (ends ended) fits' = tt

-- a drive that has ended within some turns has ended within those that it fits in
module _ (Ends : EndRule) where
  pub drive_fits : (many turns : ℕ) (p : Plain) (d : Driving) → Fits turns p d → Drives Answers many Ends d p → Drives Answers turns Ends d p
  drive_fits zero turns p d fits drove = absurd drove
  drive_fits (suc many) zero p d fits drove = absurd (fits-turns p d fits)
  drive_fits (suc many) (suc turns) p d fits drove =
      let q = next p (event_of p d) drove.0 in
      (drove.0, drove.1, by (drive_fits many turns) q (heard q d drove.0) (heard-fits turns p d drove.0 fits drove.1) drove.2)
    where
      by : ((r : Plain) (e : Driving) → Fits turns r e → Drives Answers many Ends e r → Drives Answers turns Ends e r) → (q : Plain) (h : Heard) → FitsHeard turns q h → GoesOn (Drives Answers many Ends) Ends q h → GoesOn (Drives Answers turns Ends) Ends q h
      by again q (goes_on e) fits' goes = again q e fits' goes
      by again q (ends ended) fits' goes = goes

-- how a drive ended, in a state that keeps what each event keeps
pub record Ended (Keeps : Plain → Type 0) (Ends : EndRule) : Type 0 where
  pub ended : Result Driven Refusal
  pub left : Plain
  pub keeps : Keeps left
  pub holds : Ends ended left

module _ (Keeps : Plain → Type 0) (kept : (p : Plain) (d : Driving) (answer : Answer) → Keeps p → Keeps (next p (event_of p d) answer)) (Ends : EndRule) where
  pub drive_ended : (turns : ℕ) (p : Plain) (d : Driving) → Keeps p → Drives Answers turns Ends d p → Ended Keeps Ends
  drive_ended zero p d keeps drove = absurd drove
  drive_ended (suc turns) p d keeps drove = by (drive_ended turns) q (heard q d drove.0) (kept p d drove.0 keeps) drove.2
    where
      q : Plain
      q = next p (event_of p d) drove.0

      by : ((r : Plain) (e : Driving) → Keeps r → Drives Answers turns Ends e r → Ended Keeps Ends) → (r : Plain) (h : Heard) → Keeps r → GoesOn (Drives Answers turns Ends) Ends r h → Ended Keeps Ends
      by again r (goes_on e) keeps' goes = again r e keeps' goes
      by again r (ends ended) keeps' holds = record { ended = ended; left = r; keeps = keeps'; holds = holds }

-- the text of an end has no line feed
pub ended_text-no_feed : (ended : Result Driven Refusal) → NoFeed (ended_text ended)
ended_text-no_feed (Ok drive.done) = record { all = refl }
ended_text-no_feed (Ok (abandoned refusal)) = no_feed-append (codes "abandoned ") (refusal_text refusal) (record { all = refl }) (refusal-no_feed refusal)
ended_text-no_feed (Ok (stopped refusal n)) =
    no_feed-append (codes "stopped " ++ refusal_text refusal ++ codes " ") (number_text n)
    (no_feed-append (codes "stopped " ++ refusal_text refusal) (codes " ") (no_feed-append (codes "stopped ") (refusal_text refusal) (record { all = refl }) (refusal-no_feed refusal)) (record { all = refl })) (no_feed-number n)
ended_text-no_feed (Err refusal) = no_feed-append (codes "refused ") (refusal_text refusal) (record { all = refl }) (refusal-no_feed refusal)
