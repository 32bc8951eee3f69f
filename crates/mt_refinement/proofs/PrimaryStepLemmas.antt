-- A step, and the primaries of its workflow's sides.
use Rattle.std.proofs.Common.{◌≡◌, ℕ, zero, suc, ◌<◌, ◌≤◌, Bool, true, false, not, eqb, ◌&&◌, length, List, refl, sym, ap, ◌∙◌, subst, arith, eqb-true, get_or-set_other, length-set}
use Rattle.std.proofs.lemmas.Bool.{and_from, eq-eqb, eqb-false, true≢false}
use Rattle.std.specs.Prelude.{Ok}
use Rattle.mt_model.specs.declared.entries.Scope.{Scope}
use Rattle.mt_model.specs.Topology.{TopologyState}
use Rattle.mt_watch.specs.Asking.{Answering}
use Rattle.mt_primary.specs.Denials.{AreDenialsSet, told_by_refresh}
use Rattle.mt_primary.specs.Primaries.{Primaries, count_of, primary_of, shards_of}
use Rattle.mt_primary.specs.Primary.{PrimaryState, empty_primary, has_table}
use Rattle.mt_plain.specs.Events.{Way}
use Rattle.mt_plain.specs.Plain.{Live, Plain, is_side, moves, next_place, next_step, refresh_source, refresh_target}
use Rattle.mt_plain.specs.Serve.{Serves, is_listed_at, owned_before, step_of_list}
use Rattle.mt_steps.specs.Plans.{step_at}
use Rattle.mt_steps.specs.Refreshes.{RefreshesSide, Sites, notice_at}
use Rattle.mt_steps.specs.Shards.{next_shard, target_at}
use Rattle.mt_steps.specs.Steps.{Attempts}
use Rattle.mt_workflow.specs.Workflows.{WorkflowState}
use Rattle.mt_refinement.proofs.AttemptLemmas.{and_none}
use Rattle.mt_refinement.proofs.ChangeLemmas.{IsAt, IsChanged, Listed, Stand, changed_at, changes, joined, of_source, of_target, source_first, source_side, source_tables, source_within, stays, target_side, target_tables, target_within}
use Rattle.mt_refinement.proofs.WaysDenialLemmas.{Known, denied_after, refreshed}
use Rattle.mt_refinement.proofs.NumberLemmas.{at_first, at_other, at_second, denied_before}

-- ---- what a step leaves

module _ (scopes : List Scope) (may_answer : Answering) (id : ℕ) (t : TopologyState) (w : WorkflowState) (way : Way) (old new : Sites) where
  abbrev Attempted : ℕ → Type 0
  Attempted n = Attempts scopes may_answer id t w way (step_at n) old (Ok tt) new

  abbrev Stay : Type 0
  Stay = (new.source ≡ old.source) × (new.targets ≡ old.targets)

  all_stay : new ≡ old → Stay
  all_stay same = (ap (λ s. s.source) same, ap (λ s. s.targets) same)

  -- no step but a refresh changes a primary
  pub primaries_stay : (n : ℕ) → eqb n refresh_source ≡ false → eqb n refresh_target ≡ false → Attempted n → (new.source ≡ old.source) × (new.targets ≡ old.targets)
  primaries_stay zero a b is = all_stay is.1
  primaries_stay (suc zero) a b is = all_stay is.1
  primaries_stay (suc (suc zero)) a b is = absurd (true≢false a)
  primaries_stay (suc (suc (suc zero))) a b is = all_stay is.1
  primaries_stay (suc (suc (suc (suc zero)))) a b is = all_stay is.1
  primaries_stay (suc (suc (suc (suc (suc zero))))) a b is = all_stay is.1
  primaries_stay (suc (suc (suc (suc (suc (suc zero)))))) a b is = (is.1, is.2)
  primaries_stay (suc (suc (suc (suc (suc (suc (suc zero))))))) a b is = all_stay is.1
  primaries_stay (suc (suc (suc (suc (suc (suc (suc (suc zero)))))))) a b is = absurd (true≢false b)
  primaries_stay (suc (suc (suc (suc (suc (suc (suc (suc (suc zero))))))))) a b is = all_stay is.1
  primaries_stay (suc (suc (suc (suc (suc (suc (suc (suc (suc (suc zero)))))))))) a b is = all_stay is.1
  primaries_stay (suc (suc (suc (suc (suc (suc (suc (suc (suc (suc (suc zero))))))))))) a b is = all_stay is.1
  primaries_stay (suc (suc (suc (suc (suc (suc (suc (suc (suc (suc (suc (suc n)))))))))))) a b is = all_stay is.1

module _ (known : Known) (p q : Plain) (primaries : Primaries) (live : Live) (w : WorkflowState) (way : Way) (at : IsAt p primaries live w way)
    (change : IsChanged p q primaries live w (next_step way) (next_shard way) way.after) (t : TopologyState) (serves : Serves p t)
    (scopes : List Scope) (may_answer : Answering) (id : ℕ) (old new : Sites)
    (from_source : old.source ≡ primary_of primaries w.source 0) (from_target : old.targets ≡ (shards_of primaries w.target).each) where
  abbrev n : ℕ
  n = next_step way

  abbrev shard : ℕ
  shard = next_shard way

  was_target : (m : ℕ) → target_at old.targets m ≡ primary_of primaries w.target m
  was_target m = ap (λ ts. target_at ts m) from_target

  abbrev Left : Type 0
  Left = Stand p q primaries live w way at n shard way.after change new.source new.targets

  abbrev has_list : List ℕ → ℕ → PrimaryState → Type 0
  has_list = Listed p q primaries live w way at n shard way.after change

  -- a primary that stays, at the source and at the target
  source_stays : (state : PrimaryState) → state ≡ primary_of primaries w.source 0 → (eqb n (step_of_list live w.source) && eqb shard 0) ≡ false → has_list w.source 0 state
  source_stays = stays p q primaries live w way at n shard way.after change w.source 0 (source_within p primaries live w way at) change.at_source

  target_stays : (m : ℕ) → m < count_of primaries w.target → (state : PrimaryState) → state ≡ primary_of primaries w.target m → (eqb n (step_of_list live w.target) && eqb shard m) ≡ false → has_list w.target m state
  target_stays m within = stays p q primaries live w way at n shard way.after change w.target m within (change.at_target m within)

  both : length new.targets ≡ count_of primaries w.target → has_list w.source 0 new.source → ((m : ℕ) → m < count_of primaries w.target → has_list w.target m (target_at new.targets m)) → Left
  both = joined p q primaries live w way at n shard way.after change new.source new.targets

  as_long : new.targets ≡ old.targets → length new.targets ≡ count_of primaries w.target
  as_long same = ap length same ∙ ap length from_target

  told : (side : List ℕ) (m : ℕ) → change.lists side m ≡ changed_at live n shard way.after side m → (before state : PrimaryState) → before ≡ primary_of primaries side m → is_side live side ≡ true
      → ((table : List ℕ) → moves live table ≡ true → has_table (primary_of primaries side m) table ≡ true) → eqb n (step_of_list live side) ≡ true → eqb shard m ≡ true
      → AreDenialsSet before (told_by_refresh side (notice_at t side w.tables) w.tables) state → has_list side m state
  told side m lists before state is is_at there here this set =
      changes p q primaries live w way at n shard way.after change side m lists state (is_listed_at live way.after side) (and_from (eqb n (step_of_list live side)) (eqb shard m) here this) refl
      (refreshed known live w.tables at.sides.tables (primary_of primaries side m) state there t side (is_listed_at live way.after side)
      (denied_after p t serves live way at.opens at.owned side is_at (denied_before live way at.opens side here))
      (subst (λ s. AreDenialsSet s (told_by_refresh side (notice_at t side w.tables) w.tables) state) is set))

  here_now : next_step way ≤ next_step way
  here_now = omega arith

  by_refresh : (at_target : Bool) → eqb n (step_of_list live w.source) ≡ not at_target → eqb n (step_of_list live w.target) ≡ at_target
      → RefreshesSide scopes may_answer t w at_target shard old (Ok tt) new → Left
  by_refresh true s g is =
      both long (source_stays new.source (is.2 ∙ from_source) (ap (λ b. b && eqb shard 0) s)) (λ m within. each m within (eqb shard m) refl)
    where
      long : length new.targets ≡ count_of primaries w.target
      long = ap length is.1 ∙ length-set old.targets shard (target_at new.targets shard) ∙ ap length from_target

      here : shard < count_of primaries w.target
      here = target_within p primaries live w way at (next_place way) here_now g

      each : (m : ℕ) → m < count_of primaries w.target → (b : Bool) → eqb shard m ≡ b → has_list w.target m (target_at new.targets m)
      each m within true e =
          subst (λ k. has_list w.target k (target_at new.targets k)) (eqb-true shard m e)
          (told w.target shard (change.at_target shard here) (target_at old.targets shard) (target_at new.targets shard) (was_target shard) (target_side p primaries live w way at)
          (target_tables p primaries live w way at shard here) g (eq-eqb shard shard refl) is.0.1)
      each m within false e =
          target_stays m within (target_at new.targets m)
          (ap (λ ts. target_at ts m) is.1 ∙ get_or-set_other old.targets shard m (target_at new.targets shard) empty_primary (λ same. eqb-false shard m e (sym same)) ∙ was_target m)
          (ap (λ b. eqb n (step_of_list live w.target) && b) e ∙ and_none (eqb n (step_of_list live w.target)))
  by_refresh false s g is =
      both (as_long is.1)
      (told w.source 0 change.at_source old.source new.source from_source (source_side p primaries live w way at) (source_tables p primaries live w way at) s
      (eq-eqb shard 0 (source_first p primaries live w way at (next_place way) here_now s)) is.0.1)
      (λ m within. target_stays m within (target_at new.targets m) (ap (λ ts. target_at ts m) is.1 ∙ was_target m) (ap (λ b. b && eqb shard m) g))

  pub step_stands : Attempts scopes may_answer id t w way (step_at (next_step way)) old (Ok tt) new → Left
  step_stands is = by (eqb n refresh_source) (eqb n refresh_target) refl refl
    where
      at_number : (m : ℕ) → n ≡ m → Attempts scopes may_answer id t w way (step_at m) old (Ok tt) new
      at_number m e = subst (λ x. Attempts scopes may_answer id t w way (step_at x) old (Ok tt) new) e is

      source_old : owned_before live w.source ≡ not way.before.primary
      source_old = of_source p primaries live w way at

      target_old : owned_before live w.target ≡ way.before.primary
      target_old = of_target p primaries live w way at

      by : (a b : Bool) → eqb n refresh_source ≡ a → eqb n refresh_target ≡ b → Left
      by true b e f =
          let here = eqb-true n refresh_source e in
          by_refresh way.before.primary (at_first n here (owned_before live w.source) ∙ source_old) (at_first n here (owned_before live w.target) ∙ target_old) (at_number refresh_source here)
      by false true e f =
          let here = eqb-true n refresh_target f in
          by_refresh (not way.before.primary) (at_second n here (owned_before live w.source) ∙ ap not source_old) (at_second n here (owned_before live w.target) ∙ ap not target_old) (at_number refresh_target here)
      by false false e f =
          let stay = primaries_stay scopes may_answer id t w way old new n e f is in
          both (as_long stay.1) (source_stays new.source (stay.0 ∙ from_source) (ap (λ b. b && eqb shard 0) (at_other n e f (owned_before live w.source))))
          (λ m within. target_stays m within (target_at new.targets m) (ap (λ ts. target_at ts m) stay.1 ∙ was_target m) (ap (λ b. b && eqb shard m) (at_other n e f (owned_before live w.target))))
