-- With which step the own list of which side changes, and what it refuses before and behind.
use Rattle.std.proofs.Common.{◌≡◌, ◌≢◌, ℕ, Bool, true, false, not, cond, eqb, ltb, ◌&&◌, List, Option, Some, refl, sym, ap, ◌∙◌, arith, eqb-true}
use Rattle.std.proofs.lemmas.Bool.{false_from_ne_true, ltb-true}
use Rattle.std.specs.Option.{option_map_or}
use Rattle.mt_names.specs.declared.types.TypeSet.{TypeSet}
use Rattle.mt_names.specs.Names.{same_text}
use Rattle.mt_plain.specs.Events.{Way}
use Rattle.mt_plain.specs.Plain.{Live, allow_target, deny_source, is_side, next_place, next_step, owner_by, place_of_refresh, refresh_source, refresh_target, stands_done, stands_done_at}
use Rattle.mt_plain.specs.Serve.{is_denied_at, is_listed_at, list_types, owned_before, refuses_by, step_of_list}
use Rattle.mt_laws.proofs.WayStepLemmas.{done_by}
use Rattle.mt_stands.proofs.KnownLemmas.{differs, itself}

-- ---- numbers

pub at_first : (n : ℕ) → n ≡ refresh_source → (b : Bool) → eqb n (cond {A = ℕ} b refresh_source refresh_target) ≡ b
at_first n is true = ap (λ m. eqb m refresh_source) is
at_first n is false = ap (λ m. eqb m refresh_target) is

pub at_second : (n : ℕ) → n ≡ refresh_target → (b : Bool) → eqb n (cond {A = ℕ} b refresh_source refresh_target) ≡ not b
at_second n is true = ap (λ m. eqb m refresh_source) is
at_second n is false = ap (λ m. eqb m refresh_target) is

pub at_other : (n : ℕ) → eqb n refresh_source ≡ false → eqb n refresh_target ≡ false → (b : Bool) → eqb n (cond {A = ℕ} b refresh_source refresh_target) ≡ false
at_other n first second true = first
at_other n first second false = second

-- ---- sides

-- what is no side of a workflow refuses none of its tables
pub listed_none : (w : Live) (types : TypeSet) (keyspace : List ℕ) → is_side w keyspace ≡ false → is_listed_at w types keyspace ≡ false
listed_none w types keyspace none = ap (λ b. b && is_denied_at w types keyspace) none

pub list_outside : (w : Live) (types : TypeSet) (b : Bool) (keyspace : List ℕ) (shard : ℕ) → is_side w keyspace ≡ false
    → cond b (is_listed_at w types keyspace) (refuses_by w keyspace shard) ≡ refuses_by w keyspace shard
list_outside w types true keyspace shard none = listed_none w types keyspace none ∙ sym (listed_none w (list_types w keyspace shard) keyspace none)
list_outside w types false keyspace shard none = refl

module _ (w : Live) (way : Way) (opens : w.way ≡ Some way) (source target : List ℕ) (is_source : w.source ≡ source) (is_target : w.target ≡ target) (apart : source ≢ target) where
  owned_by : (keyspace : List ℕ) → owned_before w keyspace ≡ same_text (cond way.before.primary target source) keyspace
  owned_by keyspace =
      ap (λ (o : Option Way). same_text (owner_by w (option_map_or (λ x. x.before) o w.switched)) keyspace) opens
      ∙ ap (λ k. same_text (cond way.before.primary k w.source) keyspace) is_target
      ∙ ap (λ k. same_text (cond way.before.primary target k) keyspace) is_source

  pub owned_source : owned_before w source ≡ not way.before.primary
  owned_source = owned_by source ∙ by way.before.primary
    where
      by : (b : Bool) → same_text (cond b target source) source ≡ not b
      by true = differs target source (λ e. apart (sym e))
      by false = itself source

  pub owned_target : owned_before w target ≡ way.before.primary
  owned_target = owned_by target ∙ by way.before.primary
    where
      by : (b : Bool) → same_text (cond b target source) target ≡ b
      by true = itself target
      by false = differs source target apart

  -- the old owner's list has no table with the types before the way
  pub allowed_at_target : way.before.primary ≡ true → is_listed_at w way.before target ≡ false
  allowed_at_target is =
      ap (λ k. is_side w target && cond (same_text k target) way.before.primary (not way.before.primary)) is_source
      ∙ ap (λ b. is_side w target && cond b way.before.primary (not way.before.primary)) (differs source target apart)
      ∙ ap (λ b. is_side w target && not b) is
      ∙ none (is_side w target)
    where
      none : (b : Bool) → (b && false) ≡ false
      none true = refl
      none false = refl

  pub allowed_at_source : way.before.primary ≡ false → is_listed_at w way.before source ≡ false
  allowed_at_source is =
      ap (λ k. is_side w source && cond (same_text k source) way.before.primary (not way.before.primary)) is_source
      ∙ ap (λ b. is_side w source && cond b way.before.primary (not way.before.primary)) (itself source)
      ∙ ap (λ b. is_side w source && b) is
      ∙ none (is_side w source)
    where
      none : (b : Bool) → (b && false) ≡ false
      none true = refl
      none false = refl

-- ---- what stands done where a refresh is next

-- one that is next doesn't stand done
pub not_refreshed : (way : Way) (step shard : ℕ) → next_place way ≡ place_of_refresh way step shard → stands_done_at way step shard ≡ false
not_refreshed way step shard is =
    ap (λ n. ltb n (next_place way)) (sym is) ∙ false_from_ne_true (ltb (next_place way) (next_place way)) (λ t. let lt = ltb-true (next_place way) (next_place way) t in absurd (omega (arith, lt)))

module _ (w : Live) (way : Way) (opens : w.way ≡ Some way) where
  -- where a refresh is next, the topology's own step stands done
  pub denied_before : (keyspace : List ℕ) → eqb (next_step way) (step_of_list w keyspace) ≡ true → stands_done way (cond {A = ℕ} (owned_before w keyspace) deny_source allow_target) ≡ true
  denied_before keyspace here = by (owned_before w keyspace) (eqb-true (next_step way) (step_of_list w keyspace) here)
    where
      by : (b : Bool) → next_step way ≡ cond {A = ℕ} b refresh_source refresh_target → stands_done way (cond {A = ℕ} b deny_source allow_target) ≡ true
      by true is = done_by way 1 2 is (omega arith) (omega arith)
      by false is = done_by way 7 8 is (omega arith) (omega arith)

  -- and the list is still as before the way
  pub list_before : (keyspace : List ℕ) (shard : ℕ) → next_place way ≡ place_of_refresh way (step_of_list w keyspace) shard → refuses_by w keyspace shard ≡ is_listed_at w way.before keyspace
  list_before keyspace shard here =
      ap (λ types. is_listed_at w types keyspace)
      (ap (λ (o : Option Way). option_map_or (λ x. cond (stands_done_at x (step_of_list w keyspace) shard) x.after x.before) o w.switched) opens
      ∙ ap (λ b. cond b way.after way.before) (not_refreshed way (step_of_list w keyspace) shard here))
