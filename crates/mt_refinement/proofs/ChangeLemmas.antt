-- The primaries of a workflow's sides where the own list of one primary changes, by a step or by its undo.
use Rattle.std.proofs.Common.{◌≡◌, ◌≢◌, ◌⊎◌, inl, inr, ℕ, suc, ◌-◌, ◌≤◌, ◌<◌, Bool, true, false, not, cond, eqb, ◌&&◌, List, length, Some, refl, sym, ap, ◌∙◌, subst, arith, eqb-true}
use Rattle.std.specs.Cmp.{both_ways}
use Rattle.std.proofs.lemmas.Bool.{eq-eqb, eqb-false, or_left, or_right}
use Rattle.mt_names.specs.declared.types.TypeSet.{TypeSet}
use Rattle.mt_names.specs.Names.{same_text}
use Rattle.mt_model.specs.declared.entries.EntryKey.{EntryKey}
use Rattle.mt_primary.specs.Primaries.{Primaries, count_of, has_primaries, primary_of}
use Rattle.mt_primary.specs.Primary.{PrimaryState}
use Rattle.mt_primary.specs.Primary as primary
use Rattle.mt_plain.specs.Events.{Way}
use Rattle.mt_plain.specs.Plain.{Live, Plain, behind_last, changes_primary, has_keyspace, has_part, is_side, last_step, moves, next_place, next_step, part_owner, place_of_refresh, refresh_source, refresh_target, repeated_step, shard_at_place, step_at_place}
use Rattle.mt_plain.specs.Serve.{has_table, is_listed_at, owned_before, refuses_by, step_of_list}
use Rattle.mt_laws.specs.Changes.{HasSides}
use Rattle.mt_laws.specs.Effects.{list_stepped, list_undone}
use Rattle.mt_laws.specs.Reached.{IsInPlace}
use Rattle.mt_laws.proofs.EffectLemmas.{place-ge}
use Rattle.mt_laws.proofs.WayStepLemmas.{last-le}
use Rattle.mt_workflow.specs.Workflows.{WorkflowState, live_of}
use Rattle.mt_stands.specs.Rows.{RowsStand}
use Rattle.mt_stands.proofs.KnownLemmas.{itself}
use Rattle.mt_stands.specs.Stands.{ArePrimaries}
use Rattle.mt_stands.specs.Switching.{with_primaries}
use Rattle.mt_steps.specs.Shards.{last_shard, next_shard, target_at}
use Rattle.mt_refinement.proofs.WaysListLemmas.{IsListed, IsNext, same_list, sides_stand}
use Rattle.mt_refinement.proofs.NumberLemmas.{list_outside, owned_source, owned_target}
use Rattle.mt_refinement.proofs.PlaceLemmas.{at_list, shard_below, shard_once, shards_at, step-ge}
use Rattle.mt_refinement.proofs.TableLemmas.{source_has, target_has}

-- ---- a workflow of a base, and its sides

-- what is known of a live workflow that has a way open, and of the workflow of the base that stands for it
pub record IsAt (p : Plain) (old : Primaries) (live : Live) (w : WorkflowState) (way : Way) : Type 0 where
  pub are : ArePrimaries p old
  pub sides : HasSides live (live_of w)
  pub opens : live.way ≡ Some way
  pub within : next_step way < behind_last way
  pub turns : changes_primary way ≡ true → way.before.primary ≡ way.back
  pub source_one : count_of old w.source ≡ 1
  pub target_all : count_of old w.target ≡ way.shards
  pub some : 1 ≤ way.shards
  pub placed : IsInPlace p.topology live
  pub owned : (key : EntryKey) → has_part live key ≡ true → part_owner p key ≡ Some live

module _ (p : Plain) (old : Primaries) (live : Live) (w : WorkflowState) (way : Way) (at : IsAt p old live w way) where
  pub sides_apart : w.source ≢ w.target
  sides_apart e = at.placed.sides.apart (at.sides.source ∙ e ∙ sym at.sides.target)

  pub target_there : has_primaries old w.target ≡ true
  target_there = at.are.there w.target ∙ ap (has_keyspace p) (sym at.sides.target) ∙ at.placed.sides.target

  pub source_side : is_side live w.source ≡ true
  source_side = or_left (same_text live.source w.source) (same_text live.target w.source) (ap (same_text live.source) (sym at.sides.source) ∙ itself live.source)

  pub target_side : is_side live w.target ≡ true
  target_side = or_right (same_text live.source w.target) (same_text live.target w.target) (ap (same_text live.target) (sym at.sides.target) ∙ itself live.target)

  pub source_within : 0 < count_of old w.source
  source_within = let one = at.source_one in omega (arith, one)

  pub source_tables : (table : List ℕ) → moves live table ≡ true → primary.has_table (primary_of old w.source 0) table ≡ true
  source_tables table moved = at.are.tables w.source 0 source_within table ∙ ap (λ k. has_table p k table) (sym at.sides.source) ∙ source_has p live at.placed table moved

  pub target_tables : (n : ℕ) → n < count_of old w.target → (table : List ℕ) → moves live table ≡ true → primary.has_table (primary_of old w.target n) table ≡ true
  target_tables n within table moved = at.are.tables w.target n within table ∙ ap (λ k. has_table p k table) (sym at.sides.target) ∙ target_has p live at.placed table moved at.owned

  pub of_source : owned_before live w.source ≡ not way.before.primary
  of_source = owned_source live way at.opens w.source w.target at.sides.source at.sides.target sides_apart

  pub of_target : owned_before live w.target ≡ way.before.primary
  of_target = owned_target live way at.opens w.source w.target at.sides.source at.sides.target sides_apart

  -- ---- the shards of the sides

  -- where a way changes primary, the refresh of the target is the one that is repeated
  once : changes_primary way ≡ true → eqb (step_of_list live w.source) (repeated_step way) ≡ false
  once e = by (owned_before live w.source) way.before.primary way.back of_source (at.turns e)
    where
      by : (o b k : Bool) → o ≡ not b → b ≡ k → eqb (cond {A = ℕ} o refresh_source refresh_target) (cond {A = ℕ} k refresh_source refresh_target) ≡ false
      by o true k s t = ap (λ x. eqb (cond {A = ℕ} x refresh_source refresh_target) (cond {A = ℕ} k refresh_source refresh_target)) s ∙ ap (λ x. eqb refresh_target (cond {A = ℕ} x refresh_source refresh_target)) (sym t)
      by o false k s t = ap (λ x. eqb (cond {A = ℕ} x refresh_source refresh_target) (cond {A = ℕ} k refresh_source refresh_target)) s ∙ ap (λ x. eqb refresh_source (cond {A = ℕ} x refresh_source refresh_target)) (sym t)

  again : changes_primary way ≡ true → eqb (step_of_list live w.target) (repeated_step way) ≡ true
  again e = by (owned_before live w.target) way.before.primary way.back of_target (at.turns e)
    where
      by : (o b k : Bool) → o ≡ b → b ≡ k → eqb (cond {A = ℕ} o refresh_source refresh_target) (cond {A = ℕ} k refresh_source refresh_target) ≡ true
      by o true k s t = ap (λ x. eqb (cond {A = ℕ} x refresh_source refresh_target) (cond {A = ℕ} k refresh_source refresh_target)) s ∙ ap (λ x. eqb refresh_source (cond {A = ℕ} x refresh_source refresh_target)) (sym t)
      by o false k s t = ap (λ x. eqb (cond {A = ℕ} x refresh_source refresh_target) (cond {A = ℕ} k refresh_source refresh_target)) s ∙ ap (λ x. eqb refresh_target (cond {A = ℕ} x refresh_source refresh_target)) (sym t)

  -- and else it has its first step alone
  alone : changes_primary way ≡ false → next_step way < 1
  alone e = subst (λ b. next_step way < cond b 12 1) e at.within

  module _ (place : ℕ) (reached : step_at_place way place ≤ next_step way) where
    -- a shard is one of those that the refresh of its side has, unless no refresh is next
    pub source_place : (0 < shards_at way (step_of_list live w.source)) ⊎ (step_at_place way place < 2)
    source_place = by (changes_primary way) refl
      where
        by : (b : Bool) → changes_primary way ≡ b → (0 < shards_at way (step_of_list live w.source)) ⊎ (step_at_place way place < 2)
        by true e = inl (subst (λ c. 0 < cond c way.shards 1) (sym (once e)) (omega arith))
        by false e = inr (let few = alone e in omega (arith, few, reached))

    pub target_place : (n : ℕ) → n < count_of old w.target → (n < shards_at way (step_of_list live w.target)) ⊎ (step_at_place way place < 2)
    target_place n within = by (changes_primary way) refl
      where
        by : (b : Bool) → changes_primary way ≡ b → (n < shards_at way (step_of_list live w.target)) ⊎ (step_at_place way place < 2)
        by true e = inl (subst (λ c. n < cond c way.shards 1) (sym (again e)) (subst (λ c. n < c) at.target_all within))
        by false e = inr (let few = alone e in omega (arith, few, reached))

    -- the refresh of the source is for its one shard, and that of the target for one that it has
    pub source_first : eqb (step_at_place way place) (step_of_list live w.source) ≡ true → shard_at_place way place ≡ 0
    source_first here = by (changes_primary way) refl
      where
        same : step_at_place way place ≡ step_of_list live w.source
        same = eqb-true (step_at_place way place) (step_of_list live w.source) here

        by : (b : Bool) → changes_primary way ≡ b → shard_at_place way place ≡ 0
        by true e = shard_once way place (step_of_list live w.source) same (eqb-false (step_of_list live w.source) (repeated_step way) (once e))
        by false e = let few = alone e in let ge = step-ge (owned_before live w.source) in absurd (omega (arith, few, ge, same, reached))

    pub target_within : eqb (step_at_place way place) (step_of_list live w.target) ≡ true → shard_at_place way place < count_of old w.target
    target_within here = by (changes_primary way) refl
      where
        same : step_at_place way place ≡ step_of_list live w.target
        same = eqb-true (step_at_place way place) (step_of_list live w.target) here

        by : (b : Bool) → changes_primary way ≡ b → shard_at_place way place < count_of old w.target
        by true e =
            subst (λ c. shard_at_place way place < c) (sym at.target_all)
            (subst (λ c. shard_at_place way place < cond c way.shards 1) (again e) (subst (λ m. shard_at_place way place < shards_at way m) same (shard_below way place at.some)))
        by false e = let few = alone e in let ge = step-ge (owned_before live w.target) in absurd (omega (arith, few, ge, same, reached))

-- ---- the own list of a step

-- whether an own list has the moved tables, where that of one shard, which changes with a step, is read with some types, and all others stay
abbrev pub changed_at : Live → (step shard : ℕ) → TypeSet → (keyspace : List ℕ) → ℕ → Bool
changed_at live step shard types keyspace n = cond (eqb step (step_of_list live keyspace) && eqb shard n) (is_listed_at live types keyspace) (refuses_by live keyspace n)

module _ (live : Live) (way : Way) (keyspace : List ℕ) (n : ℕ) where
  pub stepped_at : (n < shards_at way (step_of_list live keyspace)) ⊎ (next_step way < 2) → list_stepped live way keyspace n ≡ changed_at live (next_step way) (next_shard way) way.after keyspace n
  stepped_at known = ap (λ b. cond b (is_listed_at live way.after keyspace) (refuses_by live keyspace n)) (at_list live way (next_place way) keyspace n known)

  pub undone_at : (n < shards_at way (step_of_list live keyspace)) ⊎ (last_step way < 2) → list_undone live way keyspace n ≡ changed_at live (last_step way) (last_shard way) way.before keyspace n
  undone_at known =
      ap (λ b. cond b (is_listed_at live way.before keyspace) (refuses_by live keyspace n))
      (less (next_place way) (place_of_refresh way (step_of_list live keyspace) n) (place-ge way (step_of_list live keyspace) n (step-ge (owned_before live keyspace))) ∙ at_list live way (next_place way - 1) keyspace n known)
    where
      less : (k m : ℕ) → 2 ≤ m → eqb k (suc m) ≡ eqb (k - 1) m
      less k m le =
          both_ways (eqb k (suc m)) (eqb (k - 1) m) (λ t. let e = eqb-true k (suc m) t in eq-eqb (k - 1) m (omega (arith, e)))
          (λ t. let e = eqb-true (k - 1) m t in eq-eqb k (suc m) (omega (arith, e, le)))

-- the own lists of a next state are as before, but for that of a shard, which changes with a step
pub record IsChanged (p q : Plain) (old : Primaries) (live : Live) (w : WorkflowState) (step shard : ℕ) (types : TypeSet) : Type 0 where
  pub lists : List ℕ → ℕ → Bool
  pub next : IsNext p q live lists
  pub at_source : lists w.source 0 ≡ changed_at live step shard types w.source 0
  pub at_target : (n : ℕ) → n < count_of old w.target → lists w.target n ≡ changed_at live step shard types w.target n
  pub outside : (keyspace : List ℕ) (n : ℕ) → is_side live keyspace ≡ false → lists keyspace n ≡ refuses_by live keyspace n
  pub rows : RowsStand q (primary_of old)

module _ (p q : Plain) (old : Primaries) (live : Live) (w : WorkflowState) (way : Way) (at : IsAt p old live w way) where
  pub stepped_lists : IsNext p q live (list_stepped live way) → RowsStand q (primary_of old) → IsChanged p q old live w (next_step way) (next_shard way) way.after
  stepped_lists next rows = record {
    lists = list_stepped live way;
    next = next;
    at_source = stepped_at live way w.source 0 (source_place p old live w way at (next_place way) here);
    at_target = λ n within. stepped_at live way w.target n (target_place p old live w way at (next_place way) here n within);
    outside = λ keyspace n none. list_outside live way.after (eqb (next_place way) (place_of_refresh way (step_of_list live keyspace) n)) keyspace n none;
    rows = rows;
  }
    where
      here : next_step way ≤ next_step way
      here = omega arith

  pub undone_lists : IsNext p q live (list_undone live way) → RowsStand q (primary_of old) → IsChanged p q old live w (last_step way) (last_shard way) way.before
  undone_lists next rows = record {
    lists = list_undone live way;
    next = next;
    at_source = undone_at live way w.source 0 (source_place p old live w way at (next_place way - 1) (last-le way));
    at_target = λ n within. undone_at live way w.target n (target_place p old live w way at (next_place way - 1) (last-le way) n within);
    outside = λ keyspace n none. list_outside live way.before (eqb (next_place way) (suc (place_of_refresh way (step_of_list live keyspace) n))) keyspace n none;
    rows = rows;
  }

  module _ (step shard : ℕ) (types : TypeSet) (is : IsChanged p q old live w step shard types) where
    -- a primary of a side has the list of the next state
    abbrev pub Listed : List ℕ → ℕ → PrimaryState → Type 0
    Listed side n state = IsListed live (is.lists side n) (primary_of old side n) state

    pub stays : (side : List ℕ) (n : ℕ) → n < count_of old side → is.lists side n ≡ changed_at live step shard types side n → (state : PrimaryState) → state ≡ primary_of old side n
        → (eqb step (step_of_list live side) && eqb shard n) ≡ false → Listed side n state
    stays side n within listed state same other =
        subst (Listed side n) (sym same)
        (same_list p q live is.lists is.next old at.are is.rows side n within (listed ∙ ap (λ b. cond b (is_listed_at live types side) (refuses_by live side n)) other))

    pub changes : (side : List ℕ) (n : ℕ) → is.lists side n ≡ changed_at live step shard types side n → (state : PrimaryState) (listed : Bool)
        → (eqb step (step_of_list live side) && eqb shard n) ≡ true → is_listed_at live types side ≡ listed → IsListed live listed (primary_of old side n) state → Listed side n state
    changes side n lists state listed here free =
        subst (λ b. IsListed live b (primary_of old side n) state) (sym (lists ∙ ap (λ b. cond b (is_listed_at live types side) (refuses_by live side n)) here ∙ free))

    module _ (source : PrimaryState) (targets : List PrimaryState) where
      abbrev pub Stand : Type 0
      Stand = ArePrimaries q (with_primaries old w source targets) × RowsStand q (primary_of (with_primaries old w source targets))

      pub joined : length targets ≡ count_of old w.target → Listed w.source 0 source → ((n : ℕ) → n < count_of old w.target → Listed w.target n (target_at targets n)) → Stand
      joined =
          sides_stand p q live is.lists is.next old at.are is.rows w.source w.target at.sides.source at.sides.target (sides_apart p old live w way at)
          at.source_one (target_there p old live w way at) is.outside source targets
