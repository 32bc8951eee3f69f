-- The list that a refresh records, and the undo that gives it back.
use Rattle.std.proofs.Common.{◌≡◌, ℕ, zero, suc, ◌<◌, ◌≤◌, Bool, true, false, not, cond, eqb, ◌-◌, ◌&&◌, ◌||◌, length, List, [], ◌∷◌, map, Option, None, Some, refl, sym, ap, ◌∙◌, subst, arith, eqb-true, get_or-set_other, length-set}
use Rattle.std.proofs.lemmas.Bool.{and_from, eq-eqb, eqb-false, false_from_ne_true, or_right, true≢false}
use Rattle.std.specs.Option.{option_map_or}
use Rattle.std.specs.Prelude.{Ok}
use Rattle.mt_names.specs.Names.{same_text}
use Rattle.mt_model.specs.declared.entries.Scope.{Scope}
use Rattle.mt_model.specs.Topology.{Marks, TopologyState}
use Rattle.mt_watch.specs.Asking.{Answering}
use Rattle.mt_primary.specs.Primaries.{Primaries, count_of, primary_of, shards_of}
use Rattle.mt_primary.specs.Denials.{AreDenialsSet, marks_of, told_by_marks}
use Rattle.mt_primary.specs.Primary.{PrimaryState, empty_primary, has_table, is_denied_at}
use Rattle.mt_plain.specs.Events.{Way, past_journal, stale, undo}
use Rattle.mt_plain.specs.Plain.{Live, Plain, among, last_step, live_at, mover, moves, next_place, next_step, place_of_refresh, refresh_source, refresh_target, stands_done, write_journal}
use Rattle.mt_plain.specs.Refuse.{in_workflow, on_way, or_else, refuse_if, refusal_of, undo_refusal}
use Rattle.mt_plain.specs.Serve.{is_listed_at, owned_before, refuses_by, step_of_list}
use Rattle.mt_laws.specs.Effects.{list_undone}
use Rattle.mt_laws.proofs.EffectLemmas.{place-ge}
use Rattle.mt_laws.proofs.WayStepLemmas.{done_by, first_step-le, last-le}
use Rattle.mt_steps.specs.Plans.{step_at}
use Rattle.mt_steps.specs.Refreshes.{RefreshesSide, Sites}
use Rattle.mt_steps.specs.Shards.{last_shard, next_shard, target_at}
use Rattle.mt_steps.specs.Steps.{Attempts, IsGivenBack, given_listed}
use Rattle.mt_workflow.specs.Workflows.{WorkflowState}
use Rattle.mt_laws.proofs.RefusalLemmas.{or_else-none, refuse_if-none}
use Rattle.mt_stands.proofs.KnownLemmas.{itself}
use Rattle.mt_refinement.proofs.AttemptLemmas.{and_none}
use Rattle.mt_refinement.proofs.ChangeLemmas.{IsAt, IsChanged, Listed, Stand, changed_at, changes, joined, of_source, of_target, sides_apart, source_first, source_tables, source_within, stays, target_tables, target_within}
use Rattle.mt_refinement.proofs.WaysDenialLemmas.{Known, given_back}
use Rattle.mt_refinement.proofs.NumberLemmas.{allowed_at_source, allowed_at_target, at_first, at_other, list_before}
use Rattle.mt_refinement.proofs.PlaceLemmas.{place_back, step-ge}

-- ---- the list that a refresh records

map_named : {X : Type 0} (tables : List (List ℕ)) (f g : List ℕ → X) → ((name : List ℕ) → among tables name ≡ true → f name ≡ g name) → map f tables ≡ map g tables
map_named [] f g same = refl
map_named (table ∷ tables) f g same =
    ap (λ x. x ∷ map f tables) (same table (ap (λ b. b || among tables table) (itself table)))
    ∙ ap (λ l. g table ∷ l) (map_named tables f g (λ name is. same name (or_right (same_text table name) (among tables name) is)))

-- a list without any of the tables
abbrev pub no_tables : WorkflowState → Marks
no_tables w = map (λ table. (table, false)) w.tables

module _ (p : Plain) (old : Primaries) (live : Live) (w : WorkflowState) (way : Way) (at : IsAt p old live w way)
    (moved : (table : List ℕ) → moves live table ≡ true → mover p table ≡ Some live) where
  -- a list that is still as before the way, at the side that owned the tables then
  free_list : (side : List ℕ) (n : ℕ) → n < count_of old side → refuses_by live side n ≡ false → marks_of (primary_of old side n) w.tables ≡ no_tables w
  free_list side n within free =
      map_named w.tables (λ name. (name, is_denied_at (primary_of old side n) name)) (λ table. (table, false))
      (λ name is.
      ap (λ b. (name, b))
      (at.are.denials side n within name
      ∙ ap (λ (o : Option Live). option_map_or (λ v. refuses_by v side n) o false) (moved name (ap (λ tables. among tables name) at.sides.tables ∙ is))
      ∙ free))

  module _ (next : next_step way ≡ refresh_source) where
    here_now : next_step way ≤ next_step way
    here_now = omega arith

    -- the refresh is that of the old owner
    at_source_next : way.before.primary ≡ false → eqb (next_step way) (step_of_list live w.source) ≡ true
    at_source_next is = at_first (next_step way) next (owned_before live w.source) ∙ of_source p old live w way at ∙ ap not is

    at_target_next : way.before.primary ≡ true → eqb (next_step way) (step_of_list live w.target) ≡ true
    at_target_next is = at_first (next_step way) next (owned_before live w.target) ∙ of_target p old live w way at ∙ is

    -- its place is the next one
    place_next : (side : List ℕ) (n : ℕ) → eqb (next_step way) (step_of_list live side) ≡ true → next_shard way ≡ n → next_place way ≡ place_of_refresh way (step_of_list live side) n
    place_next side n here this =
        sym (place_back way (next_place way)) ∙ ap (λ m. place_of_refresh way m (next_shard way)) (eqb-true (next_step way) (step_of_list live side) here)
        ∙ ap (place_of_refresh way (step_of_list live side)) this

    source_free : way.before.primary ≡ false → refuses_by live w.source 0 ≡ false
    source_free is =
        list_before live way at.opens w.source 0 (place_next w.source 0 (at_source_next is) (source_first p old live w way at (next_place way) here_now (at_source_next is)))
        ∙ allowed_at_source live way at.opens w.source w.target at.sides.source at.sides.target (sides_apart p old live w way at) is

    target_free : way.before.primary ≡ true → refuses_by live w.target (next_shard way) ≡ false
    target_free is =
        list_before live way at.opens w.target (next_shard way) (place_next w.target (next_shard way) (at_target_next is) refl)
        ∙ allowed_at_target live way at.opens w.source w.target at.sides.source at.sides.target (sides_apart p old live w way at) is

    target_here : way.before.primary ≡ true → next_shard way < count_of old w.target
    target_here is = target_within p old live w way at (next_place way) here_now (at_target_next is)

    -- so none of the tables is on the list that is refreshed
    pub list_empty : marks_of (cond way.before.primary (primary_of old w.target (next_shard way)) (primary_of old w.source 0)) w.tables ≡ no_tables w
    list_empty = by way.before.primary refl
      where
        by : (b : Bool) → way.before.primary ≡ b → marks_of (cond b (primary_of old w.target (next_shard way)) (primary_of old w.source 0)) w.tables ≡ no_tables w
        by true e = free_list w.target (next_shard way) (target_here e) (target_free e)
        by false e = free_list w.source 0 (source_within p old live w way at) (source_free e)

    pub recorded : (scopes : List Scope) (may_answer : Answering) (id : ℕ) (t : TopologyState) (before after : Sites)
        → before.source ≡ primary_of old w.source 0 → before.targets ≡ (shards_of old w.target).each
        → Attempts scopes may_answer id t w way (step_at (next_step way)) before (Ok tt) after → after.listed ≡ Some (no_tables w)
    recorded scopes may_answer id t before after from_source from_target is =
        by way.before.primary (subst (λ n. Attempts scopes may_answer id t w way (step_at n) before (Ok tt) after) next is)
        ∙ ap (λ s. Some (marks_of (cond way.before.primary (target_at before.targets (next_shard way)) s) w.tables)) from_source
        ∙ ap (λ ts. Some (marks_of (cond way.before.primary (target_at ts (next_shard way)) (primary_of old w.source 0)) w.tables)) from_target ∙ ap Some list_empty
      where
        by : (b : Bool) → RefreshesSide scopes may_answer t w b (next_shard way) before (Ok tt) after
            → after.listed ≡ Some (marks_of (cond b (target_at before.targets (next_shard way)) before.source) w.tables)
        by true told = told.0.2
        by false told = told.0.2

-- ---- the undo of a step

-- only a refresh of the old owner's primary gives a list back
none_given : (n : ℕ) (listed : Option Marks) → eqb n refresh_source ≡ false → given_listed (step_at n) listed ≡ None
none_given zero listed e = refl
none_given (suc zero) listed e = refl
none_given (suc (suc zero)) listed e = absurd (true≢false e)
none_given (suc (suc (suc zero))) listed e = refl
none_given (suc (suc (suc (suc zero)))) listed e = refl
none_given (suc (suc (suc (suc (suc zero))))) listed e = refl
none_given (suc (suc (suc (suc (suc (suc zero)))))) listed e = refl
none_given (suc (suc (suc (suc (suc (suc (suc zero))))))) listed e = refl
none_given (suc (suc (suc (suc (suc (suc (suc (suc zero)))))))) listed e = refl
none_given (suc (suc (suc (suc (suc (suc (suc (suc (suc zero))))))))) listed e = refl
none_given (suc (suc (suc (suc (suc (suc (suc (suc (suc (suc zero)))))))))) listed e = refl
none_given (suc (suc (suc (suc (suc (suc (suc (suc (suc (suc (suc zero))))))))))) listed e = refl
none_given (suc (suc (suc (suc (suc (suc (suc (suc (suc (suc (suc (suc n)))))))))))) listed e = refl

-- an undo comes before the journal
pub before_journal : (p : Plain) (name : List ℕ) (live : Live) (way : Way) (at : ℕ) → live_at p name ≡ Some live → live.way ≡ Some way → refusal_of p (undo name at) ≡ None
    → stands_done way write_journal ≡ false
before_journal p name live way at is_live opens none =
    refuse_if-none (stands_done way write_journal) past_journal
    (or_else-none (refuse_if (stands_done way write_journal) past_journal) (refuse_if (not (eqb at way.done)) (stale way.done))
    (sym (ap (λ o. in_workflow o (undo_refusal at)) is_live
    ∙ ap (λ (o : Option Way). on_way (record live { way = o }) (λ way. or_else (refuse_if (stands_done way write_journal) past_journal) (refuse_if (not (eqb at way.done)) (stale way.done)))) opens) ∙ none)).0

module _ (way : Way) (early : stands_done way write_journal ≡ false) where
  no_second : eqb (last_step way) refresh_target ≡ false
  no_second = by (eqb (last_step way) refresh_target) refl
    where
      by : (b : Bool) → eqb (last_step way) refresh_target ≡ b → eqb (last_step way) refresh_target ≡ false
      by true e =
          let last = eqb-true (last_step way) refresh_target e in
          let le = last-le way in
          absurd (true≢false (sym (done_by way 6 (next_step way) refl (omega arith) (omega (arith, last, le))) ∙ early))
      by false e = e

-- where no place stands done no list changes
pub none_undone : (live : Live) (way : Way) (keyspace : List ℕ) (n : ℕ) → eqb way.done 0 ≡ true → list_undone live way keyspace n ≡ refuses_by live keyspace n
none_undone live way keyspace n none =
    ap (λ b. cond b (is_listed_at live way.before keyspace) (refuses_by live keyspace n))
    (false_from_ne_true (eqb (next_place way) (suc (place_of_refresh way (step_of_list live keyspace) n)))
    (λ t.
    let same = eqb-true (next_place way) (suc (place_of_refresh way (step_of_list live keyspace) n)) t in
    let ge = place-ge way (step_of_list live keyspace) n (step-ge (owned_before live keyspace)) in
    let first = first_step-le way in
    let zero_done = eqb-true way.done 0 none in
    absurd (omega (arith, same, ge, first, zero_done))))

module _ (known : Known) (p q : Plain) (primaries : Primaries) (live : Live) (w : WorkflowState) (way : Way) (at : IsAt p primaries live w way)
    (change : IsChanged p q primaries live w (last_step way) (last_shard way) way.before) where
  abbrev n : ℕ
  n = last_step way

  abbrev shard : ℕ
  shard = last_shard way

  module _ (early : stands_done way write_journal ≡ false) (listed : Option Marks) (source : PrimaryState) (targets : List PrimaryState) where
    abbrev Left : Type 0
    Left = Stand p q primaries live w way at n shard way.before change source targets

    abbrev has_list : List ℕ → ℕ → PrimaryState → Type 0
    has_list = Listed p q primaries live w way at n shard way.before change

    abbrev each_target : List PrimaryState
    each_target = (shards_of primaries w.target).each

    abbrev Given : (at_target : Bool) → Option Marks → Type 0
    Given at_target marks = IsGivenBack at_target shard marks (primary_of primaries w.source 0) each_target source targets

    source_stays : (state : PrimaryState) → state ≡ primary_of primaries w.source 0 → (eqb n (step_of_list live w.source) && eqb shard 0) ≡ false → has_list w.source 0 state
    source_stays = stays p q primaries live w way at n shard way.before change w.source 0 (source_within p primaries live w way at) change.at_source

    target_stays : (m : ℕ) → m < count_of primaries w.target → (state : PrimaryState) → state ≡ primary_of primaries w.target m → (eqb n (step_of_list live w.target) && eqb shard m) ≡ false → has_list w.target m state
    target_stays m within = stays p q primaries live w way at n shard way.before change w.target m within (change.at_target m within)

    both : length targets ≡ count_of primaries w.target → has_list w.source 0 source → ((m : ℕ) → m < count_of primaries w.target → has_list w.target m (target_at targets m)) → Left
    both = joined p q primaries live w way at n shard way.before change source targets

    given : (side : List ℕ) (m : ℕ) → change.lists side m ≡ changed_at live n shard way.before side m → (state : PrimaryState)
        → ((table : List ℕ) → moves live table ≡ true → has_table (primary_of primaries side m) table ≡ true)
        → eqb n (step_of_list live side) ≡ true → eqb shard m ≡ true → is_listed_at live way.before side ≡ false → AreDenialsSet (primary_of primaries side m) (told_by_marks (no_tables w)) state → has_list side m state
    given side m lists state there here this free set =
        changes p q primaries live w way at n shard way.before change side m lists state false (and_from (eqb n (step_of_list live side)) (eqb shard m) here this) free
        (given_back known live w.tables at.sides.tables (primary_of primaries side m) state there set)

    by_refresh : n ≡ refresh_source → (b : Bool) → way.before.primary ≡ b → Given b (Some (no_tables w)) → Left
    by_refresh first true e is =
        both (ap length is.1 ∙ length-set each_target shard (target_at targets shard)) (source_stays source is.2 (ap (λ b. b && eqb shard 0) (at_first n first (owned_before live w.source) ∙ of_source p primaries live w way at ∙ ap not e)))
        (λ m within. each m within (eqb shard m) refl)
      where
        turn : eqb n (step_of_list live w.target) ≡ true
        turn = at_first n first (owned_before live w.target) ∙ of_target p primaries live w way at ∙ e

        here : shard < count_of primaries w.target
        here = target_within p primaries live w way at (next_place way - 1) (last-le way) turn

        each : (m : ℕ) → m < count_of primaries w.target → (b : Bool) → eqb shard m ≡ b → has_list w.target m (target_at targets m)
        each m within true same =
            subst (λ k. has_list w.target k (target_at targets k)) (eqb-true shard m same)
            (given w.target shard (change.at_target shard here) (target_at targets shard) (target_tables p primaries live w way at shard here) turn (eq-eqb shard shard refl)
            (allowed_at_target live way at.opens w.source w.target at.sides.source at.sides.target (sides_apart p primaries live w way at) e) is.0)
        each m within false other =
            target_stays m within (target_at targets m)
            (ap (λ ts. target_at ts m) is.1 ∙ get_or-set_other each_target shard m (target_at targets shard) empty_primary (λ same. eqb-false shard m other (sym same)))
            (ap (λ b. eqb n (step_of_list live w.target) && b) other ∙ and_none (eqb n (step_of_list live w.target)))
    by_refresh first false e is =
        both (ap length is.1)
        (given w.source 0 change.at_source source (source_tables p primaries live w way at) turn
        (eq-eqb shard 0 (source_first p primaries live w way at (next_place way - 1) (last-le way) turn))
        (allowed_at_source live way at.opens w.source w.target at.sides.source at.sides.target (sides_apart p primaries live w way at) e) is.0)
        (λ m within. target_stays m within (target_at targets m) (ap (λ ts. target_at ts m) is.1)
        (ap (λ b. b && eqb shard m) (at_first n first (owned_before live w.target) ∙ of_target p primaries live w way at ∙ e)))
      where
        turn : eqb n (step_of_list live w.source) ≡ true
        turn = at_first n first (owned_before live w.source) ∙ of_source p primaries live w way at ∙ ap not e

    pub undo_stands : (last_step way ≡ refresh_source → listed ≡ Some (no_tables w)) → Given way.before.primary (given_listed (step_at (last_step way)) listed) → Left
    undo_stands is_listed is = by (eqb n refresh_source) refl
      where
        stay : (b : Bool) → Given b None → (source ≡ primary_of primaries w.source 0) × (targets ≡ each_target)
        stay true same = same
        stay false same = same

        by : (b : Bool) → eqb n refresh_source ≡ b → Left
        by true e =
            let here = eqb-true n refresh_source e in
            by_refresh here way.before.primary refl (subst (Given way.before.primary) (is_listed here) (subst (λ m. Given way.before.primary (given_listed (step_at m) listed)) here is))
        by false e =
            let same = stay way.before.primary (subst (Given way.before.primary) (none_given n listed e) is) in
            both (ap length same.1) (source_stays source same.0 (ap (λ b. b && eqb shard 0) (at_other n e (no_second way early) (owned_before live w.source))))
            (λ m within. target_stays m within (target_at targets m) (ap (λ ts. target_at ts m) same.1) (ap (λ b. b && eqb shard m) (at_other n e (no_second way early) (owned_before live w.target))))
