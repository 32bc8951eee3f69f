-- Complete, from base to base, and what is kept of the ways.
use Rattle.std.proofs.Common.{◌≡◌, ◌≢◌, ℕ, true, false, not, fold, List, ◌++◌, map, Option, None, Some, is_some, refl, sym, ap, ◌∙◌, subst, ⊎_elim}
use Rattle.std.specs.List.{IsDistinct}
use Rattle.std.specs.Map.{keys_of, remove_entry}
use Rattle.std.specs.Option.{option_map_or}
use Rattle.std.specs.Prelude.{◌&&◌}
use Rattle.mt_names.specs.Names.{same_text}
use Rattle.mt_names.proofs.EntryLemmas.{lookup-remove_entry_elsewhere, lookup-remove_entry_here}
use Rattle.mt_names.proofs.SameLemmas.{same_text_decides}
use Rattle.mt_model.specs.declared.entries.EntryKey.TheVariants as about
use Rattle.mt_model.specs.declared.entries.Scope.{Scope}
use Rattle.mt_model.specs.Part.{part_keys, with_entries, without_places}
use Rattle.mt_model.specs.Topology.{HasDistinctPlaces, Rules, TopologyState}
use Rattle.mt_plain.specs.Answers.{Answers}
use Rattle.mt_plain.specs.Events.{Answer, Event, complete, done, Way}
use Rattle.mt_plain.specs.Next.{next, with_completed}
use Rattle.mt_plain.specs.Plain.{Live, Plain, among, live_at, mover, moves}
use Rattle.mt_plain.specs.Refuse.{complete_refusal, in_workflow}
use Rattle.mt_primary.specs.Primaries.{Primaries, primary_of, with_all}
use Rattle.mt_primary.specs.Primary.{IsPrimary, PrimaryState, has_table, is_denied_at}
use Rattle.mt_primary.specs.Writes.{without_table}
use Rattle.mt_laws.specs.Changes.{IsOf}
use Rattle.mt_laws.specs.Reached.{IsInPlace}
use Rattle.mt_laws.specs.WayBack.{IsReached}
use Rattle.mt_laws.proofs.InPlaceLemmas.{live_in}
use Rattle.mt_laws.proofs.LiveLemmas.{Apart, IsIn}
use Rattle.mt_laws.proofs.ReachLemmas.{reached_has_parts}
use Rattle.mt_steps.specs.declared.log.OpenWay.{OpenWay}
use Rattle.mt_workflow.specs.Workflows.{WorkflowState}
use Rattle.mt_stands.specs.Keys.{IsKept, end_entries, end_entry, end_keys}
use Rattle.mt_stands.specs.Topologies.{TopologyStands}
use Rattle.mt_stands.specs.Rows.{OtherKeyspacesStay, OtherTablesStay, RowsStand}
use Rattle.mt_stands.specs.Rows as rows
use Rattle.mt_stands.specs.Base.{BaseState, Workflows, workflow_at}
use Rattle.mt_stands.specs.Stands.{AreWorkflows, StandsFor, StandsForAny, StandsWith}
use Rattle.mt_stands.specs.Switching.{completed}
use Rattle.mt_stands.specs.Ways.{IsOpenOn, CoreStands, CoreState, WaysStand, WaysState, is_under_way, open_at}
use Rattle.mt_refinement.proofs.MoveBaseLemmas.{live_found}
use Rattle.mt_stands.proofs.KnownLemmas.{same_or}
use Rattle.mt_refinement.proofs.GoneLemmas.{distinct_names, live_gone, names_gone}
use Rattle.mt_refinement.proofs.CompleteNextLemmas.{at_target}
use Rattle.mt_refinement.proofs.WaysPrimaryLemmas.{others_stay, primaries_stand, tables_stay}

-- ---- the base that Complete makes, in the words of the live workflow

abbrev pub without_source_tables : Primaries → Live → Primaries
without_source_tables primaries live = with_all primaries live.source (λ primary. fold without_table primary live.tables)

abbrev pub made_of : BaseState → Live → BaseState
made_of base live = record {
  topology = without_places (with_entries base.topology (end_entries live)) (end_keys live);
  primaries = without_source_tables base.primaries live;
  workflows = remove_entry (same_text live.name) base.workflows;
}

pub base_is : (p : Plain) (base : BaseState) (live : Live) (w : WorkflowState) → StandsFor p live w → completed base w ≡ made_of base live
base_is p base live w for = by w.source (sym for.sides.source) w.target (sym for.sides.target) w.tables (sym for.sides.tables) w.name (sym for.sides.name)
  where
    by : (s : List ℕ) → s ≡ live.source → (t : List ℕ) → t ≡ live.target → (ts : List (List ℕ)) → ts ≡ live.tables → (n : List ℕ) → n ≡ live.name
        → record {
          topology = without_places (with_entries base.topology (map (end_entry t) (part_keys s t ts ++ map (about.Present s) ts))) (part_keys s t ts ++ map (about.Present s) ts);
          primaries = with_all base.primaries s (λ primary. fold without_table primary ts);
          workflows = remove_entry (same_text n) base.workflows;
        } ≡ made_of base live
    by s a t b ts c n d = rw (a, b, c, d) refl

module _ (p : Plain) (apart : Apart p.lives) (live : Live) (elsewhere : (n : List ℕ) → live.name ≢ n → live_at (with_completed p (Some live)) n ≡ live_at p n) where
  abbrev q : Plain
  q = with_completed p (Some live)

  -- ---- the workflows

  module _ (old : Workflows) (stands : AreWorkflows p old)
      (keeps : (n : List ℕ) (l : Live) (kept : Rules) → live_at p n ≡ Some l → live_at q n ≡ Some l → IsKept p.topology l kept → IsKept q.topology l kept) where
    abbrev left : Workflows
    left = remove_entry (same_text live.name) old

    distinct : IsDistinct same_text (keys_of old)
    distinct = subst (IsDistinct same_text) (sym stands.names) (distinct_names p.lives apart)

    pub none_left : workflow_at left live.name ≡ None
    none_left = lookup-remove_entry_here same_text same_text_decides old live.name distinct

    pub others_left : (n : List ℕ) → live.name ≢ n → workflow_at left n ≡ workflow_at old n
    others_left n differs = lookup-remove_entry_elsewhere same_text same_text_decides old live.name n differs

    here : StandsForAny q (live_at q live.name) (workflow_at left live.name)
    here = subst (λ o. StandsForAny q o (workflow_at left live.name)) (sym (live_gone live.name p.lives)) (subst (StandsForAny q None) (sym none_left) tt)

    -- what a workflow keeps says still what the topology says in its part
    goes_on : (n : List ℕ) → live_at q n ≡ live_at p n → (o : Option Live) → live_at p n ≡ o → (v : Option WorkflowState) → StandsForAny p o v → StandsForAny q o v
    goes_on n same None is None for = tt
    goes_on n same None is (Some v) for = absurd for
    goes_on n same (Some l) is None for = absurd for
    goes_on n same (Some l) is (Some v) for = record {
      sides = for.sides;
      switched = for.switched;
      way = for.way;
      kept = keeps n l v.kept is (same ∙ is) for.kept;
      lanes = for.lanes;
    }

    other : (n : List ℕ) → live.name ≢ n → StandsForAny q (live_at q n) (workflow_at left n)
    other n differs =
        subst (λ o. StandsForAny q o (workflow_at left n)) (sym (elsewhere n differs))
        (subst (StandsForAny q (live_at p n)) (sym (others_left n differs))
        (goes_on n (elsewhere n differs) (live_at p n) refl (workflow_at old n) (stands.each n)))

    pub workflows_stand : AreWorkflows q left
    workflows_stand = record {
      each = λ n. ⊎_elim (λ (e : live.name ≡ n). subst (λ x. StandsForAny q (live_at q x) (workflow_at left x)) e here) (other n) (same_or live.name n);
      names = names_gone live.name old p.lives apart stands.names;
    }

  -- ---- the ways

  module _ (base : BaseState) (ways : WaysState) (stands : WaysStand p base ways) (w : WorkflowState) (found : workflow_at base.workflows live.name ≡ Some w)
      (at_rest : w.way ≡ None) (none_now : workflow_at (made_of base live).workflows live.name ≡ None)
      (others_now : (n : List ℕ) → live.name ≢ n → workflow_at (made_of base live).workflows n ≡ workflow_at base.workflows n) where
    abbrev made : BaseState
    made = made_of base live

    there_now : (n : List ℕ) → is_some (open_at ways.opened n) ≡ is_under_way made.workflows n
    there_now n = ⊎_elim at_it (λ (other : live.name ≢ n). stands.there n ∙ ap (λ o. option_map_or (λ (v : WorkflowState). is_some v.way) o false) (sym (others_now n other))) (same_or live.name n)
      where
        was : is_some (open_at ways.opened live.name) ≡ false
        was =
            stands.there live.name ∙ ap (λ o. option_map_or (λ (v : WorkflowState). is_some v.way) o false) found ∙ ap is_some at_rest

        at_it : live.name ≡ n → is_some (open_at ways.opened n) ≡ is_under_way made.workflows n
        at_it e = subst (λ x. is_some (open_at ways.opened x) ≡ is_under_way made.workflows x) e
            (was ∙ sym (ap (λ o. option_map_or (λ (v : WorkflowState). is_some v.way) o false) none_now))

    each_now : (n : List ℕ) (l : Live) (v : WorkflowState) (way : Way) (o : OpenWay) → live_at q n ≡ Some l → workflow_at made.workflows n ≡ Some v → v.way ≡ Some way
        → open_at ways.opened n ≡ Some o → IsOpenOn ways.journal l v way o
    each_now n l v way o is at under kept = ⊎_elim at_it elsewhere_it (same_or live.name n)
      where
        at_it : live.name ≡ n → IsOpenOn ways.journal l v way o
        at_it e = absurd (let h : None ≡ Some l = sym (live_gone live.name p.lives) ∙ ap (λ x. live_at q x) e ∙ is in cc)

        elsewhere_it : live.name ≢ n → IsOpenOn ways.journal l v way o
        elsewhere_it other = stands.each n l v way o (sym (elsewhere n other) ∙ is) (sym (others_now n other) ∙ at) under kept

    pub ways_stand : WaysStand q made ways
    ways_stand = record {
      begun = stands.begun;
      journal = stands.journal;
      distinct = stands.distinct;
      there = there_now;
      each = each_now;
      written = stands.written;
      numbers = stands.numbers;
      apart = stands.apart;
    }

-- ---- the law

module _ (p : Plain) (reached : IsReached p)
    (named : (name : List ℕ) (l : Live) → live_at p name ≡ Some l → l.name ≡ name)
    (movers : (name : List ℕ) (l : Live) → live_at p name ≡ Some l → (table : List ℕ) → moves l table ≡ true → mover p table ≡ Some l)
    (reaches : (event : Event) (answer : Answer) → Answers p event answer → IsReached (next p event answer))
    (placed : (name : List ℕ) (l : Live) → live_at p name ≡ Some l → IsInPlace p.topology l)
    (elsewhere : (event : Event) (answer : Answer) (name : List ℕ) → ¬ (IsOf name event) → live_at (next p event answer) name ≡ live_at p name)
    (places : HasDistinctPlaces p.topology)
    (rows_keep : (old new : rows.Primaries) → RowsStand p old → (name : List ℕ) (l : Live) → live_at p name ≡ Some l
    → Answers p (complete name) done → OtherKeyspacesStay l.source old new → ((n : ℕ) → OtherTablesStay l.tables (old l.source n) (new l.source n))
    → RowsStand (next p (complete name) done) new)
    (dropped : (old : PrimaryState) (tables : List (List ℕ)) → OtherTablesStay tables old (fold without_table old tables))
    (gone : (old : PrimaryState) (tables : List (List ℕ)) → IsPrimary old → (table : List ℕ)
    → has_table (fold without_table old tables) table ≡ (not (among tables table) && has_table old table))
    (gone_denied : (old : PrimaryState) (tables : List (List ℕ)) → IsPrimary old → (table : List ℕ)
    → is_denied_at (fold without_table old tables) table ≡ (not (among tables table) && is_denied_at old table))
    (topology : (t : TopologyState) (name : List ℕ) (l : Live) → live_at p name ≡ Some l → Answers p (complete name) done → TopologyStands p t
    → TopologyStands (next p (complete name) done) (without_places (with_entries t (end_entries l)) (end_keys l)))
    (keeps : (event : Event) (answer : Answer) (name : List ℕ) (l v : Live) (kept : Rules) → Answers p event answer → live_at p name ≡ Some l
    → live_at (next p event answer) name ≡ Some v → IsKept p.topology l kept → IsKept (next p event answer).topology v kept) where
  module _ (scopes : List Scope) (s : CoreState) (stands : CoreStands p scopes s) (are : (keyspace : List ℕ) (n : ℕ) → IsPrimary (primary_of s.base.primaries keyspace n))
      (w : WorkflowState) (live : Live) (is_live : live_at p live.name ≡ Some live) (found : workflow_at s.base.workflows live.name ≡ Some w) (for : StandsFor p live w)
      (given : Answers p (complete live.name) done) where
    abbrev pub now : Plain
    now = next p (complete live.name) done

    is_now : now ≡ with_completed p (Some live)
    is_now = ap (with_completed p) is_live

    none : complete_refusal live ≡ None
    none = sym (ap (λ o. in_workflow o complete_refusal) is_live) ∙ given.0

    apart : Apart p.lives
    apart = (reached_has_parts p reached).apart

    is_in : IsIn live p.lives
    is_in = live_in p live.name live is_live

    same_elsewhere : (n : List ℕ) → live.name ≢ n → live_at (with_completed p (Some live)) n ≡ live_at p n
    same_elsewhere n other = sym (ap (λ u. live_at u n) is_now) ∙ elsewhere (complete live.name) done n other

    kept_still : (n : List ℕ) (l : Live) (kept : Rules) → live_at p n ≡ Some l → live_at (with_completed p (Some live)) n ≡ Some l → IsKept p.topology l kept
        → IsKept (with_completed p (Some live)).topology l kept
    kept_still n l kept was is says =
        subst (λ u. IsKept u.topology l kept) is_now (keeps (complete live.name) done n l l kept given was (ap (λ u. live_at u n) is_now ∙ is) says)

    base_stands : StandsWith (with_completed p (Some live)) scopes (made_of s.base live)
    base_stands = record {
      reached = subst IsReached is_now (reaches (complete live.name) done given);
      scopes_are = stands.base.scopes_are;
      topology = subst (λ u. TopologyStands u (made_of s.base live).topology) is_now (topology s.base.topology live.name live is_live given stands.base.topology);
      rows = subst (λ u. RowsStand u (primary_of (made_of s.base live).primaries)) is_now
          (rows_keep (primary_of s.base.primaries) (primary_of (made_of s.base live).primaries) stands.base.rows live.name live is_live given
          (others_stay p s.base.primaries stands.base.primaries are apart live is_in none (placed live.name live is_live) places (movers live.name live is_live) dropped gone gone_denied)
          (tables_stay p s.base.primaries stands.base.primaries are apart live is_in none (placed live.name live is_live) places (movers live.name live is_live) dropped gone gone_denied));
      primaries = primaries_stand p s.base.primaries stands.base.primaries are apart live is_in none (placed live.name live is_live) places (movers live.name live is_live) dropped gone gone_denied;
      workflows = workflows_stand p apart live same_elsewhere s.base.workflows stands.base.workflows kept_still;
    }

    all_stands : CoreStands (with_completed p (Some live)) scopes (record s { base = made_of s.base live })
    all_stands = record {
      base = base_stands;
      ways = ways_stand p apart live same_elsewhere s.base s.ways stands.ways w found (for.way ∙ (at_target live none).0)
          (none_left p apart live same_elsewhere s.base.workflows stands.base.workflows kept_still)
          (others_left p apart live same_elsewhere s.base.workflows stands.base.workflows kept_still);
    }

    pub site_stands : CoreStands now scopes (record s { base = completed s.base w })
    site_stands =
        subst (λ u. CoreStands u scopes (record s { base = completed s.base w })) (sym is_now)
        (subst (λ c. CoreStands (with_completed p (Some live)) scopes (record s { base = c })) (sym (base_is p s.base live w for)) all_stands)

  -- the live workflow that a workflow stands for has its name
  pub complete_stands : (scopes : List Scope) (s : CoreState) → CoreStands p scopes s → (name : List ℕ) (w : WorkflowState) → workflow_at s.base.workflows name ≡ Some w
      → ((keyspace : List ℕ) (n : ℕ) → IsPrimary (primary_of s.base.primaries keyspace n)) → Answers p (complete name) done
      → CoreStands (next p (complete name) done) scopes (record s { base = completed s.base w })
  complete_stands scopes s stands name w found are given =
      let r = live_found p (live_at p name) (workflow_at s.base.workflows name) w found (stands.base.workflows.each name) in
      let is = named name r.0 r.1 in
      subst (λ n. CoreStands (next p (complete n) done) scopes (record s { base = completed s.base w })) is
      (site_stands scopes s stands are w r.0 (ap (live_at p) is ∙ r.1) (ap (workflow_at s.base.workflows) is ∙ found) r.2 (subst (λ n. Answers p (complete n) done) (sym is) given))
