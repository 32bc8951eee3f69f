-- Cancel, from base to base.
use Rattle.std.proofs.Common.{◌≡◌, ◌≢◌, ℕ, ◌<◌, Bool, true, false, not, fold, List, map, Option, None, Some, is_some, refl, sym, ap, ◌∙◌, subst, ⊎_elim}
use Rattle.std.proofs.lemmas.Bool.{true≢false}
use Rattle.std.specs.Map.{keys_of, remove_entry}
use Rattle.std.specs.List.{IsDistinct}
use Rattle.std.specs.Option.{option_map_or}
use Rattle.std.specs.Prelude.{◌&&◌, ◌||◌}
use Rattle.mt_model.specs.declared.entries.Scope.{Scope}
use Rattle.mt_model.specs.Part.{part_keys, with_entries, without_places}
use Rattle.mt_model.specs.Topology.{Rules, TopologyState, value_of}
use Rattle.mt_names.specs.declared.types.TypeSet.{TypeSet}
use Rattle.mt_names.specs.Names.{same_text}
use Rattle.mt_names.proofs.EntryLemmas.{lookup-remove_entry_elsewhere, lookup-remove_entry_here}
use Rattle.mt_names.proofs.SameLemmas.{same_text_decides}
use Rattle.mt_laws.specs.Changes.{IsOf}
use Rattle.mt_laws.specs.Reached.{IsInPlace}
use Rattle.mt_laws.specs.WayBack.{IsReached}
use Rattle.mt_laws.proofs.AnswerLemmas.{refused_as_decided}
use Rattle.mt_laws.proofs.InPlaceLemmas.{live_in}
use Rattle.mt_laws.proofs.LiveLemmas.{Apart, text_differs}
use Rattle.mt_laws.proofs.ReachLemmas.{reached_has_parts}
use Rattle.mt_plain.specs.Answers.{Answers}
use Rattle.mt_plain.specs.Events.{Answer, Event, cancel, done, row, advanced, shown, memory, no_workflow, refused, Refusal, Way, traffic_switched, under_way}
use Rattle.mt_plain.specs.Next.{next}
use Rattle.mt_plain.specs.Plain.{Live, Plain, among, live_at, mover, moves}
use Rattle.mt_plain.specs.Refuse.{cancel_refusal, in_workflow, or_else, refuse_if}
use Rattle.mt_plain.specs.Serve as plain
use Rattle.mt_primary.specs.Primary.{IsPrimary, PrimaryState, has_table, is_denied_at}
use Rattle.mt_primary.specs.Writes.{without_table}
use Rattle.mt_stands.specs.Rows.{OtherTablesStay, OtherKeyspacesStay, Primaries, RowsStand}
use Rattle.mt_stands.specs.Keys.{IsKept, kept_entries, keys_of_part, rules_only}
use Rattle.mt_stands.specs.Topologies.{TopologyStands}
use Rattle.mt_primary.specs.Primaries.{count_of, primary_of, with_all}
use Rattle.mt_primary.proofs.PrimariesLemmas.{with_all-each, with_all-elsewhere, with_all-here}
use Rattle.mt_stands.specs.Base.{BaseState, Does, workflow_at}
use Rattle.mt_stands.specs.Stands.{AreWorkflows, StandsFor, StandsForAny, StandsWith}
use Rattle.mt_stands.specs.Workflows.{Cancels, CancelsAt, cancelled}
use Rattle.mt_workflow.specs.Workflows.{WorkflowState, live_of}
use Rattle.mt_refinement.proofs.MoveBaseLemmas.{live_found, no_live, stands-elsewhere}
use Rattle.mt_stands.proofs.KnownLemmas.{same_or}
use Rattle.mt_refinement.proofs.PrimaryLemmas.{all_changed, primaries_kept}
use Rattle.mt_refinement.proofs.GoneLemmas.{allowed_before, allowed_gone, distinct_names, live_gone, names_gone, refused_stays, table_gone, table_stays}

-- what refuses a Cancel is the same for a workflow and the live one that it stands for
refusal_same : (p : Plain) (live : Live) (w : WorkflowState) → StandsFor p live w → cancel_refusal (live_of w) ≡ cancel_refusal live
refusal_same p live w stands = by w.way stands.way w.switched stands.switched
  where
    by : (way : Option Way) → way ≡ live.way → (types : TypeSet) → types ≡ live.switched
        → or_else (refuse_if (is_some way) under_way) (refuse_if (types.primary || types.replica || types.rdonly) traffic_switched) ≡ cancel_refusal live
    by way a types b = rw (a, b) refl

-- ---- a Cancel that is done

module _ (p : Plain) (scopes : List Scope) (old : BaseState) (stands : StandsWith p scopes old) (are : (keyspace : List ℕ) (n : ℕ) → IsPrimary (primary_of old.primaries keyspace n))
    (workflow : List ℕ) (w : WorkflowState) (found : workflow_at old.workflows workflow ≡ Some w)
    (live : Live) (is_live : live_at p workflow ≡ Some live) (for : StandsFor p live w) (named : live.name ≡ workflow) (none : cancel_refusal live ≡ None)
    (placed : IsInPlace p.topology live) (mover_is : (table : List ℕ) → moves live table ≡ true → mover p table ≡ Some live)
    (dropped : (old : PrimaryState) (tables : List (List ℕ)) → OtherTablesStay tables old (fold without_table old tables))
    (gone : (old : PrimaryState) (tables : List (List ℕ)) → IsPrimary old → (table : List ℕ)
    → has_table (fold without_table old tables) table ≡ (not (among tables table) && has_table old table))
    (gone_denied : (old : PrimaryState) (tables : List (List ℕ)) → IsPrimary old → (table : List ℕ)
    → is_denied_at (fold without_table old tables) table ≡ (not (among tables table) && is_denied_at old table)) where
  abbrev q : Plain
  q = next p (cancel workflow) done

  apart : Apart p.lives
  apart = (reached_has_parts p stands.reached).apart

  abbrev drop_tables : PrimaryState → PrimaryState
  drop_tables primary = fold without_table primary live.tables

  abbrev made : BaseState
  made = record {
    topology = without_places (with_entries old.topology (kept_entries w.kept live)) (keys_of_part live);
    primaries = with_all old.primaries live.target drop_tables;
    workflows = remove_entry (same_text workflow) old.workflows;
  }

  pub base_is : cancelled old w ≡ made
  base_is = by w.source (sym for.sides.source) w.target (sym for.sides.target) w.tables (sym for.sides.tables) w.name (sym for.sides.name ∙ named)
    where
      by : (s : List ℕ) → s ≡ live.source → (t : List ℕ) → t ≡ live.target → (ts : List (List ℕ)) → ts ≡ live.tables → (n : List ℕ) → n ≡ workflow
          → record {
            topology = without_places (with_entries old.topology (map (value_of (rules_only w.kept)) (part_keys s t ts))) (part_keys s t ts);
            primaries = with_all old.primaries t (λ primary. fold without_table primary ts);
            workflows = remove_entry (same_text n) old.workflows;
          } ≡ made
      by s a t b ts c n d = rw (a, b, c, d) refl

  target_now : (n : ℕ) → n < count_of old.primaries live.target → primary_of made.primaries live.target n ≡ drop_tables (primary_of old.primaries live.target n)
  target_now = with_all-here old.primaries live.target drop_tables

  others_stay : OtherKeyspacesStay live.target (primary_of old.primaries) (primary_of made.primaries)
  others_stay other differs n = with_all-elsewhere old.primaries live.target drop_tables other n differs

  tables_stay : (n : ℕ) → OtherTablesStay live.tables (primary_of old.primaries live.target n) (primary_of made.primaries live.target n)
  tables_stay n =
      with_all-each old.primaries live.target drop_tables (λ k m was is. OtherTablesStay live.tables was is) (λ k m s. record { log = refl; rows = λ table other key. refl })
      (λ m within. dropped (primary_of old.primaries live.target m) live.tables) live.target n

  -- ---- tables and own lists

  tables_now : (k : List ℕ) (n : ℕ) → n < count_of old.primaries k → (t : List ℕ) → has_table (primary_of made.primaries k n) t ≡ plain.has_table q k t
  tables_now k n in_range t = ⊎_elim at_target elsewhere (same_or live.target k)
    where
      here : n < count_of old.primaries live.target → has_table (primary_of made.primaries live.target n) t ≡ plain.has_table q live.target t
      here within = ap (λ s. has_table s t) (target_now n within) ∙ gone (primary_of old.primaries live.target n) live.tables (are live.target n) t ∙ by (moves live t) refl
        where
          by : (b : Bool) → moves live t ≡ b → (not b && has_table (primary_of old.primaries live.target n) t) ≡ plain.has_table q live.target t
          by true moved = sym (table_gone p apart workflow live (live_in p workflow live is_live) named placed t moved)
          by false other =
              stands.primaries.tables live.target n within t
              ∙ sym (table_stays p apart workflow live (live_in p workflow live is_live) named live.target t (ap (λ b. b && same_text live.target live.target) other))

      at_target : live.target ≡ k → has_table (primary_of made.primaries k n) t ≡ plain.has_table q k t
      at_target e = subst (λ x. n < count_of old.primaries x → has_table (primary_of made.primaries x n) t ≡ plain.has_table q x t) e here in_range

      fails : (b : Bool) → (b && false) ≡ false
      fails true = refl
      fails false = refl

      elsewhere : live.target ≢ k → has_table (primary_of made.primaries k n) t ≡ plain.has_table q k t
      elsewhere other =
          ap (λ s. has_table s t) (others_stay k other n) ∙ stands.primaries.tables k n in_range t
          ∙ sym (table_stays p apart workflow live (live_in p workflow live is_live) named k t (ap (λ b. moves live t && b) (text_differs live.target k other) ∙ fails (moves live t)))

  denials_now : (k : List ℕ) (n : ℕ) → n < count_of old.primaries k → (t : List ℕ) → is_denied_at (primary_of made.primaries k n) t ≡ plain.refuses q k n t
  denials_now k n in_range t = ⊎_elim at_target elsewhere (same_or live.target k)
    where
      here : n < count_of old.primaries live.target → is_denied_at (primary_of made.primaries live.target n) t ≡ plain.refuses q live.target n t
      here within = ap (λ s. is_denied_at s t) (target_now n within) ∙ gone_denied (primary_of old.primaries live.target n) live.tables (are live.target n) t ∙ by (moves live t) refl
        where
          by : (b : Bool) → moves live t ≡ b → (not b && is_denied_at (primary_of old.primaries live.target n) t) ≡ plain.refuses q live.target n t
          by true moved = sym (allowed_gone p apart workflow live (live_in p workflow live is_live) named live.target n t moved)
          by false other = stands.primaries.denials live.target n within t ∙ sym (refused_stays p apart workflow live (live_in p workflow live is_live) named live.target n t other)

      at_target : live.target ≡ k → is_denied_at (primary_of made.primaries k n) t ≡ plain.refuses q k n t
      at_target e = subst (λ x. n < count_of old.primaries x → is_denied_at (primary_of made.primaries x n) t ≡ plain.refuses q x n t) e here in_range

      same : live.target ≢ k → (b : Bool) → moves live t ≡ b → plain.refuses p k n t ≡ plain.refuses q k n t
      same other true moved =
          ap (λ o. option_map_or (λ v. plain.refuses_by v k n) o false) (mover_is t moved) ∙ allowed_before live none k n other
          ∙ sym (allowed_gone p apart workflow live (live_in p workflow live is_live) named k n t moved)
      same other false not_moved = sym (refused_stays p apart workflow live (live_in p workflow live is_live) named k n t not_moved)

      elsewhere : live.target ≢ k → is_denied_at (primary_of made.primaries k n) t ≡ plain.refuses q k n t
      elsewhere other = ap (λ s. is_denied_at s t) (others_stay k other n) ∙ stands.primaries.denials k n in_range t ∙ same other (moves live t) refl

  -- ---- the workflows

  module _ (elsewhere : (n : List ℕ) → workflow ≢ n → live_at q n ≡ live_at p n) where
    distinct : IsDistinct same_text (keys_of old.workflows)
    distinct = subst (IsDistinct same_text) (sym stands.workflows.names) (distinct_names p.lives apart)

    here : StandsForAny q (live_at q workflow) (workflow_at made.workflows workflow)
    here =
        subst (λ o. StandsForAny q o (workflow_at made.workflows workflow)) (sym (live_gone workflow p.lives))
        (subst (StandsForAny q None) (sym (lookup-remove_entry_here same_text same_text_decides old.workflows workflow distinct)) tt)

    other : (n : List ℕ) → workflow ≢ n → StandsForAny q (live_at q n) (workflow_at made.workflows n)
    other n differs =
        subst (λ o. StandsForAny q o (workflow_at made.workflows n)) (sym (elsewhere n differs))
        (subst (StandsForAny q (live_at p n)) (sym (lookup-remove_entry_elsewhere same_text same_text_decides old.workflows workflow n differs))
        (stands-elsewhere p q refl (live_at p n) (workflow_at old.workflows n) (stands.workflows.each n)))

    workflows_now : AreWorkflows q made.workflows
    workflows_now = record {
      each = λ n. ⊎_elim (λ (e : workflow ≡ n). subst (λ x. StandsForAny q (live_at q x) (workflow_at made.workflows x)) e here) (other n) (same_or workflow n);
      names = names_gone workflow old.workflows p.lives apart stands.workflows.names;
    }

    pub cancelled_stands : IsReached q → TopologyStands q made.topology
        → (OtherKeyspacesStay live.target (primary_of old.primaries) (primary_of made.primaries)
        → ((n : ℕ) → OtherTablesStay live.tables (primary_of old.primaries live.target n) (primary_of made.primaries live.target n)) → RowsStand q (primary_of made.primaries))
        → StandsWith q scopes made
    cancelled_stands reached_q topology_q rows_q = record {
      reached = reached_q;
      scopes_are = stands.scopes_are;
      topology = topology_q;
      rows = rows_q others_stay tables_stay;
      primaries = primaries_kept p q refl old.primaries made.primaries (all_changed old.primaries live.target drop_tables) stands.primaries tables_now denials_now;
      workflows = workflows_now;
    }

-- ---- the law

module _ (p : Plain) (reached : IsReached p)
    (named : (name : List ℕ) (w : Live) → live_at p name ≡ Some w → w.name ≡ name)
    (movers : (name : List ℕ) (w : Live) → live_at p name ≡ Some w → (table : List ℕ) → moves w table ≡ true → mover p table ≡ Some w)
    (reaches : (event : Event) (answer : Answer) → Answers p event answer → IsReached (next p event answer))
    (placed : (name : List ℕ) (w : Live) → live_at p name ≡ Some w → IsInPlace p.topology w)
    (elsewhere : (event : Event) (answer : Answer) (name : List ℕ) → ¬ (IsOf name event) → live_at (next p event answer) name ≡ live_at p name)
    (rows : (old new : Primaries) → RowsStand p old → (name : List ℕ) (w : Live) → live_at p name ≡ Some w
    → Answers p (cancel name) done → OtherKeyspacesStay w.target old new → ((n : ℕ) → OtherTablesStay w.tables (old w.target n) (new w.target n))
    → RowsStand (next p (cancel name) done) new)
    (dropped : (old : PrimaryState) (tables : List (List ℕ)) → OtherTablesStay tables old (fold without_table old tables))
    (gone : (old : PrimaryState) (tables : List (List ℕ)) → IsPrimary old → (table : List ℕ)
    → has_table (fold without_table old tables) table ≡ (not (among tables table) && has_table old table))
    (gone_denied : (old : PrimaryState) (tables : List (List ℕ)) → IsPrimary old → (table : List ℕ)
    → is_denied_at (fold without_table old tables) table ≡ (not (among tables table) && is_denied_at old table))
    (topology : (t : TopologyState) (name : List ℕ) (w : Live) (kept : Rules) → live_at p name ≡ Some w
    → IsKept p.topology w kept → Answers p (cancel name) done → TopologyStands p t
    → TopologyStands (next p (cancel name) done) (without_places (with_entries t (kept_entries kept w)) (keys_of_part w))) where
  module _ (scopes : List Scope) (old new : BaseState) (stands : StandsWith p scopes old) (are : (keyspace : List ℕ) (n : ℕ) → IsPrimary (primary_of old.primaries keyspace n)) (workflow : List ℕ) where
    abbrev Stepped : Answer → Type 0
    Stepped answer = Answers p (cancel workflow) answer × StandsWith (next p (cancel workflow) answer) scopes new

    as_before : (answer : Answer) (refusal : Refusal) → answer ≡ refused refusal → Answers p (cancel workflow) (refused refusal) → new ≡ old → Stepped answer
    as_before answer refusal is given same = subst Stepped (sym is) (given, subst (StandsWith p scopes) (sym same) stands)

    module _ (w : WorkflowState) (found : workflow_at old.workflows workflow ≡ Some w) (live : Live) (is_live : live_at p workflow ≡ Some live) (for : StandsFor p live w) where
      refusal_is : in_workflow (live_at p workflow) cancel_refusal ≡ cancel_refusal (live_of w)
      refusal_is = ap (λ o. in_workflow o cancel_refusal) is_live ∙ sym (refusal_same p live w for)

      done_steps : cancel_refusal (live_of w) ≡ None → new ≡ cancelled old w → Stepped done
      done_steps none same =
          let given : Answers p (cancel workflow) done = (refusal_is ∙ none, refl) in
          let at_rest = sym (refusal_same p live w for) ∙ none in
          let is_named = named workflow live is_live in
          let in_place = placed workflow live is_live in (
            given,
            subst (StandsWith (next p (cancel workflow) done) scopes)
                (sym (same ∙ base_is p scopes old stands are workflow w found live is_live for is_named at_rest in_place (movers workflow live is_live) dropped gone gone_denied))
                (cancelled_stands p scopes old stands are workflow w found live is_live for is_named at_rest in_place (movers workflow live is_live) dropped gone gone_denied
                (λ n other. elsewhere (cancel workflow) done n other)
                (reaches (cancel workflow) done given) (topology old.topology workflow live w.kept is_live for.kept given stands.topology)
                (λ others tables. rows (primary_of old.primaries) _ stands.rows workflow live is_live given others tables)),
          )

      by_answer : (answer : Answer) → Does old (cancel_refusal (live_of w)) false (cancelled old w) answer new → Stepped answer
      by_answer done is = done_steps is.0 is.1
      by_answer (row r) is = absurd is
      by_answer (advanced events rows) is = absurd is
      by_answer (shown s) is = absurd is
      by_answer (refused memory) is = absurd (true≢false (sym is.1))
      by_answer (refused r) is = as_before (refused r) r refl (refused_as_decided p (cancel workflow) r (refusal_is ∙ is.0)) is.1

    at_steps : (answer : Answer) (o : Option WorkflowState) → workflow_at old.workflows workflow ≡ o → CancelsAt o old answer new → Stepped answer
    at_steps answer None none is =
        as_before answer no_workflow is.0
        (ap (λ o. in_workflow o cancel_refusal) (no_live p (live_at p workflow) (workflow_at old.workflows workflow) none (stands.workflows.each workflow))) is.1
    at_steps answer (Some w) found is =
        let r = live_found p (live_at p workflow) (workflow_at old.workflows workflow) w found (stands.workflows.each workflow) in
        by_answer w found r.0 r.1 r.2 answer is

    pub cancel_steps : (answer : Answer) → Cancels old workflow answer new → Stepped answer
    cancel_steps answer = at_steps answer (workflow_at old.workflows workflow) refl
