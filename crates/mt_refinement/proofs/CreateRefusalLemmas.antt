-- What refuses a Create, test by test.
use Rattle.std.proofs.Common.{◌≡◌, ℕ, Bool, true, false, not, ◌||◌, List, [], ◌∷◌, find, fold, length, map, Option, None, Some, is_some, refl, sym, ap, ◌∙◌}
use Rattle.std.specs.List.{AllByRecursion, list_any}
use Rattle.std.specs.Option.{option_map, option_map_or, option_or}
use Rattle.std.specs.Prelude.{nat_le, ◌==◌}
use Rattle.mt_names.specs.declared.keys.RuleKey.{RuleKey}
use Rattle.mt_names.specs.declared.keys.RuleTarget.{RuleTarget}
use Rattle.mt_names.specs.Same.{same_target}
use Rattle.mt_model.specs.declared.entries.Scope.{Scope}
use Rattle.mt_model.specs.declared.entries.Scope.TheVariants as scope
use Rattle.mt_model.specs.Part.{table_rule_keys}
use Rattle.mt_model.specs.Topology.{Rules, is_present, rule_at}
use Rattle.mt_topology.specs.Part.{reserve_refusal}
use Rattle.mt_watch.specs.Scopes.{has_scope, same_scope}
use Rattle.mt_workflow.specs.Creates as create
use Rattle.mt_workflow.specs.declared.fault.WorkflowFault.TheVariants as fault
use Rattle.mt_plain.specs.Events.{Refusal, full, no_keyspace, no_tables, no_watcher, same_keyspace, sharded_source, workflow_exists, no_table, table_in_workflow, target_has_table, rule_conflict}
use Rattle.mt_plain.specs.Plain.{Live, Plain, in_keyspace, mover}
use Rattle.mt_plain.specs.Refuse.{is_of_primary, most_workflows, moved_table_refusal, moved_tables_refusal, or_else, refuse_if}
use Rattle.mt_plain.specs.Serve.{has_table}
use Rattle.mt_stands.specs.Topologies.{TopologyStands}
use Rattle.mt_names.specs.Names.{same_text}
use Rattle.mt_primary.specs.Primaries.{has_primaries}
use Rattle.mt_stands.specs.Base.{BaseState, workflow_at}
use Rattle.mt_stands.specs.Workflows.{create_refusal, is_moved, is_sharded, refusal_by_table, table_refusal, tables_refusal}
use Rattle.mt_refinement.proofs.FreeLemmas.{free_rule, present_there}
use Rattle.mt_refinement.proofs.ListLemmas.{each_key, find_same}
use Rattle.mt_laws.proofs.RefusalLemmas.{or_else-none, refuse_if-none}

-- ---- one test after the other

pub or_else_same : (o m n : Option Refusal) → (o ≡ None → m ≡ n) → or_else o m ≡ or_else o n
or_else_same None m n each = each refl
or_else_same (Some refusal) m n each = refl

or_else_behind : (o : Option Refusal) → o ≡ or_else o None
or_else_behind None = refl
or_else_behind (Some refusal) = refl

or_else_nested : (a b c : Option Refusal) → or_else (or_else a b) c ≡ or_else a (or_else b c)
or_else_nested None b c = refl
or_else_nested (Some refusal) b c = refl

pub first_refusal : {X : Type 0} (f : X → Option Refusal) (xs : List X) (a : Option Refusal) → fold or_else a (map f xs) ≡ or_else a (fold or_else None (map f xs))
first_refusal f [] a = or_else_behind a
first_refusal f (x ∷ xs) a =
    first_refusal f xs (or_else a (f x)) ∙ or_else_nested a (f x) (fold or_else None (map f xs)) ∙ ap (or_else a) (sym (first_refusal f xs (f x)))

pub none_refuses : {X : Type 0} (f : X → Option Refusal) (xs : List X) → fold or_else None (map f xs) ≡ None → AllByRecursion (λ x. f x ≡ None) xs
none_refuses f [] none = tt
none_refuses f (x ∷ xs) none =
    let (here, behind) = or_else-none (f x) (fold or_else None (map f xs)) (sym (first_refusal f xs (f x)) ∙ none) in
    (here, none_refuses f xs behind)

-- ---- a table

abbrev told_by_code : (moved here there : Bool) → Option RuleKey → (denied : Bool) → (table : List ℕ) → Option Refusal
told_by_code moved here there conflict denied table =
    refusal_by_table moved
    (option_or (create.refuse_if (not here) (fault.NoTable table))
    (option_or (create.refuse_if there (fault.TargetHasTable table))
    (option_or (option_map fault.RuleConflict conflict) (create.refuse_if denied (fault.DeniedByHand table)))))

abbrev told_by_plain : (moved here there : Bool) → Option RuleKey → (table : List ℕ) → Option Refusal
told_by_plain moved here there conflict table =
    or_else (refuse_if (not here) no_table)
    (or_else (refuse_if moved table_in_workflow) (or_else (refuse_if there (target_has_table table)) (option_map rule_conflict conflict)))

told_alike : (moved here there : Bool) (a b : Option RuleKey) (denied : Bool) (table : List ℕ) → (moved ≡ false → a ≡ b)
    → told_by_code moved here there a denied table ≡ told_by_plain moved here there b table
told_alike true false there a b denied table same = refl
told_alike true true true a b denied table same = refl
told_alike true true false None b true table same = refl
told_alike true true false None b false table same = refl
told_alike true true false (Some key) b denied table same = refl
told_alike false here there a b denied table same = by here there a denied ∙ ap (λ o. told_by_plain false here there o table) (same refl)
  where
    by : (here there : Bool) (a : Option RuleKey) (denied : Bool) → told_by_code false here there a denied table ≡ told_by_plain false here there a table
    by false there a denied = refl
    by true true a denied = refl
    by true false None true = refl
    by true false None false = refl
    by true false (Some key) denied = refl

module _ (p : Plain) (base : BaseState) (stands : TopologyStands p base.topology) (moved : (table : List ℕ) → is_moved base.workflows table ≡ is_some (mover p table)) (source target : List ℕ) where
  abbrev conflict_in : Rules → List ℕ → Option RuleKey
  conflict_in rules table = find (create.leads_elsewhere rules source table) (table_rule_keys source target table)

  abbrev leads : (table : List ℕ) → Option RuleTarget → Bool
  leads table o = option_map_or (λ to. not (same_target to (in_keyspace source table))) o false

  none_of : (o : Option Live) → is_some o ≡ false → o ≡ None
  none_of None e = refl
  none_of (Some w) e = absurd cc

  same_conflict : (table : List ℕ) → mover p table ≡ None → conflict_in base.topology.rules table ≡ conflict_in p.topology.rules table
  same_conflict table none =
      find_same (create.leads_elsewhere base.topology.rules source table) (create.leads_elsewhere p.topology.rules source table) (table_rule_keys source target table)
      (each_key (λ key. leads table (rule_at base.topology.rules key) ≡ leads table (rule_at p.topology.rules key)) source target table
      (λ keyspace tablet_type. ap (leads table) (free_rule p base.topology stands (record { keyspace = keyspace; table = table; tablet_type = tablet_type }) none)))

  pub same_table : (table : List ℕ) → table_refusal base source target table ≡ moved_table_refusal p source target table
  same_table table =
      told_alike (is_moved base.workflows table) (is_present base.topology.keyspaces source table) (is_present base.topology.keyspaces target table)
      (conflict_in base.topology.rules table) (conflict_in p.topology.rules table) (create.is_denied_by_hand base.topology source target table) table
      (λ free. same_conflict table (none_of (mover p table) (sym (moved table) ∙ free)))
      ∙ ap (λ m. told_by_plain m (is_present base.topology.keyspaces source table) (is_present base.topology.keyspaces target table) (conflict_in p.topology.rules table) table) (moved table)
      ∙ ap (λ h. told_by_plain (is_some (mover p table)) h (is_present base.topology.keyspaces target table) (conflict_in p.topology.rules table) table) (present_there p base.topology stands source table)
      ∙ ap (λ t. told_by_plain (is_some (mover p table)) (has_table p source table) t (conflict_in p.topology.rules table) table) (present_there p base.topology stands target table)

  pub same_tables : (tables : List (List ℕ)) → tables_refusal base source target tables ≡ moved_tables_refusal p source target tables
  same_tables [] = refl
  same_tables (table ∷ tables) =
      ap (λ o. or_else o (tables_refusal base source target tables)) (same_table table)
      ∙ ap (or_else (moved_table_refusal p source target table)) (same_tables tables)
      ∙ sym (first_refusal (moved_table_refusal p source target) tables (moved_table_refusal p source target table))

-- ---- the watcher

same_watcher : (target : List ℕ) (other : Scope) → same_scope other (scope.Primary target) ≡ is_of_primary target other
same_watcher target scope.Routes = refl
same_watcher target (scope.Primary keyspace) = refl

pub same_watchers : (target : List ℕ) (scopes : List Scope) → has_scope scopes (scope.Primary target) ≡ list_any (is_of_primary target) scopes
same_watchers target [] = refl
same_watchers target (other ∷ others) =
    ap (λ b. b || has_scope others (scope.Primary target)) (same_watcher target other) ∙ ap (λ b. is_of_primary target other || b) (same_watchers target others)

-- ---- the last test

or_none : (a b : Bool) → (a || b) ≡ false → b ≡ false
or_none true b e = absurd cc
or_none false b e = e

no_fault : {A : Type 0} (o : Option A) → is_some o ≡ false → o ≡ None
no_fault None e = refl
no_fault (Some x) e = absurd cc

-- what stands behind three tests that refuse nothing refuses nothing
behind_three : (a b c d : Option Refusal) → or_else a (or_else b (or_else c d)) ≡ None → d ≡ None
behind_three None None None d none = none
behind_three (Some r) b c d none = absurd cc
behind_three None (Some r) c d none = absurd cc
behind_three None None (Some r) d none = absurd cc

behind_two : (a b c : Option Refusal) → or_else a (or_else b c) ≡ None → c ≡ None
behind_two a b c none = (or_else-none b c (or_else-none a (or_else b c) none).1).1

-- what no test refuses has room
pub room_behind : (base : BaseState) (scopes : List Scope) (workflow source target : List ℕ) (tables : List (List ℕ)) → create_refusal base scopes workflow source target tables ≡ None
    → reserve_refusal base.topology source target tables ≡ None
room_behind base scopes workflow source target tables none =
    let room = is_some (reserve_refusal base.topology source target tables) in
    no_fault (reserve_refusal base.topology source target tables)
    (or_none (nat_le most_workflows (length base.workflows)) room
    (refuse_if-none (nat_le most_workflows (length base.workflows) || room) full
    (behind_two (tables_refusal base source target tables) (refuse_if (not (has_scope scopes (scope.Primary target))) no_watcher) _
    (behind_three (refuse_if (not (has_primaries base.primaries source)) no_keyspace) (refuse_if (not (has_primaries base.primaries target)) no_keyspace)
    (refuse_if (is_sharded base source) sharded_source) _
    (behind_three (refuse_if (is_some (workflow_at base.workflows workflow)) workflow_exists) (refuse_if (length tables == 0) no_tables) (refuse_if (same_text source target) same_keyspace) _ none)))))
