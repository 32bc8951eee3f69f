-- Create: what refuses it, test by test.
use Rattle.std.proofs.Common.{◌≡◌, ◌≢◌, ℕ, Bool, true, false, not, List, [], ◌∷◌, ◌||◌, length, map, Option, None, Some, is_some, Ok, Err, refl, ap, sym, ◌∙◌}
use Rattle.std.proofs.lemmas.Bool.{true≢false}
use Rattle.std.specs.List.{list_any}
use Rattle.std.specs.Option.{option_map_or, option_or}
use Rattle.std.specs.Prelude.{◌==◌}
use Rattle.mt_names.specs.Names.{same_text}
use Rattle.mt_model.specs.declared.entries.Scope.{Scope}
use Rattle.mt_model.specs.declared.entries.Scope.TheVariants as scope
use Rattle.mt_model.specs.Topology.{TopologyState}
use Rattle.mt_plain.specs.Events.{Refusal, refused, memory, no_keyspace, workflow_exists, same_keyspace, no_tables, watcher_refused, no_watcher, sharded_source, full}
use Rattle.mt_plain.specs.Plain.{among}
use Rattle.mt_plain.specs.Refuse.{or_else, refuse_if}
use Rattle.mt_laws.proofs.LiveLemmas.{text_differs}
use Rattle.mt_watch.specs.Asking.{Answering}
use Rattle.mt_watch.specs.Scopes.{has_scope}
use Rattle.mt_workflow.specs.declared.fault.WorkflowFault.{WorkflowFault}
use Rattle.mt_workflow.specs.declared.fault.WorkflowFault.TheVariants as fault
use Rattle.mt_workflow.specs.Creates as create
use Rattle.mt_workflow.specs.Workflows.{WorkflowState}
use Rattle.mt_primary.specs.Primaries.{has_primaries}
use Rattle.mt_stands.specs.Base.{BaseState, Workflows, workflow_at}
use Rattle.mt_stands.specs.Workflows.{CreatesSet, create_refusal, is_full, is_moved, is_sharded, refusal_by_table, table_refusal, tables_refusal}

-- ---- live workflows

-- whether one of some workflows moves a table
abbrev pub any_moves : List ℕ → List WorkflowState → Bool
any_moves table ws = list_any (λ w. among w.tables table) ws

pub moved-values : (entries : Workflows) (table : List ℕ) → is_moved entries table ≡ any_moves table (map (λ e. e.1) entries)
moved-values [] table = refl
moved-values (e ∷ es) table = ap (λ b. among e.1.tables table || b) (moved-values es table)

-- ---- one table

-- what refuses a table alone
pub one-table : (t : TopologyState) (source target table : List ℕ) → source ≢ target → create.is_sharded t.keyspaces source ≡ false
    → create.create_refusal t source target (table ∷ []) ≡ create.table_refusal t source target table
one-table t source target table apart unsharded = rw (text_differs source target apart, unsharded) (by (create.table_refusal t source target table))
  where
    by : (r : Option WorkflowFault) → option_or r None ≡ r
    by None = refl
    by (Some fault) = refl

pub none-refuses : (r : Option WorkflowFault) → create.answer_of r ≡ Ok tt → r ≡ None
none-refuses None e = refl
none-refuses (Some fault) e = cc

pub one-refuses : (r : Option WorkflowFault) (fault : WorkflowFault) → create.answer_of r ≡ Err fault → r ≡ Some fault
one-refuses None fault e = cc
one-refuses (Some other) fault e = cc

-- ---- a set that a test refuses

-- a test tells neither of memory nor of a watcher's refusal
abbrev is_tests : Refusal → Bool
is_tests memory = false
is_tests (watcher_refused index) = false
is_tests other = true

abbrev is_of_tests : Option Refusal → Bool
is_of_tests r = option_map_or is_tests r true

tests-or : (a b : Option Refusal) → is_of_tests a ≡ true → is_of_tests b ≡ true → is_of_tests (or_else a b) ≡ true
tests-or None b at_a at_b = at_b
tests-or (Some r) b at_a at_b = at_a

tests-if : (t : Bool) (r : Refusal) → is_tests r ≡ true → is_of_tests (refuse_if t r) ≡ true
tests-if true r is = is
tests-if false r is = refl

tests-table : (moved : Bool) (fault : Option WorkflowFault) → is_of_tests (refusal_by_table moved fault) ≡ true
tests-table true None = refl
tests-table false None = refl
tests-table true (Some fault.Memory) = refl
tests-table true (Some fault.SameKeyspace) = refl
tests-table true (Some fault.NoTables) = refl
tests-table true (Some (fault.RuleConflict key)) = refl
tests-table true (Some (fault.TargetHasTable table)) = refl
tests-table true (Some (fault.DeniedByHand table)) = refl
tests-table true (Some (fault.NoTable table)) = refl
tests-table true (Some fault.ShardedSource) = refl
tests-table false (Some fault.Memory) = refl
tests-table false (Some fault.SameKeyspace) = refl
tests-table false (Some fault.NoTables) = refl
tests-table false (Some (fault.RuleConflict key)) = refl
tests-table false (Some (fault.TargetHasTable table)) = refl
tests-table false (Some (fault.DeniedByHand table)) = refl
tests-table false (Some (fault.NoTable table)) = refl
tests-table false (Some fault.ShardedSource) = refl

tests-tables : (base : BaseState) (source target : List ℕ) (tables : List (List ℕ)) → is_of_tests (tables_refusal base source target tables) ≡ true
tests-tables base source target [] = refl
tests-tables base source target (table ∷ tables) =
    tests-or (table_refusal base source target table) (tables_refusal base source target tables)
    (tests-table (is_moved base.workflows table) (create.table_refusal base.topology source target table)) (tests-tables base source target tables)

tests-set : (base : BaseState) (scopes : List Scope) (workflow source target : List ℕ) (tables : List (List ℕ)) → is_of_tests (create_refusal base scopes workflow source target tables) ≡ true
tests-set base scopes workflow source target tables =
    tests-or (refuse_if (is_some (workflow_at base.workflows workflow)) workflow_exists) _ (tests-if (is_some (workflow_at base.workflows workflow)) workflow_exists refl)
    (tests-or (refuse_if (length tables == 0) no_tables) _ (tests-if (length tables == 0) no_tables refl)
    (tests-or (refuse_if (same_text source target) same_keyspace) _ (tests-if (same_text source target) same_keyspace refl)
    (tests-or (refuse_if (not (has_primaries base.primaries source)) no_keyspace) _ (tests-if (not (has_primaries base.primaries source)) no_keyspace refl)
    (tests-or (refuse_if (not (has_primaries base.primaries target)) no_keyspace) _ (tests-if (not (has_primaries base.primaries target)) no_keyspace refl)
    (tests-or (refuse_if (is_sharded base source) sharded_source) _ (tests-if (is_sharded base source) sharded_source refl)
    (tests-or (tables_refusal base source target tables) _ (tests-tables base source target tables)
    (tests-or (refuse_if (not (has_scope scopes (scope.Primary target))) no_watcher) _ (tests-if (not (has_scope scopes (scope.Primary target))) no_watcher refl)
    (tests-if (is_full base source target tables) full refl))))))))

-- what a test refuses is refused
pub refused-set : (base : BaseState) (scopes : List Scope) (may_answer : Answering) (workflow source target : List ℕ) (tables : List (List ℕ)) (r : Refusal)
    → create_refusal base scopes workflow source target tables ≡ Some r → CreatesSet base scopes may_answer workflow source target tables (refused r) base
refused-set base scopes may_answer workflow source target tables r is = by r is (ap is_of_tests (sym is) ∙ tests-set base scopes workflow source target tables)
  where
    by : (r : Refusal) → create_refusal base scopes workflow source target tables ≡ Some r → is_tests r ≡ true → CreatesSet base scopes may_answer workflow source target tables (refused r) base
    by memory e of = absurd (true≢false (sym of))
    by (watcher_refused index) e of = absurd (true≢false (sym of))
    by other e of = (e, refl)
