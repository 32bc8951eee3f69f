-- A Create is refused as the definitions refuse it.
use Rattle.std.proofs.Common.{◌≡◌, ℕ, Bool, true, false, not, ◌||◌, List, length, Option, None, Some, is_some, refl, sym, ap, ◌∙◌}
use Rattle.std.proofs.lemmas.Bool.{not-false}
use Rattle.std.specs.List.{AllByRecursion, IsDistinct, list_any}
use Rattle.std.specs.Prelude.{◌==◌, nat_le, nat_lt}
use Rattle.mt_names.specs.Names.{same_text}
use Rattle.mt_names.specs.Shards.{shard_count}
use Rattle.mt_names.proofs.EntryLemmas.{none_from, some_from}
use Rattle.mt_model.specs.declared.entries.Scope.{Scope}
use Rattle.mt_model.specs.declared.entries.Scope.TheVariants as scope
use Rattle.mt_model.specs.Topology.{KeyspaceState, keyspace_at}
use Rattle.mt_topology.specs.Part.{reserve_refusal}
use Rattle.mt_watch.specs.Scopes.{has_scope}
use Rattle.mt_plain.specs.Events.{Refusal, full, no_keyspace, no_table, no_tables, no_watcher, same_keyspace, sharded_source, table_in_workflow, target_has_table, workflow_exists}
use Rattle.mt_plain.specs.Plain.{Plain, has_keyspace, is_sharded, live_at, mover}
use Rattle.mt_plain.specs.Refuse.{conflict_refusal, create_is_full, is_of_primary, most_workflows, moved_table_refusal, moved_tables_refusal, or_else, refuse_if, rule_count, table_count, watcher_refusal}
use Rattle.mt_plain.specs.Refuse as plain
use Rattle.mt_plain.specs.Serve.{has_table}
use Rattle.mt_laws.specs.Places.{IsWithinLimits}
use Rattle.mt_primary.specs.Primaries.{has_primaries}
use Rattle.mt_stands.specs.Base.{BaseState}
use Rattle.mt_stands.specs.Stands.{StandsWith}
use Rattle.mt_stands.specs.Workflows.{create_refusal, is_full, is_moved, tables_refusal}
use Rattle.mt_stands.specs.Workflows.{is_sharded as has_shards}
use Rattle.mt_refinement.proofs.ListLemmas.{all_more}
use Rattle.mt_refinement.proofs.NamedLemmas.{same_count, same_names}
use Rattle.mt_refinement.proofs.CreateRefusalLemmas.{none_refuses, or_else_same, same_tables, same_watchers}
use Rattle.mt_laws.proofs.RefusalLemmas.{or_else-none, refuse_if-none}
use Rattle.mt_refinement.proofs.RoomLemmas.{CanMove, Knows, same_room}

-- a table that no test refuses can move
pub can_move : (p : Plain) (source target table : List ℕ) → moved_table_refusal p source target table ≡ None → CanMove p source target table
can_move p source target table none =
    let (here, a) = or_else-none (refuse_if (not (has_table p source table)) no_table) (or_else (refuse_if (is_some (mover p table)) table_in_workflow) (or_else (refuse_if (has_table p target table) (target_has_table table)) (conflict_refusal p source target table))) none in
    let (free, b) = or_else-none (refuse_if (is_some (mover p table)) table_in_workflow) (or_else (refuse_if (has_table p target table) (target_has_table table)) (conflict_refusal p source target table)) a in
    let (there, d) = or_else-none (refuse_if (has_table p target table) (target_has_table table)) (conflict_refusal p source target table) b in
    record {
      free = none_from (mover p table) (refuse_if-none (is_some (mover p table)) table_in_workflow free);
      here = not-false (has_table p source table) (refuse_if-none (not (has_table p source table)) no_table here);
      there = refuse_if-none (has_table p target table) (target_has_table table) there;
    }

pub can_moves : (p : Plain) (source target : List ℕ) (tables : List (List ℕ)) → moved_tables_refusal p source target tables ≡ None → AllByRecursion (CanMove p source target) tables
can_moves p source target tables none =
    all_more (λ table. moved_table_refusal p source target table ≡ None) (CanMove p source target) (can_move p source target) tables (none_refuses (moved_table_refusal p source target) tables none)

module _ (p : Plain) (scopes : List Scope) (base : BaseState) (stands : StandsWith p scopes base) (knows : Knows p) (within : IsWithinLimits p)
    (moved : (table : List ℕ) → is_moved base.workflows table ≡ is_some (mover p table)) (rules : length base.topology.rules ≡ rule_count p)
    (tables_are : (keyspace : List ℕ) (state : KeyspaceState) → keyspace_at base.topology.keyspaces keyspace ≡ Some state → length state.tables ≡ table_count p keyspace)
    (workflow source target : List ℕ) (tables : List (List ℕ)) (distinct : IsDistinct same_text tables) where
  or_three : (a b d : Bool) → (a || (b || d)) ≡ (a || b || d)
  or_three true b d = refl
  or_three false true d = refl
  or_three false false d = refl

  same_full : has_keyspace p source ≡ true → has_keyspace p target ≡ true → moved_tables_refusal p source target tables ≡ None → is_full base source target tables ≡ create_is_full p source target tables
  same_full there_s there_t none =
      let (s, found_s) = some_from (keyspace_at base.topology.keyspaces source) (stands.topology.served.keyspaces source ∙ there_s) in
      let (g, found_g) = some_from (keyspace_at base.topology.keyspaces target) (stands.topology.served.keyspaces target ∙ there_t) in
      let room = same_room p base.topology stands.topology knows source target tables distinct (can_moves p source target tables none) s g found_s found_g rules
      (tables_are source s found_s) (tables_are target g found_g) (within.tables source) in
      ap (λ n. nat_le most_workflows n || is_some (reserve_refusal base.topology source target tables)) (same_count p base.workflows stands.workflows)
      ∙ ap (λ b. nat_le most_workflows (length p.lives) || b) room
      ∙ or_three (nat_le most_workflows (length p.lives)) _ _

  -- the tests from the watcher on, from the tables on, and from the sides on
  abbrev core_limits : Option Refusal
  core_limits = refuse_if (is_full base source target tables) full

  abbrev plain_limits : Option Refusal
  plain_limits = refuse_if (create_is_full p source target tables) full

  abbrev core_watcher : Option Refusal
  core_watcher = or_else (refuse_if (not (has_scope scopes (scope.Primary target))) no_watcher) core_limits

  abbrev plain_watcher : Option Refusal
  plain_watcher = or_else (watcher_refusal p target) plain_limits

  from_watcher : has_keyspace p source ≡ true → has_keyspace p target ≡ true → moved_tables_refusal p source target tables ≡ None → core_watcher ≡ plain_watcher
  from_watcher there_s there_t none =
      ap (λ b. or_else (refuse_if (not b) no_watcher) core_limits) (same_watchers target scopes ∙ ap (list_any (is_of_primary target)) (sym stands.scopes_are))
      ∙ ap (λ b. or_else (watcher_refusal p target) (refuse_if b full)) (same_full there_s there_t none)

  abbrev core_tables : Option Refusal
  core_tables = or_else (tables_refusal base source target tables) core_watcher

  abbrev plain_tables : Option Refusal
  plain_tables = or_else (moved_tables_refusal p source target tables) plain_watcher

  from_tables : has_keyspace p source ≡ true → has_keyspace p target ≡ true → core_tables ≡ plain_tables
  from_tables there_s there_t =
      ap (λ o. or_else o core_watcher) (same_tables p base stands.topology moved source target tables)
      ∙ or_else_same (moved_tables_refusal p source target tables) core_watcher plain_watcher (from_watcher there_s there_t)

  abbrev plain_sharded : Option Refusal
  plain_sharded = or_else (refuse_if (is_sharded p source) sharded_source) plain_tables

  abbrev core_sharded : Option Refusal
  core_sharded = or_else (refuse_if (has_shards base source) sharded_source) core_tables

  from_sharded : has_keyspace p source ≡ true → has_keyspace p target ≡ true → core_sharded ≡ plain_sharded
  from_sharded there_s there_t =
      ap (λ cuts. or_else (refuse_if (nat_lt 1 (shard_count cuts)) sharded_source) core_tables) (stands.primaries.cuts source)
      ∙ ap (or_else (refuse_if (is_sharded p source) sharded_source)) (from_tables there_s there_t)

  abbrev core_target : Option Refusal
  core_target = or_else (refuse_if (not (has_primaries base.primaries target)) no_keyspace) core_sharded

  abbrev plain_target : Option Refusal
  plain_target = or_else (refuse_if (not (has_keyspace p target)) no_keyspace) plain_sharded

  there : (keyspace : List ℕ) → refuse_if (not (has_keyspace p keyspace)) no_keyspace ≡ None → has_keyspace p keyspace ≡ true
  there keyspace e = not-false (has_keyspace p keyspace) (refuse_if-none (not (has_keyspace p keyspace)) no_keyspace e)

  from_target : has_keyspace p source ≡ true → core_target ≡ plain_target
  from_target there_s =
      ap (λ b. or_else (refuse_if (not b) no_keyspace) core_sharded) (stands.primaries.there target)
      ∙ or_else_same (refuse_if (not (has_keyspace p target)) no_keyspace) core_sharded plain_sharded (λ e. from_sharded there_s (there target e))

  abbrev core_source : Option Refusal
  core_source = or_else (refuse_if (not (has_primaries base.primaries source)) no_keyspace) core_target

  abbrev plain_source : Option Refusal
  plain_source = or_else (refuse_if (not (has_keyspace p source)) no_keyspace) plain_target

  from_source : core_source ≡ plain_source
  from_source =
      ap (λ b. or_else (refuse_if (not b) no_keyspace) core_target) (stands.primaries.there source)
      ∙ or_else_same (refuse_if (not (has_keyspace p source)) no_keyspace) core_target plain_target (λ e. from_target (there source e))

  abbrev behind : Option Refusal → Option Refusal
  behind o = or_else (refuse_if (length tables == 0) no_tables) (or_else (refuse_if (same_text source target) same_keyspace) o)

  pub same_refusal : create_refusal base scopes workflow source target tables ≡ plain.create_refusal p workflow source target tables
  same_refusal =
      ap (λ b. or_else (refuse_if b workflow_exists) (behind core_source)) (same_names p base.workflows stands.workflows workflow)
      ∙ ap (λ o. or_else (refuse_if (is_some (live_at p workflow)) workflow_exists) (behind o)) from_source

-- ---- what holds where no test refuses

pub record Passes (p : Plain) (workflow source target : List ℕ) (tables : List (List ℕ)) : Type 0 where
  pub free : live_at p workflow ≡ None
  pub there : has_keyspace p target ≡ true
  pub can : AllByRecursion (CanMove p source target) tables

module _ (p : Plain) (workflow source target : List ℕ) (tables : List (List ℕ)) where
  abbrev behind_tables : Option Refusal
  behind_tables = or_else (watcher_refusal p target) (refuse_if (create_is_full p source target tables) full)

  abbrev behind_sharded : Option Refusal
  behind_sharded = or_else (moved_tables_refusal p source target tables) behind_tables

  abbrev behind_target : Option Refusal
  behind_target = or_else (refuse_if (is_sharded p source) sharded_source) behind_sharded

  abbrev behind_source : Option Refusal
  behind_source = or_else (refuse_if (not (has_keyspace p target)) no_keyspace) behind_target

  abbrev behind_sides : Option Refusal
  behind_sides = or_else (refuse_if (not (has_keyspace p source)) no_keyspace) behind_source

  abbrev behind_number : Option Refusal
  behind_number = or_else (refuse_if (same_text source target) same_keyspace) behind_sides

  abbrev behind_name : Option Refusal
  behind_name = or_else (refuse_if (length tables == 0) no_tables) behind_number

  pub passes : plain.create_refusal p workflow source target tables ≡ None → Passes p workflow source target tables
  passes none =
      let (name, a) = or_else-none (refuse_if (is_some (live_at p workflow)) workflow_exists) behind_name none in
      let (number, b) = or_else-none (refuse_if (length tables == 0) no_tables) behind_number a in
      let (sides, d) = or_else-none (refuse_if (same_text source target) same_keyspace) behind_sides b in
      let (at_source, e) = or_else-none (refuse_if (not (has_keyspace p source)) no_keyspace) behind_source d in
      let (at_target, f) = or_else-none (refuse_if (not (has_keyspace p target)) no_keyspace) behind_target e in
      let (one, g) = or_else-none (refuse_if (is_sharded p source) sharded_source) behind_sharded f in
      let (each, h) = or_else-none (moved_tables_refusal p source target tables) behind_tables g in
      record {
        free = none_from (live_at p workflow) (refuse_if-none (is_some (live_at p workflow)) workflow_exists name);
        there = not-false (has_keyspace p target) (refuse_if-none (not (has_keyspace p target)) no_keyspace at_target);
        can = can_moves p source target tables each;
      }
