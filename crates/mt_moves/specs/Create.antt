-- What becomes of a base as a workflow is created, step by step (this profile's own).
use Rattle.std.specs.Prelude.{◌≡◌, ◌≢◌, ◌<◌, ⊤, ℕ, true, false, List, ◌∷◌, [], ◌++◌, None, Result, Ok, Err}
use Rattle.mt_names.specs.Types.{no_types}
use Rattle.mt_model.specs.declared.entries.Entry.{Entry}
use Rattle.mt_model.specs.declared.entries.Scope.{Scope}
use Rattle.mt_model.specs.declared.entries.Scope.TheVariants as scope
use Rattle.mt_model.specs.Part.{part_keys, with_entries, with_places, without_places}
use Rattle.mt_model.specs.Topology.{cuts_at}
use Rattle.mt_event.specs.declared.reason.Reason.{Reason}
use Rattle.mt_event.specs.declared.reason.Reason.TheVariants as reason
use Rattle.mt_plain.specs.Plain.{among, each_once}
use Rattle.mt_primary.specs.Primary.{PrimaryState, has_table}
use Rattle.mt_watch.specs.Asking.{Answering, AsksEach}
use Rattle.mt_watch.specs.declared.fault.WatchersFault.TheVariants as watchers
use Rattle.mt_watch.specs.Scopes.{has_scope}
use Rattle.mt_workflow.specs.Workflows.{WorkflowState, live_of}
use Rattle.mt_stands.specs.Keys.{part_entries}
use Rattle.mt_primary.specs.Primaries.{Primaries, count_of, has_primaries, primary_of, shards_of, with_all, with_shards}
use Rattle.mt_stands.specs.Base.{BaseState}
use Rattle.mt_stands.specs.Workflows.{change_of, create_refusal, target_made}
use Rattle.mt_moves.specs.Target.{MakesTarget}

-- a set of tables can be created where no test refuses it: no primary of the target has one of them, and places made for the part and taken
-- back leave the topology as it was; the primaries have the shards that the topology has
pub record CanCreate (base : BaseState) (scopes : List Scope) (workflow source target : List ℕ) (tables : List (List ℕ)) : Type 0 where
  pub cuts : (keyspace : List ℕ) → (shards_of base.primaries keyspace).cuts ≡ cuts_at base.topology.keyspaces keyspace
  pub absent : create_refusal base scopes workflow source target tables ≡ None
      → (shard : ℕ) → shard < count_of base.primaries target → (table : List ℕ) → among tables table ≡ true
      → has_table (primary_of base.primaries target shard) table ≡ false
  pub back : create_refusal base scopes workflow source target tables ≡ None
      → without_places (with_places base.topology (part_keys source target tables)) (part_keys source target tables) ≡ base.topology

-- what no test refuses: both sides have primaries, a watcher has the target's, none of which has one of the tables, and each of these is
-- named once
pub record IsReady (scopes : List Scope) (primaries : Primaries) (source target : List ℕ) (tables : List (List ℕ)) : Type 0 where
  pub apart : source ≢ target
  pub read : has_primaries primaries source ≡ true
  pub written : has_primaries primaries target ≡ true
  pub watched : has_scope scopes (scope.Primary target) ≡ true
  pub once : each_once tables ≡ tables
  pub absent : (shard : ℕ) → shard < count_of primaries target → (table : List ℕ) → among tables table ≡ true
      → has_table (primary_of primaries target shard) table ≡ false

-- the primaries of a workflow's target have its tables, or are as they were
abbrev pub MakesAtTarget : List Scope → Answering → WorkflowState → (change : List Entry) → Primaries → Result ⊤ Reason → Primaries → Type 0
MakesAtTarget scopes may_answer w change old result new =
    (each : List PrimaryState) × MakesTarget scopes may_answer w change (shards_of old w.target).each result each
    × (new ≡ with_shards old w.target each)

-- the primaries of a new workflow's target have its tables; or all primaries are as they were, if there is no memory or the watchers refuse
abbrev pub Prepares : List Scope → Answering → (made : WorkflowState) → Primaries → Result ⊤ Reason → Primaries → Type 0
Prepares scopes may_answer made old (Ok done) new =
    (notice : List Entry) × AsksEach scopes may_answer (scope.Primary made.target) (change_of made) (Ok notice)
    × (new ≡ with_all old made.target (target_made made notice))
Prepares scopes may_answer made old (Err reason.Memory) new = new ≡ old
Prepares scopes may_answer made old (Err (reason.WatcherRefused index)) new =
    AsksEach scopes may_answer (scope.Primary made.target) (change_of made) (Err (watchers.Refused index)) × (new ≡ old)
Prepares scopes may_answer made old (Err other) new = ⊥

-- the part of a workflow is written over its places, its tables are at the primaries of its target, and it is live; or primaries and
-- workflows are as they were, and the part's places that hold nothing are gone
abbrev pub Makes : List Scope → Answering → (made : WorkflowState) → BaseState → Result ⊤ Reason → BaseState → Type 0
Makes scopes may_answer made old (Ok is-done) new =
    (notice : List Entry) × AsksEach scopes may_answer (scope.Primary made.target) (change_of made) (Ok notice)
    × (new ≡ record {
      topology = with_entries old.topology (part_entries made.kept (live_of made) no_types);
      primaries = with_all old.primaries made.target (target_made made notice);
      workflows = old.workflows ++ (made.name, made) ∷ [];
    })
Makes scopes may_answer made old (Err reason.Memory) new =
    new ≡ record old { topology = without_places old.topology (part_keys made.source made.target made.tables) }
Makes scopes may_answer made old (Err (reason.WatcherRefused index)) new =
    AsksEach scopes may_answer (scope.Primary made.target) (change_of made) (Err (watchers.Refused index))
    × (new ≡ record old { topology = without_places old.topology (part_keys made.source made.target made.tables) })
Makes scopes may_answer made old other new = ⊥
