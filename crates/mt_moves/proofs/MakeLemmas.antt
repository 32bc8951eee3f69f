-- Create: what a new workflow keeps, and what becomes of the base that it is made in.
use Rattle.std.proofs.Common.{◌≡◌, ℕ, true, false, List, [], ◌∷◌, ◌++◌, map, Option, None, Some, is_some, Result, Ok, Err, refl, ap, sym, subst, ◌∙◌}
use Rattle.std.specs.Prelude.{⊤}
use Rattle.indexmap.proofs.CallerLemmas.{insert_entry-new}
use Rattle.indexmap.specs.IndexMap.{IndexMap, insert_entry}
use Rattle.mt_names.specs.declared.keys.RuleKey.{RuleKey}
use Rattle.mt_names.specs.declared.keys.RuleTarget.{RuleTarget}
use Rattle.mt_names.specs.Names.{same_text}
use Rattle.mt_names.specs.Shards.{Cuts, ranges_of}
use Rattle.mt_names.proofs.EntryLemmas.{none_from}
use Rattle.mt_model.specs.declared.entries.EntryKey.{EntryKey}
use Rattle.mt_model.specs.declared.entries.EntryKey.TheVariants as about
use Rattle.mt_model.specs.declared.entries.Scope.{Scope}
use Rattle.mt_model.specs.declared.entries.Scope.TheVariants as scope
use Rattle.mt_model.specs.Part.{part_keys, with_place, with_places, without_places}
use Rattle.mt_model.specs.Topology.{KeyspaceState, Rules, TopologyState, cuts_at, keyspace_at, rule_at}
use Rattle.mt_model.proofs.PlaceLemmas.{same-with_places}
use Rattle.mt_model.proofs.TopologyLemmas.{rule_at-with_rule_place}
use Rattle.mt_event.specs.declared.reason.Reason.{Reason}
use Rattle.mt_event.specs.declared.reason.Reason.TheVariants as reason
use Rattle.mt_event.specs.Reasons.{done_by}
use Rattle.mt_topology.specs.Part.{reserve_refusal}
use Rattle.mt_watch.specs.Asking.{Answering}
use Rattle.mt_watch.specs.Scopes.{has_scope}
use Rattle.mt_workflow.specs.Workflows.{WorkflowState, kept_of, keys_of_rules, new_lane, new_workflow}
use Rattle.mt_primary.proofs.PrimariesLemmas.{with_shards-same}
use Rattle.mt_primary.specs.Primaries.{Primaries, shards_of, with_shards}
use Rattle.mt_stands.specs.Base.{BaseState, Workflows, workflow_at}
use Rattle.mt_stands.specs.Workflows.{CreatesSet, change_of, create_refusal, new_of}
use Rattle.mt_moves.specs.Create.{Makes, MakesAtTarget, Prepares}

-- ---- places change no rule

placed-rule : (t : TopologyState) (k : EntryKey) (key : RuleKey) → rule_at (with_place t k).rules key ≡ rule_at t.rules key
placed-rule t (about.Rule own) key = rule_at-with_rule_place t.rules own key
placed-rule t (about.Denied keyspace table) key = refl
placed-rule t (about.Present keyspace table) key = refl

placed-rules : (t : TopologyState) (keys : List EntryKey) (key : RuleKey) → rule_at (with_places t keys).rules key ≡ rule_at t.rules key
placed-rules t [] key = refl
placed-rules t (k ∷ ks) key = placed-rules (with_place t k) ks key ∙ placed-rule t k key

-- what is kept of a key
abbrev kept_at : Rules → RuleKey → RuleKey × Option RuleTarget
kept_at rules key = (key, rule_at rules key)

kept-same : (rules other : Rules) → ((key : RuleKey) → rule_at rules key ≡ rule_at other key) → (keys : List RuleKey) → map (kept_at rules) keys ≡ map (kept_at other) keys
kept-same rules other same [] = refl
kept-same rules other same (key ∷ keys) =
    let beside : Option RuleTarget → Rules = λ r. (key, r) ∷ map (kept_at rules) keys in
    ap beside (same key) ∙ ap (λ l. kept_at other key ∷ l) (kept-same rules other same keys)

-- a new workflow is the same once its part has its places
pub new-placed : (t : TopologyState) (keys : List EntryKey) (name source target : List ℕ) (tables : List (List ℕ)) (position : ℕ)
    → new_workflow (with_places t keys) name source target tables position ≡ new_workflow t name source target tables position
new-placed t keys name source target tables position =
    let keeping : Rules → Cuts → WorkflowState = λ kept cuts. record (new_workflow t name source target tables position) { kept = kept; lanes = map (new_lane tables position) (ranges_of cuts) } in
    ap (λ kept. keeping kept (cuts_at (with_places t keys).keyspaces target)) (kept-same (with_places t keys).rules t.rules (placed-rules t keys) (keys_of_rules source target tables))
    ∙ ap (keeping (kept_of t.rules source target tables)) ((same-with_places t keys).shards target)

-- ---- both sides are there

pub sides-there : (t : TopologyState) (source target : List ℕ) (tables : List (List ℕ)) → reserve_refusal t source target tables ≡ None
    → (is_some (keyspace_at t.keyspaces source) ≡ true) × (is_some (keyspace_at t.keyspaces target) ≡ true)
sides-there t source target tables none = by (keyspace_at t.keyspaces source) refl (keyspace_at t.keyspaces target) refl
  where
    by : (s : Option KeyspaceState) → keyspace_at t.keyspaces source ≡ s → (g : Option KeyspaceState) → keyspace_at t.keyspaces target ≡ g
        → (is_some (keyspace_at t.keyspaces source) ≡ true) × (is_some (keyspace_at t.keyspaces target) ≡ true)
    by None at_source g at_target = absurd (let h = rw at_source at none in cc)
    by (Some s) at_source None at_target = absurd (let h = rw (at_source, at_target) at none in cc)
    by (Some s) at_source (Some g) at_target = (ap is_some at_source, ap is_some at_target)

-- ---- the primaries of the target

-- as they were, where they aren't made
pub not-prepared : (scopes : List Scope) (may_answer : Answering) (made : WorkflowState) (old new : Primaries) (r : Reason)
    → has_scope scopes (scope.Primary made.target) ≡ true → MakesAtTarget scopes may_answer made (change_of made) old (Err r) new → Prepares scopes may_answer made old (Err r) new
not-prepared scopes may_answer made old new r watched makes = by r makes
  where
    kept : with_shards old made.target (shards_of old made.target).each ≡ old
    kept = with_shards-same old made.target

    by : (r : Reason) → MakesAtTarget scopes may_answer made (change_of made) old (Err r) new → Prepares scopes may_answer made old (Err r) new
    by reason.Memory (each, same, is) = is ∙ ap (with_shards old made.target) same ∙ kept
    by (reason.WatcherRefused index) (each, (asks, same), is) = (asks, is ∙ ap (with_shards old made.target) same ∙ kept)
    by reason.NoWatcher (each, (lacks, same), is) = absurd (let h = sym watched ∙ lacks in cc)
    by other (each, makes, is) = makes

-- ---- the whole

-- a set that no test refuses is created as its workflow is made
pub made-set : (base : BaseState) (scopes : List Scope) (may_answer : Answering) (workflow source target : List ℕ) (tables : List (List ℕ)) (placed : TopologyState) (result : Result ⊤ Reason) (new : BaseState)
    → create_refusal base scopes workflow source target tables ≡ None
    → placed ≡ with_places base.topology (part_keys source target tables)
    → without_places (with_places base.topology (part_keys source target tables)) (part_keys source target tables) ≡ base.topology
    → Makes scopes may_answer (new_of base workflow source target tables) (record base { topology = placed }) result new
    → CreatesSet base scopes may_answer workflow source target tables (done_by result) new
made-set base scopes may_answer workflow source target tables placed result new none is back makes = by result (subst family is makes)
  where
    over : TopologyState → BaseState
    over t = record base { topology = t }

    family : TopologyState → Type 0
    family t = Makes scopes may_answer (new_of base workflow source target tables) (over t) result new

    by : (result : Result ⊤ Reason) → Makes scopes may_answer (new_of base workflow source target tables) (over (with_places base.topology (part_keys source target tables))) result new
        → CreatesSet base scopes may_answer workflow source target tables (done_by result) new
    by (Ok is-done) (notice, asks, made) = (none, (notice, asks, made))
    by (Err reason.Memory) same = (none, same ∙ ap over back)
    by (Err (reason.WatcherRefused index)) (asks, same) = (none, asks, same ∙ ap over back)
    by other makes = absurd makes

-- the new workflow goes last
pub workflow_pushed : {S : Type 0} (m : IndexMap (List ℕ) WorkflowState S) (workflows : Workflows) (name copy : List ℕ) (w made : WorkflowState) → m.entries ≡ workflows → copy ≡ name → w ≡ made → is_some (workflow_at workflows name) ≡ false
    → insert_entry same_text m.entries copy w ≡ workflows ++ (name, made) ∷ []
workflow_pushed m workflows name copy w made kept copied is absent =
    ap (λ n. insert_entry same_text m.entries n w) copied ∙ ap (insert_entry same_text m.entries name) is
    ∙ insert_entry-new same_text m name made (none_from (workflow_at m.entries name) (ap (λ es. is_some (workflow_at es name)) kept ∙ absent))
    ∙ ap (λ es. es ++ (name, made) ∷ []) kept
