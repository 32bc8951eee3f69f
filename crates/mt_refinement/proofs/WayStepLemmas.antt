-- What comes of a step, if each part of the controller stands for the next state.
use Rattle.std.proofs.Common.{◌≡◌, ℕ, true, List, ◌++◌, Some, sym, ap, ◌∙◌, subst}
use Rattle.std.proofs.lemmas.Bool.{or_right}
use Rattle.std.proofs.lemmas.List.Folds.{list_any-append}
use Rattle.std.specs.Map.{set_value}
use Rattle.mt_names.specs.Names.{same_text}
use Rattle.mt_model.specs.declared.entries.Scope.{Scope}
use Rattle.mt_model.specs.declared.entries.Scope.TheVariants as scope
use Rattle.mt_model.specs.Part.{with_entries}
use Rattle.mt_plain.specs.Plain.{Live, Plain, next_step}
use Rattle.mt_primary.specs.Primaries.{Primaries, primary_of, shards_of}
use Rattle.mt_watch.specs.Asking.{Answering}
use Rattle.mt_watch.specs.Scopes.{has_scope, same_scope}
use Rattle.mt_workflow.specs.Workflows.{WorkflowState}
use Rattle.mt_steps.specs.declared.log.OpenWay.{OpenWay}
use Rattle.mt_steps.specs.Entries.{step_entries}
use Rattle.mt_steps.specs.Plans.{number, step_at}
use Rattle.mt_steps.specs.Steps.{SidesState}
use Rattle.mt_steps.specs.Streams.{log_ends, workflow_stepped}
use Rattle.mt_laws.specs.WayBack.{IsReached}
use Rattle.mt_stands.specs.Topologies.{TopologyStands}
use Rattle.mt_stands.specs.Rows.{RowsStand}
use Rattle.mt_stands.specs.Stands.{ArePrimaries, AreWorkflows, StandsFor}
use Rattle.mt_stands.specs.Switching.{with_primaries, with_sides}
use Rattle.mt_stands.specs.Ways.{CoreState, CoreStands, WaysStand, open_at}
use Rattle.mt_refinement.proofs.OutcomeLemmas.{IsMade, SteppedBy}

-- ---- names, and watchers

-- what is kept of the open way of a workflow is found by the workflow's name
pub kept_at : (p : Plain) (old : CoreState) (name : List ℕ) (live : Live) (w : WorkflowState) (o : OpenWay) → StandsFor p live w → live.name ≡ name
    → open_at old.ways.opened w.name ≡ Some o → open_at old.ways.opened name ≡ Some o
kept_at p old name live w o for is_named = subst (λ n. open_at old.ways.opened n ≡ Some o) (sym for.sides.name ∙ is_named)

-- who watches a keyspace does so with more watchers before
pub still_watched : (more scopes : List Scope) (keyspace : List ℕ) → has_scope scopes (scope.Primary keyspace) ≡ true → has_scope (more ++ scopes) (scope.Primary keyspace) ≡ true
still_watched more scopes keyspace has =
    list_any-append (λ other. same_scope other (scope.Primary keyspace)) more scopes
    ∙ or_right (has_scope more (scope.Primary keyspace)) (has_scope scopes (scope.Primary keyspace)) has

-- ---- a step that was done

-- the primaries with those of the sides
abbrev pub primaries_with : CoreState → WorkflowState → SidesState → Primaries
primaries_with old w sides = with_primaries old.base.primaries w sides.source sides.targets

-- what stands for a state once all its parts do
pub sides_stand : (q : Plain) (scopes : List Scope) (old : CoreState) (w : WorkflowState) (sides : SidesState) (o : OpenWay) → IsReached q → q.scopes ≡ scopes
    → TopologyStands q sides.topology → ArePrimaries q (primaries_with old w sides) × RowsStand q (primary_of (primaries_with old w sides))
    → AreWorkflows q (set_value (same_text w.name) old.base.workflows sides.workflow)
    → WaysStand q (with_sides old w sides o).base (with_sides old w sides o).ways → CoreStands q scopes (with_sides old w sides o)
sides_stand q scopes old w sides o reached are topology primaries workflows ways = record {
  base = record { reached = reached; scopes_are = are; topology = topology; rows = primaries.1; primaries = primaries.0; workflows = workflows };
  ways = ways;
}

module _ (q : Plain) (scopes mine : List Scope) (may_answer : Answering) (old new : CoreState) (workflow : List ℕ) (m : IsMade old workflow (SteppedBy old mine may_answer) new) where
  abbrev pub kept : OpenWay
  kept = record { number = m.o.number; log = m.log }

  abbrev pub stepped : (ends : List ℕ) → WorkflowState
  stepped ends = workflow_stepped m.w m.way (step_at (next_step m.way)) ends

  pub step_stands : IsReached q → q.scopes ≡ scopes
      → TopologyStands q (with_entries old.base.topology (step_entries m.w m.way.after (number (step_at (next_step m.way)))))
      → ArePrimaries q (primaries_with old m.w m.sides) × RowsStand q (primary_of (primaries_with old m.w m.sides))
      → (ends : List ℕ) → log_ends m.way (primary_of old.base.primaries m.w.source 0) (shards_of old.base.primaries m.w.target).each ≡ ends
      → AreWorkflows q (set_value (same_text m.w.name) old.base.workflows (stepped ends))
      → WaysStand q (with_sides old m.w m.sides kept).base (with_sides old m.w m.sides kept).ways → CoreStands q scopes new
  step_stands reached are topology primaries ends ends_are workflows ways =
      subst (CoreStands q scopes) (sym m.made)
      (sides_stand q scopes old m.w m.sides kept reached are (subst (TopologyStands q) (sym m.is.topology) topology) primaries
      (subst (λ v. AreWorkflows q (set_value (same_text m.w.name) old.base.workflows v)) (sym (m.is.workflow ∙ ap stepped ends_are)) workflows) ways)
