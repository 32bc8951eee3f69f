-- What comes of an undo, if each part of the controller stands for the next state.
use Rattle.std.proofs.Common.{◌≡◌, Bool, true, false, eqb, List, None, refl, sym, subst}
use Rattle.std.specs.Map.{set_value}
use Rattle.mt_names.specs.Names.{same_text}
use Rattle.mt_model.specs.declared.entries.Scope.{Scope}
use Rattle.mt_model.specs.Part.{with_entries}
use Rattle.mt_plain.specs.Events.{Way}
use Rattle.mt_plain.specs.Plain.{Plain, last_step}
use Rattle.mt_primary.specs.Primaries.{Primaries, primary_of}
use Rattle.mt_workflow.specs.Workflows.{WorkflowState}
use Rattle.mt_steps.specs.declared.log.OpenWay.{OpenWay}
use Rattle.mt_steps.specs.Entries.{recorded_of}
use Rattle.mt_steps.specs.Plans.{number, step_at}
use Rattle.mt_steps.specs.Steps.{IsUndone, SidesState}
use Rattle.mt_steps.specs.Streams.{workflow_undone}
use Rattle.mt_steps.specs.Undo.{UndoState}
use Rattle.mt_laws.specs.WayBack.{IsReached}
use Rattle.mt_stands.specs.Topologies.{TopologyStands}
use Rattle.mt_stands.specs.Rows.{RowsStand}
use Rattle.mt_refinement.proofs.SameLemmas.{primaries_same}
use Rattle.mt_stands.specs.Stands.{ArePrimaries, AreWorkflows}
use Rattle.mt_stands.specs.Switching.{Undoes, sides_of, with_sides}
use Rattle.mt_stands.specs.Ways.{CoreState, CoreStands, WaysStand}
use Rattle.mt_refinement.proofs.WayStepLemmas.{primaries_with, sides_stand}

-- ---- what is undone

-- which of the two it is, by whether any step stands done
pub undone_either : (q : Plain) (scopes : List Scope) (made : CoreState) (way : Way) (old new : SidesState) (kept now : UndoState) → Undoes (eqb way.done 0) way old kept new now
    → (eqb way.done 0 ≡ false → IsUndone way (step_at (last_step way)) old kept new now → CoreStands q scopes made)
    → (eqb way.done 0 ≡ true → new ≡ record old { workflow = record old.workflow { way = None } } → now ≡ kept → CoreStands q scopes made) → CoreStands q scopes made
undone_either q scopes made way old new kept now is last none = by (eqb way.done 0) last none is
  where
    by : (b : Bool) → (b ≡ false → IsUndone way (step_at (last_step way)) old kept new now → CoreStands q scopes made)
        → (b ≡ true → new ≡ record old { workflow = record old.workflow { way = None } } → now ≡ kept → CoreStands q scopes made) → Undoes b way old kept new now → CoreStands q scopes made
    by true last none is = none refl is.0 is.1
    by false last none is = last refl is

module _ (q : Plain) (scopes : List Scope) (old : CoreState) (w : WorkflowState) (way : Way) (o : OpenWay) where
  pub undo_stands : (sides : SidesState) (log : UndoState) → IsUndone way (step_at (last_step way)) (sides_of old w) o.log sides log → IsReached q → q.scopes ≡ scopes
      → TopologyStands q (with_entries old.base.topology (recorded_of w (number (step_at (last_step way))) o.log.entries))
      → ArePrimaries q (primaries_with old w sides) × RowsStand q (primary_of (primaries_with old w sides))
      → AreWorkflows q (set_value (same_text w.name) old.base.workflows (workflow_undone w way (step_at (last_step way)) o.log.slots))
      → WaysStand q (with_sides old w sides (record { number = o.number; log = log })).base (with_sides old w sides (record { number = o.number; log = log })).ways
      → CoreStands q scopes (with_sides old w sides (record { number = o.number; log = log }))
  undo_stands sides log is reached are topology primaries workflows ways =
      sides_stand q scopes old w sides (record { number = o.number; log = log }) reached are (subst (TopologyStands q) (sym is.topology) topology) primaries
      (subst (λ v. AreWorkflows q (set_value (same_text w.name) old.base.workflows v)) (sym is.workflow) workflows) ways

  -- the sides with the way closed
  abbrev pub closed : SidesState
  closed = record (sides_of old w) { workflow = record w { way = None } }

  pub closed_stands : IsReached q → q.scopes ≡ scopes → TopologyStands q old.base.topology → ArePrimaries q old.base.primaries × RowsStand q (primary_of old.base.primaries)
      → AreWorkflows q (set_value (same_text w.name) old.base.workflows (record w { way = None }))
      → WaysStand q (with_sides old w closed o).base (with_sides old w closed o).ways
      → CoreStands q scopes (with_sides old w closed o)
  closed_stands reached are topology primaries workflows ways =
      sides_stand q scopes old w closed o reached are topology
      (subst (λ (ps : Primaries). ArePrimaries q ps × RowsStand q (primary_of ps)) (sym (primaries_same old.base.primaries w)) primaries) workflows ways
