-- A step, and an undo, between the primaries of a workflow's sides.
use Rattle.std.proofs.Common.{◌≡◌, true, false, List, Some, None, Result, unwrap_or, subst, refl, sym, ap, ◌∙◌}
use Rattle.std.specs.Prelude.{⊤, ◌==◌}
use Rattle.mt_names.specs.Types.{no_types}
use Rattle.mt_model.specs.declared.entries.Scope.{Scope}
use Rattle.mt_model.specs.Topology.{TopologyState}
use Rattle.mt_journal.specs.declared.entry.JournalEntry.{JournalEntry}
use Rattle.mt_plain.specs.Events.{Way}
use Rattle.mt_plain.specs.Plain.{last_step, next_step}
use Rattle.mt_primary.specs.Primary.{PrimaryState}
use Rattle.mt_primary.proofs.PrimariesLemmas.{with_primary-same, with_shards-same}
use Rattle.mt_primary.specs.Primaries.{Primaries, primary_of, shards_of, with_shards}
use Rattle.mt_steps.specs.declared.fault.StepFault.{StepFault}
use Rattle.mt_steps.specs.declared.log.OpenWay.{OpenWay}
use Rattle.mt_steps.specs.declared.step.Step.{Step}
use Rattle.mt_steps.specs.Plans.{step_at}
use Rattle.mt_steps.specs.Steps.{IsUndone, SidesState, Steps, open_way}
use Rattle.mt_steps.specs.Undo.{UndoState}
use Rattle.mt_watch.specs.Asking.{Answering}
use Rattle.mt_workflow.specs.Workflows.{WorkflowState}
use Rattle.mt_stands.specs.Switching.{Undoes, with_primaries}
use Rattle.mt_moves.specs.Ways.{StepsBetween, UndoesBetween, sides_between}

-- the way that is open
pub way-is : (w : WorkflowState) (way : Way) → w.way ≡ Some way → open_way w ≡ way
way-is w way has_way = ap (λ o. unwrap_or o (record { back = false; shards = 1; before = no_types; after = no_types; done = 0; undoing = false })) has_way

-- where no step stands done, the way alone is closed
pub closed : (t : TopologyState) (primaries : Primaries) (w new_w : WorkflowState) (way : Way) (journal : List JournalEntry) (o : OpenWay)
    → (way.done == 0) ≡ true → new_w ≡ record w { way = None }
    → UndoesBetween t primaries w way journal o t primaries new_w journal o
closed t primaries w new_w way journal o none is =
    let old = sides_between t primaries w journal in
    let sides : SidesState = record old { workflow = record w { way = None } } in
    let stays : primaries ≡ with_primaries primaries w sides.source sides.targets =
    sym (ap (λ ps. with_shards ps w.target (shards_of primaries w.target).each) (with_primary-same primaries w.source 0) ∙ with_shards-same primaries w.target) in (
      sides,
      o.log,
      subst (λ b. Undoes b way old o.log sides o.log) (sym none) (refl, refl),
      refl,
      stays,
      is,
      refl,
      refl,
    )

-- the primaries of both sides are worked on
module _ (t : TopologyState) (ps : Primaries) (w : WorkflowState) (journal : List JournalEntry) (source : PrimaryState) (targets : List PrimaryState)
    (source_is : source ≡ primary_of ps w.source 0) (targets_are : targets ≡ (shards_of ps w.target).each) where
  sides-are : record { topology = t; source = source; targets = targets; workflow = w; journal = journal } ≡ sides_between t ps w journal
  sides-are =
      ap (λ p. record { topology = t; source = p; targets = targets; workflow = w; journal = journal }) source_is
      ∙ ap (λ each. record { topology = t; source = primary_of ps w.source 0; targets = each; workflow = w; journal = journal }) targets_are

  pub stepped : (scopes : List Scope) (may_answer : Answering) (way : Way) (o : OpenWay) (step : Step) (result : Result ⊤ StepFault) (sides : SidesState) (log : UndoState) (new_ps : Primaries)
      → w.way ≡ Some way → step ≡ step_at (next_step way) → new_ps ≡ with_primaries ps w sides.source sides.targets
      → Steps scopes may_answer o.number (open_way w) step (record { topology = t; source = source; targets = targets; workflow = w; journal = journal }) o.log result sides log
      → StepsBetween scopes may_answer t ps w way journal o result sides.topology new_ps sides.workflow sides.journal (record { number = o.number; log = log })
  stepped scopes may_answer way o step result sides log new_ps has_way next primaries did = (
    sides,
    log,
    subst (λ from. Steps scopes may_answer o.number way (step_at (next_step way)) from o.log result sides log) sides-are
        (subst (λ n. Steps scopes may_answer o.number way n (record { topology = t; source = source; targets = targets; workflow = w; journal = journal }) o.log result sides log) next
        (subst (λ v. Steps scopes may_answer o.number v step (record { topology = t; source = source; targets = targets; workflow = w; journal = journal }) o.log result sides log) (way-is w way has_way) did)),
    refl,
    primaries,
    refl,
    refl,
    refl,
  )

  pub undone : (way : Way) (o : OpenWay) (sides : SidesState) (log : UndoState) (new_ps : Primaries)
      → w.way ≡ Some way → (way.done == 0) ≡ false → new_ps ≡ with_primaries ps w sides.source sides.targets
      → IsUndone (open_way w) (step_at (last_step (open_way w))) (record { topology = t; source = source; targets = targets; workflow = w; journal = journal }) o.log sides log
      → UndoesBetween t ps w way journal o sides.topology new_ps sides.workflow sides.journal (record { number = o.number; log = log })
  undone way o sides log new_ps has_way some primaries did = (
    sides,
    log,
    subst (λ none. Undoes none way (sides_between t ps w journal) o.log sides log) (sym some)
        (subst (λ from. IsUndone way (step_at (last_step way)) from o.log sides log) sides-are
        (subst (λ v. IsUndone v (step_at (last_step v)) (record { topology = t; source = source; targets = targets; workflow = w; journal = journal }) o.log sides log) (way-is w way has_way) did)),
    refl,
    primaries,
    refl,
    refl,
    refl,
  )
