-- What a step and an undo write in the topology leads to one that stands for the next state.
use Rattle.std.proofs.Common.{◌≡◌, ℕ, ◌<◌, Bool, true, false, cond, eqb, List, Option, None, Some, refl, sym, ap, ◌∙◌, subst, eqb-true}
use Rattle.std.proofs.lemmas.Bool.{eqb-false}
use Rattle.mt_laws.proofs.StepUndoneLemmas.{nothing_done}
use Rattle.std.specs.Option.{option_map_or}
use Rattle.mt_model.specs.declared.entries.EntryKey.{EntryKey}
use Rattle.mt_model.specs.Part.{with_entries}
use Rattle.mt_model.specs.Topology.{TopologyState, value_of}
use Rattle.mt_plain.specs.Events.{Way}
use Rattle.mt_plain.specs.Plain.{Live, Plain, behind_last, has_part, last_step, live_at, next_step, part_owner, repeated_step, stands_done}
use Rattle.mt_plain.specs.Serve.{serve, served_by, served_entry, step_of_entry, types_by}
use Rattle.mt_laws.specs.Effects.{entry_undone}
use Rattle.mt_stands.proofs.PartLemmas.{part_entry}
use Rattle.mt_stands.specs.Keys as live
use Rattle.mt_stands.specs.Topologies.{TopologyStands}
use Rattle.mt_stands.specs.Base.{Workflows, workflow_at}
use Rattle.mt_stands.specs.Stands.{AreWorkflows, StandsFor, StandsForAny}
use Rattle.mt_stands.specs.Ways.{GivesBack}
use Rattle.mt_steps.specs.Entries.{recorded_of, step_entries}
use Rattle.mt_steps.specs.Plans.{number, step_at}
use Rattle.mt_steps.specs.Undo.{UndoState}
use Rattle.mt_workflow.specs.Workflows.{WorkflowState}
use Rattle.mt_refinement.proofs.EntryLemmas.{entries_joined, last_numbered, next_numbered, none_repeated}
use Rattle.mt_refinement.proofs.PlaceLemmas.{last_stands}
use Rattle.mt_stands.proofs.KnownLemmas.{some_is}

-- ---- the live workflow for which one stands

live_found : (p : Plain) (o : Option Live) (v : Option WorkflowState) (w : WorkflowState) → v ≡ Some w → StandsForAny p o v → (live : Live) × (o ≡ Some live) × StandsFor p live w
live_found p None None w e stands = absurd cc
live_found p None (Some v) w e stands = absurd stands
live_found p (Some live) None w e stands = absurd stands
live_found p (Some live) (Some v) w e stands = (live, refl, subst (StandsFor p live) (let same : v ≡ w = cc in same) stands)

pub live_for : (p : Plain) (workflows : Workflows) (name : List ℕ) (w : WorkflowState) → AreWorkflows p workflows → workflow_at workflows name ≡ Some w
    → (live : Live) × (live_at p name ≡ Some live) × StandsFor p live w
live_for p workflows name w are found = live_found p (live_at p name) (workflow_at workflows name) w found (are.each name)

pub stands_for : (p : Plain) (workflows : Workflows) (name : List ℕ) (w : WorkflowState) (v : Live) → AreWorkflows p workflows → workflow_at workflows name ≡ Some w → live_at p name ≡ Some v → StandsFor p v w
stands_for p workflows name w v are found is_live =
    let r = live_for p workflows name w are found in
    subst (λ (x : Live). StandsFor p x w) (some_is r.0 v (sym r.1 ∙ is_live)) r.2

-- ---- what is written

module _ (p q : Plain) (t : TopologyState) (w : WorkflowState) (v : Live) (for : StandsFor p v w) (way : Way) (within : next_step way < behind_last way) where
  pub step_leaves : TopologyStands q (with_entries t (live.step_entries w.kept v way.after (next_step way)))
      → TopologyStands q (with_entries t (step_entries w way.after (number (step_at (next_step way)))))
  step_leaves stands =
      subst (λ es. TopologyStands q (with_entries t es))
      (sym (ap (step_entries w way.after) (next_numbered way within) ∙ entries_joined p w v for way.after (next_step way))) stands

  pub undo_leaves : (log : UndoState) → GivesBack v w way log → eqb way.done 0 ≡ false → TopologyStands q (with_entries t (live.step_entries w.kept v way.before (last_step way)))
      → TopologyStands q (with_entries t (recorded_of w (number (step_at (last_step way))) log.entries))
  undo_leaves log gives some stands =
      subst (λ es. TopologyStands q (with_entries t es))
      (sym (ap (λ n. recorded_of w n log.entries) (last_numbered way within) ∙ by (eqb (last_step way) (repeated_step way)) refl ∙ entries_joined p w v for way.before (last_step way))) stands
    where
      -- of a refresh that is repeated, and so may stand done for some shards alone, nothing is recorded
      by : (b : Bool) → eqb (last_step way) (repeated_step way) ≡ b → recorded_of w (last_step way) log.entries ≡ step_entries w way.before (last_step way)
      by true b = none_repeated w way.before way (last_step way) (eqb-true (last_step way) (repeated_step way) b) log.entries
      by false b = gives.entries (last_step way) (last_stands way some (eqb-false (last_step way) (repeated_step way) b))

-- ---- a way of which no step stands done

pub closed_leaves : (p q : Plain) (t : TopologyState) (v : Live) (way : Way) → TopologyStands p t → ((key : EntryKey) → has_part v key ≡ true → part_owner p key ≡ Some v)
    → v.way ≡ Some way → eqb way.done 0 ≡ true
    → ((key : EntryKey) → served_entry q key ≡ cond (has_part v key) (entry_undone p.topology v way key) (served_entry p key)) → (key : EntryKey) → value_of t key ≡ served_entry q key
closed_leaves p q t v way stands owned opens none law key = stands.served.entries key ∙ by (has_part v key) refl ∙ sym (law key)
  where
    n : ℕ
    n = step_of_entry v key

    types : types_by v n ≡ way.before
    types =
        ap (λ o. option_map_or (λ (x : Way). cond (stands_done x n) x.after x.before) o v.switched) opens
        ∙ ap (λ b. cond b way.after way.before) (nothing_done way n (eqb-true way.done 0 none))

    either : (b : Bool) → served_by p.topology v key ≡ cond b (serve p.topology v way.before key) (served_by p.topology v key)
    either true = ap (λ ts. serve p.topology v ts key) types
    either false = refl

    by : (h : Bool) → has_part v key ≡ h → served_entry p key ≡ cond h (entry_undone p.topology v way key) (served_entry p key)
    by true h = part_entry p t v stands owned key h ∙ either (eqb (last_step way) n)
    by false h = refl
