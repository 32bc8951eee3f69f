-- A denial stands in the part of a live workflow, for which a workflow of the base stands.
use Rattle.std.proofs.Common.{◌≡◌, ℕ, true, false, List, Option, None, Some, refl, sym, ap, ◌∙◌}
use Rattle.std.proofs.lemmas.Bool.{true≢false, and_parts}
use Rattle.std.specs.Option.{option_map_or}
use Rattle.mt_names.specs.Names.{same_text}
use Rattle.mt_model.specs.declared.entries.EntryKey.{EntryKey}
use Rattle.mt_model.specs.declared.entries.EntryKey.TheVariants as about
use Rattle.mt_model.specs.Topology.{is_denied, value_of}
use Rattle.mt_plain.specs.Plain.{Live, among, has_part, is_side, live_at, moves, part_owner}
use Rattle.mt_plain.specs.Serve.{mark_in, served_by}
use Rattle.mt_workflow.specs.Workflows.{WorkflowState}
use Rattle.mt_stands.specs.Base.{BaseState, workflow_at}
use Rattle.mt_stands.specs.Stands.{HasState}
use Rattle.mt_stands.specs.Workflows.{is_moved}
use Rattle.mt_refinement.proofs.FoundLemmas.{state_of_live, value_any}

pub denied_moved : (base : BaseState) (h : HasState base) (keyspace table : List ℕ) → is_denied h.state.topology.keyspaces keyspace table ≡ false
    → ((key : EntryKey) (w : Live) → part_owner h.state key ≡ Some w → (has_part w key ≡ true) × (live_at h.state w.name ≡ Some w))
    → is_denied base.topology.keyspaces keyspace table ≡ true → is_moved base.workflows table ≡ true
denied_moved base h keyspace table allowed owner denied =
    by (part_owner h.state (about.Denied keyspace table)) refl (sym (ap mark_in (h.stands.topology.served.entries (about.Denied keyspace table))) ∙ denied)
  where
    by : (o : Option Live) → part_owner h.state (about.Denied keyspace table) ≡ o
        → mark_in (option_map_or (λ w. served_by h.state.topology w (about.Denied keyspace table)) o (value_of h.state.topology (about.Denied keyspace table))) ≡ true → is_moved base.workflows table ≡ true
    by None is e = absurd (true≢false (sym e ∙ allowed))
    by (Some live) is e =
        let (part, at) = owner (about.Denied keyspace table) live is in
        let (moved, side) = and_parts (moves live table) (is_side live keyspace) part in
        let (w, found, stands) = state_of_live h.state (live_at h.state live.name) (workflow_at base.workflows live.name) live (h.stands.workflows.each live.name) at in
        value_any (same_text live.name) (λ (v : WorkflowState). among v.tables table) base.workflows w found (ap (λ tables. among tables table) (sym stands.sides.tables) ∙ moved)
