-- A workflow of a base, and the live workflow for which it stands.
use Rattle.std.proofs.Common.{◌≡◌, ◌≢◌, ℕ, ◌<◌, true, All, List, Some, is_some, refl, sym, ap, ◌∙◌, subst}
use Rattle.std.proofs.lemmas.Bool.{and_from, or_left, or_right}
use Rattle.mt_names.specs.Names.{same_text}
use Rattle.mt_names.proofs.SameLemmas.{same_text_decides}
use Rattle.mt_model.specs.declared.entries.EntryKey.{EntryKey}
use Rattle.mt_model.specs.declared.entries.EntryKey.TheVariants as about
use Rattle.mt_model.specs.Topology.{has_place, is_present}
use Rattle.mt_plain.specs.Plain.{Live, among, has_keyspace, has_part, moves, part_owner}
use Rattle.mt_plain.specs.Serve.{has_table}
use Rattle.mt_primary.specs.Primary as primary
use Rattle.mt_laws.specs.Changes.{HasSides}
use Rattle.mt_laws.specs.Reached.{IsInPlace}
use Rattle.mt_stands.specs.Keys.{keys_of_part}
use Rattle.mt_workflow.specs.Workflows.{WorkflowState, live_of}
use Rattle.mt_primary.specs.Primaries.{count_of, has_primaries, primary_of}
use Rattle.mt_stands.specs.Base.{BaseState}
use Rattle.mt_stands.specs.Stands.{HasState, StandsFor}
use Rattle.mt_refinement.proofs.FactTableLemmas.{table_is}

pub same_keys : (v w : Live) → HasSides v w → keys_of_part v ≡ keys_of_part w
same_keys v w same = let (s, t, n) : (v.source ≡ w.source) × (v.target ≡ w.target) × (v.tables ≡ w.tables) = (same.source, same.target, same.tables) in rw (s, t, n) refl

module _ (base : BaseState) (h : HasState base) (live : Live) (w : WorkflowState) (stands : StandsFor h.state live w) (in_place : IsInPlace h.state.topology live) where
  keyspace_there : (a b : List ℕ) → a ≡ b → has_keyspace h.state a ≡ true → has_primaries base.primaries b ≡ true
  keyspace_there a b same there = h.stands.primaries.there b ∙ ap (has_keyspace h.state) (sym same) ∙ there

  pub source_there : has_primaries base.primaries w.source ≡ true
  source_there = keyspace_there live.source w.source stands.sides.source in_place.sides.source

  pub target_there : has_primaries base.primaries w.target ≡ true
  target_there = keyspace_there live.target w.target stands.sides.target in_place.sides.target

  pub two_sides : w.source ≢ w.target
  two_sides e = in_place.sides.apart (stands.sides.source ∙ e ∙ sym stands.sides.target)

  pub part_places : All (λ key. has_place base.topology key ≡ true) (keys_of_part live) → All (λ key. has_place base.topology key ≡ true) (keys_of_part (live_of w))
  part_places all = subst (All (λ key. has_place base.topology key ≡ true)) (same_keys live (live_of w) stands.sides) all

  moved : (table : List ℕ) → among w.tables table ≡ true → moves live table ≡ true
  moved table is = ap (λ tables. among tables table) stands.sides.tables ∙ is

  pub source_has : 0 < count_of base.primaries w.source → (table : List ℕ) → among w.tables table ≡ true → primary.has_table (primary_of base.primaries w.source 0) table ≡ true
  source_has within table is =
      h.stands.primaries.tables w.source 0 within table ∙ ap (λ k. has_table h.state k table) (sym stands.sides.source) ∙ table_is h.state live.source table
      ∙ or_right (is_some (part_owner h.state (about.Present live.source table))) (is_present h.state.topology.keyspaces live.source table) (in_place.at_source table (moved table is))

  pub target_has : ((key : EntryKey) → has_part live key ≡ true → part_owner h.state key ≡ Some live) → (n : ℕ) → n < count_of base.primaries w.target → (table : List ℕ) → among w.tables table ≡ true
      → primary.has_table (primary_of base.primaries w.target n) table ≡ true
  target_has owned n within table is =
      let part = and_from (moves live table) (same_text live.target live.target) (moved table is) ((same_text_decides live.target live.target).1 refl) in
      h.stands.primaries.tables w.target n within table ∙ ap (λ k. has_table h.state k table) (sym stands.sides.target) ∙ table_is h.state live.target table
      ∙ or_left (is_some (part_owner h.state (about.Present live.target table))) (is_present h.state.topology.keyspaces live.target table)
      (ap is_some (owned (about.Present live.target table) part))
