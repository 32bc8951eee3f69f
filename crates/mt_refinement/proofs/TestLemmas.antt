-- Where a step looks whether the feeding streams are level, these read the owner's logs, which keep what they have still to read.
use Rattle.std.proofs.Common.{◌≡◌, ◌≢◌, ℕ, ◌≤◌, Bool, true, false, cond, eqb, eqb-true, List, Option, None, Some, option_map, refl, sym, ap, ◌∙◌, subst, arith}
use Rattle.std.proofs.lemmas.Bool.{and_parts}
use Rattle.std.specs.Prelude.{◌&&◌, ◌||◌}
use Rattle.mt_model.specs.declared.entries.Scope.{Scope}
use Rattle.mt_plain.specs.Events.{StreamName, forward, back, Slot, Way, frozen}
use Rattle.mt_plain.specs.Plain.{Lane, Live, Plain, catch_up, changes_primary, lane_at, live_at, next_step, owner, stands_done, switch_reads, write_journal}
use Rattle.mt_plain.specs.Slots.{read_shard, read_side, slot_of}
use Rattle.mt_primary.specs.Primaries.{primary_of, shards_of}
use Rattle.mt_stream.specs.Streams.{StreamValue}
use Rattle.mt_workflow.specs.Workflows.{WorkflowState}
use Rattle.mt_workflow.specs.Workflows as workflow
use Rattle.mt_steps.specs.Streams.{KeepsToTest, serves_other_side, tests_level}
use Rattle.mt_laws.specs.Reached.{HandsOver, IsOnCourse}
use Rattle.mt_laws.proofs.LaneLemmas.{IsNumbered, lane_found}
use Rattle.mt_stands.specs.Rows.{stream_of}
use Rattle.mt_stands.specs.Base.{BaseState}
use Rattle.mt_stands.specs.Stands.{StandsFor, StandsWith}
use Rattle.mt_stands.proofs.LaneLemmas.{lane_of_slot, slot_is}
use Rattle.mt_refinement.proofs.LevelLemmas.{changes_where_tested, no_journal, turns_over}

module _ (p : Plain) (scopes : List Scope) (base : BaseState) (stands : StandsWith p scopes base) (name : List ℕ) (live : Live) (is_live : live_at p name ≡ Some live) (w : WorkflowState) (for : StandsFor p live w)
    (numbered : IsNumbered live) (way : Way) (course : IsOnCourse live way) (hands : changes_primary way ≡ true → HandsOver live way)
    (used : (shard : ℕ) (lane : Lane) → lane_at live shard ≡ Some lane → (stream : StreamName) (slot : Slot) → slot_of live lane stream ≡ Some slot → read_side live stream ≡ owner live → slot.state ≢ frozen) where
  module _ (tests : tests_level way (next_step way) ≡ true) where
    turned : way.before.primary ≡ way.back
    turned = by (eqb (next_step way) catch_up) refl tests
      where
        by : (b : Bool) → eqb (next_step way) catch_up ≡ b → (b || eqb (next_step way) switch_reads && serves_other_side way) ≡ true → way.before.primary ≡ way.back
        by true e is = (hands (changes_where_tested live way course (sym (eqb-true (next_step way) catch_up e)))).before
        by false e is = turns_over way (and_parts (eqb (next_step way) switch_reads) (serves_other_side way) is).1

    unwritten : stands_done way write_journal ≡ false
    unwritten = by (eqb (next_step way) catch_up) refl tests
      where
        by : (b : Bool) → eqb (next_step way) catch_up ≡ b → (b || eqb (next_step way) switch_reads && serves_other_side way) ≡ true → stands_done way write_journal ≡ false
        by true e is = no_journal way catch_up (omega arith) (sym (eqb-true (next_step way) catch_up e))
        by false e is = no_journal way switch_reads (omega arith) (sym (eqb-true (next_step way) switch_reads (and_parts (eqb (next_step way) switch_reads) (serves_other_side way) is).0))

    owner_is : owner live ≡ cond way.back live.target live.source
    owner_is = ap (λ types. cond types.primary live.target live.source) (course.before unwritten) ∙ ap (λ b. cond b live.target live.source) turned

  -- a stream that reads the owner
  kept : (shard : ℕ) (lane : Lane) → lane_at live shard ≡ Some lane → (stream : StreamName) (side : List ℕ) → read_side live stream ≡ side → owner live ≡ side
      → (o : Option StreamValue) → o ≡ option_map (stream_of live lane) (slot_of live lane stream)
      → (s : StreamValue) → o ≡ Some s → (primary_of base.primaries side (read_shard lane stream)).log.purged ≤ s.position
  kept shard lane laned stream side reads owns o is s found = by (slot_of live lane stream) refl
    where
      by : (slot : Option Slot) → slot_of live lane stream ≡ slot → (primary_of base.primaries side (read_shard lane stream)).log.purged ≤ s.position
      by None e = absurd (let none : None ≡ Some s = sym (ap (option_map (stream_of live lane)) e) ∙ sym is ∙ found in cc)
      by (Some slot) e =
          let some : Some (stream_of live lane slot) ≡ Some s = sym (ap (option_map (stream_of live lane)) e) ∙ sym is ∙ found in
          let one : stream_of live lane slot ≡ s = cc in
          let held : (primary_of base.primaries (read_side live stream) (read_shard lane stream)).log.purged ≤ slot.position
          = stands.rows.unread (read_side live stream) (read_shard lane stream) name live is_live shard lane laned stream slot e (used shard lane laned stream slot e (reads ∙ sym owns)) refl refl in
          subst (λ (x : StreamValue). (primary_of base.primaries side (read_shard lane stream)).log.purged ≤ x.position) one
          (subst (λ k. (primary_of base.primaries k (read_shard lane stream)).log.purged ≤ slot.position) reads held)

  pub kept_to_test : KeepsToTest w way (next_step way) (primary_of base.primaries w.source 0) (shards_of base.primaries w.target).each
  kept_to_test tests shard s found = by way.back refl found
    where
      by : (b : Bool) → way.back ≡ b → workflow.slot_of w shard (cond b back forward) ≡ Some s
          → (cond way.back (primary_of base.primaries w.target shard) (primary_of base.primaries w.source 0)).log.purged ≤ s.position
      by true e at =
          let (lane, laned) = lane_of_slot p live w for numbered shard back s at in
          let here = (lane_found live shard lane laned).1 in
          subst (λ b. (cond b (primary_of base.primaries w.target shard) (primary_of base.primaries w.source 0)).log.purged ≤ s.position) (sym e)
          (subst (λ m. (primary_of base.primaries w.target m).log.purged ≤ s.position) here
          (kept shard lane laned back w.target for.sides.target (owner_is tests ∙ ap (λ b. cond b live.target live.source) e ∙ for.sides.target) (workflow.slot_of w shard back)
          (slot_is p live w for numbered shard lane laned back) s at))
      by false e at =
          let (lane, laned) = lane_of_slot p live w for numbered shard forward s at in
          subst (λ b. (cond b (primary_of base.primaries w.target shard) (primary_of base.primaries w.source 0)).log.purged ≤ s.position) (sym e)
          (kept shard lane laned forward w.source for.sides.source (owner_is tests ∙ ap (λ b. cond b live.target live.source) e ∙ for.sides.source) (workflow.slot_of w shard forward)
          (slot_is p live w for numbered shard lane laned forward) s at)
