-- Before the journal the streams that feed on a way are there and read the owner's logs: so they are level just where no write to the
-- workflow's tables is left to be fed.
use Rattle.std.proofs.Common.{◌≡◌, inl, inr, ℕ, suc, ◌<◌, Bool, true, false, not, cond, List, [], ◌∷◌, Option, None, Some, option_map, is_some, refl, sym, ap, ◌∙◌, arith}
use Rattle.std.proofs.lemmas.Bool.{true≢false, lt-leb}
use Rattle.std.specs.List.{list_all, list_any}
use Rattle.std.specs.Option.{option_map_or}
use Rattle.std.specs.Prelude.{◌&&◌, ◌||◌, nat_le}
use Rattle.mt_plain.specs.Events.{StreamName, forward, back, Slot, Way}
use Rattle.mt_plain.specs.Plain.{Lane, Live, Plain, catch_up, changes_primary, first_step, lane_at, next_step, owner, stands_done, switch_reads, write_journal}
use Rattle.mt_plain.specs.Refuse.{is_behind, lane_is_behind, will_read_other_side}
use Rattle.mt_plain.specs.Slots.{feeding_slot, is_feeding, other_slot, read_shard, read_side, slot_at_rest, slot_before_way, slot_by_way, slot_of}
use Rattle.mt_primary.specs.Primaries.{Primaries, primary_of, shards_of}
use Rattle.mt_primary.specs.Primary.{PrimaryState}
use Rattle.mt_stream.specs.Streams.{StreamValue, is_level}
use Rattle.mt_workflow.specs.Workflows.{WorkflowState}
use Rattle.mt_workflow.specs.Workflows as workflow
use Rattle.mt_steps.specs.Shards.{target_at}
use Rattle.mt_steps.specs.Streams.{is_fed, is_fed_at, serves_other_side}
use Rattle.mt_laws.specs.Reached.{HandsOver, IsOnCourse}
use Rattle.mt_laws.proofs.LaneLemmas.{IsNumbered, lane_at_it}
use Rattle.mt_laws.proofs.LiveLemmas.{IsIn}
use Rattle.mt_stands.specs.Rows.{stream_of}
use Rattle.mt_stands.specs.Stands.{StandsFor}
use Rattle.mt_stands.proofs.LaneLemmas.{all_lanes, slot_is}

-- ---- which streams are there

fed_slot : (lane : Lane) (way : Way) (o : Option Slot) → is_some o ≡ true → is_some (feeding_slot lane way o) ≡ true
fed_slot lane way None e = absurd cc
fed_slot lane way (Some s) e = refl

-- the feeding stream is there if it was there before the way
feeding_there : (w : Live) (lane : Lane) (way : Way) (name : StreamName) → is_feeding way name ≡ true → is_some (slot_before_way w lane name) ≡ true → is_some (slot_by_way w lane (Some way) name) ≡ true
feeding_there w lane way name feeds there = by (changes_primary way) (is_feeding way name) feeds
  where
    by : (c f : Bool) → f ≡ true
        → is_some (cond (not c) (slot_before_way w lane name) (cond f (feeding_slot lane way (slot_before_way w lane name)) (other_slot lane way (slot_before_way w lane name)))) ≡ true
    by false f e = there
    by true true e = fed_slot lane way (slot_before_way w lane name) there
    by true false e = absurd (true≢false (sym e))

-- ---- where a step tests a level

not_back : (b : Bool) → not b ≡ true → b ≡ false
not_back true e = absurd (true≢false (sym e))
not_back false e = refl

-- the other side serves the reads where primary was switched just if the way leads back
pub turns_over : (way : Way) → serves_other_side way ≡ true → way.before.primary ≡ way.back
turns_over way = by way.back way.before.primary
  where
    by : (b x : Bool) → cond b x (not x) ≡ true → x ≡ b
    by true x e = e
    by false x e = not_back x e

-- the journal isn't written where a step up to it is next
pub no_journal : (way : Way) (n : ℕ) → n < 7 → n ≡ next_step way → stands_done way write_journal ≡ false
no_journal way n below is = ap (λ b. nat_le (first_step way) write_journal && b) (lt-leb (suc write_journal) (next_step way) (omega (arith, below, is))) ∙ and_false (nat_le (first_step way) write_journal)
  where
    and_false : (b : Bool) → (b && false) ≡ false
    and_false true = refl
    and_false false = refl

-- a way that has the catch-up changes primary
pub changes_where_tested : (w : Live) (way : Way) → IsOnCourse w way → catch_up ≡ next_step way → changes_primary way ≡ true
changes_where_tested w way course is = by (changes_primary way) course.within
  where
    by : (c : Bool) → next_step way < cond c 12 1 → c ≡ true
    by true within = refl
    by false within = absurd (omega (arith, within, is))

-- ---- the level

-- what is true of each lane is true of none that is behind
all_of_lanes : (test behind : Lane → Bool) (lanes : List Lane) → ((lane : Lane) → IsIn lane lanes → test lane ≡ not (behind lane)) → list_all test lanes ≡ not (list_any behind lanes)
all_of_lanes test behind [] same = refl
all_of_lanes test behind (lane ∷ lanes) same =
    ap (λ b. b && list_all test lanes) (same lane (inl refl)) ∙ ap (λ b. not (behind lane) && b) (all_of_lanes test behind lanes (λ x is. same x (inr is))) ∙ by (behind lane)
  where
    by : (b : Bool) → (not b && not (list_any behind lanes)) ≡ not (b || list_any behind lanes)
    by true = refl
    by false = refl

module _ (p : Plain) (live : Live) (w : WorkflowState) (for : StandsFor p live w) (numbered : IsNumbered live) (way : Way) (opens : live.way ≡ Some way) (course : IsOnCourse live way) (primaries : Primaries)
    (level : (shard : ℕ) (lane : Lane) → lane_at live shard ≡ Some lane → (stream : StreamName) (slot : Slot) → slot_of live lane stream ≡ Some slot → read_side live stream ≡ owner live
    → is_level (stream_of live lane slot) (primary_of primaries (read_side live stream) (read_shard lane stream)) ≡ not (lane_is_behind p live lane)) where
  -- what a step works on
  abbrev source : PrimaryState
  source = primary_of primaries w.source 0

  abbrev targets : List PrimaryState
  targets = (shards_of primaries w.target).each

  owner_is : stands_done way write_journal ≡ false → owner live ≡ cond way.before.primary live.target live.source
  owner_is unwritten = ap (λ types. cond types.primary live.target live.source) (course.before unwritten)

  module _ (lane : Lane) (is_in : IsIn lane live.lanes) where
    found : lane_at live lane.shard ≡ Some lane
    found = lane_at_it live numbered lane is_in

    -- a stream that reads the owner's log
    level_at : (stream : StreamName) (side : List ℕ) → read_side live stream ≡ side → owner live ≡ side → is_some (slot_of live lane stream) ≡ true
        → (o : Option StreamValue) → o ≡ option_map (stream_of live lane) (slot_of live lane stream)
        → option_map_or (λ (s : StreamValue). is_level s (primary_of primaries side (read_shard lane stream))) o false ≡ not (lane_is_behind p live lane)
    level_at stream side reads owns there o is = by (slot_of live lane stream) refl there
      where
        by : (slot : Option Slot) → slot_of live lane stream ≡ slot → is_some slot ≡ true
            → option_map_or (λ (s : StreamValue). is_level s (primary_of primaries side (read_shard lane stream))) o false ≡ not (lane_is_behind p live lane)
        by None e none = absurd cc
        by (Some slot) e some =
            ap (λ x. option_map_or (λ (s : StreamValue). is_level s (primary_of primaries side (read_shard lane stream))) x false) (is ∙ ap (option_map (stream_of live lane)) e)
            ∙ ap (λ k. is_level (stream_of live lane slot) (primary_of primaries k (read_shard lane stream))) (sym reads) ∙ level lane.shard lane found stream slot e (reads ∙ sym owns)

    -- before the way the back stream was there just where primary was switched
    slot_there : (stream : StreamName) → is_feeding way stream ≡ true → is_some (slot_before_way live lane stream) ≡ true → is_some (slot_of live lane stream) ≡ true
    slot_there stream feeds there = ap (λ o. is_some (slot_by_way live lane o stream)) opens ∙ feeding_there live lane way stream feeds there

    back_before : way.before.primary ≡ true → is_some (slot_before_way live lane back) ≡ true
    back_before primary =
        ap (λ o. is_some (slot_at_rest lane (option_map_or (λ (v : Way). v.before) o live.switched).primary back)) opens ∙ ap (λ b. is_some (slot_at_rest lane b back)) primary

    fed_lane : way.before.primary ≡ way.back → stands_done way write_journal ≡ false → is_fed_at w way source targets lane.shard ≡ not (lane_is_behind p live lane)
    fed_lane before unwritten = by way.back refl
      where
        by : (b : Bool) → way.back ≡ b → is_fed_at w way source targets lane.shard ≡ not (lane_is_behind p live lane)
        by true e =
            ap (λ b. option_map_or (λ (s : StreamValue). is_level s (cond b (target_at targets lane.shard) source)) (workflow.slot_of w lane.shard (cond b back forward)) false) e
            ∙ level_at back w.target for.sides.target (owner_is unwritten ∙ ap (λ b. cond b live.target live.source) (before ∙ e) ∙ for.sides.target)
            (slot_there back e (back_before (before ∙ e))) (workflow.slot_of w lane.shard back) (slot_is p live w for numbered lane.shard lane found back)
        by false e =
            ap (λ b. option_map_or (λ (s : StreamValue). is_level s (cond b (target_at targets lane.shard) source)) (workflow.slot_of w lane.shard (cond b back forward)) false) e
            ∙ level_at forward w.source for.sides.source (owner_is unwritten ∙ ap (λ b. cond b live.target live.source) (before ∙ e) ∙ for.sides.source)
            (slot_there forward (ap not e) refl) (workflow.slot_of w lane.shard forward) (slot_is p live w for numbered lane.shard lane found forward)

  pub fed_same : way.before.primary ≡ way.back → stands_done way write_journal ≡ false → is_fed w way source targets ≡ not (is_behind p live)
  fed_same before unwritten =
      all_lanes p live w for numbered (is_fed_at w way source targets)
      ∙ all_of_lanes (λ lane. is_fed_at w way source targets lane.shard) (lane_is_behind p live) live.lanes (λ lane is_in. fed_lane lane is_in before unwritten)

  -- what a switch of reads tests, and the catch-up
  pub reads_same : switch_reads ≡ next_step way
      → (not (serves_other_side way) || is_fed w way source targets) ≡ not (will_read_other_side live way && is_behind p live)
  reads_same is = by (serves_other_side way) refl ∙ ap (λ b. not (b && is_behind p live)) (sym will)
    where
      will : will_read_other_side live way ≡ serves_other_side way
      will = ap (λ o. cond way.back (option_map_or (λ (v : Way). v.before) o live.switched).primary (not (option_map_or (λ (v : Way). v.before) o live.switched).primary)) opens

      by : (b : Bool) → serves_other_side way ≡ b → (not (serves_other_side way) || is_fed w way source targets) ≡ not (serves_other_side way && is_behind p live)
      by true e =
          ap (λ b. not b || is_fed w way source targets) e ∙ fed_same (turns_over way e) (no_journal way switch_reads (omega arith) is)
          ∙ ap (λ b. not (b && is_behind p live)) (sym e)
      by false e = ap (λ b. not b || is_fed w way source targets) e ∙ ap (λ b. not (b && is_behind p live)) (sym e)

  pub caught_same : (changes_primary way ≡ true → HandsOver live way) → catch_up ≡ next_step way → is_fed w way source targets ≡ not (is_behind p live)
  caught_same hands is = fed_same (hands (changes_where_tested live way course is)).before (no_journal way catch_up (omega arith) is)
