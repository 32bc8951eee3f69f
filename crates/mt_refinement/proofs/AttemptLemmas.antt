-- What an attempt leaves of the journal and of the record of an own list, what a step puts away, and what an undo leaves; on values alone.
use Rattle.std.proofs.Common.{◌≡◌, ◌≢◌, ℕ, Bool, true, false, not, cond, eqb, ◌&&◌, List, [], ◌∷◌, ◌++◌, length, map, Option, None, Some, option_map, refl, sym, ap, subst, ◌∙◌, get_or-set_other, length-set}
use Rattle.std.proofs.lemmas.Bool.{eqb-false, true≢false}
use Rattle.std.specs.Option.{option_map_or}
use Rattle.std.specs.Prelude.{Ok, slice_index_or, slice_set}
use Rattle.mt_names.specs.declared.types.TypeSet.{TypeSet}
use Rattle.mt_model.specs.declared.entries.Scope.{Scope}
use Rattle.mt_model.specs.Topology.{Marks, TopologyState}
use Rattle.mt_laws.proofs.WayStepLemmas.{more}
use Rattle.mt_plain.specs.Events.{StreamName, forward, back, running, stopped, Way}
use Rattle.mt_plain.specs.Next.{closes, lane_closed, lane_made, lane_stepped, live_stepped, types_stepped}
use Rattle.mt_plain.specs.Plain.{Lane, Live, Plain, before_way, changes_primary, create_back, next_step, refresh_source, refresh_target, stands_done, start_back, write_journal}
use Rattle.mt_plain.specs.Slots.{feeding_slot, is_feeding, other_slot, slot_at_rest, slot_before_way, slot_by_way}
use Rattle.mt_plain.specs.Slots as plain
use Rattle.mt_primary.specs.Denials.{marks_of}
use Rattle.mt_stands.specs.Rows.{stream_of}
use Rattle.mt_steps.specs.declared.step.Step.{Step}
use Rattle.mt_steps.specs.declared.step.Step.TheVariants.{SwitchReads, DenySource, RefreshSource, CatchUp, StopFeeding, CreateBack, Journal, AllowTarget, RefreshTarget, SwitchWriteRules, StartBack, FreezeOld}
use Rattle.mt_steps.specs.Plans.{number}
use Rattle.mt_steps.specs.Refreshes.{RefreshesSide, Sites}
use Rattle.mt_steps.specs.Shards.{next_shard, target_at}
use Rattle.mt_steps.specs.Steps.{Attempts, journal_entry, left_listed, left_slots}
use Rattle.mt_steps.specs.Streams.{other_name, put_away}
use Rattle.mt_steps.specs.Undo.{IsLogOf, UndoState}
use Rattle.mt_stream.specs.Streams.{StreamValue}
use Rattle.mt_watch.specs.Asking.{Answering}
use Rattle.mt_workflow.specs.Workflows.{WorkflowState, lane_slot}

-- ---- what may be refused

module _ (scopes : List Scope) (may_answer : Answering) (id : ℕ) (t : TopologyState) (w : WorkflowState) (way : Way) (old new : Sites) where
  -- the journal has one entry more behind its own step
  pub attempt_journal : (step : Step) → Attempts scopes may_answer id t w way step old (Ok tt) new
      → new.journal ≡ cond (eqb (number step) write_journal) (old.journal ++ journal_entry id w way old.source old.targets ∷ []) old.journal
  attempt_journal SwitchReads is = ap (λ (x : Sites). x.journal) is.1
  attempt_journal DenySource is = ap (λ (x : Sites). x.journal) is.1
  attempt_journal RefreshSource is = by way.before.primary is
    where
      by : (b : Bool) → RefreshesSide scopes may_answer t w b (next_shard way) old (Ok tt) new → new.journal ≡ old.journal
      by true r = r.3
      by false r = r.2
  attempt_journal CatchUp is = ap (λ (x : Sites). x.journal) is.1
  attempt_journal StopFeeding is = ap (λ (x : Sites). x.journal) is.1
  attempt_journal CreateBack is = ap (λ (x : Sites). x.journal) is.1
  attempt_journal Journal is = is.0.1
  attempt_journal AllowTarget is = ap (λ (x : Sites). x.journal) is.1
  attempt_journal RefreshTarget is = by (not way.before.primary) is
    where
      by : (b : Bool) → RefreshesSide scopes may_answer t w b (next_shard way) old (Ok tt) new → new.journal ≡ old.journal
      by true r = r.3
      by false r = r.2
  attempt_journal SwitchWriteRules is = ap (λ (x : Sites). x.journal) is.1
  attempt_journal StartBack is = ap (λ (x : Sites). x.journal) is.1
  attempt_journal FreezeOld is = ap (λ (x : Sites). x.journal) is.1

  -- the first refresh records the own list of the old owner's primary, at the target that of the shard
  pub attempt_listed : (step : Step) → eqb (number step) refresh_target ≡ false → Attempts scopes may_answer id t w way step old (Ok tt) new
      → new.listed ≡ cond (eqb (number step) refresh_source) (Some (marks_of (cond way.before.primary (target_at old.targets (next_shard way)) old.source) w.tables)) old.listed
  attempt_listed SwitchReads other is = ap (λ (x : Sites). x.listed) is.1
  attempt_listed DenySource other is = ap (λ (x : Sites). x.listed) is.1
  attempt_listed RefreshSource other is = by way.before.primary is
    where
      by : (b : Bool) → RefreshesSide scopes may_answer t w b (next_shard way) old (Ok tt) new → new.listed ≡ Some (marks_of (cond b (target_at old.targets (next_shard way)) old.source) w.tables)
      by true r = r.0.2
      by false r = r.0.2
  attempt_listed CatchUp other is = ap (λ (x : Sites). x.listed) is.1
  attempt_listed StopFeeding other is = ap (λ (x : Sites). x.listed) is.1
  attempt_listed CreateBack other is = ap (λ (x : Sites). x.listed) is.1
  attempt_listed Journal other is = is.3
  attempt_listed AllowTarget other is = ap (λ (x : Sites). x.listed) is.1
  attempt_listed RefreshTarget other is = absurd (true≢false other)
  attempt_listed SwitchWriteRules other is = ap (λ (x : Sites). x.listed) is.1
  attempt_listed StartBack other is = ap (λ (x : Sites). x.listed) is.1
  attempt_listed FreezeOld other is = ap (λ (x : Sites). x.listed) is.1

pub put_away_is : (w : WorkflowState) (way : Way) (step : Step) (kept : List (Option StreamValue)) → put_away w way step kept ≡ cond (eqb (number step) create_back) (map (lane_slot (other_name way)) w.lanes) kept
put_away_is w way SwitchReads kept = refl
put_away_is w way DenySource kept = refl
put_away_is w way RefreshSource kept = refl
put_away_is w way CatchUp kept = refl
put_away_is w way StopFeeding kept = refl
put_away_is w way CreateBack kept = refl
put_away_is w way Journal kept = refl
put_away_is w way AllowTarget kept = refl
put_away_is w way RefreshTarget kept = refl
put_away_is w way SwitchWriteRules kept = refl
put_away_is w way StartBack kept = refl
put_away_is w way FreezeOld kept = refl

-- ---- what an undo leaves in the record

pub left_at : (step : Step) (shard : ℕ) (listed : List (Option Marks)) (n : ℕ) → (eqb (number step) refresh_source && eqb shard n) ≡ false
    → slice_index_or (left_listed step shard listed) n None ≡ slice_index_or listed n None
left_at SwitchReads shard listed n other = refl
left_at DenySource shard listed n other = refl
left_at RefreshSource shard listed n other = get_or-set_other listed shard n None None (λ same. eqb-false shard n other (sym same))
left_at CatchUp shard listed n other = refl
left_at StopFeeding shard listed n other = refl
left_at CreateBack shard listed n other = refl
left_at Journal shard listed n other = refl
left_at AllowTarget shard listed n other = refl
left_at RefreshTarget shard listed n other = refl
left_at SwitchWriteRules shard listed n other = refl
left_at StartBack shard listed n other = refl
left_at FreezeOld shard listed n other = refl

-- what is kept for a workflow is kept for it with another list too
pub listed_log : (w : WorkflowState) (log : UndoState) (shard : ℕ) (listed : Option Marks) → IsLogOf w log → IsLogOf w (record log { listed = slice_set log.listed shard listed })
listed_log w log shard listed of = record { entries = of.entries; listed = length-set log.listed shard listed ∙ of.listed; slots = of.slots }

-- and without the one that an undo has taken
pub taken_log : (w : WorkflowState) (step : Step) (shard : ℕ) (log : UndoState) → IsLogOf w log → IsLogOf w (record log { listed = left_listed step shard log.listed })
taken_log w step shard log of = record { entries = of.entries; listed = long step ∙ of.listed; slots = of.slots }
  where
    long : (step : Step) → length (left_listed step shard log.listed) ≡ length log.listed
    long SwitchReads = refl
    long DenySource = refl
    long RefreshSource = length-set log.listed shard None
    long CatchUp = refl
    long StopFeeding = refl
    long CreateBack = refl
    long Journal = refl
    long AllowTarget = refl
    long RefreshTarget = refl
    long SwitchWriteRules = refl
    long StartBack = refl
    long FreezeOld = refl

pub slots_left : (step : Step) (slots : List (Option StreamValue)) → eqb (number step) create_back ≡ false → left_slots step slots ≡ slots
slots_left SwitchReads slots other = refl
slots_left DenySource slots other = refl
slots_left RefreshSource slots other = refl
slots_left CatchUp slots other = refl
slots_left StopFeeding slots other = refl
slots_left CreateBack slots other = absurd (true≢false other)
slots_left Journal slots other = refl
slots_left AllowTarget slots other = refl
slots_left RefreshTarget slots other = refl
slots_left SwitchWriteRules slots other = refl
slots_left StartBack slots other = refl
slots_left FreezeOld slots other = refl

pub and_none : (b : Bool) → (b && false) ≡ false
and_none true = refl
and_none false = refl

-- ---- streams

-- a lane that differs in its fresh position and in what was fed alone
pub record SameRest (lane on : Lane) : Type 0 where
  pub shard : on.shard ≡ lane.shard
  pub copied : on.copied ≡ lane.copied
  pub forward_at : on.forward_at ≡ lane.forward_at
  pub back_at : on.back_at ≡ lane.back_at

-- a way that a step leaves open: what stood before it stays
pub open_stepped : (p : Plain) (v : Live) (way : Way) → closes way ≡ false
    → live_stepped p v way ≡ record v { switched = types_stepped v way; way = Some (more way); lanes = map (lane_stepped p v way) v.lanes }
open_stepped p v way goes_on = ap (λ l. record v { switched = types_stepped v way; way = cond l None (Some (more way)); lanes = map (lane_stepped p v way) v.lanes }) goes_on

pub stepped_rest : (p : Plain) (v : Live) (way : Way) (lane : Lane) → closes way ≡ false → SameRest lane (lane_stepped p v way lane)
stepped_rest p v way lane goes_on = by (eqb (next_step way) create_back)
  where
    by : (b : Bool) → SameRest lane (cond b (lane_made p v lane) (cond (closes way && changes_primary way) (lane_closed way lane) lane))
    by true = record { shard = refl; copied = refl; forward_at = refl; back_at = refl }
    by false =
        subst (λ l. SameRest lane (cond (l && changes_primary way) (lane_closed way lane) lane)) (sym goes_on) (record { shard = refl; copied = refl; forward_at = refl; back_at = refl })

module _ (v : Live) (way now : Way) (types : TypeSet) (lanes : List Lane) (lane on : Lane) (same : SameRest lane on) where
  abbrev later : Live
  later = record v { switched = types; way = Some now; lanes = lanes }

  at_rest : (b : Bool) (n : StreamName) → option_map (stream_of later on) (slot_at_rest on b n) ≡ option_map (stream_of v lane) (slot_at_rest lane b n)
  at_rest b forward = rw (same.shard, same.copied, same.forward_at) refl
  at_rest true back = rw (same.shard, same.copied, same.back_at) refl
  at_rest false back = refl

  pub saved_stays : (name : StreamName) → v.way ≡ Some way → now.before ≡ way.before
      → option_map (stream_of later on) (slot_before_way later on name) ≡ option_map (stream_of v lane) (slot_before_way v lane name)
  saved_stays name opens before = at_rest now.before.primary name ∙ ap (λ (ts : TypeSet). option_map (stream_of v lane) (slot_at_rest lane ts.primary name)) is_before
    where
      is_before : now.before ≡ before_way v
      is_before = before ∙ sym (ap (λ o. option_map_or (λ (x : Way). x.before) o v.switched) opens)

not_feeding : (way : Way) → is_feeding way (other_name way) ≡ false
not_feeding way = by way.back refl
  where
    by : (b : Bool) → way.back ≡ b → is_feeding way (cond b forward back) ≡ false
    by true e = ap not e
    by false e = e

-- until a way has made a stream, the slot has what stood there before the way
pub slot_stood : (v : Live) (lane : Lane) (way : Way) → v.way ≡ Some way → stands_done way create_back ≡ false → plain.slot_of v lane (other_name way) ≡ slot_before_way v lane (other_name way)
slot_stood v lane way opens not_made =
    ap (λ o. slot_by_way v lane o (other_name way)) opens
    ∙ ap (λ f. cond (not (changes_primary way)) (slot_before_way v lane (other_name way))
    (cond f (feeding_slot lane way (slot_before_way v lane (other_name way))) (other_slot lane way (slot_before_way v lane (other_name way))))) (not_feeding way)
    ∙ by (changes_primary way)
  where
    by : (c : Bool) → cond (not c) (slot_before_way v lane (other_name way)) (other_slot lane way (slot_before_way v lane (other_name way))) ≡ slot_before_way v lane (other_name way)
    by true = ap (λ d. cond d (Some (record { state = cond (stands_done way start_back) running stopped; position = lane.fresh_at })) (slot_before_way v lane (other_name way))) not_made
    by false = refl
