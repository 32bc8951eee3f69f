-- How many writes were fed: those of all acknowledged ones that don't stand past the position of the stream that feeds.
use Rattle.std.proofs.Common.{◌≡◌, ℕ, ◌≤◌, Bool, true, false, not, cond, List, [], length, None, Some, refl, sym, ap, ◌∙◌, subst, arith, eqb-true}
use Rattle.std.proofs.lemmas.Bool.{true≢false, and_from}
use Rattle.std.specs.Prelude.{◌&&◌}
use Rattle.mt_names.specs.Shards.{shard_of}
use Rattle.mt_model.specs.declared.rows.Op.{Op}
use Rattle.mt_model.specs.Rows.{op_key}
use Rattle.mt_plain.specs.Answers.{Answers}
use Rattle.mt_plain.specs.Events.{Event, write, StreamName, forward, back, Answer, done, Way}
use Rattle.mt_plain.specs.Next.{next}
use Rattle.mt_plain.specs.Plain.{Lane, Live, Plain, catch_up, changes_primary, create_back, in_lane, is_side, moves, owner, refresh_target, shard_at, stands_done, stands_done_at, write_journal}
use Rattle.mt_plain.specs.Slots.{is_feeding, is_fresh, log_length}
use Rattle.mt_plain.specs.Writes.{lane_writes}
use Rattle.mt_laws.specs.Changes.{HasSides}
use Rattle.mt_laws.specs.WayBack.{IsReached, ends_workflow}
use Rattle.mt_laws.proofs.AllWritesLemmas.{found}
use Rattle.mt_laws.proofs.CutLemmas.{IsCut, reached_cut, source_shard, target_shard}
use Rattle.mt_laws.proofs.LiveLemmas.{IsIn}
use Rattle.mt_laws.proofs.OwnerLemmas.{IsJournaled, reached_journaled}
use Rattle.mt_laws.proofs.PartLemmas.{IsSettled}
use Rattle.mt_laws.proofs.PastLemmas.{IsLaneWrittenAt, IsOther}
use Rattle.mt_laws.proofs.PendingLemmas.{ArePending, lane_writes_same, lanes_grow, lanes_stay, pending_after, pending_same}
use Rattle.mt_laws.proofs.PlainWords.{side_by}
use Rattle.mt_laws.proofs.PositionLemmas.{logs_read, position_in, reached_within, rest_at}
use Rattle.mt_laws.proofs.ReachLemmas.{reached_has_parts}
use Rattle.mt_laws.proofs.ReadLemmas.{no_write_between, writes_at_the_owner}
use Rattle.mt_laws.proofs.StreamLemmas.{IsTurned, differ_not, differ_to, reached_turned}
use Rattle.mt_laws.proofs.WayStepLemmas.{done_at_some, done_in_order}
use Rattle.mt_laws.proofs.WritableLemmas.{owner-if, side_by-is_side}

-- ---- what is fed, and what is past a position, is all

-- the position of the stream that reads a side at rest, and the shard of that side, by whether that is the target
abbrev pub at_by : Lane → Bool → ℕ
at_by lane is_target = cond is_target lane.back_at lane.forward_at

abbrev pub shard_by : Lane → Bool → ℕ
shard_by lane is_target = cond is_target lane.shard 0

abbrev pub Level : Plain → Live → Lane → (keyspace : List ℕ) → (shard at : ℕ) → Type 0
Level p w lane keyspace shard at = (lane.fed ≤ length (lane_writes p w lane)) × ArePending p w lane lane.fed keyspace shard at

-- the same at a side
abbrev pub LevelAt : Plain → Live → Lane → (is_target : Bool) → (at : ℕ) → Type 0
LevelAt p w lane b at = Level p w lane (side_by w b) (shard_by lane b) at

pub record IsFed (p : Plain) (w : Live) (lane : Lane) : Type 0 where
  pub rests : w.way ≡ None → LevelAt p w lane w.switched.primary (at_by lane w.switched.primary)
  pub before : (way : Way) → w.way ≡ Some way → (changes_primary way && stands_done way write_journal) ≡ false → LevelAt p w lane way.before.primary (at_by lane way.before.primary)
  pub fresh : (way : Way) → w.way ≡ Some way → changes_primary way ≡ true → stands_done way create_back ≡ true → LevelAt p w lane (not way.before.primary) lane.fresh_at
  pub window : (way : Way) → w.way ≡ Some way → changes_primary way ≡ true → stands_done way catch_up ≡ true → stands_done_at way refresh_target lane.shard ≡ false → length (lane_writes p w lane) ≤ lane.fed

pub if-not : (a b : Bool) → (a && b) ≡ false → a ≡ true → b ≡ false
if-not true b e f = e
if-not false b e f = absurd (true≢false (sym f))

-- ---- the same rows, and a workflow of the same sides and tables

-- with the positions given by equations
pub level_moved : (p : Plain) (w v : Live) (lane other : Lane) → HasSides w v → other.shard ≡ lane.shard → other.fed ≡ lane.fed → (b : Bool) (n m : ℕ) → m ≡ n → LevelAt p w lane b n → LevelAt p v other b m
level_moved p w v lane other same own fed b n m is level =
    let le = level.0 in
    let a : length (lane_writes p v other) ≡ length (lane_writes p w lane) = ap length (lane_writes_same p w v lane other same own) in
    (omega arith, moved)
  where
    place : (c : Bool) → (side_by v c ≡ side_by w c) × (shard_by other c ≡ shard_by lane c)
    place true = (sym same.target, own)
    place false = (sym same.source, refl)

    moved : ArePending p v other other.fed (side_by v b) (shard_by other b) m
    moved =
        subst (λ k. ArePending p v other other.fed k (shard_by other b) m) (sym (place b).0)
        (subst (λ h. ArePending p v other other.fed (side_by w b) h m) (sym (place b).1)
        (subst (ArePending p v other other.fed (side_by w b) (shard_by lane b)) (sym is)
        (pending_same p w v lane other same own lane.fed other.fed fed (side_by w b) (shard_by lane b) n level.1)))

-- ---- the owner

module _ (w : Live) (settled : IsSettled w) (journaled : IsJournaled w) (way : Way) (opens : w.way ≡ Some way) where
  pub owner_before : (changes_primary way && stands_done way write_journal) ≡ false → owner w ≡ side_by w way.before.primary
  owner_before guard = by (stands_done way write_journal) refl (changes_primary way) refl
    where
      by : (j : Bool) → stands_done way write_journal ≡ j → (c : Bool) → changes_primary way ≡ c → owner w ≡ side_by w way.before.primary
      by false j c e = owner-if w way.before.primary (ap (λ s. s.primary) (settled way opens j))
      by true j false e = owner-if w way.before.primary (ap (λ s. s.primary) (journaled way opens j) ∙ differ_not way.before.primary way.after.primary e)
      by true j true e = absurd (true≢false (sym (and_from (changes_primary way) (stands_done way write_journal) e j) ∙ guard))

  pub owner_behind : changes_primary way ≡ true → stands_done way write_journal ≡ true → owner w ≡ side_by w (not way.before.primary)
  owner_behind changes j = owner-if w (not way.before.primary) (ap (λ s. s.primary) (journaled way opens j) ∙ differ_to way.before.primary way.after.primary changes)

-- ---- an event that leaves the workflow as it is

module _ (p : Plain) (reached : IsReached p) (w : Live) (in_it : IsIn w p.lives) (lane : Lane) (of_it : IsIn lane w.lanes) where
  settled : IsSettled w
  settled = (reached_has_parts p reached).settled w in_it

  journaled : IsJournaled w
  journaled = reached_journaled p reached w in_it

  turned : IsTurned w
  turned = reached_turned p reached w in_it

  cut : IsCut p w
  cut = reached_cut p reached w in_it

  pub at_within : (b : Bool) → at_by lane b ≤ log_length p (side_by w b) (shard_by lane b)
  at_within true = (reached_within p reached w in_it lane of_it back).0
  at_within false = (reached_within p reached w in_it lane of_it forward).0

  fresh_within : (way : Way) → w.way ≡ Some way → changes_primary way ≡ true → stands_done way create_back ≡ true → lane.fresh_at ≤ log_length p (side_by w (not way.before.primary)) (shard_by lane (not way.before.primary))
  fresh_within way opens changes created = subst (λ b. lane.fresh_at ≤ log_length p (side_by w (not b)) (shard_by lane (not b))) (sym (turned way opens changes)) (by way.back refl)
    where
      new : (name : StreamName) → is_fresh (Some way) name ≡ true → lane.fresh_at ≤ logs_read p w lane.shard name
      new name e =
          let at : position_in w lane name ≡ lane.fresh_at = ap (λ o. cond (is_fresh o name) lane.fresh_at (rest_at lane name)) opens ∙ ap (λ b. cond b lane.fresh_at (rest_at lane name)) e in
          let le = (reached_within p reached w in_it lane of_it name).1 in
          omega arith

      by : (b : Bool) → way.back ≡ b → lane.fresh_at ≤ log_length p (side_by w (not b)) (shard_by lane (not b))
      by true b =
          new forward (and_from (changes_primary way && not (is_feeding way forward)) (stands_done way create_back) (and_from (changes_primary way) (not (is_feeding way forward)) changes (ap (λ x. not (not x)) b)) created)
      by false b =
          new back (and_from (changes_primary way && not (is_feeding way back)) (stands_done way create_back) (and_from (changes_primary way) (not (is_feeding way back)) changes (ap not b)) created)

  -- a key of the lane stands in the shard of a side
  pub placed : (b : Bool) (key : ℕ) → in_lane w lane key ≡ true → shard_at p (side_by w b) key ≡ shard_by lane b
  placed true key inside = target_shard p w cut key ∙ eqb-true (shard_of w.cuts key) lane.shard inside
  placed false key inside = source_shard p w cut key

  here_owner : (keyspace : List ℕ) → owner w ≡ keyspace → IsLaneWrittenAt p w lane keyspace
  here_owner keyspace is k t op given inside moved side = writes_at_the_owner p reached t w (found p reached w in_it t moved) k side op given ∙ is

  module _ (event : Event) (answer : Answer) (given : Answers p event answer) (lives : ends_workflow w.name event answer ≡ false) where
    abbrev q : Plain
    q = next p event answer

    -- as many writes, and those to its tables with a key of the lane
    lane_more_le : length (lane_writes p w lane) ≤ length (lane_writes q w lane)
    lane_more_le = lanes_grow p reached w in_it lane 0 [] 0 0 (omega arith) event answer given lives

    level_other : (b : Bool) (at : ℕ) (inside : at ≤ log_length p (side_by w b) (shard_by lane b)) → IsLaneWrittenAt p w lane (side_by w b) → IsOther p w event → LevelAt p w lane b at → LevelAt q w lane b at
    level_other b at inside one other level =
        let le = level.0 in
        let a = lane_more_le in
        (omega arith, pending_after p reached w in_it lane lane.fed (side_by w b) (shard_by lane b) at inside event answer given lives (side_by-is_side w b) one (placed b) other le level.1)

    -- in the window no write with a key of the lane is acknowledged
    window_other : (way : Way) → w.way ≡ Some way → changes_primary way ≡ true → stands_done way catch_up ≡ true → stands_done_at way refresh_target lane.shard ≡ false → length (lane_writes p w lane) ≤ lane.fed → length (lane_writes q w lane) ≤ lane.fed
    window_other way opens changes caught waits level =
        let a = lanes_stay p reached w in_it lane 0 [] 0 0 (omega arith) event answer given lives no_write in
        omega arith
      where
        no_write : (k t : List ℕ) (op : Op) → event ≡ write k t op → Answers p (write k t op) done → in_lane w lane (op_key op) ≡ true → moves w t ≡ true → is_side w k ≡ true → ⊥
        no_write k t op is taken inside moved side =
            no_write_between p reached t w way (found p reached w in_it t moved) opens changes (done_in_order way 1 catch_up (omega arith) caught) lane waits turned cut (op_key op) inside k side op refl taken

    pub fed_other : IsOther p w event → IsFed p w lane → IsFed q w lane
    fed_other other is = record {
      rests = λ rests. let b = w.switched.primary in
          level_other b (at_by lane b) (at_within b) (here_owner (side_by w b) refl) other (is.rests rests);
      before = λ way opens guard. let b = way.before.primary in
          level_other b (at_by lane b) (at_within b) (here_owner (side_by w b) (owner_before w settled journaled way opens guard)) other (is.before way opens guard);
      fresh = λ way opens changes created. fresh_other way opens changes created (stands_done_at way refresh_target lane.shard) refl (is.fresh way opens changes created);
      window = λ way opens changes caught waits. window_other way opens changes caught waits (is.window way opens changes caught waits);
    }
      where
        -- a write with a key of the lane is at the new owner, once its shard is refreshed; before that there is none
        fresh_other : (way : Way) → w.way ≡ Some way → changes_primary way ≡ true → stands_done way create_back ≡ true → (t : Bool) → stands_done_at way refresh_target lane.shard ≡ t
            → LevelAt p w lane (not way.before.primary) lane.fresh_at → LevelAt q w lane (not way.before.primary) lane.fresh_at
        fresh_other way opens changes created true t level =
            level_other (not way.before.primary) lane.fresh_at (fresh_within way opens changes created)
            (here_owner (side_by w (not way.before.primary)) (owner_behind w settled journaled way opens changes (done_at_some way refresh_target lane.shard 5 t (omega arith)))) other level
        fresh_other way opens changes created false t level =
            level_other (not way.before.primary) lane.fresh_at (fresh_within way opens changes created)
            (λ k table op taken inside moved side. absurd (no_write_between p reached table w way (found p reached w in_it table moved) opens changes (done_in_order way 1 create_back (omega arith) created) lane t turned cut (op_key op) inside k side op refl taken))
            other level
