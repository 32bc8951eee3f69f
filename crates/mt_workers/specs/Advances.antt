-- What a worker asks for that advances a stream (this profile's own).
use Rattle.std.specs.Prelude.{◌≡◌, ◌+◌, ◌-◌, ◌%◌, ◌^◌, ◌≤◌, ℕ, min, List, [], ◌∷◌, length, replicate, slice_index, slice_set, Result, Ok, Err}
use Rattle.mt_desk.specs.declared.history.Call.{Call}
use Rattle.mt_event.specs.declared.event.Event.TheVariants as event
use Rattle.mt_event.specs.declared.reason.Reason.TheVariants.{Stale}
use Rattle.mt_event.specs.declared.refusal.Refusal.{Refusal}
use Rattle.mt_event.specs.declared.refusal.Refusal.TheVariants.{Other}
use Rattle.mt_event.specs.declared.reply.Reply.{Reply}
use Rattle.mt_event.specs.declared.reply.Reply.TheVariants.{Advanced}
use Rattle.mt_names.specs.Shards.{most_shards}
use Rattle.mt_workflow.specs.declared.way.Slot.{Slot}

abbrev pub Answer : Type 0
Answer = Result Reply Refusal

-- where a stream is expected after an answer to an advance: past the entries that were read, or where the refusal says that it is
abbrev pub next_position : (at : ℕ) → Answer → ℕ
next_position at (Ok (Advanced counts)) = min (at + counts.events) (2 ^ 64 - 1)
next_position at (Err (Other (Stale current))) = current
next_position at other = at

-- where the streams of a target's shards are expected, in the order of the shards, and where they are after an answer in one of them
abbrev pub answered : (positions : List ℕ) → (shard : ℕ) → Answer → List ℕ
answered positions shard answer = slice_set positions shard (next_position (slice_index positions shard) answer)

-- nothing is known yet
abbrev pub first_positions : List ℕ
first_positions = replicate most_shards 0

-- advances of a stream, in one shard after the other and then from the first on again: each where the last answer in its shard says
abbrev pub AreAdvances : (workflow : List ℕ) → Slot → (shards max : ℕ) → (positions : List ℕ) → (turn : ℕ) → List Call → Type 0
AreAdvances workflow stream shards max positions turn [] = Unit {0}
AreAdvances workflow stream shards max positions turn (call ∷ calls) =
    let shard = turn % shards in
    (call.event ≡ event.Advance workflow stream shard (slice_index positions shard) max)
    × AreAdvances workflow stream shards max (answered positions shard call.answer) (turn + 1) calls

-- how many of some advances were taken
abbrev pub one_if_taken : Answer → ℕ
one_if_taken (Ok (Advanced counts)) = 1
one_if_taken other = 0

abbrev pub times_taken : List Call → ℕ
times_taken [] = 0
times_taken (call ∷ calls) = one_if_taken call.answer + times_taken calls

-- the calls of a worker that advances a stream: so many at most, the first in each shard at position 0, and how many were taken
pub record IsAdvancing (workflow : List ℕ) (stream : Slot) (shards max turns : ℕ) (calls : List Call) (taken : ℕ) : Type 0 where
  pub few : length calls ≤ turns
  pub each : AreAdvances workflow stream shards max first_positions 0 calls
  pub counted : taken ≡ times_taken calls
