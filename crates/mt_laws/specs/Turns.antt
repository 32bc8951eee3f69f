-- How many turns are enough for a drive (this profile's own).
use Rattle.std.specs.Prelude.{◌≡◌, ℕ, ◌+◌, ◌*◌, ◌<◌, ◌≤◌, false, List, Some, ⊤}
use Rattle.mt_plain.specs.Drive.{Driving, begins, steps, feeds, gives_up, Heard, goes_on, ends, way_of}
use Rattle.mt_plain.specs.Events.{Way}
use Rattle.mt_plain.specs.Plain.{Plain, behind_last, next_place, next_step, stands_done, write_journal}

-- before the step of a number at a place of its plan, with some tries of it left: two steps may be tried again, each time behind an advance
-- of each of eight streams, and thirteen turns are for an undo
pub data Enough (turns tries n place : ℕ) : Type 0 where
  at_reads : n ≡ 0 → place ≡ 0 → 9 * tries + 592 ≤ turns → Enough turns tries n place
  before_level : 0 < n → n < 3 → 601 ≤ turns + place → Enough turns tries n place
  at_level : n ≡ 3 → 9 * tries + 15 ≤ turns → Enough turns tries n place
  behind_level : 3 < n → 27 ≤ turns + place → Enough turns tries n place

-- a way with a step left, and turns enough for it
pub record Goes (turns tries : ℕ) (p : Plain) (workflow : List ℕ) : Type 0 where
  pub way : Way
  pub is : way_of p workflow ≡ Some way
  pub few : way.shards ≤ 8
  pub left : next_step way < behind_last way
  pub tried : 0 < tries
  pub enough : Enough turns tries (next_step way) (next_place way)

-- a way whose journal does not stand done, and turns enough to undo it
pub record Undoes (turns : ℕ) (p : Plain) (workflow : List ℕ) : Type 0 where
  pub way : Way
  pub is : way_of p workflow ≡ Some way
  pub no_journal : stands_done way write_journal ≡ false
  pub enough : way.done ≤ turns
  pub some : 0 < turns

-- a drive that ends within so many turns, however it is answered
abbrev pub Fits : ℕ → Plain → Driving → Type 0
Fits turns p (begins workflow types backward) = 1200 < turns
Fits turns p (steps workflow tries) = Goes turns tries p workflow
Fits turns p (feeds workflow shard tries) = (t : ℕ) × (t + 8 ≡ turns + shard) × (shard < 8) × Goes t tries p workflow
Fits turns p (gives_up workflow refusal) = Undoes turns p workflow

-- what was heard: a drive that fits in the turns left, or an end
abbrev pub FitsHeard : ℕ → Plain → Heard → Type 0
FitsHeard turns p (goes_on driving) = Fits turns p driving
FitsHeard turns p (ends ended) = ⊤
