-- What a collector has of the lines that it waits for (this profile's own).
use Rattle.std.specs.Prelude.{◌≡◌, ◌==◌, ◌&&◌, ℕ, ◌<◌, ◌≤◌, nat_lt, if◌then◌else◌, Bool, List, [], ◌∷◌, ◌++◌, count_by, map, slice_index, Result, Ok, Err, ⊤}
use Rattle.mt_workers.specs.Advances.{Answer}
use Rattle.mt_workers.specs.declared.fault.CollectFault.{CollectFault}
use Rattle.mt_workers.specs.declared.fault.CollectFault.TheVariants.{Memory, Double, Stranger}
use Rattle.mt_workers.specs.declared.message.Message.{Message}

-- how many lines it waits for, of each worker from 0, and the messages that came, in their order
pub record Collected : Type 0 where
  pub lines : List ℕ
  pub messages : List Message

-- how many lines it waits for of a worker: none of one that isn't there
abbrev pub lines_of : Collected → (worker : ℕ) → ℕ
lines_of collected worker = slice_index collected.lines worker

-- a message is of a worker's line
abbrev pub is_of : (worker line : ℕ) → Message → Bool
is_of worker line message = (worker == message.worker) && (line == message.line)

-- how often a worker's line is there
abbrev pub times : Collected → (worker line : ℕ) → ℕ
times collected worker line = count_by (is_of worker line) collected.messages

-- how often it is waited for: once where that worker has such a line, and else never
abbrev pub due : Collected → (worker line : ℕ) → ℕ
due collected worker line = if nat_lt line (lines_of collected worker) then 1 else 0

-- what is always so: no line is there twice, and there are no others
abbrev pub IsCollected : Collected → Type 0
IsCollected collected = (worker line : ℕ) → times collected worker line ≤ due collected worker line

-- each line of each worker is there, once, and there are no others
abbrev pub IsWhole : Collected → Type 0
IsWhole collected = (worker line : ℕ) → times collected worker line ≡ due collected worker line

-- the first so many lines of a worker are there, each once
abbrev pub HasFirst : Collected → (worker lines : ℕ) → Type 0
HasFirst collected worker lines = (line : ℕ) → line < lines → times collected worker line ≡ 1

-- nothing came yet
abbrev pub awaiting : List ℕ → Collected
awaiting lines = record { lines = lines; messages = [] }

-- one message more
abbrev pub with_message : Collected → Message → Collected
with_message collected message = record { lines = collected.lines; messages = collected.messages ++ message ∷ [] }

-- a message is added behind the others, where its line is waited for and isn't there; one of another line is a stranger, and one whose
-- line is there is a double; out of memory is told last, and what is refused changes nothing
abbrev pub Adds : Collected → Message → Result ⊤ CollectFault → Collected → Type 0
Adds old message (Ok done) new =
    (message.line < lines_of old message.worker) × (times old message.worker message.line ≡ 0) × (new ≡ with_message old message)
Adds old message (Err Stranger) new = (lines_of old message.worker ≤ message.line) × (new ≡ old)
Adds old message (Err Double) new =
    (message.line < lines_of old message.worker) × (times old message.worker message.line ≡ 1) × (new ≡ old)
Adds old message (Err Memory) new =
    (message.line < lines_of old message.worker) × (times old message.worker message.line ≡ 0) × (new ≡ old)

-- ---- how the code keeps them

-- the replies by worker and line, as messages
abbrev pub messages_in : List ((ℕ × ℕ) × Answer) → List Message
messages_in replies = map (λ entry. record { worker = entry.0.0; line = entry.0.1; reply = entry.1 }) replies

abbrev pub collected_in : List ℕ → List ((ℕ × ℕ) × Answer) → Collected
collected_in lines replies = record { lines = lines; messages = messages_in replies }
