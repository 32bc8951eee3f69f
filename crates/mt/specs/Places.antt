-- What is put into a place that C lends.
use Rattle.std.specs.Prelude.{◌≡◌, ℕ, ◌<◌, ◌≤◌, List, ◌++◌, length, take, string_bytes}
use Rattle.mt_plain.specs.Output.{line_feed}
use Rattle.mt_run.specs.declared.line_run.Answered.{Answered}
use Rattle.mt_run.specs.declared.line_run.Answered.TheVariants as how
use Rattle.mt.specs.declared.status.Status.{Status}
use Rattle.mt.specs.declared.status.Status.TheVariants as status

-- the text stands at the beginning of the place; or the place has no room for it, is as it was, and is told how much it takes
abbrev pub Puts : (text old new : List ℕ) → Status × ℕ → Type 0
Puts text old new (status.Done, count) = (count ≡ length text) × (count ≤ length new) × (length new ≡ length old) × (take count new ≡ text)
Puts text old new (status.Room, count) = (count ≡ length text) × (length old < count) × (new ≡ old)
Puts text old new (other, count) = ⊥

-- what answers a line: what waits, or a document with a line feed; where there was no memory for it, nothing is put
abbrev pub PutsAnswer : Answered → (waiting old new : List ℕ) → Status × ℕ → Type 0
PutsAnswer how.Line waiting old new told = Puts waiting old new told
PutsAnswer (how.Document text) waiting old new told = Puts (string_bytes text ++ line_feed) old new told
PutsAnswer how.NoMemory waiting old new told = (told ≡ (status.Memory, 0)) × (new ≡ old)
