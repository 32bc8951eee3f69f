-- Lines, counted; and readings that know some of the commands.
use Rattle.std.specs.Prelude.{◌≡◌, ℕ, List, not, ◌==◌, count_by, Option, Some}
use Rattle.mt_plain.specs.Script.{Command, command_of, is_silent}

-- how many line feeds some bytes have
abbrev pub line_feeds : List ℕ → ℕ
line_feeds bytes = count_by (λ byte. byte == 10) bytes

-- how many of some lines write
abbrev pub writing_lines : List (List ℕ) → ℕ
writing_lines lines = count_by (λ line. not (is_silent line)) lines

-- what is read of a line's words is the command that the language has there; other commands may be unknown
abbrev pub KnowsSome : (List (List ℕ) → Option Command) → Type 0
KnowsSome read = (words : List (List ℕ)) (c : Command) → read words ≡ Some c → command_of words ≡ Some c
