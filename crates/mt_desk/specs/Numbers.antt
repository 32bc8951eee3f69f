-- How passes are found by their clients, and how far each is read beside a history (this profile's own).
use Rattle.std.specs.Prelude.{◌≡◌, ◌<◌, ◌≤◌, ℕ, zero, suc, false, List, get_or, length, take}
use Rattle.mt_desk.specs.declared.history.Call.{Call}
use Rattle.mt_desk.specs.declared.history.Line.{Line}
use Rattle.mt_desk.specs.Histories.{calls_of}
use Rattle.mt_desk.specs.Passes.{has_pass}

-- the number of a pass of a client among some, counted from 1; 0 where it has none
abbrev pub IsNumber : List (ℕ × List Call) → (client number : ℕ) → Type 0
IsNumber passes client zero = has_pass passes client ≡ false
IsNumber passes client (suc i) = (i < length passes) × ((d : ℕ × List Call) → (get_or passes i d).0 ≡ client)

-- a table has that of each client
abbrev pub AreNumbers : List (ℕ × List Call) → (numbers : List ℕ) → Type 0
AreNumbers passes numbers = (client : ℕ) → IsNumber passes client (get_or numbers client 0)

-- of the numbered pass of a client so many calls are read, which are its calls in a history
abbrev pub IsReadBy : List (ℕ × List Call) → List Line → (client number read : ℕ) → Type 0
IsReadBy passes lines client zero read = Unit {0}
IsReadBy passes lines client (suc i) read =
    (d : ℕ × List Call) → (read ≤ length (get_or passes i d).1) × (calls_of client lines ≡ take read (get_or passes i d).1)

-- a table has how many, of each client
abbrev pub AreRead : List (ℕ × List Call) → List Line → (numbers read : List ℕ) → Type 0
AreRead passes lines numbers read = (client : ℕ) → IsReadBy passes lines client (get_or numbers client 0) (get_or read client 0)
