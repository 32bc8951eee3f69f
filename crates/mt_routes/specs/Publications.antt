-- Lists of publications: what routers were shown, one after the other.
use Rattle.std.specs.Prelude.{◌≡◌, ℕ, Bool, true, false, cond, nat_lt, List, [], ◌∷◌, Option, None, Some}
use Rattle.std.specs.List.{last_or}
use Rattle.mt_model.specs.declared.entries.Entry.{Entry}
use Rattle.mt_routes.specs.declared.publication.Publication.{Publication}

-- the routes that stand after so many lines of the history
abbrev pub publication : ℕ → List Entry → Publication
publication front entries = record { front = front; entries = entries }

-- how many lines of the history it speaks of; before the first publication it is none
abbrev pub front_of : Option Publication → ℕ
front_of None = 0
front_of (Some p) = p.front

-- the front of the last publication
abbrev pub last_front : List Publication → ℕ
last_front list = front_of (last_or None list)

-- the routes of a publication; before the first one there are none
abbrev pub entries_of : Option Publication → List Entry
entries_of None = []
entries_of (Some p) = p.entries

-- the routes of the last publication
abbrev pub last_routes : List Publication → List Entry
last_routes list = entries_of (last_or None list)

-- no front is below the one before it, nor the first one below `front`
abbrev pub rises_from : ℕ → List Publication → Bool
rises_from front [] = true
rises_from front (p ∷ ps) = cond (nat_lt p.front front) false (rises_from p.front ps)

-- the fronts never fall
abbrev pub Rises : List Publication → Type 0
Rises list = rises_from 0 list ≡ true
