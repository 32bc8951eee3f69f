-- The rule of a list of publications that threads share, and what its steps tell.
use Rattle.std.specs.Prelude.{ℕ, ◌≡◌, ◌==◌, true, List, [], ◌∷◌, ◌++◌, length, MatchBool}
use Rattle.logbook.specs.Pages.{Book, Cell, Named, Step, View}
use Rattle.mt_routes.specs.declared.publication.Publication.{Publication}
use Rattle.mt_routes.specs.Publications.{Rises}

-- the first word is the length of the list, whose fronts never fall; the list has two words, of which this one leaves the second at 0
pub record IsKept (cells : List Cell) (list : List Publication) : Type 0 where
  pub words : cells ≡ (length list, true) ∷ (0, true) ∷ []
  pub rises : Rises list

-- the word that holds the length
abbrev pub head_of : Book → Named
head_of book = record { tracked = true; key = 0; book = book }

-- the publication was added to all that had been seen; or the list was longer, and was seen
abbrev pub Adds : Step Publication → View Publication ℕ → ℕ → View Publication ℕ → Type 0
Adds step before found after =
    MatchBool (found == step.old) ((after.0 ≡ before.0 ++ step.ask ∷ []) × Rises after.0) ((length after.0 ≡ found) × Rises after.0)
