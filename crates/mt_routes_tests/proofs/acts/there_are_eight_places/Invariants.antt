use Rattle.mt_routes_tests.proofs.acts.there_are_eight_places.Given as goal

-- the list that was just opened
abbrev pub ghosts-has_eight_places : goal.ghosts-has_eight_places
ghosts-has_eight_places g a = record { book = a.opened.seen.book; shown = a.opened.blank.name }
