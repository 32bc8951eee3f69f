use Rattle.mt_routes_tests.proofs.turns.what_comes_back_leads_again.Given as goal

-- the list that was just opened
abbrev pub ghosts-plays : goal.ghosts-plays
ghosts-plays g a = record { book = a.opened.seen.book; shown = a.opened.blank.name }
