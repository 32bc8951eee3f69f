use Rattle.mt_routes_tests.proofs.acts.routers_answer_by_what_is_published.Given as goal

-- the list that was just opened
abbrev pub ghosts-plays : goal.ghosts-plays
ghosts-plays g a = record { book = a.opened.seen.book; shown = a.opened.blank.name }
