use Rattle.mt_routes_tests.proofs.memory.no_memory_is_asked_for.Given as goal

-- the list that was just opened
abbrev pub ghosts-are_answered_anew : goal.ghosts-are_answered_anew
ghosts-are_answered_anew g a = record { book = a.opened.seen.book; shown = a.opened.blank.name }
