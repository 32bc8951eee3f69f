use Rattle.mt_routes_tests.proofs.memory.want_of_memory_is_no_other_answer.Given as goal

-- the list that was just opened
abbrev pub ghosts-are_published : goal.ghosts-are_published
ghosts-are_published g a = record { book = a.opened.seen.book; shown = a.opened.blank.name }
