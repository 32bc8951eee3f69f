use Rattle.mt_routes_tests.proofs.threads.four_read_while_a_fifth_publishes.Given as goal

-- the list that was just opened
abbrev pub ghosts-all_go_on : goal.ghosts-all_go_on
ghosts-all_go_on g a = record { book = a.opened.seen.book; shown = a.opened.blank.name }
