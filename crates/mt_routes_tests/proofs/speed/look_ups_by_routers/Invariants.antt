use Rattle.mt_routes_tests.proofs.speed.look_ups_by_routers.Given as goal

-- the list that was just opened
abbrev pub ghosts-are_routed : goal.ghosts-are_routed
ghosts-are_routed g a = record { book = a.opened.seen.book; shown = a.opened.blank.name }
