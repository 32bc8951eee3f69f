-- The desk has the name of its blank and of its list, and opens with this core and the scopes of these watchers.
use Rattle.mt_race.proofs.racing.race.Given as goal

abbrev pub ghosts-race_named-D-Ledger : goal.ghosts-race_named-D-Ledger
ghosts-race_named-D-Ledger g a = record { name = a.blank.name; parts = a.blank.parts }

abbrev pub ghosts-race_named-D-DeskName : goal.ghosts-race_named-D-DeskName
ghosts-race_named-D-DeskName g a = record { opening = a.site.core; scopes = g.W.Asks.scopes a.site.watchers }

abbrev pub ghosts-race_named-D-Naming : goal.ghosts-race_named-D-Naming
ghosts-race_named-D-Naming g a = record { book = a.opened.seen.book; shown = a.opened.blank.name }
