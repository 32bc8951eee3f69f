-- The desk has the names of its blank and of its list, and opens with this core and the scopes of these watchers.
use Rattle.mt_replay.proofs.at_desk.by_desk.Given as goal

abbrev pub ghosts-at_a_desk-D-Ledger : goal.ghosts-at_a_desk-D-Ledger
ghosts-at_a_desk-D-Ledger g a = record { name = a.blank.name; parts = a.blank.parts }

abbrev pub ghosts-at_a_desk-D-Naming : goal.ghosts-at_a_desk-D-Naming
ghosts-at_a_desk-D-Naming g a = record { book = a.opened.seen.book; shown = a.opened.blank.name }

abbrev pub ghosts-at_a_desk-D-DeskName : goal.ghosts-at_a_desk-D-DeskName
ghosts-at_a_desk-D-DeskName g a = record { opening = a.site.core; scopes = g.W.Asks.scopes a.site.watchers }
