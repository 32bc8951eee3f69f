-- The desk has the name of its blank and of its list, and opens with this core and the scopes of these watchers.
use Rattle.mt_caller.proofs.together.move_together.Given as goal

abbrev pub ghosts-move_named-D-Ledger : goal.ghosts-move_named-D-Ledger
ghosts-move_named-D-Ledger g a = record { name = a.blank.name; parts = a.blank.parts }

abbrev pub ghosts-move_named-D-DeskName : goal.ghosts-move_named-D-DeskName
ghosts-move_named-D-DeskName g a = record { opening = a.site.core; scopes = g.W.Asks.scopes a.site.watchers }

abbrev pub ghosts-move_named-D-Naming : goal.ghosts-move_named-D-Naming
ghosts-move_named-D-Naming g a = record { book = a.opened.seen.book; shown = a.opened.blank.name }
