-- The book has the name of its blank and of its list, and opens with this core and the scopes of these watchers.
use Rattle.mt_desk_tests.proofs.giving_up.given_up_at_a_book.Given as goal

abbrev pub ghosts-give_up_anew-D-Ledger : goal.ghosts-give_up_anew-D-Ledger
ghosts-give_up_anew-D-Ledger g a = record { name = a.blank.name; parts = a.blank.parts }

abbrev pub ghosts-give_up_anew-D-DeskName : goal.ghosts-give_up_anew-D-DeskName
ghosts-give_up_anew-D-DeskName g a = record { opening = a.core; scopes = g.W.Asks.scopes a.watchers.now }

abbrev pub ghosts-give_up_anew-D-Naming : goal.ghosts-give_up_anew-D-Naming
ghosts-give_up_anew-D-Naming g a = record { book = a.opened.seen.book; shown = a.opened.blank.name }
