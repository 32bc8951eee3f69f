-- Worked scripts of switches step by step: waiting, giving up, going on, and what comes too late.
use Rattle.std.specs.Prelude.{List, [], ◌∷◌, ◌++◌, codes}
use Rattle.mt_worked.specs.Scripts.{a_copied_row, a_move, both, Line, ok, Prints, shows}

-- a switch up to the step that asks whether all is fed, with a write that it waits for; then the source is closed
abbrev pub until_level : List Line
until_level =
    a_copied_row
    ++ (codes "begin-switch mv all", ok)
    ∷ (codes "step mv 0", ok)
    ∷ (codes "insert corder 2 b", ok)
    ∷ (codes "step mv 1", ok) ∷ (codes "step mv 2", ok)
    ∷ (codes "step mv 3", codes "refused F18 NotLevel")
    ∷ (codes "advance mv forward 1 100", codes "events 1 rows 0")
    ∷ (codes "step mv 3", ok)
    ∷ (codes "insert corder 3 c", codes "refused F3 Denied")
    ∷ []

-- the same up to its end, with an undo that comes too late
abbrev pub past_the_journal : List Line
past_the_journal =
    until_level
    ++ (codes "step mv 4", ok) ∷ (codes "step mv 5", ok) ∷ (codes "step mv 6", ok)
    ∷ (codes "undo mv 7", codes "refused F19 PastJournal")
    ∷ (codes "step mv 7", ok) ∷ (codes "step mv 8", ok) ∷ (codes "step mv 9", ok) ∷ (codes "step mv 10", ok)
    ∷ (codes "step mv 11", ok)
    ∷ shows (codes "primary,replica,rdonly way none forward frozen 2 copied back running 2")
    ∷ []

abbrev pub switch_by_steps_until_level : Type 0
switch_by_steps_until_level = Prints both until_level

abbrev pub give_up_by_undo : Type 0
give_up_by_undo =
    Prints both (until_level
    ++ (codes "step mv 4", ok) ∷ (codes "step mv 5", ok) ∷ (codes "undo mv 6", ok)
    ∷ (codes "step mv 5", codes "refused F28 Undoing")
    ∷ (codes "undo mv 5", ok) ∷ (codes "undo mv 4", ok) ∷ (codes "undo mv 3", ok) ∷ (codes "undo mv 2", ok)
    ∷ (codes "undo mv 1", ok)
    ∷ (codes "insert corder 3 c", ok)
    ∷ (codes "undo mv 0", codes "refused F14 NothingUnderWay")
    ∷ shows (codes "- way none forward running 2 copied back none")
    ∷ [])

abbrev pub switch_by_steps_past_the_journal : Type 0
switch_by_steps_past_the_journal = Prints both past_the_journal

abbrev pub old_owner_is_closed_after_switch : Type 0
old_owner_is_closed_after_switch =
    Prints both (past_the_journal
    ++ (codes "at commerce.corder insert 4 d", codes "refused F3 Denied")
    ∷ (codes "get corder 4", codes "none")
    ∷ (codes "at commerce.corder@replica get 4", codes "none")
    ∷ [])

abbrev pub stale_positions_and_steps : Type 0
stale_positions_and_steps =
    Prints both (a_copied_row
    ++ (codes "update corder 1 b", ok)
    ∷ (codes "advance mv forward 1 100", codes "events 1 rows 0")
    ∷ (codes "advance mv forward 1 100", codes "refused F25 Stale")
    ∷ (codes "at customer.corder@replica get 1", codes "row b")
    ∷ (codes "begin-switch mv all", ok)
    ∷ (codes "step mv 0", ok)
    ∷ (codes "step mv 0", codes "refused F25 Stale")
    ∷ (codes "cancel mv", codes "refused F13 UnderWay")
    ∷ (codes "advance mv forward 2 65536", codes "refused X1 BadLine")
    ∷ [])

abbrev pub undo_of_a_way_without_steps : Type 0
undo_of_a_way_without_steps =
    Prints both (a_move
    ++ (codes "advance mv forward 0 100", codes "events 0 rows 0")
    ∷ (codes "begin-switch mv replica", ok)
    ∷ (codes "undo mv 0", ok)
    ∷ (codes "begin-switch mv replica", ok)
    ∷ (codes "step mv 0", ok)
    ∷ (codes "undo mv 1", codes "refused F14 NothingUnderWay")
    ∷ shows (codes "replica way none forward running 0 copied back none")
    ∷ [])

abbrev pub show_of_an_open_way_and_of_undoing : Type 0
show_of_an_open_way_and_of_undoing =
    Prints both (until_level
    ++ shows (codes "- way forward primary,replica,rdonly 4 forward running 2 copied back none")
    ∷ (codes "step mv 3", codes "refused F25 Stale")
    ∷ (codes "undo mv 4", ok)
    ∷ shows (codes "- way forward primary,replica,rdonly 3 undoing forward running 2 copied back none")
    ∷ (codes "step mv 3", codes "refused F28 Undoing")
    ∷ [])

abbrev pub two_workflows_at_once : Type 0
two_workflows_at_once =
    Prints both (
    (codes "keyspace commerce", ok)
    ∷ (codes "keyspace customer", ok)
    ∷ (codes "table commerce a", ok)
    ∷ (codes "table commerce b", ok)
    ∷ (codes "insert a 1 x", ok)
    ∷ (codes "create m1 commerce customer a", ok)
    ∷ (codes "create m2 commerce customer b", ok)
    ∷ (codes "advance m1 forward 1 100", codes "events 0 rows 1")
    ∷ (codes "advance m2 forward 1 100", codes "events 0 rows 0")
    ∷ (codes "begin-switch m1 all", ok)
    ∷ (codes "begin-switch m2 all", ok)
    ∷ (codes "step m1 0", ok) ∷ (codes "step m1 1", ok) ∷ (codes "step m2 0", ok) ∷ (codes "step m2 1", ok)
    ∷ (codes "step m2 2", ok)
    ∷ (codes "insert a 2 y", ok)
    ∷ (codes "undo m1 2", ok) ∷ (codes "undo m1 1", ok) ∷ (codes "step m2 3", ok) ∷ (codes "step m2 4", ok)
    ∷ (codes "step m2 5", ok) ∷ (codes "step m2 6", ok) ∷ (codes "step m2 7", ok) ∷ (codes "step m2 8", ok)
    ∷ (codes "step m2 9", ok) ∷ (codes "step m2 10", ok) ∷ (codes "step m2 11", ok)
    ∷ (codes "insert a 3 z", ok)
    ∷ (codes "insert b 1 q", ok)
    ∷ (codes "get customer.b 1", codes "row q")
    ∷ [])
