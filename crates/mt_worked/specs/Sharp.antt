-- Scripts of which each tells a definition apart from a wrong one that is close to it.
use Rattle.std.specs.Prelude.{◌≡◌, ℕ, List, [], ◌∷◌, ◌++◌, codes}
use Rattle.mt_plain.specs.Output.{output}
use Rattle.mt_worked.specs.Scripts.{a_copied_row, a_move, a_table, both, fresh_rule_items, ok}
use Rattle.mt_worked.specs.Scripts.{Prints, shows, switched_rules}
use Rattle.mt_worked.specs.Steps.{until_level}

abbrev pub rules_with_an_own_one : List ℕ
rules_with_an_own_one =
    codes "{\"rules\":[{\"from_table\":\"commerce.corder\",\"to_tables\":[\"commerce.corder\"]},"
    ++ fresh_rule_items ++ codes "]}"

abbrev pub dump_denied_at_both : List ℕ
dump_denied_at_both =
    codes "{\"denied\":[\"commerce.corder\",\"customer.corder\"]"
    ++ codes ",\"keyspaces\":[{\"name\":\"commerce\",\"shards\":[\"-\"],\"tables\":[\"corder\"]}"
    ++ codes ",{\"name\":\"customer\",\"shards\":[\"-\"],\"tables\":[\"corder\"]}],\"rules\":["
    ++ fresh_rule_items ++ codes "],\"version\":2}"

abbrev pub dump_denied_at_the_source : List ℕ
dump_denied_at_the_source =
    codes "{\"denied\":[\"commerce.corder\"]"
    ++ codes ",\"keyspaces\":[{\"name\":\"commerce\",\"shards\":[\"-\"],\"tables\":[\"corder\"]}"
    ++ codes ",{\"name\":\"customer\",\"shards\":[\"-\"],\"tables\":[\"corder\"]}],\"rules\":["
    ++ fresh_rule_items ++ codes "],\"version\":2}"

-- The denial at the new owner goes with its own step: the journal, the step before it, leaves it.
abbrev pub the_target_is_denied_until_its_own_step : Type 0
the_target_is_denied_until_its_own_step =
    Prints both (a_move
    ++ (codes "advance mv forward 0 100", codes "events 0 rows 0")
    ∷ (codes "begin-switch mv primary", ok)
    ∷ (codes "step mv 0", ok) ∷ (codes "step mv 1", ok) ∷ (codes "step mv 2", ok) ∷ (codes "step mv 3", ok)
    ∷ (codes "step mv 4", ok) ∷ (codes "step mv 5", ok)
    ∷ (codes "dump", dump_denied_at_both)
    ∷ (codes "step mv 6", ok)
    ∷ (codes "dump", dump_denied_at_the_source)
    ∷ [])

-- Complete takes away all rules of the part: the source's own too, and those for primaries.
abbrev pub complete_takes_all_rules_of_the_part_away : Type 0
complete_takes_all_rules_of_the_part_away =
    Prints both (a_table
    ++ (codes "rule commerce.corder commerce.corder", ok)
    ∷ (codes "rule corder@primary commerce.corder", ok)
    ∷ (codes "rule commerce.corder@primary commerce.corder", ok)
    ∷ (codes "rule customer.corder@primary commerce.corder", ok)
    ∷ (codes "create mv commerce customer corder", ok)
    ∷ (codes "advance mv forward 0 100", codes "events 0 rows 0")
    ∷ (codes "switch mv all", ok)
    ∷ (codes "complete mv", ok)
    ∷ (codes "rules", codes "{\"rules\":[]}")
    ∷ (codes "get corder@primary 1", codes "none")
    ∷ [])

-- Of the entries that are read only those of moved tables are fed: one of these two.
abbrev pub entries_of_moved_tables_alone_are_fed : Type 0
entries_of_moved_tables_alone_are_fed =
    Prints both (a_table
    ++ (codes "table commerce spare", ok)
    ∷ (codes "create mv commerce customer corder", ok)
    ∷ (codes "advance mv forward 0 100", codes "events 0 rows 0")
    ∷ (codes "insert spare 1 x", ok)
    ∷ (codes "insert corder 1 a", ok)
    ∷ (codes "insert corder 2 b", ok)
    ∷ (codes "advance mv forward 0 2", codes "events 2 rows 0")
    ∷ (codes "at customer.corder@replica get 1", codes "row a")
    ∷ (codes "at customer.corder@replica get 2", codes "none")
    ∷ [])

-- An undo of the step that makes a stream gives back the one that stood in its place, frozen where the switch left it.
abbrev pub an_undo_gives_the_stream_from_before_back : Type 0
an_undo_gives_the_stream_from_before_back =
    Prints both (a_copied_row
    ++ (codes "switch mv all", ok)
    ∷ (codes "insert corder 2 b", ok)
    ∷ (codes "advance mv back 1 100", codes "events 1 rows 0")
    ∷ (codes "begin-reverse mv all", ok)
    ∷ (codes "step mv 0", ok) ∷ (codes "step mv 1", ok) ∷ (codes "step mv 2", ok) ∷ (codes "step mv 3", ok)
    ∷ (codes "step mv 4", ok)
    ∷ shows (codes "primary,replica,rdonly way back primary,replica,rdonly 5 forward frozen 1 copied back stopped 2")
    ∷ (codes "step mv 5", ok)
    ∷ shows (codes "primary,replica,rdonly way back primary,replica,rdonly 6 forward stopped 2 copied back stopped 2")
    ∷ (codes "undo mv 6", ok)
    ∷ shows (codes "primary,replica,rdonly way back primary,replica,rdonly 5 undoing forward frozen 1 copied back stopped 2")
    ∷ [])

-- Of a begin that switches nothing that is told, before it is told that the copy hasn't ended.
abbrev pub nothing_to_switch_is_told_before_copying : Type 0
nothing_to_switch_is_told_before_copying =
    Prints both (a_move
    ++ (codes "begin-switch mv -", codes "refused F15 NothingToSwitch")
    ∷ (codes "begin-switch mv all", codes "refused F17 Copying")
    ∷ [])

-- Of an undo behind the journal that is told, whatever number it names.
abbrev pub past_journal_is_told_before_stale : Type 0
past_journal_is_told_before_stale =
    Prints both (until_level
    ++ (codes "step mv 4", ok) ∷ (codes "step mv 5", ok) ∷ (codes "step mv 6", ok)
    ∷ (codes "undo mv 3", codes "refused F19 PastJournal")
    ∷ (codes "undo mv 7", codes "refused F19 PastJournal")
    ∷ [])

-- A name of a table is in one live workflow, whatever the keyspaces of either.
abbrev pub a_name_of_a_table_is_in_one_workflow : Type 0
a_name_of_a_table_is_in_one_workflow =
    Prints both (a_table
    ++ (codes "keyspace archive", ok)
    ∷ (codes "create mv commerce customer corder", ok)
    ∷ (codes "table archive corder", ok)
    ∷ (codes "keyspace depot", ok)
    ∷ (codes "create m2 archive depot corder", codes "refused F8 TableInWorkflow")
    ∷ [])

-- Writes to several moved tables are fed in the order in which they were acknowledged, not table by table.
abbrev pub writes_are_fed_in_the_order_acknowledged : Type 0
writes_are_fed_in_the_order_acknowledged =
    Prints both (a_table
    ++ (codes "table commerce spare", ok)
    ∷ (codes "create mv commerce customer corder,spare", ok)
    ∷ (codes "advance mv forward 0 100", codes "events 0 rows 0")
    ∷ (codes "insert spare 1 x", ok)
    ∷ (codes "insert corder 1 a", ok)
    ∷ (codes "advance mv forward 0 1", codes "events 1 rows 0")
    ∷ (codes "at customer.spare@replica get 1", codes "row x")
    ∷ (codes "at customer.corder@replica get 1", codes "none")
    ∷ [])

-- A rule of the source's own name from before Create is served while the source is the owner, and stands behind Cancel.
abbrev pub the_rule_of_the_sources_own_name_stays : Type 0
the_rule_of_the_sources_own_name_stays =
    Prints both (a_table
    ++ (codes "rule commerce.corder commerce.corder", ok)
    ∷ (codes "create mv commerce customer corder", ok)
    ∷ (codes "rules", rules_with_an_own_one)
    ∷ (codes "advance mv forward 0 100", codes "events 0 rows 0")
    ∷ (codes "switch mv all", ok)
    ∷ (codes "rules", switched_rules)
    ∷ (codes "reverse mv all", ok)
    ∷ (codes "rules", rules_with_an_own_one)
    ∷ (codes "cancel mv", ok)
    ∷ (
      codes "rules",
      codes "{\"rules\":[{\"from_table\":\"commerce.corder\",\"to_tables\":[\"commerce.corder\"]}]}",
    )
    ∷ [])

-- An undo of a refresh on a way back opens the shard that was closed last, and no other.
abbrev pub an_undo_of_a_refresh_opens_one_shard : Type 0
an_undo_of_a_refresh_opens_one_shard =
    Prints both (
    (codes "keyspace commerce", ok)
    ∷ (codes "keyspace customer -80,80-", ok)
    ∷ (codes "table commerce corder", ok)
    ∷ (codes "insert corder 1 a", ok)
    ∷ (codes "insert corder 9223372036854775808 b", ok)
    ∷ (codes "create mv commerce customer corder", ok)
    ∷ (codes "advance mv forward/-80 2 100", codes "events 0 rows 1")
    ∷ (codes "advance mv forward/80- 2 100", codes "events 0 rows 1")
    ∷ (codes "switch mv all", ok)
    ∷ (codes "begin-reverse mv primary", ok)
    ∷ (codes "step mv 0", ok) ∷ (codes "step mv 1", ok) ∷ (codes "step mv 2", ok) ∷ (codes "undo mv 3", ok)
    ∷ (codes "at customer.corder insert 2 c", codes "refused F3 Denied")
    ∷ (codes "at customer.corder insert 9223372036854775809 d", ok)
    ∷ (codes "undo mv 2", ok)
    ∷ (codes "at customer.corder insert 2 c", ok)
    ∷ shows (codes "primary,replica,rdonly way back primary 1 undoing forward -80 frozen 2 copied 80- frozen 2 copied back -80 running 1 80- running 1")
    ∷ [])

-- A carriage return before a line feed is no part of its line; at the end of a last line without one it is.
abbrev pub a_carriage_return_of_the_last_line_stays : Type 0
a_carriage_return_of_the_last_line_stays =
    output [] (codes "keyspace k\r\nkeyspace j\r") ≡ codes "ok\nrefused X1 BadLine\n"
