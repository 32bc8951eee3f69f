-- Worked scripts of whole switches and reversals, and of what follows them.
use Rattle.std.specs.Prelude.{[], ◌∷◌, ◌++◌, replicate, codes}
use Rattle.mt_worked.specs.Scripts.{a_copied_row, a_move, a_table, both, fresh_rules, ok}
use Rattle.mt_worked.specs.Scripts.{Prints, shows, switched_rules, target_alone}

abbrev pub switch_of_empty_table : Type 0
switch_of_empty_table =
    Prints both (a_move
    ++ (codes "switch mv all", codes "refused F17 Copying")
    ∷ (codes "advance mv forward 0 65535", codes "events 0 rows 0")
    ∷ (codes "switch mv all", ok)
    ∷ shows (codes "primary,replica,rdonly way none forward frozen 0 copied back running 0")
    ∷ [])

abbrev pub switch_and_reverse : Type 0
switch_and_reverse =
    Prints both (a_copied_row
    ++ (codes "switch mv all", ok)
    ∷ (codes "insert corder 2 b", ok)
    ∷ (codes "append corder 1 x", ok)
    ∷ (codes "advance mv back 1 100", codes "events 2 rows 0")
    ∷ (codes "reverse mv all", ok)
    ∷ (codes "get corder 1", codes "row ax")
    ∷ (codes "get corder 2", codes "row b")
    ∷ shows (codes "- way none forward running 3 copied back none")
    ∷ (codes "append corder 1 y", ok)
    ∷ (codes "get corder 1", codes "row axy")
    ∷ (codes "rules", fresh_rules)
    ∷ [])

abbrev pub switch_and_reverse_after_many_updates : Type 0
switch_and_reverse_after_many_updates =
    Prints both (a_table
    ++ (codes "insert corder 1 a", ok)
    ∷ (codes "create mv commerce customer corder", ok)
    ∷ replicate 600 (codes "update corder 1 a", ok)
    ++ (codes "advance mv forward 1 600", codes "events 600 rows 0")
    ∷ (codes "advance mv forward 601 100", codes "events 0 rows 1")
    ∷ (codes "switch mv all", ok)
    ∷ (codes "insert corder 2 b", ok)
    ∷ (codes "append corder 1 x", ok)
    ∷ (codes "advance mv back 1 100", codes "events 2 rows 0")
    ∷ (codes "reverse mv all", ok)
    ∷ (codes "get corder 1", codes "row ax")
    ∷ (codes "get corder 2", codes "row b")
    ∷ shows (codes "- way none forward running 603 copied back none")
    ∷ (codes "append corder 1 y", ok)
    ∷ (codes "get corder 1", codes "row axy")
    ∷ (codes "rules", fresh_rules)
    ∷ [])

abbrev pub switch_and_reverse_of_two_shards : Type 0
switch_and_reverse_of_two_shards =
    Prints both (
    (codes "keyspace commerce", ok)
    ∷ (codes "keyspace customer -80,80-", ok)
    ∷ (codes "table commerce corder", ok)
    ∷ (codes "insert corder 1 a", ok)
    ∷ (codes "insert corder 9223372036854775808 b", ok)
    ∷ (codes "create mv commerce customer corder", ok)
    ∷ (codes "advance mv forward 2 100", codes "refused F32 NoShard")
    ∷ (codes "advance mv forward/-80 2 100", codes "events 0 rows 1")
    ∷ (codes "advance mv forward/80- 2 100", codes "events 0 rows 1")
    ∷ (codes "switch mv all", ok)
    ∷ (codes "append corder 9223372036854775808 x", ok)
    ∷ (codes "get corder 9223372036854775808", codes "row bx")
    ∷ (codes "reverse mv all", ok)
    ∷ (codes "get corder 9223372036854775808", codes "row bx")
    ∷ shows (codes "- way none forward -80 running 3 copied 80- running 3 copied back none")
    ∷ [])

abbrev pub switch_of_replica_reads_alone : Type 0
switch_of_replica_reads_alone =
    Prints both (a_copied_row
    ++ (codes "switch mv replica", ok)
    ∷ (codes "cancel mv", codes "refused F20 TrafficSwitched")
    ∷ (codes "get corder@replica 1", codes "row a")
    ∷ (codes "append corder 1 x", ok)
    ∷ (codes "get corder@replica 1", codes "row a")
    ∷ (codes "get corder 1", codes "row ax")
    ∷ (codes "advance mv forward 1 100", codes "events 1 rows 0")
    ∷ (codes "get corder@replica 1", codes "row ax")
    ∷ (codes "reverse mv replica", ok)
    ∷ (codes "cancel mv", ok)
    ∷ [])

abbrev pub switch_without_a_source_watcher : Type 0
switch_without_a_source_watcher =
    Prints target_alone (a_move
    ++ (codes "advance mv forward 0 100", codes "events 0 rows 0")
    ∷ (codes "switch mv all", codes "abandoned F24 NoWatcher")
    ∷ (codes "insert corder 1 a", ok)
    ∷ shows (codes "- way none forward running 0 copied back none")
    ∷ [])

abbrev pub rules_with_all_switched : Type 0
rules_with_all_switched =
    Prints both (a_move
    ++ (codes "advance mv forward 0 100", codes "events 0 rows 0")
    ∷ (codes "switch mv all", ok)
    ∷ (codes "rules", switched_rules)
    ∷ [])

abbrev pub complete_after_all_is_switched : Type 0
complete_after_all_is_switched =
    Prints both (a_copied_row
    ++ (codes "switch mv primary", ok)
    ∷ (codes "complete mv", codes "refused F21 NotAllSwitched")
    ∷ (codes "switch mv all", ok)
    ∷ (codes "complete mv", ok)
    ∷ (codes "get commerce.corder 1", codes "refused F2 NoTable")
    ∷ (codes "get corder 1", codes "row a")
    ∷ (codes "cancel mv", codes "refused F7 NoWorkflow")
    ∷ (codes "rules", codes "{\"rules\":[]}")
    ∷ [])
