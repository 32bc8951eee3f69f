-- Worked scripts of moves that are begun, refused, or cancelled before anything is switched.
use Rattle.std.specs.Prelude.{[], ◌∷◌, ◌++◌, codes}
use Rattle.mt_worked.specs.Scripts.{a_copied_row, a_move, a_table, both, fresh_rules, ok, Prints, source_alone}

abbrev pub create_writes_rules_and_denies_target : Type 0
create_writes_rules_and_denies_target =
    Prints both (a_move
    ++ (codes "rules", fresh_rules)
    ∷ (codes "at customer.corder insert 1 a", codes "refused F3 Denied")
    ∷ [])

abbrev pub create_refuses_a_conflicting_rule : Type 0
create_refuses_a_conflicting_rule =
    Prints both (a_table
    ++ (codes "rule corder other.corder", ok)
    ∷ (codes "create mv commerce customer corder", codes "refused F9 RuleConflict")
    ∷ (codes "rules", codes "{\"rules\":[{\"from_table\":\"corder\",\"to_tables\":[\"other.corder\"]}]}")
    ∷ [])

abbrev pub create_refusals : Type 0
create_refusals =
    Prints both (a_table
    ++ (codes "create mv commerce commerce corder", codes "refused F11 SameKeyspace")
    ∷ (codes "create mv nosuch customer corder", codes "refused F1 NoKeyspace")
    ∷ (codes "create mv commerce customer nosuch", codes "refused F2 NoTable")
    ∷ (codes "table customer corder", ok)
    ∷ (codes "create mv commerce customer corder", codes "refused F10 TargetHasTable")
    ∷ [])

abbrev pub create_of_a_live_name_or_table : Type 0
create_of_a_live_name_or_table =
    Prints both (a_move
    ++ (codes "create mv commerce customer corder", codes "refused F6 WorkflowExists")
    ∷ (codes "create m2 commerce customer corder", codes "refused F8 TableInWorkflow")
    ∷ [])

abbrev pub create_without_a_target_watcher : Type 0
create_without_a_target_watcher =
    Prints source_alone (a_table
    ++ (codes "create mv commerce customer corder", codes "refused F24 NoWatcher")
    ∷ (codes "rules", codes "{\"rules\":[]}")
    ∷ [])

abbrev pub cancel_after_copy : Type 0
cancel_after_copy =
    Prints both (a_copied_row
    ++ (codes "insert corder 2 b", ok)
    ∷ (codes "advance mv forward 1 100", codes "events 1 rows 0")
    ∷ (codes "cancel mv", ok)
    ∷ (codes "rules", codes "{\"rules\":[]}")
    ∷ (codes "get customer.corder 1", codes "refused F2 NoTable")
    ∷ (codes "insert corder 3 c", ok)
    ∷ [])

abbrev pub cancel_gives_back_a_rule : Type 0
cancel_gives_back_a_rule =
    Prints both (a_table
    ++ (codes "rule corder commerce.corder", ok)
    ∷ (codes "create mv commerce customer corder", ok)
    ∷ (codes "cancel mv", ok)
    ∷ (codes "rules", codes "{\"rules\":[{\"from_table\":\"corder\",\"to_tables\":[\"commerce.corder\"]}]}")
    ∷ [])

abbrev pub cancel_leaves_other_rules : Type 0
cancel_leaves_other_rules =
    Prints both (a_move
    ++ (codes "rule x commerce.x", ok)
    ∷ (codes "rule corder@rdonly customer.corder", codes "refused F22 RuleOwned")
    ∷ (codes "cancel mv", ok)
    ∷ (codes "rules", codes "{\"rules\":[{\"from_table\":\"x\",\"to_tables\":[\"commerce.x\"]}]}")
    ∷ [])
