-- States at a limit, or beside it.
use Rattle.std.specs.Prelude.{◌++◌, ◌∷◌, ◌+◌, ◌/◌, ◌%◌, [], List, Option, Some, codes, map, replicate, suc, true}
use Rattle.std.specs.Prelude.{zero, ℕ}
use Rattle.mt_names.specs.declared.keys.RuleTarget.{RuleTarget}
use Rattle.mt_names.specs.Types.{all_types}
use Rattle.mt_model.specs.Topology.{Marks, empty_topology}
use Rattle.mt_plain.specs.Events.{Event, add_keyspace, begin_reverse, begin_switch, create, done, undo}
use Rattle.mt_plain.specs.Next.{created, next}
use Rattle.mt_plain.specs.Plain.{Plain, in_keyspace, opening}
use Rattle.mt_worked.specs.States.{after_events, before_journal, begun, commerce, copied, corder, customer, made, mv}
use Rattle.mt_worked.specs.States.{other, plain, steps_from}

-- a name of two letters for a number below 676
abbrev pub name_of : ℕ → List ℕ
name_of n = (97 + n / 26) ∷ (97 + n % 26) ∷ []

-- the names of the numbers below n, and keyspaces and tables with them
abbrev pub names : ℕ → List (List ℕ)
names zero = []
names (suc n) = names n ++ name_of n ∷ []

abbrev pub some_keyspaces : ℕ → List Event
some_keyspaces n = map (λ k. add_keyspace k []) (names n)

abbrev pub some_tables : ℕ → Marks
some_tables n = map (λ name. (name, true)) (names n)

-- a state with one keyspace, which has so many tables
abbrev pub with_tables : ℕ → Plain
with_tables n =
    record (opening []) {
      topology = record empty_topology {
        keyspaces = (codes "k", record { cuts = []; tables = some_tables n; denied = [] }) ∷ [];
      };
    }

-- a state with so many rules of one name
abbrev pub some_target : RuleTarget
some_target = record { keyspace = codes "k"; table = codes "t" }

abbrev pub with_rules : ℕ → Plain
with_rules n =
    record (opening []) {
      topology = record empty_topology { rules = replicate n (plain (codes "t"), Some some_target) };
    }

-- before the move, with so many live workflows, so many rules of another name, and so many tables at the target
abbrev pub with_workflows : ℕ → Plain
with_workflows n = record begun { lives = replicate n (created other customer commerce (other ∷ []) [] 0) }

abbrev pub with_other_rules : ℕ → Plain
with_other_rules n =
    record begun {
      topology = record begun.topology {
        rules = replicate n (plain (codes "z"), Some (in_keyspace commerce (codes "z")));
      };
    }

abbrev pub with_target_tables : ℕ → Plain
with_target_tables n =
    record begun {
      topology = record begun.topology {
        keyspaces =
            (commerce, record { cuts = []; tables = (corder, true) ∷ (other, true) ∷ []; denied = [] })
            ∷ (customer, record { cuts = []; tables = some_tables n; denied = [] }) ∷ [];
      };
    }

-- both tables are to be moved
abbrev pub made_of_both : Event
made_of_both = create mv commerce customer (corder ∷ other ∷ [])

-- a workflow of one table, where the rule entries are at their limit, and where the target's tables are
abbrev pub rules_at_limit : Plain
rules_at_limit = next (with_other_rules 4084) (made mv) done

abbrev pub tables_at_limit : Plain
tables_at_limit = next (with_target_tables 255) (made mv) done

abbrev pub some_rule : Option RuleTarget
some_rule = Some (in_keyspace commerce corder)

-- so many ways were begun, and so many entries of the journal stand
abbrev pub with_ways : ℕ → Plain
with_ways n = record copied { ways = n }

abbrev pub with_journal : ℕ → Plain
with_journal n = record before_journal { journal = n }

-- a way took the last number, and was undone
abbrev pub behind_last_way : Plain
behind_last_way = after_events (with_ways 0x7fff_ffff_ffff_fffe) (begin_switch mv all_types ∷ undo mv 0 ∷ [])

-- the last entry of the journal is taken, and a way back comes to where it writes its own
abbrev pub back_behind_last_entry : Plain
back_behind_last_entry =
    after_events (after_events (with_journal 4095) (steps_from 6 6)) (begin_reverse mv all_types ∷ steps_from 0 6)
