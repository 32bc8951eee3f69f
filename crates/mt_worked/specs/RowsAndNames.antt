-- Worked scripts of rows and names: what a client asks, by which name, and what is no name.
use Rattle.std.specs.Prelude.{◌≡◌, [], ◌∷◌, ◌++◌, codes}
use Rattle.mt_plain.specs.Output.{output, watchers_of}
use Rattle.mt_worked.specs.Scripts.{a_table, answered, asked, both, ok, Prints}

abbrev pub empty_script : Type 0
empty_script = Prints both []

-- its last line has no line feed
abbrev pub get_without_a_rule : Type 0
get_without_a_rule =
    output (watchers_of both) (asked a_table ++ codes "insert corder 1 a\nget corder 1")
    ≡ answered a_table ++ codes "ok\nrow a\n"

abbrev pub ambiguous_name : Type 0
ambiguous_name =
    Prints both (a_table
    ++ (codes "table customer corder", ok)
    ∷ (codes "insert commerce.corder 1 a", ok)
    ∷ (codes "get corder 1", codes "refused T3 Ambiguous")
    ∷ (codes "get commerce.corder 1", codes "row a")
    ∷ [])

abbrev pub get_back_through_a_rule : Type 0
get_back_through_a_rule =
    Prints both (
    (codes "keyspace commerce", ok)
    ∷ (codes "table commerce corder", ok)
    ∷ (codes "rule c commerce.corder", ok)
    ∷ (codes "insert c 1 a", ok)
    ∷ (codes "get c 1", codes "row a")
    ∷ [])

abbrev pub client_operations_and_refusals : Type 0
client_operations_and_refusals =
    Prints both (a_table
    ++ (codes "insert corder 1 a", ok)
    ∷ (codes "insert corder 1 b", codes "refused F4 RowExists")
    ∷ (codes "update corder 2 b", codes "refused F5 NoRow")
    ∷ (codes "append corder 2 b", codes "refused F5 NoRow")
    ∷ (codes "delete corder 1", ok)
    ∷ (codes "delete corder 1", codes "refused F5 NoRow")
    ∷ (codes "get corder 1", codes "none")
    ∷ (codes "keyspace commerce", codes "refused F30 Exists")
    ∷ (codes "table nosuch t", codes "refused F1 NoKeyspace")
    ∷ (codes "get t 1", codes "refused T2 NoTable")
    ∷ (codes "get commerce.t 1", codes "refused F2 NoTable")
    ∷ (codes "frobnicate", codes "refused X1 BadLine")
    ∷ [])

abbrev pub longest_value_and_largest_key : Type 0
longest_value_and_largest_key =
    Prints both (a_table
    ++ (codes "insert corder 0 aaaaaaaaaaaaaaaaaaaaaaaaaaaaaaaaaaaaaaaaaaaaaaaaaaaaaaaaaaaaaaaa", ok)
    ∷ (codes "append corder 0 b", codes "refused F29 TooLong")
    ∷ (codes "get corder 0", codes "row aaaaaaaaaaaaaaaaaaaaaaaaaaaaaaaaaaaaaaaaaaaaaaaaaaaaaaaaaaaaaaaa")
    ∷ (codes "insert corder 18446744073709551615 z", ok)
    ∷ (codes "insert corder 18446744073709551616 z", codes "refused X1 BadLine")
    ∷ [])

abbrev pub bad_names_and_lists : Type 0
bad_names_and_lists =
    Prints both (a_table
    ++ (codes "keyspace aaaaaaaaaaaaaaaaaaaaaaaaaaaaaaaaaaaaaaaaaaaaaaaaaaaaaaaaaaaaaaaa", ok)
    ∷ (
      codes "keyspace aaaaaaaaaaaaaaaaaaaaaaaaaaaaaaaaaaaaaaaaaaaaaaaaaaaaaaaaaaaaaaaaa",
      codes "refused N2 TooLong",
    )
    ∷ (codes "keyspace -a", codes "refused N3 BadByte")
    ∷ (codes "create mv commerce customer -", codes "refused F12 NoTables")
    ∷ (codes "create mv commerce customer corder,corder", codes "refused N4 Repeated")
    ∷ (codes "create x_reverse commerce customer corder", codes "refused N5 ReservedSuffix")
    ∷ [])
