-- How a worked script is written: each line with what is printed for it.
use Rattle.std.specs.Prelude.{◌≡◌, ℕ, List, [], ◌∷◌, ◌++◌, codes}
use Rattle.std.specs.List.{flat_map}
use Rattle.mt_plain.specs.Output.{line_feed, output, watchers_of}

-- a line that is asked, with what is printed for it
abbrev pub Line : Type 0
Line = List ℕ × List ℕ

abbrev pub ok : List ℕ
ok = codes "ok"

abbrev pub asked : List Line → List ℕ
asked lines = flat_map (λ line. line.0 ++ line_feed) lines

abbrev pub answered : List Line → List ℕ
answered lines = flat_map (λ line. line.1 ++ line_feed) lines

-- started with these keyspaces, whose primaries have a watcher, a program prints for each line what stands beside it
abbrev pub Prints : (keyspaces : List (List ℕ)) → List Line → Type 0
Prints keyspaces lines = output (watchers_of keyspaces) (asked lines) ≡ answered lines

-- the line that shows the move, with what is told of it behind its names
abbrev pub shows : List ℕ → Line
shows text = (codes "show mv", codes "mv commerce customer corder switched " ++ text)

abbrev pub both : List (List ℕ)
both = codes "commerce" ∷ codes "customer" ∷ []

abbrev pub source_alone : List (List ℕ)
source_alone = codes "commerce" ∷ []

abbrev pub target_alone : List (List ℕ)
target_alone = codes "customer" ∷ []

-- ---- how scripts begin

-- two keyspaces, and a table in the first
abbrev pub a_table : List Line
a_table =
    (codes "keyspace commerce", ok)
    ∷ (codes "keyspace customer", ok)
    ∷ (codes "table commerce corder", ok)
    ∷ []

-- a workflow that is to move it to the second
abbrev pub a_move : List Line
a_move =
    a_table
    ++ (codes "create mv commerce customer corder", ok)
    ∷ []

-- the same behind a row, which is copied
abbrev pub a_copied_row : List Line
a_copied_row =
    a_table
    ++ (codes "insert corder 1 a", ok)
    ∷ (codes "create mv commerce customer corder", ok)
    ∷ (codes "advance mv forward 1 100", codes "events 0 rows 1")
    ∷ []

-- ---- documents

-- the rules of a workflow of which nothing is switched: all names lead to the source, whose own needs none
abbrev pub fresh_rule_items : List ℕ
fresh_rule_items =
    codes "{\"from_table\":\"commerce.corder@rdonly\",\"to_tables\":[\"commerce.corder\"]}"
    ++ codes ",{\"from_table\":\"commerce.corder@replica\",\"to_tables\":[\"commerce.corder\"]}"
    ++ codes ",{\"from_table\":\"corder\",\"to_tables\":[\"commerce.corder\"]}"
    ++ codes ",{\"from_table\":\"corder@rdonly\",\"to_tables\":[\"commerce.corder\"]}"
    ++ codes ",{\"from_table\":\"corder@replica\",\"to_tables\":[\"commerce.corder\"]}"
    ++ codes ",{\"from_table\":\"customer.corder\",\"to_tables\":[\"commerce.corder\"]}"
    ++ codes ",{\"from_table\":\"customer.corder@rdonly\",\"to_tables\":[\"commerce.corder\"]}"
    ++ codes ",{\"from_table\":\"customer.corder@replica\",\"to_tables\":[\"commerce.corder\"]}"

abbrev pub fresh_rules : List ℕ
fresh_rules = codes "{\"rules\":[" ++ fresh_rule_items ++ codes "]}"

-- the rules of one of which all is switched
abbrev pub switched_rules : List ℕ
switched_rules =
    codes "{\"rules\":[{\"from_table\":\"commerce.corder\",\"to_tables\":[\"customer.corder\"]}"
    ++ codes ",{\"from_table\":\"commerce.corder@rdonly\",\"to_tables\":[\"customer.corder\"]}"
    ++ codes ",{\"from_table\":\"commerce.corder@replica\",\"to_tables\":[\"customer.corder\"]}"
    ++ codes ",{\"from_table\":\"corder\",\"to_tables\":[\"customer.corder\"]}"
    ++ codes ",{\"from_table\":\"corder@rdonly\",\"to_tables\":[\"customer.corder\"]}"
    ++ codes ",{\"from_table\":\"corder@replica\",\"to_tables\":[\"customer.corder\"]}"
    ++ codes ",{\"from_table\":\"customer.corder@rdonly\",\"to_tables\":[\"customer.corder\"]}"
    ++ codes ",{\"from_table\":\"customer.corder@replica\",\"to_tables\":[\"customer.corder\"]}]}"
