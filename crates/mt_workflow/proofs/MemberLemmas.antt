-- The keys of a part are those that the definitions count to it.
use Rattle.std.proofs.Common.{◌≡◌, ℕ, zero, suc, ◌<◌, Bool, true, false, ◌&&◌, ◌||◌, List, [], ◌∷◌, ◌++◌, All, Contains, length, map, slice_index_or, Option, None, Some, refl, ap, sym, subst, arith, ◌∙◌}
use Rattle.std.specs.List.{flat_map}
use Rattle.std.specs.Option.{option_map_or}
use Rattle.std.proofs.Math.ListN.{get_or-map}
use Rattle.std.proofs.lemmas.List.{length-map}
use Rattle.std.proofs.lemmas.List.Elements.{All-append, All-contains, All-contains_itself, All-from_recursion, All-head, All-nil, All-tail, Contains-append_left, Contains-append_right}
use Rattle.mt_names.specs.declared.keys.RuleKey.{RuleKey}
use Rattle.mt_names.specs.declared.types.TabletType.{TabletType}
use Rattle.mt_names.specs.declared.types.TabletType.TheVariants.{Primary, Replica, Rdonly}
use Rattle.mt_names.specs.Names.{same_text}
use Rattle.mt_names.proofs.SameLemmas.{same_text_decides}
use Rattle.mt_names.proofs.BoolLemmas.{both, or-true}
use Rattle.mt_model.specs.declared.entries.EntryKey.{EntryKey}
use Rattle.mt_model.specs.declared.entries.EntryKey.TheVariants as about
use Rattle.mt_model.specs.Part.{keys_of_name, part_keys, table_part_keys, table_rule_keys}
use Rattle.mt_plain.specs.Plain.{Live, among, has_part, is_side, moves}

-- the table that a key is about
abbrev pub table_of : EntryKey → List ℕ
table_of (about.Rule key) = key.table
table_of (about.Denied keyspace table) = table
table_of (about.Present keyspace table) = table

-- ---- a key that is counted to it is one of its keys

in_name : (keyspace : Option (List ℕ)) (table : List ℕ) (type : Option TabletType) → Contains (keys_of_name keyspace table) (record { keyspace = keyspace; table = table; tablet_type = type })
in_name keyspace table None = (0, omega arith, refl)
in_name keyspace table (Some Primary) = (1, omega arith, refl)
in_name keyspace table (Some Replica) = (2, omega arith, refl)
in_name keyspace table (Some Rdonly) = (3, omega arith, refl)

in_rules : (source target table : List ℕ) (keyspace : Option (List ℕ)) (type : Option TabletType) → option_map_or (λ k. same_text source k || same_text target k) keyspace true ≡ true
    → Contains (table_rule_keys source target table) (record { keyspace = keyspace; table = table; tablet_type = type })
in_rules source target table None type is =
    Contains-append_left (keys_of_name None table) (keys_of_name (Some source) table ++ keys_of_name (Some target) table) (record { keyspace = None; table = table; tablet_type = type }) (in_name None table type)
in_rules source target table (Some k) type is = by (same_text source k) refl
  where
    at : List ℕ → RuleKey
    at side = record { keyspace = Some side; table = table; tablet_type = type }

    sides : (side : List ℕ) → Contains (keys_of_name (Some source) table ++ keys_of_name (Some target) table) (at side) → Contains (table_rule_keys source target table) (at side)
    sides side = Contains-append_right (keys_of_name None table) (keys_of_name (Some source) table ++ keys_of_name (Some target) table) (at side)

    by : (t : Bool) → same_text source k ≡ t → Contains (table_rule_keys source target table) (at k)
    by true t =
        subst (λ side. Contains (table_rule_keys source target table) (at side)) ((same_text_decides source k).0 t)
        (sides source (Contains-append_left (keys_of_name (Some source) table) (keys_of_name (Some target) table) (at source) (in_name (Some source) table type)))
    by false t =
        let other : same_text target k ≡ true = rw t at is in
        subst (λ side. Contains (table_rule_keys source target table) (at side)) ((same_text_decides target k).0 other)
        (sides target (Contains-append_right (keys_of_name (Some source) table) (keys_of_name (Some target) table) (at target) (in_name (Some target) table type)))

pub in_map : (keys : List RuleKey) (key : RuleKey) → Contains keys key → Contains (map about.Rule keys) (about.Rule key)
in_map keys key there = (there.0, omega (arith, there.1, length-map keys about.Rule), get_or-map about.Rule keys there.0 key ∙ ap about.Rule there.2)

in_table : (w : Live) (key : EntryKey) → has_part w key ≡ true → Contains (table_part_keys w.source w.target (table_of key)) key
in_table w (about.Rule key) part =
    let rules = table_rule_keys w.source w.target key.table in
    Contains-append_left (map about.Rule rules) (about.Denied w.source key.table ∷ about.Denied w.target key.table ∷ about.Present w.target key.table ∷ []) (about.Rule key)
    (in_map rules key (in_rules w.source w.target key.table key.keyspace key.tablet_type (both (moves w key.table) (option_map_or (is_side w) key.keyspace true) part).1))
in_table w (about.Denied keyspace table) part = by (same_text w.source keyspace) refl
  where
    side : is_side w keyspace ≡ true
    side = (both (moves w table) (is_side w keyspace) part).1

    by : (t : Bool) → same_text w.source keyspace ≡ t → Contains (table_part_keys w.source w.target table) (about.Denied keyspace table)
    by true t = (12, omega arith, ap (λ k. about.Denied k table) ((same_text_decides w.source keyspace).0 t))
    by false t = let other : same_text w.target keyspace ≡ true = rw t at side in (13, omega arith, ap (λ k. about.Denied k table) ((same_text_decides w.target keyspace).0 other))
in_table w (about.Present keyspace table) part =
    (14, omega arith, ap (λ k. about.Present k table) ((same_text_decides w.target keyspace).0 (both (moves w table) (same_text w.target keyspace) part).1))

pub moved : (w : Live) (key : EntryKey) → has_part w key ≡ true → moves w (table_of key) ≡ true
moved w (about.Rule key) part = (both (moves w key.table) (option_map_or (is_side w) key.keyspace true) part).0
moved w (about.Denied keyspace table) part = (both (moves w table) (is_side w keyspace) part).0
moved w (about.Present keyspace table) part = (both (moves w table) (same_text w.target keyspace) part).0

in_flat : {K : Type 0} (f : List ℕ → List K) (tables : List (List ℕ)) (table : List ℕ) (key : K) → Contains (f table) key → among tables table ≡ true → Contains (flat_map f tables) key
in_flat f [] table key one named = absurd cc
in_flat f (first ∷ tables) table key one named = by (in_flat f tables table key one) (same_text first table) refl
  where
    by : (among tables table ≡ true → Contains (flat_map f tables) key) → (t : Bool) → same_text first table ≡ t → Contains (flat_map f (first ∷ tables)) key
    by again true t = Contains-append_left (f first) (flat_map f tables) key (subst (λ n. Contains (f n) key) (sym ((same_text_decides first table).0 t)) one)
    by again false t = Contains-append_right (f first) (flat_map f tables) key (again (rw t at named))

pub in_part : (w : Live) (key : EntryKey) → has_part w key ≡ true → Contains (part_keys w.source w.target w.tables) key
in_part w key part = in_flat (table_part_keys w.source w.target) w.tables (table_of key) key (in_table w key part) (moved w key part)

pub rule_in_part : (w : Live) (key : RuleKey) → has_part w (about.Rule key) ≡ true → Contains (flat_map (table_rule_keys w.source w.target) w.tables) key
rule_in_part w key part =
    in_flat (table_rule_keys w.source w.target) w.tables key.table key
    (in_rules w.source w.target key.table key.keyspace key.tablet_type (both (moves w key.table) (option_map_or (is_side w) key.keyspace true) part).1) (moved w (about.Rule key) part)

-- ---- a key of it is counted to it

among-there : (names : List (List ℕ)) (name : List ℕ) (k : ℕ) → k < length names → slice_index_or names k name ≡ name → among names name ≡ true
among-there [] name k below is = absurd (omega (arith, below))
among-there (n ∷ ns) name zero below is = let same : same_text n name ≡ true = (same_text_decides n name).1 is in rw same refl
among-there (n ∷ ns) name (suc k) below is = let later : among ns name ≡ true = among-there ns name k (omega (arith, below)) is in rw later (or-true (same_text n name))

counted : (w : Live) (tables : List (List ℕ)) → All (λ t. moves w t ≡ true) tables → All (λ key. has_part w key ≡ true) (part_keys w.source w.target tables)
counted w [] all = All-nil (λ key. has_part w key ≡ true)
counted w (table ∷ tables) all =
    let moved : moves w table ≡ true = All-head (λ t. moves w t ≡ true) table tables all in
    let source : same_text w.source w.source ≡ true = (same_text_decides w.source w.source).1 refl in
    let target : same_text w.target w.target ≡ true = (same_text_decides w.target w.target).1 refl in
    let plain : (moves w table && true) ≡ true = rw moved refl in
    let at_source : (moves w table && is_side w w.source) ≡ true = rw (moved, source) refl in
    let at_target : (moves w table && is_side w w.target) ≡ true = rw (moved, target) (or-true (same_text w.source w.target)) in
    let there : (moves w table && same_text w.target w.target) ≡ true = rw (moved, target) refl in
    All-append (λ key. has_part w key ≡ true) (table_part_keys w.source w.target table) (part_keys w.source w.target tables)
    (All-from_recursion (λ key. has_part w key ≡ true) (table_part_keys w.source w.target table)
    (plain, (plain, (plain, (plain, (at_source, (at_source, (at_source, (at_source, (at_target, (at_target, (at_target, (at_target, (at_source, (at_target, (there, tt))))))))))))))))
    (counted w tables (All-tail (λ t. moves w t ≡ true) table tables all))

pub each_moved : (w : Live) → All (λ t. moves w t ≡ true) w.tables
each_moved w i d inside = let itself = All-contains_itself w.tables i d inside in among-there w.tables (slice_index_or w.tables i d) itself.0 itself.1 itself.2

pub all_counted : (w : Live) → All (λ key. has_part w key ≡ true) (part_keys w.source w.target w.tables)
all_counted w = counted w w.tables (each_moved w)

pub part_of : (w : Live) (key : EntryKey) → Contains (part_keys w.source w.target w.tables) key → has_part w key ≡ true
part_of w key = All-contains (λ k. has_part w k ≡ true) (part_keys w.source w.target w.tables) key (all_counted w)
