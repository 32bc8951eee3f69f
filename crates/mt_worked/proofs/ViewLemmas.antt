-- A list of entries is a view where a test that computes finds it so; the test looks at the places of the topology and of the parts alone.
use Rattle.std.proofs.Common.{◌≡◌, ◌≢◌, ℕ, zero, suc, ◌<◌, Bool, true, false, not, ◌&&◌, ◌||◌, List, [], ◌∷◌, ◌++◌}
use Rattle.std.proofs.Common.{map, length, find, flat_map, slice_index_or, All, AllPairs, Contains, Option, None}
use Rattle.std.proofs.Common.{Some, is_some, unwrap_or, refl, sym, ap, subst, ◌∙◌, rules, arith}
use Rattle.std.proofs.lemmas.Bool.{true≢false}
use Rattle.std.proofs.lemmas.List.Elements.{All-cons, All-contains, All-nil, Contains-append_left}
use Rattle.std.proofs.lemmas.List.Elements.{Contains-append_right}
use Rattle.std.proofs.lemmas.List.Kept.{AllPairs-cons}
use Rattle.std.specs.List.{list_all, list_any}
use Rattle.std.specs.Map.{lookup}
use Rattle.std.specs.Option.{option_map_or}
use Rattle.mt_names.specs.declared.keys.RuleKey.{RuleKey}
use Rattle.mt_names.specs.declared.types.TabletType.{TabletType}
use Rattle.mt_names.specs.declared.types.TabletType.TheVariants.{Primary, Replica, Rdonly}
use Rattle.mt_names.specs.Names.{same_text}
use Rattle.mt_names.specs.Same.{DecidesEquality, same_key}
use Rattle.mt_names.proofs.SameLemmas.{same_key_decides, same_text_decides}
use Rattle.mt_names.proofs.BoolLemmas.{both}
use Rattle.mt_model.specs.contracts.entries.EntryPartialEq.TheImpl as of_entry
use Rattle.mt_model.specs.declared.entries.Entry.{Entry}
use Rattle.mt_model.specs.declared.entries.Entry.TheVariants as entry
use Rattle.mt_model.specs.declared.entries.EntryKey.{EntryKey}
use Rattle.mt_model.specs.declared.entries.EntryKey.TheVariants as about
use Rattle.mt_model.specs.Part.{part_keys, table_part_keys}
use Rattle.mt_model.specs.Topology.{Keyspaces, Marks, Rules, is_marked, is_routed, key_of, value_of}
use Rattle.mt_model.proofs.AboutLemmas.{same_about, same_about_decides}
use Rattle.mt_plain.specs.Answers.{IsView}
use Rattle.mt_plain.specs.Plain.{Live, Plain, among, has_part, part_owner}
use Rattle.mt_plain.specs.Serve.{served_by, served_entry}

-- ---- the tests of equality that `==` computes

abbrev pub same_entry : Entry → Entry → Bool
same_entry = of_entry.ghosts.eq

pub same_entry_decides : DecidesEquality same_entry
same_entry_decides (entry.Rule j None) (entry.Rule k None) = search rules
same_entry_decides (entry.Rule j None) (entry.Rule k (Some other)) = search rules
same_entry_decides (entry.Rule j (Some target)) (entry.Rule k None) = search rules
same_entry_decides (entry.Rule j (Some target)) (entry.Rule k (Some other)) = search rules
same_entry_decides (entry.Rule j target) (entry.Denied keyspace table mark) = search rules
same_entry_decides (entry.Rule j target) (entry.Present keyspace table mark) = search rules
same_entry_decides (entry.Denied keyspace table mark) (entry.Rule k other) = search rules
same_entry_decides (entry.Denied keyspace table mark) (entry.Denied k t m) = search rules
same_entry_decides (entry.Denied keyspace table mark) (entry.Present k t m) = search rules
same_entry_decides (entry.Present keyspace table mark) (entry.Rule k other) = search rules
same_entry_decides (entry.Present keyspace table mark) (entry.Denied k t m) = search rules
same_entry_decides (entry.Present keyspace table mark) (entry.Present k t m) = search rules

-- ---- where a rule or a table may be served

abbrev rules_in : Rules → List EntryKey
rules_in rs = map (λ r. about.Rule r.0) rs

abbrev tables_in : Keyspaces → List EntryKey
tables_in keyspaces = flat_map (λ k. map (λ mark. about.Present k.0 mark.0) k.1.tables) keyspaces

abbrev parts_in : List Live → List EntryKey
parts_in ws = flat_map (λ w. part_keys w.source w.target w.tables) ws

-- the keys of the rules and tables as if no workflow were live, and those of all parts
abbrev pub places : Plain → List EntryKey
places p = rules_in p.topology.rules ++ (tables_in p.topology.keyspaces ++ parts_in p.lives)

either : (a b : Bool) → (a || b) ≡ true → a ≡ false → b ≡ true
either true b is not_a = absurd (true≢false not_a)
either false b is not_a = is

-- the keys of a table
rule_of_name : (source target table : List ℕ) (tablet_type : Option TabletType)
    → Contains (table_part_keys source target table) (about.Rule (record { keyspace = None; table = table; tablet_type = tablet_type }))
rule_of_name source target table None = (0, omega arith, refl)
rule_of_name source target table (Some Primary) = (1, omega arith, refl)
rule_of_name source target table (Some Replica) = (2, omega arith, refl)
rule_of_name source target table (Some Rdonly) = (3, omega arith, refl)

rule_of_source : (source target table : List ℕ) (tablet_type : Option TabletType)
    → Contains (table_part_keys source target table) (about.Rule (record { keyspace = Some source; table = table; tablet_type = tablet_type }))
rule_of_source source target table None = (4, omega arith, refl)
rule_of_source source target table (Some Primary) = (5, omega arith, refl)
rule_of_source source target table (Some Replica) = (6, omega arith, refl)
rule_of_source source target table (Some Rdonly) = (7, omega arith, refl)

rule_of_target : (source target table : List ℕ) (tablet_type : Option TabletType)
    → Contains (table_part_keys source target table) (about.Rule (record { keyspace = Some target; table = table; tablet_type = tablet_type }))
rule_of_target source target table None = (8, omega arith, refl)
rule_of_target source target table (Some Primary) = (9, omega arith, refl)
rule_of_target source target table (Some Replica) = (10, omega arith, refl)
rule_of_target source target table (Some Rdonly) = (11, omega arith, refl)

rule_in : (source target table : List ℕ) (keyspace : Option (List ℕ)) (tablet_type : Option TabletType)
    → option_map_or (λ k. same_text source k || same_text target k) keyspace true ≡ true
    → Contains (table_part_keys source target table) (about.Rule (record { keyspace = keyspace; table = table; tablet_type = tablet_type }))
rule_in source target table None tablet_type side = rule_of_name source target table tablet_type
rule_in source target table (Some k) tablet_type side = by (same_text source k) refl
  where
    by : (t : Bool) → same_text source k ≡ t
        → Contains (table_part_keys source target table) (about.Rule (record { keyspace = Some k; table = table; tablet_type = tablet_type }))
    by true t =
        subst (λ k. Contains (table_part_keys source target table) (about.Rule (record { keyspace = Some k; table = table; tablet_type = tablet_type })))
        ((same_text_decides source k).0 t) (rule_of_source source target table tablet_type)
    by false t =
        subst (λ k. Contains (table_part_keys source target table) (about.Rule (record { keyspace = Some k; table = table; tablet_type = tablet_type })))
        ((same_text_decides target k).0 (either (same_text source k) (same_text target k) side t)) (rule_of_target source target table tablet_type)

denied_in : (source target table keyspace : List ℕ) → (same_text source keyspace || same_text target keyspace) ≡ true
    → Contains (table_part_keys source target table) (about.Denied keyspace table)
denied_in source target table keyspace side = by (same_text source keyspace) refl
  where
    by : (t : Bool) → same_text source keyspace ≡ t
        → Contains (table_part_keys source target table) (about.Denied keyspace table)
    by true t = subst (λ k. Contains (table_part_keys source target table) (about.Denied k table)) ((same_text_decides source keyspace).0 t) (12, omega arith, refl)
    by false t =
        subst (λ k. Contains (table_part_keys source target table) (about.Denied k table))
        ((same_text_decides target keyspace).0 (either (same_text source keyspace) (same_text target keyspace) side t)) (13, omega arith, refl)

present_in : (source target table keyspace : List ℕ) → same_text target keyspace ≡ true
    → Contains (table_part_keys source target table) (about.Present keyspace table)
present_in source target table keyspace side =
    subst (λ k. Contains (table_part_keys source target table) (about.Present k table)) ((same_text_decides target keyspace).0 side) (14, omega arith, refl)

-- the keys of several tables
of_tables : (source target : List ℕ) (tables : List (List ℕ)) (table : List ℕ) (key : EntryKey)
    → among tables table ≡ true → Contains (table_part_keys source target table) key
    → Contains (part_keys source target tables) key
of_tables source target [] table key is has = absurd (true≢false (sym is))
of_tables source target (t ∷ ts) table key is has = by (λ h. of_tables source target ts table key h has) (same_text t table) refl
  where
    by : (among ts table ≡ true → Contains (part_keys source target ts) key) → (b : Bool) → same_text t table ≡ b
        → Contains (part_keys source target (t ∷ ts)) key
    by again true b =
        Contains-append_left (table_part_keys source target t) (part_keys source target ts) key
        (subst (λ x. Contains (table_part_keys source target x) key) (sym ((same_text_decides t table).0 b)) has)
    by again false b =
        Contains-append_right (table_part_keys source target t) (part_keys source target ts) key (again (either (same_text t table) (among ts table) is b))

in_part : (w : Live) (key : EntryKey) → has_part w key ≡ true → Contains (part_keys w.source w.target w.tables) key
in_part w (about.Rule key) is =
    let r = both (among w.tables key.table) _ is in of_tables w.source w.target w.tables key.table (about.Rule key) r.0 (rule_in w.source w.target key.table key.keyspace key.tablet_type r.1)
in_part w (about.Denied keyspace table) is =
    let r = both (among w.tables table) _ is in of_tables w.source w.target w.tables table (about.Denied keyspace table) r.0 (denied_in w.source w.target table keyspace r.1)
in_part w (about.Present keyspace table) is =
    let r = both (among w.tables table) _ is in of_tables w.source w.target w.tables table (about.Present keyspace table) r.0 (present_in w.source w.target table keyspace r.1)

in_lives : (ws : List Live) (w : Live) (key : EntryKey) → find (λ v. has_part v key) ws ≡ Some w
    → Contains (parts_in ws) key
in_lives [] w key found = absurd cc
in_lives (v ∷ vs) w key found = by (in_lives vs w key) (has_part v key) refl
  where
    by : (find (λ v. has_part v key) vs ≡ Some w → Contains (parts_in vs) key) → (b : Bool) → has_part v key ≡ b
        → Contains (parts_in (v ∷ vs)) key
    by again true b = Contains-append_left (part_keys v.source v.target v.tables) (parts_in vs) key (in_part v key b)
    by again false b = Contains-append_right (part_keys v.source v.target v.tables) (parts_in vs) key (again (rw b at found))

-- the rules, and the tables
in_rules : (rs : Rules) (key : RuleKey) → is_some (unwrap_or (lookup (same_key key) rs) None) ≡ true
    → Contains (map (λ r. about.Rule r.0) rs) (about.Rule key)
in_rules [] key is = absurd (true≢false (sym is))
in_rules (r ∷ rs) key is = by (in_rules rs key) (same_key key r.0) refl
  where
    by : (is_some (unwrap_or (lookup (same_key key) rs) None) ≡ true → Contains (map (λ r. about.Rule r.0) rs) (about.Rule key)) → (b : Bool) → same_key key r.0 ≡ b
        → Contains (map (λ r. about.Rule r.0) (r ∷ rs)) (about.Rule key)
    by again true b = (0, omega arith, ap about.Rule (sym ((same_key_decides key r.0).0 b)))
    by again false b = let h = again (rw b at is) in (suc h.0, omega (arith, h.1), h.2)

in_marks : (marks : Marks) (keyspace table : List ℕ) → is_marked marks table ≡ true
    → Contains (map (λ mark. about.Present keyspace mark.0) marks) (about.Present keyspace table)
in_marks [] keyspace table is = absurd (true≢false (sym is))
in_marks (m ∷ ms) keyspace table is = by (in_marks ms keyspace table) (same_text table m.0) refl
  where
    by : (is_marked ms table ≡ true → Contains (map (λ mark. about.Present keyspace mark.0) ms) (about.Present keyspace table)) → (b : Bool) → same_text table m.0 ≡ b
        → Contains (map (λ mark. about.Present keyspace mark.0) (m ∷ ms)) (about.Present keyspace table)
    by again true b = (0, omega arith, ap (about.Present keyspace) (sym ((same_text_decides table m.0).0 b)))
    by again false b = let h = again (rw b at is) in (suc h.0, omega (arith, h.1), h.2)

in_keyspaces : (ks : Keyspaces) (keyspace table : List ℕ)
    → option_map_or (λ state. is_marked state.tables table) (lookup (same_text keyspace) ks) false ≡ true
    → Contains (tables_in ks) (about.Present keyspace table)
in_keyspaces [] keyspace table is = absurd (true≢false (sym is))
in_keyspaces (k ∷ ks) keyspace table is = by (in_keyspaces ks keyspace table) (same_text keyspace k.0) refl
  where
    by : (option_map_or (λ state. is_marked state.tables table) (lookup (same_text keyspace) ks) false ≡ true
        → Contains (tables_in ks) (about.Present keyspace table)) → (b : Bool) → same_text keyspace k.0 ≡ b
        → Contains (tables_in (k ∷ ks)) (about.Present keyspace table)
    by again true b =
        let here : is_marked k.1.tables table ≡ true = rw b at is in
        Contains-append_left (map (λ mark. about.Present k.0 mark.0) k.1.tables) (tables_in ks) (about.Present keyspace table)
        (subst (λ name. Contains (map (λ mark. about.Present k.0 mark.0) k.1.tables) (about.Present name table)) (sym ((same_text_decides keyspace k.0).0 b)) (in_marks k.1.tables k.0 table here))
    by again false b = Contains-append_right (map (λ mark. about.Present k.0 mark.0) k.1.tables) (tables_in ks) (about.Present keyspace table) (again (rw b at is))

-- what is served nowhere else
in_topology : (p : Plain) (key : EntryKey) → is_routed (value_of p.topology key) ≡ true → Contains (places p) key
in_topology p (about.Rule key) is = Contains-append_left (rules_in p.topology.rules) (tables_in p.topology.keyspaces ++ parts_in p.lives) (about.Rule key) (in_rules p.topology.rules key is)
in_topology p (about.Denied keyspace table) is = absurd (true≢false (sym is))
in_topology p (about.Present keyspace table) is =
    Contains-append_right (rules_in p.topology.rules) (tables_in p.topology.keyspaces ++ parts_in p.lives) (about.Present keyspace table)
    (Contains-append_left (tables_in p.topology.keyspaces) (parts_in p.lives) (about.Present keyspace table) (in_keyspaces p.topology.keyspaces keyspace table is))

pub routed_at_places : (p : Plain) (key : EntryKey) → is_routed (served_entry p key) ≡ true → Contains (places p) key
routed_at_places p key is = by (part_owner p key) refl
  where
    by : (o : Option Live) → part_owner p key ≡ o → Contains (places p) key
    by None none = in_topology p key (ap (λ o. is_routed (option_map_or (λ w. served_by p.topology w key) o (value_of p.topology key))) (sym none) ∙ is)
    by (Some w) some =
        Contains-append_right (rules_in p.topology.rules) (tables_in p.topology.keyspaces ++ parts_in p.lives) key
        (Contains-append_right (tables_in p.topology.keyspaces) (parts_in p.lives) key (in_lives p.lives w key some))

-- ---- the test

-- no two keys are the same
abbrev pub all_apart : List EntryKey → Bool
all_apart [] = true
all_apart (key ∷ keys) = not (list_any (same_about key) keys) && all_apart keys

-- an entry as it is served, of a rule that stands or a table that is there
abbrev pub is_served_route : Plain → Entry → Bool
is_served_route p e = is_routed e && same_entry (served_entry p (key_of e)) e

-- a place where nothing is routed, or which the view has
abbrev pub is_covered : Plain → List Entry → EntryKey → Bool
is_covered p view key = not (is_routed (served_entry p key)) || list_any (λ e. same_about key (key_of e)) view

abbrev pub is_view : Plain → List Entry → Bool
is_view p view = all_apart (map key_of view) && (list_all (is_served_route p) view && list_all (is_covered p view) (places p))

apart_from_all : (key : EntryKey) (view : List Entry) → not (list_any (same_about key) (map key_of view)) ≡ true
    → All (λ e. key ≢ key_of e) view
apart_from_all key [] is = All-nil (λ e. key ≢ key_of e)
apart_from_all key (e ∷ es) is = by (apart_from_all key es) (same_about key (key_of e)) refl
  where
    by : (not (list_any (same_about key) (map key_of es)) ≡ true → All (λ e. key ≢ key_of e) es) → (b : Bool)
        → same_about key (key_of e) ≡ b → All (λ e. key ≢ key_of e) (e ∷ es)
    by again true b = let wrong : false ≡ true = rw b at is in absurd (true≢false (sym wrong))
    by again false b = All-cons (λ e. key ≢ key_of e) e es (λ same. true≢false (sym ((same_about_decides key (key_of e)).1 same) ∙ b)) (again (rw b at is))

once_from : (view : List Entry) → all_apart (map key_of view) ≡ true → AllPairs (λ a b. key_of a ≢ key_of b) view
once_from [] is = λ i j d below inside. absurd (omega arith)
once_from (e ∷ es) is =
    let r = both (not (list_any (same_about (key_of e)) (map key_of es))) _ is in
    AllPairs-cons (λ a b. key_of a ≢ key_of b) e es (apart_from_all (key_of e) es r.0) (once_from es r.1)

all_from : {X : Type 0} (test : X → Bool) (xs : List X) → list_all test xs ≡ true → All (λ x. test x ≡ true) xs
all_from test [] is = All-nil (λ x. test x ≡ true)
all_from test (x ∷ xs) is = let r = both (test x) (list_all test xs) is in All-cons (λ x. test x ≡ true) x xs r.0 (all_from test xs r.1)

-- an entry of a list that has a key, if each entry of the list is the one that its key has in a state
found : (p : Plain) (view : List Entry) (e : Entry) → All (λ x. is_served_route p x ≡ true) view
    → served_entry p (key_of e) ≡ e → list_any (λ x. same_about (key_of e) (key_of x)) view ≡ true → Contains view e
found p [] e each served is = absurd (true≢false (sym is))
found p (x ∷ xs) e each served is = by (λ rest. found p xs e rest served) (same_about (key_of e) (key_of x)) refl
  where
    is_it : same_about (key_of e) (key_of x) ≡ true → x ≡ e
    is_it t =
        let r = both (is_routed x) _ (each 0 x (omega arith)) in
        sym ((same_entry_decides (served_entry p (key_of x)) x).0 r.1) ∙ ap (served_entry p) (sym ((same_about_decides (key_of e) (key_of x)).0 t)) ∙ served

    by : (All (λ x. is_served_route p x ≡ true) xs → list_any (λ x. same_about (key_of e) (key_of x)) xs ≡ true
        → Contains xs e) → (b : Bool) → same_about (key_of e) (key_of x) ≡ b → Contains (x ∷ xs) e
    by again true b = (0, omega arith, is_it b)
    by again false b =
        let h = again (λ k d inside. each (suc k) d (omega (arith, inside))) (rw b at is) in (suc h.0, omega (arith, h.1), h.2)

pub view_from_test : (p : Plain) (view : List Entry) → is_view p view ≡ true → IsView p view
view_from_test p view is =
    record {
      once = once_from view first.0;
      entries = λ e. (
        λ has. (routed e has, (same_entry_decides (served_entry p (key_of e)) e).0 (served e has)),
        λ r. found p view e each r.1 (covered e r.0 r.1),
      );
    }
  where
    first : (all_apart (map key_of view) ≡ true) × ((list_all (is_served_route p) view && list_all (is_covered p view) (places p)) ≡ true)
    first = both (all_apart (map key_of view)) _ is

    second : (list_all (is_served_route p) view ≡ true) × (list_all (is_covered p view) (places p) ≡ true)
    second = both (list_all (is_served_route p) view) _ first.1

    each : All (λ x. is_served_route p x ≡ true) view
    each = all_from (is_served_route p) view second.0

    routed : (e : Entry) → Contains view e → is_routed e ≡ true
    routed e has = (both (is_routed e) _ (All-contains (λ x. is_served_route p x ≡ true) view e each has)).0

    served : (e : Entry) → Contains view e → same_entry (served_entry p (key_of e)) e ≡ true
    served e has = (both (is_routed e) _ (All-contains (λ x. is_served_route p x ≡ true) view e each has)).1

    covered : (e : Entry) → is_routed e ≡ true → served_entry p (key_of e) ≡ e
        → list_any (λ x. same_about (key_of e) (key_of x)) view ≡ true
    covered e is_route is_served =
        let here = ap is_routed is_served ∙ is_route in
        let covers = All-contains (λ key. is_covered p view key ≡ true) (places p) (key_of e) (all_from (is_covered p view) (places p) second.1) (routed_at_places p (key_of e) here) in
        either (not (is_routed (served_entry p (key_of e)))) _ covers (ap not here)

-- ---- what a list lacks

any_from : (view : List Entry) (e : Entry) → Contains view e → list_any (same_entry e) view ≡ true
any_from [] e has = absurd (omega (arith, has.1))
any_from (x ∷ xs) e has = by (any_from xs e) has.0 has.1 has.2
  where
    later : (b : Bool) → list_any (same_entry e) xs ≡ true → (b || list_any (same_entry e) xs) ≡ true
    later true is = refl
    later false is = is

    by : (Contains xs e → list_any (same_entry e) xs ≡ true) → (k : ℕ) → k < length (x ∷ xs)
        → slice_index_or (x ∷ xs) k e ≡ e → list_any (same_entry e) (x ∷ xs) ≡ true
    by again zero inside is = rw ((same_entry_decides e x).1 (sym is)) refl
    by again (suc k) inside is = later (same_entry e x) (again (k, omega (arith, inside), is))

-- a list that lacks what is served is no view
pub lacks : (p : Plain) (view : List Entry) (e : Entry) → is_routed e ≡ true → served_entry p (key_of e) ≡ e
    → list_any (same_entry e) view ≡ false → ¬ (IsView p view)
lacks p view e is_route is_served none = λ v. true≢false (sym (any_from view e ((v.entries e).1 (is_route, is_served))) ∙ none)

-- one that has what is not routed is none
pub has_none : (p : Plain) (view : List Entry) (e : Entry) → is_routed e ≡ false → Contains view e → ¬ (IsView p view)
has_none p view e unrouted has = λ v. true≢false (sym ((v.entries e).0 has).0 ∙ unrouted)
