-- Routes: each is an entry that the topology says, each such entry is one, and none has the key of another.
use Rattle.std.proofs.Common.{◌≡◌, ◌≢◌, ℕ, Contains, Bool, true, false, cond, List, [], ◌∷◌, ◌++◌, flat_map, Option, None, Some, is_some, unwrap_or, All, AllPairs, refl, sym, ap, subst, ◌∙◌, zero, suc, arith}
use Rattle.std.proofs.lemmas.Bool.{true≢false}
use Rattle.std.proofs.lemmas.List.Elements.{All-append, All-cons, All-head, All-nil, All-tail}
use Rattle.std.proofs.lemmas.List.Kept.{AllPairs-cons}
use Rattle.std.specs.Bool.{Decides}
use Rattle.std.specs.List.{AllByRecursion, IsDistinct}
use Rattle.std.specs.Map.{keys_of, lookup}
use Rattle.std.specs.Option.{option_map_or}
use Rattle.mt_names.specs.declared.keys.RuleKey.{RuleKey}
use Rattle.mt_names.specs.declared.keys.RuleTarget.{RuleTarget}
use Rattle.mt_names.specs.Names.{same_text}
use Rattle.mt_names.specs.Same.{same_key}
use Rattle.mt_names.proofs.EntryLemmas.{other_from, same_itself, same_turned}
use Rattle.mt_names.proofs.SameLemmas.{same_key_decides, same_text_decides}
use Rattle.mt_model.specs.declared.entries.Entry.{Entry}
use Rattle.mt_model.specs.declared.entries.Entry.TheVariants as entry
use Rattle.mt_model.specs.declared.entries.EntryKey.{EntryKey}
use Rattle.mt_model.specs.declared.entries.EntryKey.TheVariants as about
use Rattle.mt_model.specs.Part.{rule_routes, table_routes}
use Rattle.mt_model.specs.Topology.{TopologyState, HasDistinctPlaces, Keyspaces, KeyspaceState, Marks, Rules, is_marked, is_present, is_routed, key_of, keyspace_at, routes_of, rule_at, value_of}

-- ---- where keys are distinct, each entry is found under its key

module _ {K V : Type 0} (same : K → K → Bool) (decides : (a b : K) → Decides (same a b) (a ≡ b)) where
  found_later : (e : K × V) (all es : List (K × V)) → AllByRecursion (λ k. same e.0 k ≡ false) (keys_of es) → AllByRecursion (λ r. lookup (same r.0) all ≡ Some r.1) es → AllByRecursion (λ r. lookup (same r.0) (e ∷ all) ≡ Some r.1) es
  found_later e all [] apart found = tt
  found_later e all (r ∷ es) apart found =
      let other : same r.0 e.0 ≡ false = same_turned same decides r.0 e.0 ∙ apart.0 in
      (rw other found.0, found_later e all es apart.1 found.1)

  pub each_found : (es : List (K × V)) → IsDistinct same (keys_of es) → AllByRecursion (λ r. lookup (same r.0) es ≡ Some r.1) es
  unfolding IsDistinct
  each_found [] distinct = tt
  each_found (e ∷ es) distinct = (rw (same_itself same decides e.0) refl, found_later e es es distinct.0 (each_found es distinct.1))

-- ---- each route is what the topology says

abbrev IsSaid : TopologyState → Entry → Type 0
IsSaid t e = (is_routed e ≡ true) × (value_of t (key_of e) ≡ e)

rules_said : (t : TopologyState) (rules : Rules) → AllByRecursion (λ r. lookup (same_key r.0) t.rules ≡ Some r.1) rules → All (IsSaid t) (rule_routes rules)
rules_said t [] found = All-nil (IsSaid t)
rules_said t (r ∷ rules) found = by (rules_said t rules found.1) r.1 (ap (λ o. unwrap_or o None) found.0)
  where
    by : All (IsSaid t) (rule_routes rules) → (o : Option RuleTarget) → rule_at t.rules r.0 ≡ o → All (IsSaid t) (cond (is_some o) (entry.Rule r.0 o ∷ []) [] ++ rule_routes rules)
    by again None is = again
    by again (Some target) is = All-cons (IsSaid t) (entry.Rule r.0 (Some target)) (rule_routes rules) (refl, ap (entry.Rule r.0) is) again

tables_said : (t : TopologyState) (keyspace : List ℕ) (state : KeyspaceState) → keyspace_at t.keyspaces keyspace ≡ Some state → (marks : Marks) → AllByRecursion (λ m. lookup (same_text m.0) state.tables ≡ Some m.1) marks
    → All (IsSaid t) (flat_map (λ mark. cond mark.1 (entry.Present keyspace mark.0 true ∷ []) []) marks)
tables_said t keyspace state there [] found = All-nil (IsSaid t)
tables_said t keyspace state there (m ∷ marks) found = by (tables_said t keyspace state there marks found.1) m.1 (ap (λ o. unwrap_or o false) found.0)
  where
    by : All (IsSaid t) (flat_map (λ mark. cond mark.1 (entry.Present keyspace mark.0 true ∷ []) []) marks) → (b : Bool) → is_marked state.tables m.0 ≡ b
        → All (IsSaid t) (cond b (entry.Present keyspace m.0 true ∷ []) [] ++ flat_map (λ mark. cond mark.1 (entry.Present keyspace mark.0 true ∷ []) []) marks)
    by again false is = again
    by again true is =
        All-cons (IsSaid t) (entry.Present keyspace m.0 true) (flat_map (λ mark. cond mark.1 (entry.Present keyspace mark.0 true ∷ []) []) marks)
        (refl, ap (entry.Present keyspace m.0) (ap (λ o. option_map_or (λ s. is_marked s.tables m.0) o false) there ∙ is)) again

keyspaces_said : (t : TopologyState) (keyspaces : Keyspaces) → AllByRecursion (λ k. lookup (same_text k.0) t.keyspaces ≡ Some k.1) keyspaces → All (λ k. IsDistinct same_text (keys_of k.1.tables)) keyspaces
    → All (IsSaid t) (flat_map table_routes keyspaces)
keyspaces_said t [] found tables = All-nil (IsSaid t)
keyspaces_said t (k ∷ keyspaces) found tables =
    let P : List ℕ × KeyspaceState → Type 0 = λ s. IsDistinct same_text (keys_of s.1.tables) in
    All-append (IsSaid t) (table_routes k) (flat_map table_routes keyspaces) (tables_said t k.0 k.1 found.0 k.1.tables (each_found same_text same_text_decides k.1.tables (All-head P k keyspaces tables)))
    (keyspaces_said t keyspaces found.1 (All-tail P k keyspaces tables))

said : (t : TopologyState) → HasDistinctPlaces t → All (IsSaid t) (routes_of t)
said t distinct =
    All-append (IsSaid t) (rule_routes t.rules) (flat_map table_routes t.keyspaces) (rules_said t t.rules (each_found same_key same_key_decides t.rules distinct.rules))
    (keyspaces_said t t.keyspaces (each_found same_text same_text_decides t.keyspaces distinct.keyspaces) distinct.tables)

pub routes_said : (t : TopologyState) (e : Entry) → HasDistinctPlaces t → Contains (routes_of t) e → IsSaid t e
routes_said t e distinct among = subst (IsSaid t) among.2 (said t distinct among.0 e among.1)

-- ---- each such entry is a route

among-later : {A : Type 0} (x : A) (xs : List A) (v : A) → Contains xs v → Contains (x ∷ xs) v
among-later x xs v (i, inside, is) = (suc i, omega (arith, inside), is)

among-front : {A : Type 0} (xs ys : List A) (v : A) → Contains xs v → Contains (xs ++ ys) v
among-front [] ys v (i, inside, is) = absurd (omega (arith, inside))
among-front (x ∷ xs) ys v (zero, inside, is) = (zero, omega arith, is)
among-front (x ∷ xs) ys v (suc i, inside, is) = among-later x (xs ++ ys) v (among-front xs ys v (i, omega (arith, inside), is))

among-back : {A : Type 0} (xs ys : List A) (v : A) → Contains ys v → Contains (xs ++ ys) v
among-back [] ys v among = among
among-back (x ∷ xs) ys v among = among-later x (xs ++ ys) v (among-back xs ys v among)

rule_among : (rules : Rules) (key : RuleKey) (target : RuleTarget) → rule_at rules key ≡ Some target → Contains (rule_routes rules) (entry.Rule key (Some target))
rule_among [] key target is = absurd cc
rule_among (r ∷ rules) key target is = by (rule_among rules key target) (same_key key r.0) refl is
  where
    by : (rule_at rules key ≡ Some target → Contains (rule_routes rules) (entry.Rule key (Some target))) → (b : Bool) → same_key key r.0 ≡ b → unwrap_or (cond b (Some r.1) (lookup (same_key key) rules)) None ≡ Some target
        → Contains (cond (is_some r.1) (entry.Rule r.0 r.1 ∷ []) [] ++ rule_routes rules) (entry.Rule key (Some target))
    by again true here found =
        let key_is : key ≡ r.0 = (same_key_decides key r.0).0 here in
        subst (λ o. Contains (cond (is_some o) (entry.Rule r.0 o ∷ []) [] ++ rule_routes rules) (entry.Rule key (Some target))) (sym found) (zero, omega arith, ap (λ k. entry.Rule k (Some target)) (sym key_is))
    by again false other found = among-back (cond (is_some r.1) (entry.Rule r.0 r.1 ∷ []) []) (rule_routes rules) (entry.Rule key (Some target)) (again found)

table_among : (keyspace : List ℕ) (marks : Marks) (table : List ℕ) → is_marked marks table ≡ true → Contains (flat_map (λ mark. cond mark.1 (entry.Present keyspace mark.0 true ∷ []) []) marks) (entry.Present keyspace table true)
table_among keyspace [] table is = absurd (true≢false (sym is))
table_among keyspace (m ∷ marks) table is = by (table_among keyspace marks table) (same_text table m.0) refl is
  where
    by : (is_marked marks table ≡ true → Contains (flat_map (λ mark. cond mark.1 (entry.Present keyspace mark.0 true ∷ []) []) marks) (entry.Present keyspace table true))
        → (b : Bool) → same_text table m.0 ≡ b → unwrap_or (cond b (Some m.1) (lookup (same_text table) marks)) false ≡ true
        → Contains (cond m.1 (entry.Present keyspace m.0 true ∷ []) [] ++ flat_map (λ mark. cond mark.1 (entry.Present keyspace mark.0 true ∷ []) []) marks) (entry.Present keyspace table true)
    by again true here found =
        let rest : List Entry = flat_map (λ mark. cond mark.1 (entry.Present keyspace mark.0 true ∷ []) []) marks in
        let table_is : table ≡ m.0 = (same_text_decides table m.0).0 here in
        subst (λ b. Contains (cond b (entry.Present keyspace m.0 true ∷ []) [] ++ rest) (entry.Present keyspace table true)) (sym found) (zero, omega arith, ap (λ n. entry.Present keyspace n true) (sym table_is))
    by again false other found =
        let rest : List Entry = flat_map (λ mark. cond mark.1 (entry.Present keyspace mark.0 true ∷ []) []) marks in
        among-back (cond m.1 (entry.Present keyspace m.0 true ∷ []) []) rest (entry.Present keyspace table true) (again found)

keyspace_among : (keyspaces : Keyspaces) (keyspace table : List ℕ) → is_present keyspaces keyspace table ≡ true → Contains (flat_map table_routes keyspaces) (entry.Present keyspace table true)
keyspace_among [] keyspace table is = absurd (true≢false (sym is))
keyspace_among (k ∷ keyspaces) keyspace table is = by (keyspace_among keyspaces keyspace table) (same_text keyspace k.0) refl is
  where
    by : (is_present keyspaces keyspace table ≡ true → Contains (flat_map table_routes keyspaces) (entry.Present keyspace table true))
        → (b : Bool) → same_text keyspace k.0 ≡ b → option_map_or (λ s. is_marked s.tables table) (cond b (Some k.1) (keyspace_at keyspaces keyspace)) false ≡ true
        → Contains (table_routes k ++ flat_map table_routes keyspaces) (entry.Present keyspace table true)
    by again true here found =
        let name_is : keyspace ≡ k.0 = (same_text_decides keyspace k.0).0 here in
        subst (λ n. Contains (table_routes k ++ flat_map table_routes keyspaces) (entry.Present n table true)) (sym name_is)
        (among-front (table_routes k) (flat_map table_routes keyspaces) (entry.Present k.0 table true) (table_among k.0 k.1.tables table found))
    by again false other found = among-back (table_routes k) (flat_map table_routes keyspaces) (entry.Present keyspace table true) (again found)

-- the rule of an entry, and the mark
rule_in : Entry → Option RuleTarget
rule_in (entry.Rule key target) = target
rule_in (entry.Denied keyspace table mark) = None
rule_in (entry.Present keyspace table mark) = None

mark_in : Entry → Bool
mark_in (entry.Rule key target) = false
mark_in (entry.Denied keyspace table mark) = mark
mark_in (entry.Present keyspace table mark) = mark

pub said_is_route : (t : TopologyState) (e : Entry) → IsSaid t e → Contains (routes_of t) e
unfolding rule_in mark_in
said_is_route t (entry.Rule key None) (route, is) = absurd (true≢false (sym route))
said_is_route t (entry.Rule key (Some target)) (route, is) = among-front (rule_routes t.rules) (flat_map table_routes t.keyspaces) (entry.Rule key (Some target)) (rule_among t.rules key target (ap rule_in is))
said_is_route t (entry.Denied keyspace table mark) (route, is) = absurd (true≢false (sym route))
said_is_route t (entry.Present keyspace table false) (route, is) = absurd (true≢false (sym route))
said_is_route t (entry.Present keyspace table true) (route, is) =
    among-back (rule_routes t.rules) (flat_map table_routes t.keyspaces) (entry.Present keyspace table true) (keyspace_among t.keyspaces keyspace table (ap mark_in is))

-- ---- none has the key of another

abbrev pub IsApart : Entry → Entry → Type 0
IsApart a b = key_of a ≢ key_of b

AllPairs-join : (xs ys : List Entry) → AllPairs IsApart xs → AllPairs IsApart ys → All (λ x. All (IsApart x) ys) xs → AllPairs IsApart (xs ++ ys)
AllPairs-join [] ys front back across = back
AllPairs-join (x ∷ xs) ys front back across =
    AllPairs-cons IsApart x (xs ++ ys) (All-append (IsApart x) xs ys (λ j d inside. front zero (suc j) d (omega arith) (omega arith)) (All-head (λ a. All (IsApart a) ys) x xs across))
    (AllPairs-join xs ys (λ i j d below inside. front (suc i) (suc j) d (omega arith) (omega arith)) back (All-tail (λ a. All (IsApart a) ys) x xs across))

-- the parts of a key
rule_key_in : RuleKey → EntryKey → RuleKey
rule_key_in other (about.Rule key) = key
rule_key_in other (about.Denied keyspace table) = other
rule_key_in other (about.Present keyspace table) = other

is_of_rule : EntryKey → Bool
is_of_rule (about.Rule key) = true
is_of_rule (about.Denied keyspace table) = false
is_of_rule (about.Present keyspace table) = false

keyspace_in : EntryKey → List ℕ
keyspace_in (about.Rule key) = []
keyspace_in (about.Denied keyspace table) = keyspace
keyspace_in (about.Present keyspace table) = keyspace

table_in : EntryKey → List ℕ
table_in (about.Rule key) = []
table_in (about.Denied keyspace table) = table
table_in (about.Present keyspace table) = table

-- what holds of each rule's entry, and of each table's
rules_all : (P : Entry → Type 0) (rules : Rules) → AllByRecursion (λ k. (target : RuleTarget) → P (entry.Rule k (Some target))) (keys_of rules) → All P (rule_routes rules)
rules_all P [] holds = All-nil P
rules_all P (r ∷ rules) holds = by (rules_all P rules holds.1) r.1
  where
    by : All P (rule_routes rules) → (o : Option RuleTarget) → All P (cond (is_some o) (entry.Rule r.0 o ∷ []) [] ++ rule_routes rules)
    by again None = again
    by again (Some target) = All-cons P (entry.Rule r.0 (Some target)) (rule_routes rules) (holds.0 target) again

abbrev marks_routes : List ℕ → Marks → List Entry
marks_routes keyspace marks = flat_map (λ mark. cond mark.1 (entry.Present keyspace mark.0 true ∷ []) []) marks

tables_all : (P : Entry → Type 0) (keyspace : List ℕ) (marks : Marks) → AllByRecursion (λ n. P (entry.Present keyspace n true)) (keys_of marks) → All P (marks_routes keyspace marks)
tables_all P keyspace [] holds = All-nil P
tables_all P keyspace (m ∷ marks) holds = by (tables_all P keyspace marks holds.1) m.1
  where
    by : All P (marks_routes keyspace marks) → (b : Bool) → All P (cond b (entry.Present keyspace m.0 true ∷ []) [] ++ marks_routes keyspace marks)
    by again false = again
    by again true = All-cons P (entry.Present keyspace m.0 true) (marks_routes keyspace marks) holds.0 again

each_of : {A : Type 0} (P : A → Type 0) → ((x : A) → P x) → (xs : List A) → AllByRecursion P xs
each_of P holds [] = tt
each_of P holds (x ∷ xs) = (holds x, each_of P holds xs)

map_each : {A : Type 0} (P Q : A → Type 0) → ((x : A) → P x → Q x) → (xs : List A) → AllByRecursion P xs → AllByRecursion Q xs
map_each P Q step [] all = tt
map_each P Q step (x ∷ xs) all = (step x all.0, map_each P Q step xs all.1)

rules_apart : (rules : Rules) → IsDistinct same_key (keys_of rules) → AllPairs IsApart (rule_routes rules)
unfolding IsDistinct rule_key_in
rules_apart [] distinct = λ i j d below inside. absurd (omega (arith, below, inside))
rules_apart (r ∷ rules) distinct = by (rules_apart rules distinct.1) r.1
  where
    by : AllPairs IsApart (rule_routes rules) → (o : Option RuleTarget) → AllPairs IsApart (cond (is_some o) (entry.Rule r.0 o ∷ []) [] ++ rule_routes rules)
    by again None = again
    by again (Some target) =
        let mine : Entry = entry.Rule r.0 (Some target) in
        AllPairs-cons IsApart mine (rule_routes rules)
        (rules_all (IsApart mine) rules
        (map_each (λ k. same_key r.0 k ≡ false) (λ k. (target : RuleTarget) → IsApart mine (entry.Rule k (Some target))) (λ k differs other same. other_from same_key same_key_decides r.0 k differs (ap (rule_key_in r.0) same)) (keys_of rules) distinct.0))
        again

marks_apart : (keyspace : List ℕ) (marks : Marks) → IsDistinct same_text (keys_of marks) → AllPairs IsApart (marks_routes keyspace marks)
unfolding IsDistinct table_in
marks_apart keyspace [] distinct = λ i j d below inside. absurd (omega (arith, below, inside))
marks_apart keyspace (m ∷ marks) distinct = by (marks_apart keyspace marks distinct.1) m.1
  where
    by : AllPairs IsApart (marks_routes keyspace marks) → (b : Bool) → AllPairs IsApart (cond b (entry.Present keyspace m.0 true ∷ []) [] ++ marks_routes keyspace marks)
    by again false = again
    by again true =
        let mine : Entry = entry.Present keyspace m.0 true in
        AllPairs-cons IsApart mine (marks_routes keyspace marks)
        (tables_all (IsApart mine) keyspace marks
        (map_each (λ n. same_text m.0 n ≡ false) (λ n. IsApart mine (entry.Present keyspace n true)) (λ n differs same. other_from same_text same_text_decides m.0 n differs (ap table_in same)) (keys_of marks) distinct.0))
        again

-- the entries of a keyspace are of it, those of others are not
of_keyspace : (k : List ℕ × KeyspaceState) → All (λ e. keyspace_in (key_of e) ≡ k.0) (table_routes k)
unfolding keyspace_in
of_keyspace k = tables_all (λ e. keyspace_in (key_of e) ≡ k.0) k.0 k.1.tables (each_of (λ n. keyspace_in (about.Present k.0 n) ≡ k.0) (λ n. refl) (keys_of k.1.tables))

of_others : (name : List ℕ) (keyspaces : Keyspaces) → AllByRecursion (λ n. same_text name n ≡ false) (keys_of keyspaces) → All (λ e. name ≢ keyspace_in (key_of e)) (flat_map table_routes keyspaces)
of_others name [] apart = All-nil (λ e. name ≢ keyspace_in (key_of e))
of_others name (k ∷ keyspaces) apart =
    All-append (λ e. name ≢ keyspace_in (key_of e)) (table_routes k) (flat_map table_routes keyspaces)
    (λ i d inside same. other_from same_text same_text_decides name k.0 apart.0 (same ∙ of_keyspace k i d inside))
    (of_others name keyspaces apart.1)

keyspaces_apart : (keyspaces : Keyspaces) → IsDistinct same_text (keys_of keyspaces) → All (λ k. IsDistinct same_text (keys_of k.1.tables)) keyspaces → AllPairs IsApart (flat_map table_routes keyspaces)
unfolding IsDistinct
keyspaces_apart [] distinct tables = λ i j d below inside. absurd (omega (arith, below, inside))
keyspaces_apart (k ∷ keyspaces) distinct tables =
    let P : List ℕ × KeyspaceState → Type 0 = λ s. IsDistinct same_text (keys_of s.1.tables) in
    AllPairs-join (table_routes k) (flat_map table_routes keyspaces) (marks_apart k.0 k.1.tables (All-head P k keyspaces tables)) (keyspaces_apart keyspaces distinct.1 (All-tail P k keyspaces tables))
    (λ i d inside j e within same. of_others k.0 keyspaces distinct.0 j e within (sym (of_keyspace k i d inside) ∙ ap keyspace_in same))

-- a rule's key is no table's
rules_are_rules : (rules : Rules) → All (λ e. is_of_rule (key_of e) ≡ true) (rule_routes rules)
unfolding is_of_rule
rules_are_rules rules = rules_all (λ e. is_of_rule (key_of e) ≡ true) rules (each_of (λ k. (target : RuleTarget) → is_of_rule (about.Rule k) ≡ true) (λ k target. refl) (keys_of rules))

tables_are_none : (keyspaces : Keyspaces) → All (λ e. is_of_rule (key_of e) ≡ false) (flat_map table_routes keyspaces)
unfolding is_of_rule
tables_are_none [] = All-nil (λ e. is_of_rule (key_of e) ≡ false)
tables_are_none (k ∷ keyspaces) =
    All-append (λ e. is_of_rule (key_of e) ≡ false) (table_routes k) (flat_map table_routes keyspaces)
    (tables_all (λ e. is_of_rule (key_of e) ≡ false) k.0 k.1.tables (each_of (λ n. is_of_rule (about.Present k.0 n) ≡ false) (λ n. refl) (keys_of k.1.tables)))
    (tables_are_none keyspaces)

pub routes_apart : (t : TopologyState) → HasDistinctPlaces t → AllPairs IsApart (routes_of t)
routes_apart t distinct =
    AllPairs-join (rule_routes t.rules) (flat_map table_routes t.keyspaces) (rules_apart t.rules distinct.rules) (keyspaces_apart t.keyspaces distinct.keyspaces distinct.tables)
    (λ i d inside j e within same. true≢false (sym (rules_are_rules t.rules i d inside) ∙ ap is_of_rule same ∙ tables_are_none t.keyspaces j e within))
