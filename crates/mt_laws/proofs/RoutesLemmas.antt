-- The routes of a topology without two places for a key are what it says of rules that stand and tables that are there, each once.
use Rattle.std.proofs.Common.{◌≡◌, ◌≢◌, ◌⊎◌, inl, inr, ℕ, zero, suc, ◌<◌, Bool, true, false, cond, List, [], ◌∷◌, ◌++◌, map, flat_map, slice_index_or, All, AllPairs, IsPermutation, Contains, Option, None, Some, is_some, refl, sym, ap, subst, ◌∙◌, arith}
use Rattle.std.proofs.lemmas.Bool.{true≢false}
use Rattle.std.proofs.lemmas.List.Elements.{All-append, All-head, All-map, All-tail, Contains-append_cases, Contains-append_left, Contains-append_right, Contains-get_or}
use Rattle.std.proofs.lemmas.List.{get_or-map, length-map}
use Rattle.std.proofs.lemmas.List.Kept.{AllPairs-cons}
use Rattle.std.proofs.lemmas.List.Sorted.{Contains-permutation, IsPermutation-map, IsPermutation-sym}
use Rattle.std.proofs.lemmas.Map.Keys.{IsDistinct-IsPermutation}
use Rattle.std.proofs.lemmas.Map.Made.{AllPairs-from_IsDistinct, IsDistinct-from_AllPairs}
use Rattle.std.specs.List.{IsDistinct}
use Rattle.std.specs.Map.{keys_of, lookup}
use Rattle.mt_names.specs.declared.keys.RuleKey.{RuleKey}
use Rattle.mt_names.specs.declared.keys.RuleTarget.{RuleTarget}
use Rattle.mt_names.specs.Names.{same_text}
use Rattle.mt_names.specs.Same.{DecidesEquality, same_key}
use Rattle.mt_names.proofs.EntryLemmas.{lookup_from_absent, same_itself, same_turned}
use Rattle.mt_names.proofs.SameLemmas.{same_key_decides, same_text_decides}
use Rattle.mt_model.specs.declared.entries.Entry.{Entry}
use Rattle.mt_model.specs.declared.entries.Entry.TheVariants as entry
use Rattle.mt_model.specs.declared.entries.EntryKey.TheVariants as about
use Rattle.mt_model.specs.Topology.{HasDistinctPlaces, Keyspaces, KeyspaceState, Marks, Rules, TopologyState, is_marked, is_present, is_routed, key_of, routes_of, rule_at, value_of}
use Rattle.mt_model.proofs.AboutLemmas.{same_about, same_about_decides}
use Rattle.mt_plain.specs.Answers.{IsView}
use Rattle.mt_plain.specs.Plain.{Plain}
use Rattle.mt_plain.specs.Serve.{IsServed}

-- ---- lists

all_from_each : {X : Type 0} (P : X → Type 0) (xs : List X) → ((x : X) → Contains xs x → P x) → All P xs
all_from_each P xs each = λ k d inside. each (slice_index_or xs k d) (Contains-get_or xs k d inside)

pairs-append : {X : Type 0} (R : X → X → Type 0) (xs ys : List X) → AllPairs R xs → AllPairs R ys → All (λ x. All (R x) ys) xs → AllPairs R (xs ++ ys)
pairs-append R [] ys front back across = back
pairs-append R (x ∷ xs) ys front back across =
    AllPairs-cons R x (xs ++ ys)
    (All-append (R x) xs ys (λ j d inside. front zero (suc j) d (omega arith) (omega (arith, inside))) (All-head (λ z. All (R z) ys) x xs across))
    (pairs-append R xs ys (λ i j d below inside. front (suc i) (suc j) d (omega (arith, below)) (omega (arith, inside))) back (All-tail (λ z. All (R z) ys) x xs across))

sole : {X : Type 0} (x y : X) → Contains (x ∷ []) y → y ≡ x
sole x y has = by has.0 has.1 has.2
  where
    by : (i : ℕ) → i < 1 → slice_index_or (x ∷ []) i y ≡ y → y ≡ x
    by zero inside is = sym is
    by (suc i) inside is = absurd (omega (arith, inside))

-- the head of a list of places is found, and no later place has its key
module _ {K V : Type 0} (same : K → K → Bool) (decides : DecidesEquality same) where
  other_key : (k : K) (v : V) (es : List (K × V)) (j : K) (w : V) → IsDistinct same (keys_of ((k, v) ∷ es)) → lookup (same j) es ≡ Some w → k ≢ j
  unfolding IsDistinct
  other_key k v es j w distinct found e =
      let none : lookup (same k) es ≡ None = lookup_from_absent same decides es k distinct.0 in
      let here : lookup (same k) es ≡ Some w = ap (λ x. lookup (same x) es) e ∙ found in
      let wrong : None ≡ Some w = sym none ∙ here in true≢false (sym (ap is_some wrong))

  later_is : (k : K) (v : V) (es : List (K × V)) (j : K) (w : V) → IsDistinct same (keys_of ((k, v) ∷ es)) → lookup (same j) es ≡ Some w → lookup (same j) ((k, v) ∷ es) ≡ Some w
  later_is k v es j w distinct found = by (same j k) refl
    where
      by : (t : Bool) → same j k ≡ t → lookup (same j) ((k, v) ∷ es) ≡ Some w
      by true t = absurd (other_key k v es j w distinct found (sym ((decides j k).0 t)))
      by false t = rw t found

  rest_is : (k : K) (v : V) (es : List (K × V)) → IsDistinct same (keys_of ((k, v) ∷ es)) → IsDistinct same (keys_of es)
  unfolding IsDistinct
  rest_is k v es distinct = distinct.1

-- ---- rules that stand

abbrev pub rule_routes : Rules → List Entry
rule_routes rules = flat_map (λ r. cond (is_some r.1) (entry.Rule r.0 r.1 ∷ []) []) rules

-- an entry of them is the rule of its key
pub record IsRuleOf (rules : Rules) (e : Entry) : Type 0 where
  pub key : RuleKey
  pub target : RuleTarget
  pub is : e ≡ entry.Rule key (Some target)
  pub found : lookup (same_key key) rules ≡ Some (Some target)

has_rule : (rules : Rules) (key : RuleKey) (target : RuleTarget) → rule_at rules key ≡ Some target → Contains (rule_routes rules) (entry.Rule key (Some target))
has_rule [] key target is = absurd cc
has_rule (r ∷ rs) key target is = by (has_rule rs key target) (same_key key r.0) refl
  where
    head : (o : Option RuleTarget) → o ≡ Some target → key ≡ r.0 → Contains (cond (is_some o) (entry.Rule r.0 o ∷ []) []) (entry.Rule key (Some target))
    head None found e = absurd cc
    head (Some t) found e = (0, omega arith, ap (λ k. entry.Rule k (Some t)) (sym e) ∙ ap (entry.Rule key) found)

    by : (rule_at rs key ≡ Some target → Contains (rule_routes rs) (entry.Rule key (Some target))) → (t : Bool) → same_key key r.0 ≡ t → Contains (rule_routes (r ∷ rs)) (entry.Rule key (Some target))
    by again true t = let here : r.1 ≡ Some target = rw t at is in Contains-append_left (cond (is_some r.1) (entry.Rule r.0 r.1 ∷ []) []) (rule_routes rs) _ (head r.1 here ((same_key_decides key r.0).0 t))
    by again false t = Contains-append_right (cond (is_some r.1) (entry.Rule r.0 r.1 ∷ []) []) (rule_routes rs) _ (again (rw t at is))

rule_from : (rules : Rules) (e : Entry) → IsDistinct same_key (keys_of rules) → Contains (rule_routes rules) e → IsRuleOf rules e
rule_from [] e distinct has = absurd (omega (arith, has.1))
rule_from ((k, o) ∷ rs) e distinct has =
    by (rule_from rs e (rest_is same_key same_key_decides k o rs distinct)) (Contains-append_cases (cond (is_some o) (entry.Rule k o ∷ []) []) (rule_routes rs) e has)
  where
    later : IsRuleOf rs e → IsRuleOf ((k, o) ∷ rs) e
    later r = record { key = r.key; target = r.target; is = r.is; found = later_is same_key same_key_decides k o rs r.key (Some r.target) distinct r.found }

    head : (q : Option RuleTarget) → o ≡ q → Contains (cond (is_some q) (entry.Rule k q ∷ []) []) e → IsRuleOf ((k, o) ∷ rs) e
    head None is at = absurd (omega (arith, at.1))
    head (Some target) is at = record { key = k; target = target; is = sole (entry.Rule k (Some target)) e at; found = rw (same_itself same_key same_key_decides k) (ap Some is) }

    by : (Contains (rule_routes rs) e → IsRuleOf rs e) → Contains (cond (is_some o) (entry.Rule k o ∷ []) []) e ⊎ Contains (rule_routes rs) e → IsRuleOf ((k, o) ∷ rs) e
    by again (inl at) = head o refl at
    by again (inr at) = later (again at)

rules_once : (rules : Rules) → IsDistinct same_key (keys_of rules) → AllPairs (λ a b. key_of a ≢ key_of b) (rule_routes rules)
rules_once [] distinct = λ i j d below inside. absurd (omega (arith, inside))
rules_once ((k, o) ∷ rs) distinct = by o (rules_once rs (rest_is same_key same_key_decides k o rs distinct))
  where
    apart : (e : Entry) → Contains (rule_routes rs) e → about.Rule k ≢ key_of e
    apart e has same =
        let r = rule_from rs e (rest_is same_key same_key_decides k o rs distinct) has in
        let one : about.Rule k ≡ about.Rule r.key = same ∙ ap key_of r.is in
        other_key same_key same_key_decides k o rs r.key (Some r.target) distinct r.found cc

    by : (q : Option RuleTarget) → AllPairs (λ a b. key_of a ≢ key_of b) (rule_routes rs) → AllPairs (λ a b. key_of a ≢ key_of b) (cond (is_some q) (entry.Rule k q ∷ []) [] ++ rule_routes rs)
    by None again = again
    by (Some target) again =
        AllPairs-cons (λ a b. key_of a ≢ key_of b) (entry.Rule k (Some target)) (rule_routes rs) (all_from_each (λ e. about.Rule k ≢ key_of e) (rule_routes rs) apart) again

-- ---- tables that are there

abbrev pub mark_routes : List ℕ → Marks → List Entry
mark_routes keyspace marks = flat_map (λ mark. cond mark.1 (entry.Present keyspace mark.0 true ∷ []) []) marks

-- an entry of them is a table that is marked
pub record IsTableOf (keyspace : List ℕ) (marks : Marks) (e : Entry) : Type 0 where
  pub table : List ℕ
  pub is : e ≡ entry.Present keyspace table true
  pub found : lookup (same_text table) marks ≡ Some true

has_mark : (keyspace : List ℕ) (marks : Marks) (table : List ℕ) → is_marked marks table ≡ true → Contains (mark_routes keyspace marks) (entry.Present keyspace table true)
has_mark keyspace [] table is = absurd (true≢false (sym is))
has_mark keyspace (m ∷ ms) table is = by (has_mark keyspace ms table) (same_text table m.0) refl
  where
    head : (b : Bool) → b ≡ true → table ≡ m.0 → Contains (cond b (entry.Present keyspace m.0 true ∷ []) []) (entry.Present keyspace table true)
    head false marked e = absurd (true≢false (sym marked))
    head true marked e = (0, omega arith, ap (λ name. entry.Present keyspace name true) (sym e))

    by : (is_marked ms table ≡ true → Contains (mark_routes keyspace ms) (entry.Present keyspace table true)) → (t : Bool) → same_text table m.0 ≡ t → Contains (mark_routes keyspace (m ∷ ms)) (entry.Present keyspace table true)
    by again true t =
        let here : m.1 ≡ true = rw t at is in
        Contains-append_left (cond m.1 (entry.Present keyspace m.0 true ∷ []) []) (mark_routes keyspace ms) (entry.Present keyspace table true) (head m.1 here ((same_text_decides table m.0).0 t))
    by again false t = Contains-append_right (cond m.1 (entry.Present keyspace m.0 true ∷ []) []) (mark_routes keyspace ms) (entry.Present keyspace table true) (again (rw t at is))

mark_from : (keyspace : List ℕ) (marks : Marks) (e : Entry) → IsDistinct same_text (keys_of marks) → Contains (mark_routes keyspace marks) e → IsTableOf keyspace marks e
mark_from keyspace [] e distinct has = absurd (omega (arith, has.1))
mark_from keyspace ((n, b) ∷ ms) e distinct has =
    by (mark_from keyspace ms e (rest_is same_text same_text_decides n b ms distinct)) (Contains-append_cases (cond b (entry.Present keyspace n true ∷ []) []) (mark_routes keyspace ms) e has)
  where
    later : IsTableOf keyspace ms e → IsTableOf keyspace ((n, b) ∷ ms) e
    later r = record { table = r.table; is = r.is; found = later_is same_text same_text_decides n b ms r.table true distinct r.found }

    head : (q : Bool) → b ≡ q → Contains (cond q (entry.Present keyspace n true ∷ []) []) e → IsTableOf keyspace ((n, b) ∷ ms) e
    head false is at = absurd (omega (arith, at.1))
    head true is at = record { table = n; is = sole (entry.Present keyspace n true) e at; found = rw (same_itself same_text same_text_decides n) (ap Some is) }

    by : (Contains (mark_routes keyspace ms) e → IsTableOf keyspace ms e) → Contains (cond b (entry.Present keyspace n true ∷ []) []) e ⊎ Contains (mark_routes keyspace ms) e → IsTableOf keyspace ((n, b) ∷ ms) e
    by again (inl at) = head b refl at
    by again (inr at) = later (again at)

marks_once : (keyspace : List ℕ) (marks : Marks) → IsDistinct same_text (keys_of marks) → AllPairs (λ a b. key_of a ≢ key_of b) (mark_routes keyspace marks)
marks_once keyspace [] distinct = λ i j d below inside. absurd (omega (arith, inside))
marks_once keyspace ((n, b) ∷ ms) distinct = by b (marks_once keyspace ms (rest_is same_text same_text_decides n b ms distinct))
  where
    apart : (e : Entry) → Contains (mark_routes keyspace ms) e → about.Present keyspace n ≢ key_of e
    apart e has same =
        let r = mark_from keyspace ms e (rest_is same_text same_text_decides n b ms distinct) has in
        let one : about.Present keyspace n ≡ about.Present keyspace r.table = same ∙ ap key_of r.is in
        other_key same_text same_text_decides n b ms r.table true distinct r.found cc

    by : (q : Bool) → AllPairs (λ a b. key_of a ≢ key_of b) (mark_routes keyspace ms) → AllPairs (λ a b. key_of a ≢ key_of b) (cond q (entry.Present keyspace n true ∷ []) [] ++ mark_routes keyspace ms)
    by false again = again
    by true again =
        AllPairs-cons (λ a b. key_of a ≢ key_of b) (entry.Present keyspace n true) (mark_routes keyspace ms) (all_from_each (λ e. about.Present keyspace n ≢ key_of e) (mark_routes keyspace ms) apart) again

-- ---- of all keyspaces

abbrev pub table_routes : Keyspaces → List Entry
table_routes keyspaces = flat_map (λ k. mark_routes k.0 k.1.tables) keyspaces

-- an entry of them is a table of a keyspace
pub record IsTableIn (keyspaces : Keyspaces) (e : Entry) : Type 0 where
  pub keyspace : List ℕ
  pub state : KeyspaceState
  pub table : List ℕ
  pub is : e ≡ entry.Present keyspace table true
  pub there : lookup (same_text keyspace) keyspaces ≡ Some state
  pub found : lookup (same_text table) state.tables ≡ Some true

has_table_there : (keyspaces : Keyspaces) (keyspace table : List ℕ) → is_present keyspaces keyspace table ≡ true → Contains (table_routes keyspaces) (entry.Present keyspace table true)
has_table_there [] keyspace table is = absurd (true≢false (sym is))
has_table_there (k ∷ ks) keyspace table is = by (has_table_there ks keyspace table) (same_text keyspace k.0) refl
  where
    by : (is_present ks keyspace table ≡ true → Contains (table_routes ks) (entry.Present keyspace table true)) → (t : Bool) → same_text keyspace k.0 ≡ t → Contains (table_routes (k ∷ ks)) (entry.Present keyspace table true)
    by again true t =
        let here : is_marked k.1.tables table ≡ true = rw t at is in
        Contains-append_left (mark_routes k.0 k.1.tables) (table_routes ks) (entry.Present keyspace table true)
        (subst (λ name. Contains (mark_routes k.0 k.1.tables) (entry.Present name table true)) (sym ((same_text_decides keyspace k.0).0 t)) (has_mark k.0 k.1.tables table here))
    by again false t = Contains-append_right (mark_routes k.0 k.1.tables) (table_routes ks) (entry.Present keyspace table true) (again (rw t at is))

table_from : (keyspaces : Keyspaces) (e : Entry) → IsDistinct same_text (keys_of keyspaces) → All (λ k. IsDistinct same_text (keys_of k.1.tables)) keyspaces → Contains (table_routes keyspaces) e → IsTableIn keyspaces e
table_from [] e distinct tables has = absurd (omega (arith, has.1))
table_from ((n, s) ∷ ks) e distinct tables has =
    by (table_from ks e (rest_is same_text same_text_decides n s ks distinct) (All-tail (λ k. IsDistinct same_text (keys_of k.1.tables)) (n, s) ks tables))
    (Contains-append_cases (mark_routes n s.tables) (table_routes ks) e has)
  where
    here : IsTableOf n s.tables e → IsTableIn ((n, s) ∷ ks) e
    here r = record { keyspace = n; state = s; table = r.table; is = r.is; there = rw (same_itself same_text same_text_decides n) refl; found = r.found }

    later : IsTableIn ks e → IsTableIn ((n, s) ∷ ks) e
    later r = record { keyspace = r.keyspace; state = r.state; table = r.table; is = r.is; there = later_is same_text same_text_decides n s ks r.keyspace r.state distinct r.there; found = r.found }

    by : (Contains (table_routes ks) e → IsTableIn ks e) → Contains (mark_routes n s.tables) e ⊎ Contains (table_routes ks) e → IsTableIn ((n, s) ∷ ks) e
    by again (inl at) = here (mark_from n s.tables e (All-head (λ k. IsDistinct same_text (keys_of k.1.tables)) (n, s) ks tables) at)
    by again (inr at) = later (again at)

tables_once : (keyspaces : Keyspaces) → IsDistinct same_text (keys_of keyspaces) → All (λ k. IsDistinct same_text (keys_of k.1.tables)) keyspaces → AllPairs (λ a b. key_of a ≢ key_of b) (table_routes keyspaces)
tables_once [] distinct tables = λ i j d below inside. absurd (omega (arith, inside))
tables_once ((n, s) ∷ ks) distinct tables =
    pairs-append (λ a b. key_of a ≢ key_of b) (mark_routes n s.tables) (table_routes ks) (marks_once n s.tables own) (tables_once ks (rest_is same_text same_text_decides n s ks distinct) others)
    (all_from_each (λ a. All (λ b. key_of a ≢ key_of b) (table_routes ks)) (mark_routes n s.tables) (λ a at. all_from_each (λ b. key_of a ≢ key_of b) (table_routes ks) (apart a at)))
  where
    own : IsDistinct same_text (keys_of s.tables)
    own = All-head (λ k. IsDistinct same_text (keys_of k.1.tables)) (n, s) ks tables

    others : All (λ k. IsDistinct same_text (keys_of k.1.tables)) ks
    others = All-tail (λ k. IsDistinct same_text (keys_of k.1.tables)) (n, s) ks tables

    apart : (a : Entry) → Contains (mark_routes n s.tables) a → (b : Entry) → Contains (table_routes ks) b → key_of a ≢ key_of b
    apart a at b there same =
        let q = mark_from n s.tables a own at in
        let r = table_from ks b (rest_is same_text same_text_decides n s ks distinct) others there in
        let one : about.Present n q.table ≡ about.Present r.keyspace r.table = sym (ap key_of q.is) ∙ same ∙ ap key_of r.is in
        other_key same_text same_text_decides n s ks r.keyspace r.state distinct r.there cc

-- ---- of a topology

routes_once : (t : TopologyState) → HasDistinctPlaces t → AllPairs (λ a b. key_of a ≢ key_of b) (routes_of t)
routes_once t places =
    pairs-append (λ a b. key_of a ≢ key_of b) (rule_routes t.rules) (table_routes t.keyspaces) (rules_once t.rules places.rules) (tables_once t.keyspaces places.keyspaces places.tables)
    (all_from_each (λ a. All (λ b. key_of a ≢ key_of b) (table_routes t.keyspaces)) (rule_routes t.rules) (λ a at. all_from_each (λ b. key_of a ≢ key_of b) (table_routes t.keyspaces) (apart a at)))
  where
    apart : (a : Entry) → Contains (rule_routes t.rules) a → (b : Entry) → Contains (table_routes t.keyspaces) b → key_of a ≢ key_of b
    apart a at b there same =
        let q = rule_from t.rules a places.rules at in
        let r = table_from t.keyspaces b places.keyspaces places.tables there in
        let one : about.Rule q.key ≡ about.Present r.keyspace r.table = sym (ap key_of q.is) ∙ same ∙ ap key_of r.is in absurd cc

-- an entry of the routes is one that leads somewhere, with the value that the topology gives it
said : (t : TopologyState) → HasDistinctPlaces t → (e : Entry) → Contains (routes_of t) e → (is_routed e ≡ true) × (value_of t (key_of e) ≡ e)
said t places e has = by (Contains-append_cases (rule_routes t.rules) (table_routes t.keyspaces) e has)
  where
    of_rule : IsRuleOf t.rules e → (is_routed e ≡ true) × (value_of t (key_of e) ≡ e)
    of_rule r =
        let value : value_of t (about.Rule r.key) ≡ entry.Rule r.key (Some r.target) = rw r.found refl in
        (ap is_routed r.is, ap (λ x. value_of t (key_of x)) r.is ∙ value ∙ sym r.is)

    of_table : IsTableIn t.keyspaces e → (is_routed e ≡ true) × (value_of t (key_of e) ≡ e)
    of_table r =
        let value : value_of t (about.Present r.keyspace r.table) ≡ entry.Present r.keyspace r.table true = rw (r.there, r.found) refl in
        (ap is_routed r.is, ap (λ x. value_of t (key_of x)) r.is ∙ value ∙ sym r.is)

    by : Contains (rule_routes t.rules) e ⊎ Contains (table_routes t.keyspaces) e → (is_routed e ≡ true) × (value_of t (key_of e) ≡ e)
    by (inl at) = of_rule (rule_from t.rules e places.rules at)
    by (inr at) = of_table (table_from t.keyspaces e places.keyspaces places.tables at)

-- and each such entry is among them
listed : (t : TopologyState) (e : Entry) → is_routed e ≡ true → value_of t (key_of e) ≡ e → Contains (routes_of t) e
listed t (entry.Rule key None) routed is = absurd (true≢false (sym routed))
listed t (entry.Rule key (Some target)) routed is =
    let here : rule_at t.rules key ≡ Some target = cc in
    Contains-append_left (rule_routes t.rules) (table_routes t.keyspaces) (entry.Rule key (Some target)) (has_rule t.rules key target here)
listed t (entry.Denied keyspace table mark) routed is = absurd (true≢false (sym routed))
listed t (entry.Present keyspace table false) routed is = absurd (true≢false (sym routed))
listed t (entry.Present keyspace table true) routed is =
    let here : is_present t.keyspaces keyspace table ≡ true = cc in
    Contains-append_right (rule_routes t.rules) (table_routes t.keyspaces) (entry.Present keyspace table true) (has_table_there t.keyspaces keyspace table here)

pub view-of_served : (p : Plain) (t : TopologyState) → IsServed p t → IsView p (routes_of t)
view-of_served p t served =
    record {
      once = routes_once t served.places;
      entries = λ e. (
        λ has. let r = said t served.places e has in (r.0, sym (served.entries (key_of e)) ∙ r.1),
        λ r. listed t e r.0 (served.entries (key_of e) ∙ r.1),
      );
    }

-- ---- a view in another order

pairs_of_keys : (view : List Entry) → AllPairs (λ a b. key_of a ≢ key_of b) view → AllPairs (λ a b. a ≢ b) (map key_of view)
pairs_of_keys [] once = λ i j d below inside. absurd (omega (arith, inside))
pairs_of_keys (e ∷ es) once =
    AllPairs-cons (λ a b. a ≢ b) (key_of e) (map key_of es)
    (All-map (λ k. key_of e ≢ k) key_of es (λ j d inside. once zero (suc j) d (omega arith) (omega (arith, inside))))
    (pairs_of_keys es (λ i j d below inside. once (suc i) (suc j) d (omega (arith, below)) (omega (arith, inside))))

keys_of_pairs : (view : List Entry) → AllPairs (λ a b. a ≢ b) (map key_of view) → AllPairs (λ a b. key_of a ≢ key_of b) view
keys_of_pairs view apart = λ i j d below inside same.
    let at_i : slice_index_or (map key_of view) i (key_of d) ≡ key_of (slice_index_or view i d) = get_or-map key_of view i d (key_of d) (omega (arith, below, inside)) in
    let at_j : slice_index_or (map key_of view) j (key_of d) ≡ key_of (slice_index_or view j d) = get_or-map key_of view j d (key_of d) inside in
    apart i j (key_of d) below (omega (arith, inside, length-map view key_of)) (at_i ∙ same ∙ sym at_j)

pub view-turned : (p : Plain) (view other : List Entry) → IsView p view → IsPermutation view other → IsView p other
view-turned p view other is turned =
    record {
      once =
          keys_of_pairs other (AllPairs-from_IsDistinct same_about_decides (map key_of other)
          (IsDistinct-IsPermutation same_about (same_turned same_about same_about_decides) (map key_of view) (map key_of other) (IsPermutation-map key_of view other turned) (IsDistinct-from_AllPairs same_about_decides (map key_of view) (pairs_of_keys view is.once))));
      entries = λ e. (
        λ has. (is.entries e).0 (Contains-permutation other view e (IsPermutation-sym view other turned) has),
        λ r. Contains-permutation view other e turned ((is.entries e).1 r),
      );
    }
