-- The routes of a topology lead each name as the topology does.
use Rattle.std.proofs.Common.{◌≡◌, ◌⊎◌, inl, inr, ℕ, Bool, true, false, cond, List, [], ◌∷◌, ◌++◌, All, Option, None, Some, is_some, unwrap_or, Result, Ok, Err, refl, ap, sym, ◌∙◌, subst, flat_map, append_assoc}
use Rattle.std.proofs.lemmas.List.Elements.{All-head, All-tail}
use Rattle.std.specs.List.{AllByRecursion, IsDistinct}
use Rattle.std.specs.Map.{keys_of, lookup}
use Rattle.std.specs.Option.{option_map_or, option_or}
use Rattle.mt_names.specs.declared.keys.RuleKey.{RuleKey}
use Rattle.mt_names.specs.declared.keys.RuleTarget.{RuleTarget}
use Rattle.mt_names.specs.declared.types.TabletType.{TabletType}
use Rattle.mt_names.specs.Names.{same_text}
use Rattle.mt_names.specs.Same.{same_key}
use Rattle.mt_names.proofs.SameLemmas.{same_key_decides, same_text_decides}
use Rattle.mt_model.specs.declared.entries.Entry.{Entry}
use Rattle.mt_model.specs.declared.entries.Entry.TheVariants as entry
use Rattle.mt_model.specs.declared.faults.TopologyFault.{TopologyFault}
use Rattle.mt_model.specs.declared.faults.TopologyFault.TheVariants.{NoTable, Ambiguous}
use Rattle.mt_model.specs.Part.{rule_routes, table_routes}
use Rattle.mt_model.specs.Topology.{TopologyState, HasDistinctPlaces, Keyspaces, KeyspaceState, Marks, Rules, for_all_types, for_type, holders, is_marked, resolution, routes_of, rule_at, rule_for, sole_holder, unruled}
use Rattle.mt_routes.specs.LookUp.{rule_in, table_in, target_in, target_for, holders_in, unruled_in, led_by}

-- ---- refusals

two-ways : (ks : List (List ℕ)) (table : List ℕ) (fault : TopologyFault) → sole_holder ks table ≡ Err fault → (fault ≡ NoTable) ⊎ (fault ≡ Ambiguous)
two-ways [] table fault is = inl (cc (is))
two-ways (k ∷ []) table fault is = absurd cc
two-ways (k ∷ l ∷ ks) table fault is = inr (cc (is))

unruled-two-ways : (entries : List Entry) (keyspace : Option (List ℕ)) (table : List ℕ) (fault : TopologyFault) → unruled_in entries keyspace table ≡ Err fault → (fault ≡ NoTable) ⊎ (fault ≡ Ambiguous)
unruled-two-ways entries (Some keyspace) table fault is = absurd cc
unruled-two-ways entries None table fault is = two-ways (holders_in entries table) table fault is

led-two-ways : (o : Option RuleTarget) (rest : Result RuleTarget TopologyFault) (fault : TopologyFault) → ((f : TopologyFault) → rest ≡ Err f → (f ≡ NoTable) ⊎ (f ≡ Ambiguous)) → option_map_or Ok o rest ≡ Err fault → (fault ≡ NoTable) ⊎ (fault ≡ Ambiguous)
led-two-ways None rest fault two is = two fault is
led-two-ways (Some target) rest fault two is = absurd cc

pub refused-in-two-ways : (entries : List Entry) (key : RuleKey) (type : TabletType) (fault : TopologyFault) → led_by entries key type ≡ Err fault → (fault ≡ NoTable) ⊎ (fault ≡ Ambiguous)
refused-in-two-ways entries key type fault is = led-two-ways (target_for entries key type) (unruled_in entries key.keyspace key.table) fault (λ f e. unruled-two-ways entries key.keyspace key.table f e) is

-- ---- lists of routes

flat-append : {A B : Type 0} (f : A → List B) (xs ys : List A) → flat_map f (xs ++ ys) ≡ flat_map f xs ++ flat_map f ys
flat-append f [] ys = refl
flat-append f (x ∷ xs) ys = ap (λ l. f x ++ l) (flat-append f xs ys) ∙ sym (append_assoc (f x) (flat_map f xs) (flat_map f ys))

append-none : {A : Type 0} (xs : List A) → xs ++ [] ≡ xs
append-none [] = refl
append-none (x ∷ xs) = ap (λ l. x ∷ l) (append-none xs)

-- tables say no rule, and rules no table
no-rules-in-marks : (keyspace : List ℕ) (marks : Marks) → flat_map rule_in (flat_map (λ mark. cond mark.1 (entry.Present keyspace mark.0 true ∷ []) []) marks) ≡ []
no-rules-in-marks keyspace [] = refl
no-rules-in-marks keyspace (m ∷ marks) = by m.1 (no-rules-in-marks keyspace marks)
  where
    by : (b : Bool) → flat_map rule_in (flat_map (λ mark. cond mark.1 (entry.Present keyspace mark.0 true ∷ []) []) marks) ≡ []
        → flat_map rule_in (cond b (entry.Present keyspace m.0 true ∷ []) [] ++ flat_map (λ mark. cond mark.1 (entry.Present keyspace mark.0 true ∷ []) []) marks) ≡ []
    by true again = again
    by false again = again

no-rules-in-tables : (keyspaces : Keyspaces) → flat_map rule_in (flat_map table_routes keyspaces) ≡ []
no-rules-in-tables [] = refl
no-rules-in-tables (k ∷ keyspaces) =
    flat-append rule_in (table_routes k) (flat_map table_routes keyspaces) ∙ ap (λ l. l ++ flat_map rule_in (flat_map table_routes keyspaces)) (no-rules-in-marks k.0 k.1.tables) ∙ no-rules-in-tables keyspaces

no-tables-in-rules : (rules : Rules) → flat_map table_in (rule_routes rules) ≡ []
no-tables-in-rules [] = refl
no-tables-in-rules (r ∷ rules) = by r.1 (no-tables-in-rules rules)
  where
    by : (o : Option RuleTarget) → flat_map table_in (rule_routes rules) ≡ [] → flat_map table_in (cond (is_some o) (entry.Rule r.0 o ∷ []) [] ++ rule_routes rules) ≡ []
    by None again = again
    by (Some target) again = again

-- ---- rules

not-there : (key : RuleKey) (rules : Rules) → AllByRecursion (λ k. same_key key k ≡ false) (keys_of rules) → lookup (same_key key) (flat_map rule_in (rule_routes rules)) ≡ None
not-there key [] apart = refl
not-there key (r ∷ rules) apart = by r.1 (not-there key rules apart.1)
  where
    by : (o : Option RuleTarget) → lookup (same_key key) (flat_map rule_in (rule_routes rules)) ≡ None → lookup (same_key key) (flat_map rule_in (cond (is_some o) (entry.Rule r.0 o ∷ []) [] ++ rule_routes rules)) ≡ None
    by None again = again
    by (Some target) again = rw apart.0 again

rules-led : (key : RuleKey) (rules : Rules) → IsDistinct same_key (keys_of rules) → lookup (same_key key) (flat_map rule_in (rule_routes rules)) ≡ rule_at rules key
unfolding IsDistinct
rules-led key [] distinct = refl
rules-led key (r ∷ rules) distinct = by r.1 (same_key key r.0) refl (rules-led key rules distinct.1)
  where
    by : (o : Option RuleTarget) (b : Bool) → same_key key r.0 ≡ b → lookup (same_key key) (flat_map rule_in (rule_routes rules)) ≡ rule_at rules key
        → lookup (same_key key) (flat_map rule_in (cond (is_some o) (entry.Rule r.0 o ∷ []) [] ++ rule_routes rules)) ≡ unwrap_or (cond (same_key key r.0) (Some o) (lookup (same_key key) rules)) None
    by None true is again =
        let key_is : key ≡ r.0 = (same_key_decides key r.0).0 is in
        rw is (subst (λ k. lookup (same_key k) (flat_map rule_in (rule_routes rules)) ≡ None) (sym key_is) (not-there r.0 rules distinct.0))
    by None false is again = rw is again
    by (Some target) true is again = rw is refl
    by (Some target) false is again = rw is again

-- ---- tables

none-holds : (table keyspace : List ℕ) (marks : Marks) → AllByRecursion (λ k. same_text table k ≡ false) (keys_of marks)
    → flat_map (λ t. cond (same_text table t.0) (t.1 ∷ []) []) (flat_map table_in (flat_map (λ mark. cond mark.1 (entry.Present keyspace mark.0 true ∷ []) []) marks)) ≡ []
none-holds table keyspace [] apart = refl
none-holds table keyspace (m ∷ marks) apart = by m.1 (none-holds table keyspace marks apart.1)
  where
    by : (b : Bool) → flat_map (λ t. cond (same_text table t.0) (t.1 ∷ []) []) (flat_map table_in (flat_map (λ mark. cond mark.1 (entry.Present keyspace mark.0 true ∷ []) []) marks)) ≡ []
        → flat_map (λ t. cond (same_text table t.0) (t.1 ∷ []) []) (flat_map table_in (cond b (entry.Present keyspace m.0 true ∷ []) [] ++ flat_map (λ mark. cond mark.1 (entry.Present keyspace mark.0 true ∷ []) []) marks)) ≡ []
    by true again = rw apart.0 again
    by false again = again

marks-hold : (table keyspace : List ℕ) (marks : Marks) → IsDistinct same_text (keys_of marks)
    → flat_map (λ t. cond (same_text table t.0) (t.1 ∷ []) []) (flat_map table_in (flat_map (λ mark. cond mark.1 (entry.Present keyspace mark.0 true ∷ []) []) marks)) ≡ cond (is_marked marks table) (keyspace ∷ []) []
unfolding IsDistinct
marks-hold table keyspace [] distinct = refl
marks-hold table keyspace (m ∷ marks) distinct = by m.1 (same_text table m.0) refl (marks-hold table keyspace marks distinct.1)
  where
    by : (o b : Bool) → same_text table m.0 ≡ b
        → flat_map (λ t. cond (same_text table t.0) (t.1 ∷ []) []) (flat_map table_in (flat_map (λ mark. cond mark.1 (entry.Present keyspace mark.0 true ∷ []) []) marks)) ≡ cond (is_marked marks table) (keyspace ∷ []) []
        → flat_map (λ t. cond (same_text table t.0) (t.1 ∷ []) []) (flat_map table_in (cond o (entry.Present keyspace m.0 true ∷ []) [] ++ flat_map (λ mark. cond mark.1 (entry.Present keyspace mark.0 true ∷ []) []) marks))
        ≡ cond (unwrap_or (cond (same_text table m.0) (Some o) (lookup (same_text table) marks)) false) (keyspace ∷ []) []
    by true true is again =
        let name_is : table ≡ m.0 = (same_text_decides table m.0).0 is in
        let none = subst (λ n. flat_map (λ t. cond (same_text n t.0) (t.1 ∷ []) []) (flat_map table_in (flat_map (λ mark. cond mark.1 (entry.Present keyspace mark.0 true ∷ []) []) marks)) ≡ []) (sym name_is) (none-holds m.0 keyspace marks distinct.0) in
        rw is (ap (λ l. keyspace ∷ l) none)
    by true false is again = rw is again
    by false true is again =
        let name_is : table ≡ m.0 = (same_text_decides table m.0).0 is in
        rw is (subst (λ n. flat_map (λ t. cond (same_text n t.0) (t.1 ∷ []) []) (flat_map table_in (flat_map (λ mark. cond mark.1 (entry.Present keyspace mark.0 true ∷ []) []) marks)) ≡ []) (sym name_is) (none-holds m.0 keyspace marks distinct.0))
    by false false is again = rw is again

tables-led : (table : List ℕ) (keyspaces : Keyspaces) → All (λ k. IsDistinct same_text (keys_of k.1.tables)) keyspaces
    → holders_in (flat_map table_routes keyspaces) table ≡ holders keyspaces table
tables-led table [] distinct = refl
tables-led table (k ∷ keyspaces) distinct =
    let f : List ℕ × List ℕ → List (List ℕ) = λ t. cond (same_text table t.0) (t.1 ∷ []) [] in
    let P : List ℕ × KeyspaceState → Type 0 = λ s. IsDistinct same_text (keys_of s.1.tables) in
    ap (flat_map f) (flat-append table_in (table_routes k) (flat_map table_routes keyspaces))
    ∙ (flat-append f (flat_map table_in (table_routes k)) (flat_map table_in (flat_map table_routes keyspaces))
    ∙ (ap (λ l. l ++ holders_in (flat_map table_routes keyspaces) table) (marks-hold table k.0 k.1.tables (All-head P k keyspaces distinct))
    ∙ (ap (λ l. cond (is_marked k.1.tables table) (k.0 ∷ []) [] ++ l) (tables-led table keyspaces (All-tail P k keyspaces distinct))
    ∙ by (is_marked k.1.tables table) refl)))
  where
    by : (b : Bool) → is_marked k.1.tables table ≡ b → cond (is_marked k.1.tables table) (k.0 ∷ []) [] ++ holders keyspaces table ≡ holders (k ∷ keyspaces) table
    by true is = rw is refl
    by false is = rw is refl

-- ---- together

pub target-led : (t : TopologyState) (key : RuleKey) → HasDistinctPlaces t → target_in (routes_of t) key ≡ rule_at t.rules key
target-led t key distinct =
    ap (lookup (same_key key)) (flat-append rule_in (rule_routes t.rules) (flat_map table_routes t.keyspaces)
    ∙ (ap (λ l. flat_map rule_in (rule_routes t.rules) ++ l) (no-rules-in-tables t.keyspaces) ∙ append-none (flat_map rule_in (rule_routes t.rules))))
    ∙ rules-led key t.rules distinct.rules

pub holders-led : (t : TopologyState) (table : List ℕ) → HasDistinctPlaces t → holders_in (routes_of t) table ≡ holders t.keyspaces table
holders-led t table distinct =
    let f : List ℕ × List ℕ → List (List ℕ) = λ p. cond (same_text table p.0) (p.1 ∷ []) [] in
    ap (flat_map f) (flat-append table_in (rule_routes t.rules) (flat_map table_routes t.keyspaces)
    ∙ ap (λ l. l ++ flat_map table_in (flat_map table_routes t.keyspaces)) (no-tables-in-rules t.rules))
    ∙ tables-led table t.keyspaces distinct.tables

unruled-led : (t : TopologyState) (keyspace : Option (List ℕ)) (table : List ℕ) → HasDistinctPlaces t → unruled_in (routes_of t) keyspace table ≡ unruled t.keyspaces keyspace table
unruled-led t (Some keyspace) table distinct = refl
unruled-led t None table distinct = ap (λ ks. sole_holder ks table) (holders-led t table distinct)

pub led-as-resolved : (t : TopologyState) (key : RuleKey) (type : TabletType) → HasDistinctPlaces t → led_by (routes_of t) key type ≡ resolution t key type
led-as-resolved t key type distinct =
    let rest = unruled_in (routes_of t) key.keyspace key.table in
    ap (λ o. option_map_or Ok (option_or o (target_in (routes_of t) (for_all_types key))) rest) (target-led t (for_type key type) distinct)
    ∙ (ap (λ o. option_map_or Ok (option_or (rule_at t.rules (for_type key type)) o) rest) (target-led t (for_all_types key) distinct)
    ∙ ap (λ r. option_map_or Ok (rule_for t.rules key type) r) (unruled-led t key.keyspace key.table distinct))
