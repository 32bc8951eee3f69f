-- The routes of a topology say each of themselves, and nothing else.
use Rattle.std.proofs.Common.{◌≡◌, ◌⊎◌, ◌||◌, inl, inr, ℕ, Bool, true, false, cond, List, [], ◌∷◌, All, Contains, flat_map, Option, None, is_some, unwrap_or, refl, ap, sym, subst, ◌∙◌}
use Rattle.std.proofs.lemmas.List.Elements.{All-append, All-contains, All-contains_itself, All-cons, All-head, All-nil, All-tail, All-weaker}
use Rattle.std.proofs.lemmas.Map.Made.{IsDistinct-keys_filter}
use Rattle.std.proofs.lemmas.Map.Views.{lookup-from_Contains}
use Rattle.std.specs.Cmp.{decided}
use Rattle.std.specs.List.{AllByRecursion, IsDistinct, list_any}
use Rattle.std.specs.Map.{keys_of}
use Rattle.mt_names.specs.declared.keys.RuleKey.{RuleKey}
use Rattle.mt_names.specs.declared.keys.RuleTarget.{RuleTarget}
use Rattle.mt_names.specs.Names.{same_text}
use Rattle.mt_names.specs.Same.{same_key}
use Rattle.mt_names.proofs.SameLemmas.{same_key_decides, same_text_decides}
use Rattle.mt_model.specs.declared.entries.Entry.TheVariants as entry
use Rattle.mt_model.specs.Part.{rule_routes, table_routes}
use Rattle.mt_model.specs.Topology.{HasDistinctPlaces, KeyspaceState, Keyspaces, TopologyState, holders, is_marked, is_present, key_of, routes_of}
use Rattle.mt_routes.specs.LookUp.{is_listed, said_by}
use Rattle.mt_routes.specs.Places.{AreRoutes}
use Rattle.mt_routes.proofs.SaidLemmas.{none-there, split}
use Rattle.mt_routes.proofs.TopologyLemmas.{holders-led, target-led}

-- what is true of what each element gives is true of all
all-given : {X Y : Type 0} (f : X → List Y) (P : Y → Type 0) (xs : List X) → All (λ x. All P (f x)) xs → All P (flat_map f xs)
all-given f P [] each = All-nil P
all-given f P (x ∷ xs) each = All-append P (f x) (flat_map f xs) (All-head (λ y. All P (f y)) x xs each) (all-given f P xs (All-tail (λ y. All P (f y)) x xs each))

-- a keyspace that has a table is among those that have it
holds : (keyspaces : Keyspaces) (k : List ℕ × KeyspaceState) (table : List ℕ) → Contains keyspaces k → is_marked k.1.tables table ≡ true → list_any (same_text k.0) (holders keyspaces table) ≡ true
holds [] k table has is = absurd (none-there k has)
holds (x ∷ keyspaces) k table has is = found (split x k keyspaces has) (λ h. holds keyspaces k table h is)
  where
    here : is_marked x.1.tables table ≡ true → same_text k.0 x.0 ≡ true → list_any (same_text k.0) (holders (x ∷ keyspaces) table) ≡ true
    here marked same = rw marked (rw same refl)

    or_true : (b : Bool) → (b || true) ≡ true
    or_true true = refl
    or_true false = refl

    there : (b : Bool) → is_marked x.1.tables table ≡ b → list_any (same_text k.0) (holders keyspaces table) ≡ true → list_any (same_text k.0) (holders (x ∷ keyspaces) table) ≡ true
    there true marked again = rw marked (ap (λ b. same_text k.0 x.0 || b) again ∙ or_true (same_text k.0 x.0))
    there false marked again = rw marked again

    found : (x ≡ k) ⊎ Contains keyspaces k → (Contains keyspaces k → list_any (same_text k.0) (holders keyspaces table) ≡ true) → list_any (same_text k.0) (holders (x ∷ keyspaces) table) ≡ true
    found (inl first) again =
        here (subst (λ y. is_marked y.1.tables table ≡ true) (sym first) is) ((same_text_decides k.0 x.0).1 (ap (λ y. y.0) (sym first)))
    found (inr later) again = there (is_marked x.1.tables table) refl (again later)

-- each rule that stands says so
rules-say : (t : TopologyState) → HasDistinctPlaces t → All (λ e. said_by (routes_of t) (key_of e) ≡ e) (rule_routes t.rules)
rules-say t distinct =
    all-given (λ r. cond (is_some r.1) (entry.Rule r.0 r.1 ∷ []) []) (λ e. said_by (routes_of t) (key_of e) ≡ e) t.rules
    (All-weaker (Contains t.rules) (λ r. All (λ e. said_by (routes_of t) (key_of e) ≡ e) (cond (is_some r.1) (entry.Rule r.0 r.1 ∷ []) [])) one t.rules (All-contains_itself t.rules))
  where
    one : (r : RuleKey × Option RuleTarget) → Contains t.rules r → All (λ e. said_by (routes_of t) (key_of e) ≡ e) (cond (is_some r.1) (entry.Rule r.0 r.1 ∷ []) [])
    one r has = by (is_some r.1) refl
      where
        says : said_by (routes_of t) (key_of (entry.Rule r.0 r.1)) ≡ entry.Rule r.0 r.1
        says =
            ap (entry.Rule r.0) (target-led t r.0 distinct ∙ ap (λ o. unwrap_or o None) (lookup-from_Contains (decided same_key same_key_decides) r.0 r.1 t.rules distinct.rules has))

        by : (b : Bool) → is_some r.1 ≡ b → All (λ e. said_by (routes_of t) (key_of e) ≡ e) (cond (is_some r.1) (entry.Rule r.0 r.1 ∷ []) [])
        by true is = rw is (All-cons (λ e. said_by (routes_of t) (key_of e) ≡ e) (entry.Rule r.0 r.1) [] says (All-nil (λ e. said_by (routes_of t) (key_of e) ≡ e)))
        by false is = rw is (All-nil (λ e. said_by (routes_of t) (key_of e) ≡ e))

-- each table that is there says so
tables-say : (t : TopologyState) → HasDistinctPlaces t → All (λ e. said_by (routes_of t) (key_of e) ≡ e) (flat_map table_routes t.keyspaces)
tables-say t distinct =
    all-given table_routes (λ e. said_by (routes_of t) (key_of e) ≡ e) t.keyspaces
    (All-weaker (Contains t.keyspaces) (λ k. All (λ e. said_by (routes_of t) (key_of e) ≡ e) (table_routes k)) each t.keyspaces (All-contains_itself t.keyspaces))
  where
    one : (k : List ℕ × KeyspaceState) → Contains t.keyspaces k → (mark : List ℕ × Bool) → Contains k.1.tables mark
        → All (λ e. said_by (routes_of t) (key_of e) ≡ e) (cond mark.1 (entry.Present k.0 mark.0 true ∷ []) [])
    one k has mark there = by mark.1 refl
      where
        marks : IsDistinct same_text (keys_of k.1.tables)
        marks = All-contains (λ s. IsDistinct same_text (keys_of s.1.tables)) t.keyspaces k distinct.tables has

        by : (b : Bool) → mark.1 ≡ b → All (λ e. said_by (routes_of t) (key_of e) ≡ e) (cond mark.1 (entry.Present k.0 mark.0 true ∷ []) [])
        by false is = rw is (All-nil (λ e. said_by (routes_of t) (key_of e) ≡ e))
        by true is =
            let marked : is_marked k.1.tables mark.0 ≡ true = ap (λ o. unwrap_or o false) (lookup-from_Contains (decided same_text same_text_decides) mark.0 mark.1 k.1.tables marks there) ∙ is in
            let listed : is_listed (routes_of t) k.0 mark.0 ≡ true = ap (list_any (same_text k.0)) (holders-led t mark.0 distinct) ∙ holds t.keyspaces k mark.0 has marked in
            rw is (All-cons (λ e. said_by (routes_of t) (key_of e) ≡ e) (entry.Present k.0 mark.0 true) [] (ap (entry.Present k.0 mark.0) listed) (All-nil (λ e. said_by (routes_of t) (key_of e) ≡ e)))

    each : (k : List ℕ × KeyspaceState) → Contains t.keyspaces k → All (λ e. said_by (routes_of t) (key_of e) ≡ e) (table_routes k)
    each k has =
        all-given (λ mark. cond mark.1 (entry.Present k.0 mark.0 true ∷ []) []) (λ e. said_by (routes_of t) (key_of e) ≡ e) k.1.tables
        (All-weaker (Contains k.1.tables) (λ mark. All (λ e. said_by (routes_of t) (key_of e) ≡ e) (cond mark.1 (entry.Present k.0 mark.0 true ∷ []) [])) (one k has) k.1.tables (All-contains_itself k.1.tables))

pub routes-are-routes : (t : TopologyState) → HasDistinctPlaces t → AreRoutes (routes_of t)
routes-are-routes t distinct =
    record {
      each = All-append (λ e. said_by (routes_of t) (key_of e) ≡ e) (rule_routes t.rules) (flat_map table_routes t.keyspaces) (rules-say t distinct) (tables-say t distinct);
      once = λ table. subst (IsDistinct same_text) (sym (holders-led t table distinct)) (IsDistinct-keys_filter same_text (λ k. is_marked k.1.tables table) t.keyspaces distinct.keyspaces);
    }

-- ---- what they say is what the topology says

none_holds : (k : List ℕ) (keyspaces : Keyspaces) (table : List ℕ) → AllByRecursion (λ y. same_text k y ≡ false) (keys_of keyspaces) → list_any (same_text k) (holders keyspaces table) ≡ false
none_holds k [] table apart = refl
none_holds k (x ∷ keyspaces) table apart = by (is_marked x.1.tables table) refl (none_holds k keyspaces table apart.1)
  where
    by : (b : Bool) → is_marked x.1.tables table ≡ b → list_any (same_text k) (holders keyspaces table) ≡ false → list_any (same_text k) (holders (x ∷ keyspaces) table) ≡ false
    by true is again = rw is (rw apart.0 again)
    by false is again = rw is again

among_holders : (keyspaces : Keyspaces) (k table : List ℕ) → IsDistinct same_text (keys_of keyspaces) → list_any (same_text k) (holders keyspaces table) ≡ is_present keyspaces k table
unfolding IsDistinct
among_holders [] k table distinct = refl
among_holders (x ∷ keyspaces) k table distinct = by (same_text k x.0) refl (is_marked x.1.tables table) refl (among_holders keyspaces k table distinct.1)
  where
    by : (b : Bool) → same_text k x.0 ≡ b → (c : Bool) → is_marked x.1.tables table ≡ c → list_any (same_text k) (holders keyspaces table) ≡ is_present keyspaces k table
        → list_any (same_text k) (holders (x ∷ keyspaces) table) ≡ is_present (x ∷ keyspaces) k table
    by true same true marked again = rw (same, marked) (rw same refl)
    by true same false marked again =
        let k_is : k ≡ x.0 = (same_text_decides k x.0).0 same in
        rw (same, marked) (none_holds k keyspaces table (subst (λ y. AllByRecursion (λ z. same_text y z ≡ false) (keys_of keyspaces)) (sym k_is) distinct.0))
    by false same true marked again = rw (same, marked) (rw same again)
    by false same false marked again = rw (same, marked) again

pub listed-led : (t : TopologyState) (keyspace table : List ℕ) → HasDistinctPlaces t → is_listed (routes_of t) keyspace table ≡ is_present t.keyspaces keyspace table
listed-led t keyspace table distinct = ap (list_any (same_text keyspace)) (holders-led t table distinct) ∙ among_holders t.keyspaces keyspace table distinct.keyspaces
