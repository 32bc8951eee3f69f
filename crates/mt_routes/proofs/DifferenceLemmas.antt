-- What is listed as different is what routes say otherwise than places.
use Rattle.std.proofs.Common.{◌≡◌, ◌≢◌, ◌⊎◌, ◌↔◌, ◌&&◌, ◌++◌, inl, inr, ℕ, Bool, true, false, cond, not, List, [], ◌∷◌, All, Contains, filter, flat_map, fold, Option, None, Some, IfOk, Result, Ok, Err, is_some, unwrap_or, refl, ap, sym, subst, ◌∙◌}
use Rattle.std.proofs.lemmas.Bool.{true≢false}
use Rattle.std.proofs.lemmas.List.Elements.{All-contains, All-contains_itself, All-weaker, Contains-append_cases, Contains-append_left, Contains-append_right}
use Rattle.std.proofs.lemmas.Map.Views.{Contains-from_lookup, list_any-from_Contains, lookup-from_Contains}
use Rattle.std.specs.Cmp.{decided}
use Rattle.std.specs.List.{list_any}
use Rattle.std.specs.Map.{lookup}
use Rattle.mt_names.specs.declared.keys.RuleKey.{RuleKey}
use Rattle.mt_names.specs.declared.keys.RuleTarget.{RuleTarget}
use Rattle.mt_names.specs.Names.{same_text}
use Rattle.mt_names.specs.Same.{same_key}
use Rattle.mt_names.proofs.EntryLemmas.{none_from}
use Rattle.mt_names.proofs.SameLemmas.{same_key_decides, same_target_decides, same_text_decides}
use Rattle.mt_model.specs.declared.entries.Entry.{Entry}
use Rattle.mt_model.specs.declared.entries.Entry.TheVariants as entry
use Rattle.mt_model.specs.declared.entries.EntryKey.{EntryKey}
use Rattle.mt_model.specs.Topology.{key_of, rule_at}
use Rattle.mt_routes.specs.LookUp.{is_listed, said_by, target_in}
use Rattle.mt_routes.specs.Places.{Agrees, AreRoutes, ArePlaces, PlacesState, holders_of, is_held, no_places, said_in, standing, with_entry}
use Rattle.mt_routes.specs.Differences.{AreDifferences, IsDifference, differences, is_rule, is_said, rule_gone, table_gone, tables_gone}
use Rattle.mt_routes.proofs.LookUpLemmas.{all-listed, contains-rule, contains-table, first, later, mark_of, rule_target}
use Rattle.mt_routes.proofs.SaidLemmas.{agree, key-of-said, none-there, only, said-standing, split}

-- an entry that routes say otherwise than places, as they say it
abbrev pub IsUnsaid : PlacesState → (routes : List Entry) → Entry → Type 0
IsUnsaid places routes e = (said_by routes (key_of e) ≡ e) × (said_in places (key_of e) ≢ e)

-- ---- members of lists

-- what is in what some elements give is given by one of them
given_by : {X Y : Type 0} (f : X → List Y) (xs : List X) (y : Y) → Contains (flat_map f xs) y → (x : X) × Contains xs x × Contains (f x) y
given_by f [] y has = absurd (none-there y has)
given_by f (x ∷ xs) y has =
    elim (Contains-append_cases (f x) (flat_map f xs) y has) [
      | inl here ↦ (x, first xs refl, here)
      | inr there ↦ let found = given_by f xs y there in (found.0, later x xs found.0 found.1, found.2)
    ]

gives : {X Y : Type 0} (f : X → List Y) (xs : List X) (x : X) (y : Y) → Contains xs x → Contains (f x) y → Contains (flat_map f xs) y
gives f [] x y has given = absurd (none-there x has)
gives f (z ∷ xs) x y has given = at (split z x xs has) (λ h. gives f xs x y h given)
  where
    at : (z ≡ x) ⊎ Contains xs x → (Contains xs x → Contains (flat_map f xs) y) → Contains (f z ++ flat_map f xs) y
    at (inl here) again = Contains-append_left (f z) (flat_map f xs) y (subst (λ w. Contains (f w) y) (sym here) given)
    at (inr there) again = Contains-append_right (f z) (flat_map f xs) y (again there)

-- what is kept was there, and passes
kept-there : {X : Type 0} (p : X → Bool) (xs : List X) (y : X) → Contains (filter p xs) y → Contains xs y × (p y ≡ true)
kept-there p [] y has = absurd (none-there y has)
kept-there p (x ∷ xs) y has = by (p x) refl has (λ h. kept-there p xs y h)
  where
    by : (b : Bool) → p x ≡ b → Contains (cond b (x ∷ filter p xs) (filter p xs)) y → (Contains (filter p xs) y → Contains xs y × (p y ≡ true)) → Contains (x ∷ xs) y × (p y ≡ true)
    by false is has again = let found = again has in (later x xs y found.0, found.1)
    by true is has again =
        elim (split x y (filter p xs) has) [
          | inl here ↦ (first xs here, subst (λ w. p w ≡ true) here is)
          | inr there ↦ let found = again there in (later x xs y found.0, found.1)
        ]

keeps : {X : Type 0} (p : X → Bool) (xs : List X) (y : X) → Contains xs y → p y ≡ true → Contains (filter p xs) y
keeps p [] y has passes = absurd (none-there y has)
keeps p (x ∷ xs) y has passes = by (p x) refl (split x y xs has) (λ h. keeps p xs y h passes)
  where
    by : (b : Bool) → p x ≡ b → (x ≡ y) ⊎ Contains xs y → (Contains xs y → Contains (filter p xs) y) → Contains (cond b (x ∷ filter p xs) (filter p xs)) y
    by true is (inl here) again = first (filter p xs) here
    by true is (inr there) again = later x (filter p xs) y (again there)
    by false is (inl here) again = absurd (true≢false (sym (subst (λ w. p w ≡ true) (sym here) passes) ∙ is))
    by false is (inr there) again = again there

name-there : (k : List ℕ) (ks : List (List ℕ)) → list_any (same_text k) ks ≡ true → Contains ks k
name-there k [] is = absurd (true≢false (sym is))
name-there k (h ∷ ks) is = by (same_text k h) refl is (λ has. name-there k ks has)
  where
    by : (b : Bool) → same_text k h ≡ b → list_any (same_text k) (h ∷ ks) ≡ true → (list_any (same_text k) ks ≡ true → Contains ks k) → Contains (h ∷ ks) k
    by true at is again = first ks (sym ((same_text_decides k h).0 at))
    by false at is again = later h ks k (again (rw at at is))

-- ---- whether an entry is said

rule-said : (a b : Option RuleTarget) → is_rule a b ≡ true → a ≡ b
rule-said None None is = refl
rule-said None (Some t) is = absurd (true≢false (sym is))
rule-said (Some s) None is = absurd (true≢false (sym is))
rule-said (Some s) (Some t) is = ap Some ((same_target_decides s t).0 is)

held-said : (h m : Bool) → cond h m (not m) ≡ true → h ≡ m
held-said true m is = sym is
held-said false true is = absurd (true≢false (sym is))
held-said false false is = refl

said : (places : PlacesState) (e : Entry) → is_said places e ≡ true → said_in places (key_of e) ≡ e
said places (entry.Rule key target) is = ap (entry.Rule key) (rule-said (rule_at places.rules key) target is)
said places (entry.Denied k t true) is = absurd (true≢false (sym is))
said places (entry.Denied k t false) is = refl
said places (entry.Present k t mark) is = ap (entry.Present k t) (held-said (is_held places k t) mark is)

rule-itself : (a : Option RuleTarget) → is_rule a a ≡ true
rule-itself None = refl
rule-itself (Some t) = (same_target_decides t t).1 refl

held-itself : (m : Bool) → cond m m (not m) ≡ true
held-itself true = refl
held-itself false = refl

is-said : (places : PlacesState) (e : Entry) → said_in places (key_of e) ≡ e → is_said places e ≡ true
is-said places (entry.Rule key target) is = subst (λ o. is_rule (rule_at places.rules key) o ≡ true) (ap rule_target is) (rule-itself (rule_at places.rules key))
is-said places (entry.Denied k t mark) is = ap not (sym (ap mark_of is))
is-said places (entry.Present k t mark) is = subst (λ m. cond (is_held places k t) m (not m) ≡ true) (ap mark_of is) (held-itself (is_held places k t))

unsaid : (places : PlacesState) (e : Entry) → said_in places (key_of e) ≢ e → not (is_said places e) ≡ true
unsaid places e other = by (is_said places e) refl
  where
    by : (b : Bool) → is_said places e ≡ b → not b ≡ true
    by true is = absurd (other (said places e is))
    by false is = refl

not-said : (places : PlacesState) (e : Entry) → not (is_said places e) ≡ true → said_in places (key_of e) ≢ e
not-said places e is same = true≢false (sym is ∙ ap not (is-said places e same))

-- ---- what is to be taken away

module _ (places : PlacesState) (routes : List Entry) (are : ArePlaces places) (routed : AreRoutes routes) (has_rule : RuleKey → Bool) (has_table : List ℕ → List ℕ → Bool)
    (rules_are : (key : RuleKey) → has_rule key ≡ is_some (target_in routes key)) (tables_are : (keyspace table : List ℕ) → has_table keyspace table ≡ is_listed routes keyspace table) where
  rule-gone : (r : RuleKey × Option RuleTarget) (e : Entry) → Contains places.rules r → Contains (rule_gone has_rule r) e → IsUnsaid places routes e
  rule-gone r e has listed = by r.1 refl (has_rule r.0) refl listed
    where
      stands : rule_at places.rules r.0 ≡ r.1
      stands = ap (λ o. unwrap_or o None) (lookup-from_Contains (decided same_key same_key_decides) r.0 r.1 places.rules are.rules has)

      by : (o : Option RuleTarget) → r.1 ≡ o → (b : Bool) → has_rule r.0 ≡ b → Contains (cond (is_some o && not b) (entry.Rule r.0 None ∷ []) []) e → IsUnsaid places routes e
      by None at b is listed = absurd (none-there e listed)
      by (Some t) at true is listed = absurd (none-there e listed)
      by (Some t) at false is listed =
          let e_is : entry.Rule r.0 None ≡ e = only (entry.Rule r.0 None) e listed in
          let none : target_in routes r.0 ≡ None = none_from (target_in routes r.0) (sym (rules_are r.0) ∙ is) in
          subst (IsUnsaid places routes) e_is (ap (entry.Rule r.0) none, (λ same. true≢false (ap is_some (sym at ∙ (sym stands ∙ ap rule_target same)))))

  table-gone : (t : List ℕ × List (List ℕ)) (k : List ℕ) (e : Entry) → Contains places.tables t → Contains t.1 k → Contains (table_gone has_table t.0 k) e → IsUnsaid places routes e
  table-gone t k e has holder listed = by (has_table k t.0) refl listed
    where
      holders : holders_of places t.0 ≡ t.1
      holders = ap (λ o. unwrap_or o []) (lookup-from_Contains (decided same_text same_text_decides) t.0 t.1 places.tables are.tables has)

      held : is_held places k t.0 ≡ true
      held = ap (list_any (same_text k)) holders ∙ list_any-from_Contains (decided same_text same_text_decides) k t.1 holder

      by : (b : Bool) → has_table k t.0 ≡ b → Contains (cond b [] (entry.Present k t.0 false ∷ [])) e → IsUnsaid places routes e
      by true is listed = absurd (none-there e listed)
      by false is listed =
          let e_is : entry.Present k t.0 false ≡ e = only (entry.Present k t.0 false) e listed in
          subst (IsUnsaid places routes) e_is (ap (entry.Present k t.0) (sym (tables_are k t.0) ∙ is), (λ same. true≢false (sym held ∙ ap mark_of same)))

  -- each that is listed is one
  pub listed-is : (e : Entry) → Contains (differences has_rule has_table places routes) e → IsUnsaid places routes e
  listed-is e has =
      elim (Contains-append_cases (flat_map (rule_gone has_rule) places.rules) (flat_map (tables_gone has_table) places.tables ++ filter (λ x. not (is_said places x)) routes) e has) [
        | inl rule ↦ let found = given_by (rule_gone has_rule) places.rules e rule in rule-gone found.0 e found.1 found.2
        | inr others ↦
            elim (Contains-append_cases (flat_map (tables_gone has_table) places.tables) (filter (λ x. not (is_said places x)) routes) e others) [
              | inl table ↦
                  let found = given_by (tables_gone has_table) places.tables e table in
                  let holder = given_by (table_gone has_table found.0.0) found.0.1 e found.2 in
                  table-gone found.0 holder.0 e found.1 holder.1 holder.2
              | inr route ↦
                  let found = kept-there (λ x. not (is_said places x)) routes e route in
                  (All-contains (λ x. said_by routes (key_of x) ≡ x) routes e routed.each found.0, not-said places e found.1)
            ]
      ]

  in_rules : (e : Entry) → Contains (flat_map (rule_gone has_rule) places.rules) e → Contains (differences has_rule has_table places routes) e
  in_rules e has = Contains-append_left (flat_map (rule_gone has_rule) places.rules) (flat_map (tables_gone has_table) places.tables ++ filter (λ x. not (is_said places x)) routes) e has

  in_tables : (e : Entry) → Contains (flat_map (tables_gone has_table) places.tables) e → Contains (differences has_rule has_table places routes) e
  in_tables e has =
      Contains-append_right (flat_map (rule_gone has_rule) places.rules) (flat_map (tables_gone has_table) places.tables ++ filter (λ x. not (is_said places x)) routes) e
      (Contains-append_left (flat_map (tables_gone has_table) places.tables) (filter (λ x. not (is_said places x)) routes) e has)

  in_routes : (e : Entry) → Contains routes e → said_in places (key_of e) ≢ e → Contains (differences has_rule has_table places routes) e
  in_routes e has other =
      Contains-append_right (flat_map (rule_gone has_rule) places.rules) (flat_map (tables_gone has_table) places.tables ++ filter (λ x. not (is_said places x)) routes) e
      (Contains-append_right (flat_map (tables_gone has_table) places.tables) (filter (λ x. not (is_said places x)) routes) e
      (keeps (λ x. not (is_said places x)) routes e has (unsaid places e other)))

  gone-rule : (key : RuleKey) → target_in routes key ≡ None → said_in places (key_of (entry.Rule key None)) ≢ entry.Rule key None → Contains (differences has_rule has_table places routes) (entry.Rule key None)
  gone-rule key none other = by (lookup (same_key key) places.rules) refl
    where
      listed : (t : RuleTarget) → has_rule key ≡ false → Contains (rule_gone has_rule (key, Some t)) (entry.Rule key None)
      listed t is = rw is (first [] refl)

      lacks : has_rule key ≡ false
      lacks = rules_are key ∙ ap is_some none

      by : (o : Option (Option RuleTarget)) → lookup (same_key key) places.rules ≡ o → Contains (differences has_rule has_table places routes) (entry.Rule key None)
      by None at = absurd (other (ap (λ o. entry.Rule key (unwrap_or o None)) at))
      by (Some None) at = absurd (other (ap (λ o. entry.Rule key (unwrap_or o None)) at))
      by (Some (Some t)) at =
          in_rules (entry.Rule key None)
          (gives (rule_gone has_rule) places.rules (key, Some t) (entry.Rule key None) (Contains-from_lookup (λ x y h. (same_key_decides x y).0 h) key (Some t) places.rules at) (listed t lacks))

  gone-table : (k t : List ℕ) → is_listed routes k t ≡ false → said_in places (key_of (entry.Present k t false)) ≢ entry.Present k t false → Contains (differences has_rule has_table places routes) (entry.Present k t false)
  gone-table k t none other = by (is_held places k t) refl
    where
      listed : has_table k t ≡ false → Contains (table_gone has_table t k) (entry.Present k t false)
      listed is = rw is (first [] refl)

      among : (o : Option (List (List ℕ))) → lookup (same_text t) places.tables ≡ o → list_any (same_text k) (unwrap_or o []) ≡ true
          → Contains (differences has_rule has_table places routes) (entry.Present k t false)
      among None at is = absurd (true≢false (sym is))
      among (Some hs) at is =
          in_tables (entry.Present k t false)
          (gives (tables_gone has_table) places.tables (t, hs) (entry.Present k t false) (Contains-from_lookup (λ x y h. (same_text_decides x y).0 h) t hs places.tables at)
          (gives (table_gone has_table t) hs k (entry.Present k t false) (name-there k hs is) (listed (tables_are k t ∙ none))))

      by : (b : Bool) → is_held places k t ≡ b → Contains (differences has_rule has_table places routes) (entry.Present k t false)
      by false is = absurd (other (ap (entry.Present k t) is))
      by true is = among (lookup (same_text t) places.tables) refl is

  -- each that is one is listed
  pub is-listed : (e : Entry) → IsUnsaid places routes e → Contains (differences has_rule has_table places routes) e
  is-listed (entry.Rule key None) d = gone-rule key (ap rule_target d.0) d.1
  is-listed (entry.Rule key (Some t)) d = in_routes (entry.Rule key (Some t)) (contains-rule routes key t (ap rule_target d.0)) d.1
  is-listed (entry.Denied k t mark) d = absurd (d.1 d.0)
  is-listed (entry.Present k t true) d = in_routes (entry.Present k t true) (contains-table routes k t (ap mark_of d.0)) d.1
  is-listed (entry.Present k t false) d = gone-table k t (ap mark_of d.0) d.1

-- ---- what the routes before said

-- where places agree with other routes, it is what these say otherwise
unsaid-from : (places : PlacesState) (before routes : List Entry) (e : Entry) → Agrees places before → IsDifference before routes e → IsUnsaid places routes e
unsaid-from places before routes e agrees d = (d.0, λ same. d.1 (sym (agrees (key_of e)) ∙ same))

difference-from : (places : PlacesState) (before routes : List Entry) (e : Entry) → Agrees places before → IsUnsaid places routes e → IsDifference before routes e
difference-from places before routes e agrees u = (u.0, λ same. u.1 (agrees (key_of e) ∙ same))

pub are-differences : (places : PlacesState) (routes before : List Entry) → ArePlaces places → AreRoutes routes → (has_rule : RuleKey → Bool) (has_table : List ℕ → List ℕ → Bool)
    → ((key : RuleKey) → has_rule key ≡ is_some (target_in routes key)) → ((keyspace table : List ℕ) → has_table keyspace table ≡ is_listed routes keyspace table) → Agrees places before
    → AreDifferences before routes (differences has_rule has_table places routes)
are-differences places routes before are routed has_rule has_table rules_are tables_are agrees e = (
  (λ has. difference-from places before routes e agrees (listed-is places routes are routed has_rule has_table rules_are tables_are e has)),
  (λ d. is-listed places routes are routed has_rule has_table rules_are tables_are e (unsaid-from places before routes e agrees d)),
)

-- ---- once all is written

-- a key at which nothing is said otherwise is said as it is to be; else what is to be said is listed
covered : (places : PlacesState) (before routes written : List Entry) → Agrees places before → AreDifferences before routes written → (key : EntryKey)
    → (said_in places key ≡ said_by routes key) ⊎ Contains written (said_by routes key)
covered places before routes written agrees are key = by (is_said places (said_by routes key)) refl
  where
    same_key_of : key_of (said_by routes key) ≡ key
    same_key_of = key-of-said routes key

    itself : said_by routes (key_of (said_by routes key)) ≡ said_by routes key
    itself = ap (said_by routes) same_key_of

    by : (b : Bool) → is_said places (said_by routes key) ≡ b → (said_in places key ≡ said_by routes key) ⊎ Contains written (said_by routes key)
    by true is = inl (subst (λ k. said_in places k ≡ said_by routes key) same_key_of (said places (said_by routes key) is))
    by false is =
        inr ((are (said_by routes key)).1 (difference-from places before routes (said_by routes key) agrees (itself, not-said places (said_by routes key) (ap not is))))

pub written-agree : (places : PlacesState) (before routes written : List Entry) → Agrees places before → AreDifferences before routes written → Agrees (fold with_entry places written) routes
written-agree places before routes written agrees are = agree written places routes each (covered places before routes written agrees are)
  where
    each : All (λ e. said_by routes (key_of e) ≡ e) written
    each = All-weaker (Contains written) (λ e. said_by routes (key_of e) ≡ e) (λ e has. ((are e).0 has).0) written (All-contains_itself written)

-- the same, where it is written to a copy of what stands
pub written-to-copy : (places : PlacesState) (before routes written : List Entry) → ArePlaces places → Agrees places before → AreDifferences before routes written → Agrees (fold with_entry (standing places) written) routes
written-to-copy places before routes written are agrees = written-agree (standing places) before routes written (λ key. said-standing places key are ∙ agrees key)

-- routes that are written to no places
pub all-agree : (routes : List Entry) → AreRoutes routes → Agrees (fold with_entry no_places routes) routes
all-agree routes routed = agree routes no_places routes routed.each (all-listed routes)

-- what is so of a list is so of it in other words
pub if_ok : {T E : Type 0} {P Q : T → Type 0} (r : Result T E) → ((x : T) → P x → Q x) → IfOk r P → IfOk r Q
if_ok (Ok x) other said = other x said
if_ok (Err e) other said = said
