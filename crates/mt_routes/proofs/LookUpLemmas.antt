-- A name is led the same way by places that agree with routes as by the routes.
use Rattle.std.proofs.Common.{◌≡◌, ◌⊎◌, inl, inr, ℕ, Bool, true, false, List, [], ◌∷◌, Contains, Option, None, Some, Result, Ok, option_map, refl, ap, sym, subst, ◌∙◌, arith}
use Rattle.std.proofs.lemmas.Bool.{true≢false}
use Rattle.std.proofs.lemmas.List.Elements.{Contains-append_right}
use Rattle.std.specs.List.{IsDistinct, last_or, list_any}
use Rattle.std.specs.Option.{option_map_or, option_or}
use Rattle.std.specs.Prelude.{◌||◌, is_some}
use Rattle.mt_names.specs.declared.keys.RuleKey.{RuleKey}
use Rattle.mt_names.specs.declared.keys.RuleTarget.{RuleTarget}
use Rattle.mt_names.specs.declared.types.TabletType.{TabletType}
use Rattle.mt_names.specs.Names.{same_text}
use Rattle.mt_names.specs.Same.{same_key}
use Rattle.mt_names.proofs.SameLemmas.{same_key_decides, same_text_decides}
use Rattle.mt_model.specs.declared.entries.Entry.{Entry}
use Rattle.mt_model.specs.declared.entries.Entry.TheVariants as entry
use Rattle.mt_model.specs.declared.entries.EntryKey.{EntryKey}
use Rattle.mt_model.specs.declared.entries.EntryKey.TheVariants as about
use Rattle.mt_model.specs.declared.faults.TopologyFault.{TopologyFault}
use Rattle.mt_model.specs.Topology.{for_all_types, for_type, rule_at, sole_holder}
use Rattle.mt_routes.specs.declared.publication.Publication.{Publication}
use Rattle.mt_routes.specs.LookUp.{LastLeads, holders_in, is_listed, led_by, said_by, target_for, target_in, unruled_in}
use Rattle.mt_routes.proofs.HolderLemmas.{distinct-at}
use Rattle.mt_routes.specs.Places.{Agrees, ArePlaces, PlacesState, Shows, found_in, holders_of, is_held, no_places, said_in, unruled_at}
use Rattle.mt_routes.specs.Publications.{entries_of, front_of, last_front, last_routes}

-- the target of an entry that is a rule; the mark of one that is none
abbrev pub rule_target : Entry → Option RuleTarget
rule_target (entry.Rule key target) = target
rule_target (entry.Denied k t mark) = None
rule_target (entry.Present k t mark) = None

abbrev pub mark_of : Entry → Bool
mark_of (entry.Rule key target) = false
mark_of (entry.Denied k t mark) = mark
mark_of (entry.Present k t mark) = mark

-- an element is the first, or among the others
pub first : {X : Type 0} {x y : X} (xs : List X) → x ≡ y → Contains (x ∷ xs) y
first xs same = (0, omega arith, same)

pub later : {X : Type 0} (x : X) (xs : List X) (y : X) → Contains xs y → Contains (x ∷ xs) y
later x xs y has = Contains-append_right (x ∷ []) xs y has

rule-agrees : (p : PlacesState) (routes : List Entry) (key : RuleKey) → Agrees p routes → rule_at p.rules key ≡ target_in routes key
rule-agrees p routes key agrees = ap rule_target (agrees (about.Rule key))

held-agrees : (p : PlacesState) (routes : List Entry) (k t : List ℕ) → Agrees p routes → is_held p k t ≡ is_listed routes k t
held-agrees p routes k t agrees = ap mark_of (agrees (about.Present k t))

-- ---- sole holders

name_itself : (k : List ℕ) (hs : List (List ℕ)) → list_any (same_text k) (k ∷ hs) ≡ true
name_itself k hs = let same : same_text k k ≡ true = (same_text_decides k k).1 refl in rw same refl

name_second : (h k : List ℕ) (hs : List (List ℕ)) → list_any (same_text k) (h ∷ k ∷ hs) ≡ true
name_second h k hs = by (same_text k h)
  where
    by : (b : Bool) → (b || list_any (same_text k) (k ∷ hs)) ≡ true
    by true = refl
    by false = name_itself k hs

only_name : (h k : List ℕ) → list_any (same_text k) (h ∷ []) ≡ true → k ≡ h
only_name h k is = by (same_text k h) refl is
  where
    by : (b : Bool) → same_text k h ≡ b → list_any (same_text k) (h ∷ []) ≡ true → k ≡ h
    by true at is = (same_text_decides k h).0 at
    by false at is = absurd (true≢false (sym is ∙ rw at refl))

-- two that are apart aren't both the one of another list
two-of-one : (k h l : List ℕ) (hs : List (List ℕ)) → same_text h l ≡ false → ((q : List ℕ) → list_any (same_text q) (h ∷ l ∷ hs) ≡ true → list_any (same_text q) (k ∷ []) ≡ true) → ⊥
two-of-one k h l hs apart in_it =
    let first : h ≡ k = only_name k h (in_it h (name_itself h (l ∷ hs))) in
    let next : l ≡ k = only_name k l (in_it l (name_second h l hs)) in
    true≢false (sym ((same_text_decides h l).1 (first ∙ sym next)) ∙ apart)

-- where the same keyspaces are listed, each once, they lead to the same table
pub sole : (ks hs : List (List ℕ)) (t : List ℕ) → IsDistinct same_text ks → IsDistinct same_text hs → ((k : List ℕ) → list_any (same_text k) ks ≡ list_any (same_text k) hs) → sole_holder ks t ≡ sole_holder hs t
unfolding IsDistinct
sole [] [] t ours theirs same = refl
sole [] (h ∷ hs) t ours theirs same = absurd (true≢false (sym (name_itself h hs) ∙ sym (same h)))
sole (k ∷ ks) [] t ours theirs same = absurd (true≢false (sym (name_itself k ks) ∙ same k))
sole (k ∷ []) (h ∷ []) t ours theirs same = ap (λ x. Ok (record { keyspace = x; table = t })) (only_name h k (sym (same k) ∙ name_itself k []))
sole (k ∷ []) (h ∷ l ∷ hs) t ours theirs same = absurd (two-of-one k h l hs theirs.0.0 (λ q is. same q ∙ is))
sole (k ∷ l ∷ ks) (h ∷ []) t ours theirs same = absurd (two-of-one h k l ks ours.0.0 (λ q is. sym (same q) ∙ is))
sole (k ∷ l ∷ ks) (h ∷ i ∷ hs) t ours theirs same = refl

-- ---- together

pub found-led : (p : PlacesState) (routes : List Entry) (key : RuleKey) (type : TabletType) → IsDistinct same_text (holders_of p key.table) → IsDistinct same_text (holders_in routes key.table) → Agrees p routes
    → found_in p key type ≡ led_by routes key type
found-led p routes key type ours theirs agrees =
    ap (λ o. option_map_or Ok (option_or o (rule_at p.rules (for_all_types key))) (unruled_at p key.keyspace key.table)) (rule-agrees p routes (for_type key type) agrees)
    ∙ (ap (λ o. option_map_or Ok (option_or (target_in routes (for_type key type)) o) (unruled_at p key.keyspace key.table)) (rule-agrees p routes (for_all_types key) agrees)
    ∙ ap (option_map_or Ok (target_for routes key type)) (rest key.keyspace key.table ours theirs))
  where
    rest : (keyspace : Option (List ℕ)) (table : List ℕ) → IsDistinct same_text (holders_of p table) → IsDistinct same_text (holders_in routes table) → unruled_at p keyspace table ≡ unruled_in routes keyspace table
    rest (Some keyspace) table ours theirs = refl
    rest None table ours theirs = sole (holders_of p table) (holders_in routes table) table ours theirs (λ k. held-agrees p routes k table agrees)

-- where a name leads by the last publication
leads-last : (o : Option Publication) (key : RuleKey) (type : TabletType) → is_some o ≡ true
    → option_map {U = ℕ × Result RuleTarget TopologyFault} (λ p. (p.front, led_by p.entries key type)) o ≡ Some (front_of o, led_by (entries_of o) key type)
leads-last None key type is = absurd (true≢false (sym is))
leads-last (Some p) key type is = refl

-- what is found in places that show the list is where its last publication leads
pub leads : (list : List Publication) (places : PlacesState) (front : ℕ) (key : RuleKey) (type : TabletType) (answer : Result RuleTarget TopologyFault) → ArePlaces places → Shows list places → front ≡ last_front list
    → answer ≡ found_in places key type → LastLeads list key type front answer
leads list places front key type answer are shows at is =
    rw (at, is) (leads-last (last_or None list) key type shows.any ∙ ap (λ a. Some (last_front list, a)) (sym (found-led places (last_routes list) key type (distinct-at places.tables key.table are.holders) (shows.routes.once key.table) shows.agrees)))

-- ---- routes that are written to no places

pub contains-rule : (routes : List Entry) (key : RuleKey) (target : RuleTarget) → target_in routes key ≡ Some target → Contains routes (entry.Rule key (Some target))
contains-rule [] key target is = absurd (cc (is))
contains-rule (entry.Rule k None ∷ routes) key target is = later (entry.Rule k None) routes (entry.Rule key (Some target)) (contains-rule routes key target is)
contains-rule (entry.Rule k (Some found) ∷ routes) key target is = by (same_key key k) refl is (λ h. contains-rule routes key target h)
  where
    by : (b : Bool) → same_key key k ≡ b → target_in (entry.Rule k (Some found) ∷ routes) key ≡ Some target → (target_in routes key ≡ Some target → Contains routes (entry.Rule key (Some target)))
        → Contains (entry.Rule k (Some found) ∷ routes) (entry.Rule key (Some target))
    by true at is again =
        let key_is : key ≡ k = (same_key_decides key k).0 at in
        let target_is : found ≡ target = cc (rw at at is) in
        first routes (ap (λ x. entry.Rule x (Some found)) (sym key_is) ∙ ap (λ x. entry.Rule key (Some x)) target_is)
    by false at is again = later (entry.Rule k (Some found)) routes (entry.Rule key (Some target)) (again (rw at at is))
contains-rule (entry.Denied k t mark ∷ routes) key target is = later (entry.Denied k t mark) routes (entry.Rule key (Some target)) (contains-rule routes key target is)
contains-rule (entry.Present k t true ∷ routes) key target is = later (entry.Present k t true) routes (entry.Rule key (Some target)) (contains-rule routes key target is)
contains-rule (entry.Present k t false ∷ routes) key target is = later (entry.Present k t false) routes (entry.Rule key (Some target)) (contains-rule routes key target is)

pub contains-table : (routes : List Entry) (keyspace table : List ℕ) → is_listed routes keyspace table ≡ true → Contains routes (entry.Present keyspace table true)
contains-table [] keyspace table is = absurd (true≢false (sym is))
contains-table (entry.Rule k None ∷ routes) keyspace table is = later (entry.Rule k None) routes (entry.Present keyspace table true) (contains-table routes keyspace table is)
contains-table (entry.Rule k (Some found) ∷ routes) keyspace table is = later (entry.Rule k (Some found)) routes (entry.Present keyspace table true) (contains-table routes keyspace table is)
contains-table (entry.Denied k t mark ∷ routes) keyspace table is = later (entry.Denied k t mark) routes (entry.Present keyspace table true) (contains-table routes keyspace table is)
contains-table (entry.Present k t false ∷ routes) keyspace table is = later (entry.Present k t false) routes (entry.Present keyspace table true) (contains-table routes keyspace table is)
contains-table (entry.Present k t true ∷ routes) keyspace table is = by (same_text table t) refl (same_text keyspace k) refl is (λ h. contains-table routes keyspace table h)
  where
    by : (b : Bool) → same_text table t ≡ b → (c : Bool) → same_text keyspace k ≡ c → is_listed (entry.Present k t true ∷ routes) keyspace table ≡ true
        → (is_listed routes keyspace table ≡ true → Contains routes (entry.Present keyspace table true)) → Contains (entry.Present k t true ∷ routes) (entry.Present keyspace table true)
    by true b true c is again =
        let table_is : table ≡ t = (same_text_decides table t).0 b in
        let keyspace_is : keyspace ≡ k = (same_text_decides keyspace k).0 c in
        first routes (ap (λ x. entry.Present x t true) (sym keyspace_is) ∙ ap (λ x. entry.Present keyspace x true) (sym table_is))
    by true b false c is again = later (entry.Present k t true) routes (entry.Present keyspace table true) (again (rw (b, c) at is))
    by false b c d is again = later (entry.Present k t true) routes (entry.Present keyspace table true) (again (rw b at is))

-- no places say of each key what these routes say, or the routes have what they say
pub all-listed : (routes : List Entry) (key : EntryKey) → (said_in no_places key ≡ said_by routes key) ⊎ Contains routes (said_by routes key)
all-listed routes (about.Rule q) = by (target_in routes q) refl
  where
    by : (o : Option RuleTarget) → target_in routes q ≡ o → (said_in no_places (about.Rule q) ≡ said_by routes (about.Rule q)) ⊎ Contains routes (said_by routes (about.Rule q))
    by None at = inl (ap (entry.Rule q) (sym at))
    by (Some target) at = inr (subst (λ o. Contains routes (entry.Rule q o)) (sym at) (contains-rule routes q target at))
all-listed routes (about.Denied k t) = inl refl
all-listed routes (about.Present k t) = by (is_listed routes k t) refl
  where
    by : (b : Bool) → is_listed routes k t ≡ b → (said_in no_places (about.Present k t) ≡ said_by routes (about.Present k t)) ⊎ Contains routes (said_by routes (about.Present k t))
    by true at = inr (subst (λ b. Contains routes (entry.Present k t b)) (sym at) (contains-table routes k t at))
    by false at = inl (ap (entry.Present k t) (sym at))
