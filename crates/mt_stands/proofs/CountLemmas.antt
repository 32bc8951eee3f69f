-- How many rule places a topology has.
use Rattle.std.proofs.Common.{◌≡◌, ◌≢◌, ℕ, ◌<◌, ◌+◌, Bool, true, false, not, cond, ◌&&◌, ◌||◌, List, [], ◌∷◌, ◌++◌, All, AllPairs, filter, find, flat_map, fold, length, map, Some, is_some, refl, sym, ap, subst, ◌∙◌, arith, zero, suc, length-append}
use Rattle.std.proofs.Math.Bool.{and-false}
use Rattle.std.proofs.lemmas.Bool.{true≢false, and_parts, or_left, or_right}
use Rattle.std.proofs.lemmas.List.{get_or-map, length-map}
use Rattle.std.proofs.lemmas.List.Folds.{list_any-append}
use Rattle.std.proofs.lemmas.List.Kept.{AllPairs-filter}
use Rattle.std.proofs.lemmas.List.Sums.{length-filter}
use Rattle.std.proofs.lemmas.Map.Made.{AllPairs-from_IsDistinct, IsDistinct-from_AllPairs, is_some-lookup, length-from_same_keys}
use Rattle.std.specs.Prelude.{⊤}
use Rattle.std.proofs.lemmas.List.Elements.{All-head, All-tail}
use Rattle.std.specs.Cmp.{IsEquivalence}
use Rattle.std.specs.List.{AllByRecursion, IsDistinct, list_any}
use Rattle.std.specs.Map.{keys_of, lookup}
use Rattle.mt_names.specs.declared.keys.RuleKey.{RuleKey}
use Rattle.mt_names.specs.Names.{same_text}
use Rattle.mt_names.specs.Same.{DecidesEquality, same_key}
use Rattle.mt_names.proofs.EntryLemmas.{same_itself, same_turned}
use Rattle.mt_names.proofs.SameLemmas.{same_key_decides, same_text_decides}
use Rattle.mt_model.specs.declared.entries.EntryKey.{EntryKey}
use Rattle.mt_model.specs.declared.entries.EntryKey.TheVariants as about
use Rattle.mt_model.specs.Part.{part_keys}
use Rattle.mt_model.specs.Topology.{HasDistinctPlaces, Rules, TopologyState}
use Rattle.mt_model.proofs.PartLemmas.{part_distinct}
use Rattle.mt_plain.specs.Plain.{Live, Plain, has_part, live_at, part_owner, rule_keys, twelve_keys}
use Rattle.mt_plain.specs.Refuse.{keys_without_rule, rule_count}
use Rattle.mt_laws.specs.Reached.{IsInPlace}
use Rattle.mt_stands.specs.Topologies.{TopologyStands}
use Rattle.mt_stands.proofs.KeyLemmas.{listed_rules}

-- ---- the rule keys of a part are distinct

abbrev is_rule : EntryKey → Bool
is_rule (about.Rule key) = true
is_rule (about.Denied keyspace table) = false
is_rule (about.Present keyspace table) = false

rules_of_part : (source target : List ℕ) (tables : List (List ℕ)) → filter is_rule (part_keys source target tables) ≡ map about.Rule (flat_map (twelve_keys source target) tables)
rules_of_part source target [] = refl
rules_of_part source target (t ∷ ts) = ap (λ l. map about.Rule (twelve_keys source target t) ++ l) (rules_of_part source target ts)

unmapped : (keys : List RuleKey) → AllPairs (λ a b. a ≢ b) (map about.Rule keys) → AllPairs (λ a b. a ≢ b) keys
unmapped keys pairs i j d below inside same =
    pairs i j (about.Rule d) below (subst (λ n. j < n) (sym (length-map keys about.Rule)) inside)
    (get_or-map about.Rule keys i d (about.Rule d) (omega arith) ∙ ap about.Rule same ∙ sym (get_or-map about.Rule keys j d (about.Rule d) inside))

rule_keys_distinct : (w : Live) → w.source ≢ w.target → IsDistinct same_text w.tables → AllPairs (λ a b. a ≢ b) (rule_keys w)
rule_keys_distinct w sides distinct =
    unmapped (rule_keys w) (subst (AllPairs (λ a b. a ≢ b)) (rules_of_part w.source w.target w.tables)
    (AllPairs-filter (λ a b. a ≢ b) is_rule (part_keys w.source w.target w.tables) (part_distinct w.source w.target w.tables sides (AllPairs-from_IsDistinct same_text_decides w.tables distinct))))

-- ---- lists of keys

module _ {K : Type 0} (same : K → K → Bool) (decides : DecidesEquality same) where
  absent : (x : K) (ys : List K) → (list_any (same x) ys ≡ true → ⊥) → AllByRecursion (λ y. same x y ≡ false) ys
  absent x [] none = tt
  absent x (y ∷ ys) none = by (absent x ys) (same x y) refl
    where
      by : ((list_any (same x) ys ≡ true → ⊥) → AllByRecursion (λ z. same x z ≡ false) ys) → (b : Bool) → same x y ≡ b → AllByRecursion (λ z. same x z ≡ false) (y ∷ ys)
      by again true b = absurd (none (or_left (same x y) (list_any (same x) ys) b))
      by again false b = (b, again (λ e. none (or_right (same x y) (list_any (same x) ys) e)))

  all_append : (P : K → Type 0) (xs ys : List K) → AllByRecursion P xs → AllByRecursion P ys → AllByRecursion P (xs ++ ys)
  all_append P [] ys one two = two
  all_append P (x ∷ xs) ys one two = (one.0, all_append P xs ys one.1 two)

  pub distinct_append : (xs ys : List K) → IsDistinct same xs → IsDistinct same ys → ((k : K) → list_any (same k) xs ≡ true → list_any (same k) ys ≡ true → ⊥) → IsDistinct same (xs ++ ys)
  unfolding IsDistinct
  distinct_append [] ys one two apart = two
  distinct_append (x ∷ xs) ys one two apart = (
    all_append (λ y. same x y ≡ false) xs ys one.0 (absent x ys (apart x (or_left (same x x) (list_any (same x) xs) (same_itself same decides x)))),
    distinct_append xs ys one.1 two (λ k in_xs in_ys. apart k (or_right (same k x) (list_any (same k) xs) in_xs) in_ys),
  )

  pub any_turned : (keys : List K) (key : K) → list_any (same key) keys ≡ list_any (λ k. same k key) keys
  any_turned [] key = refl
  any_turned (k ∷ ks) key = ap (λ b. b || list_any (same key) ks) (same_turned same decides key k) ∙ ap (λ b. same k key || b) (any_turned ks key)

  any_some : (test : K → Bool) (keys : List K) (key : K) → list_any (same key) (filter test keys) ≡ (list_any (same key) keys && test key)
  any_some test [] key = refl
  any_some test (k ∷ ks) key = by (any_some test ks key) (same key k) (test k) refl refl
    where
      whole : (a : Bool) → same key k ≡ a → (list_any (same key) (k ∷ ks) && test key) ≡ ((a || list_any (same key) ks) && test key)
      whole a is = ap (λ x. (x || list_any (same key) ks) && test key) is

      by : list_any (same key) (filter test ks) ≡ (list_any (same key) ks && test key) → (a b : Bool) → same key k ≡ a → test k ≡ b
          → list_any (same key) (cond (test k) (k ∷ filter test ks) (filter test ks)) ≡ (list_any (same key) (k ∷ ks) && test key)
      by again true b a t =
          let is : test key ≡ b = ap test ((decides key k).0 a) ∙ t in
          ap (λ x. list_any (same key) (cond x (k ∷ filter test ks) (filter test ks))) t ∙ here b is ∙ sym (whole true a ∙ is)
        where
          here : (b : Bool) → test key ≡ b → list_any (same key) (cond b (k ∷ filter test ks) (filter test ks)) ≡ b
          here true is = or_left (same key k) (list_any (same key) (filter test ks)) a
          here false is = again ∙ ap (λ x. list_any (same key) ks && x) is ∙ and-false (list_any (same key) ks)
      by again false true a t =
          ap (λ x. list_any (same key) (cond x (k ∷ filter test ks) (filter test ks))) t ∙ ap (λ x. x || list_any (same key) (filter test ks)) a ∙ again ∙ sym (whole false a)
      by again false false a t =
          ap (λ x. list_any (same key) (cond x (k ∷ filter test ks) (filter test ks))) t ∙ again ∙ sym (whole false a)

pub equivalence : {K : Type 0} (same : K → K → Bool) → DecidesEquality same → IsEquivalence same
equivalence same decides = record {
  refl = same_itself same decides;
  symm = same_turned same decides;
  congr = λ x y z e. ap (λ k. same k z) ((decides x y).0 e);
}

-- ---- the rules of a topology that stands

abbrev pub PartsApart : List Live → Type 0
PartsApart [] = ⊤
PartsApart (w ∷ ws) = AllByRecursion (λ v. (key : EntryKey) → has_part w key ≡ true → has_part v key ≡ true → ⊥) ws × PartsApart ws

module _ (rules : Rules) where
  abbrev lacks : RuleKey → Bool
  lacks key = not (is_some (lookup (same_key key) rules))

  abbrev new_keys : Live → List RuleKey
  new_keys w = filter lacks (rule_keys w)

  new_in : (w : Live) (key : RuleKey) → list_any (same_key key) (new_keys w) ≡ (has_part w (about.Rule key) && lacks key)
  new_in w key =
      any_some same_key same_key_decides lacks (rule_keys w) key
      ∙ ap (λ b. b && lacks key) (any_turned same_key same_key_decides (rule_keys w) key ∙ listed_rules w key)

  abbrev owner_in : List Live → RuleKey → Bool
  owner_in ws key = is_some (find (λ w. has_part w (about.Rule key)) ws)

  all_new : (ws : List Live) (key : RuleKey) → list_any (same_key key) (flat_map new_keys ws) ≡ (owner_in ws key && lacks key)
  all_new [] key = refl
  all_new (w ∷ ws) key =
      list_any-append (same_key key) (new_keys w) (flat_map new_keys ws) ∙ ap (λ b. b || list_any (same_key key) (flat_map new_keys ws)) (new_in w key)
      ∙ ap (λ b. (has_part w (about.Rule key) && lacks key) || b) (all_new ws key) ∙ by (has_part w (about.Rule key)) (lacks key)
    where
      by : (h l : Bool) → ((h && l) || (owner_in ws key && l)) ≡ (is_some (cond h (Some w) (find (λ v. has_part v (about.Rule key)) ws)) && l)
      by true true = refl
      by true false = and-false (owner_in ws key)
      by false l = refl

  no_other : (w : Live) (ws : List Live) (key : RuleKey) → AllByRecursion (λ v. (k : EntryKey) → has_part w k ≡ true → has_part v k ≡ true → ⊥) ws → has_part w (about.Rule key) ≡ true → owner_in ws key ≡ true → ⊥
  no_other w [] key apart has is = true≢false (sym is)
  no_other w (v ∷ vs) key apart has is = by (no_other w vs key apart.1 has) (has_part v (about.Rule key)) refl
    where
      by : (owner_in vs key ≡ true → ⊥) → (b : Bool) → has_part v (about.Rule key) ≡ b → ⊥
      by again true b = apart.0 (about.Rule key) has b
      by again false b = again (sym (ap (λ x. is_some (cond x (Some v) (find (λ y. has_part y (about.Rule key)) vs))) b) ∙ is)

  new_distinct : (ws : List Live) → AllByRecursion (λ w. (w.source ≢ w.target) × IsDistinct same_text w.tables) ws → PartsApart ws → IsDistinct same_key (flat_map new_keys ws)
  unfolding IsDistinct
  new_distinct [] each apart = tt
  new_distinct (w ∷ ws) each apart =
      distinct_append same_key same_key_decides (new_keys w) (flat_map new_keys ws)
      (IsDistinct-from_AllPairs same_key_decides (new_keys w) (AllPairs-filter (λ a b. a ≢ b) lacks (rule_keys w) (rule_keys_distinct w each.0.0 each.0.1)))
      (new_distinct ws each.1 apart.1)
      (λ key one two.
      no_other w ws key apart.0 (and_parts (has_part w (about.Rule key)) (lacks key) (sym (new_in w key) ∙ one)).0
      (and_parts (owner_in ws key) (lacks key) (sym (all_new ws key) ∙ two)).0)

  counted : (n : ℕ) (ws : List Live) → fold (λ n w. n + keys_without_rule rules (rule_keys w)) n ws ≡ n + length (flat_map new_keys ws)
  counted n [] = omega arith
  counted n (w ∷ ws) =
      let one : length (new_keys w) ≡ keys_without_rule rules (rule_keys w) = length-filter lacks (rule_keys w) in
      let rest = counted (n + keys_without_rule rules (rule_keys w)) ws in
      let both : length (new_keys w ++ flat_map new_keys ws) ≡ length (new_keys w) + length (flat_map new_keys ws) = length-append (new_keys w) (flat_map new_keys ws) in
      rest ∙ omega (arith, one, both)

pub rules_counted : (p : Plain) (t : TopologyState) → HasDistinctPlaces p.topology → AllByRecursion (λ w. (w.source ≢ w.target) × IsDistinct same_text w.tables) p.lives → PartsApart p.lives
    → TopologyStands p t → length t.rules ≡ rule_count p
rules_counted p t distinct each apart stands =
    let rules = p.topology.rules in
    let sum : length (keys_of rules ++ flat_map (new_keys rules) p.lives) ≡ length (keys_of rules) + length (flat_map (new_keys rules) p.lives) = length-append (keys_of rules) (flat_map (new_keys rules) p.lives) in
    let as_many : length (keys_of rules) ≡ length rules = length-map rules (λ e. e.0) in
    sym (length-map t.rules (λ e. e.0))
    ∙ length-from_same_keys (equivalence same_key same_key_decides) (keys_of t.rules) (keys_of rules ++ flat_map (new_keys rules) p.lives) stands.served.places.rules
    (distinct_append same_key same_key_decides (keys_of rules) (flat_map (new_keys rules) p.lives) distinct.rules (new_distinct rules p.lives each apart) disjoint)
    members
    ∙ sum ∙ ap (λ n. n + length (flat_map (new_keys rules) p.lives)) as_many
    ∙ sym (counted rules (length rules) p.lives)
  where
    disjoint : (key : RuleKey) → list_any (same_key key) (keys_of p.topology.rules) ≡ true → list_any (same_key key) (flat_map (new_keys p.topology.rules) p.lives) ≡ true → ⊥
    disjoint key one two =
        let there : is_some (lookup (same_key key) p.topology.rules) ≡ true = is_some-lookup (same_key key) p.topology.rules ∙ one in
        let no : not (is_some (lookup (same_key key) p.topology.rules)) ≡ true = (and_parts (owner_in p.topology.rules p.lives key) (lacks p.topology.rules key) (sym (all_new p.topology.rules p.lives key) ∙ two)).1 in
        true≢false (sym no ∙ ap not there)

    by : (o r : Bool) → (o || r) ≡ (r || (o && not r))
    by true true = refl
    by true false = refl
    by false true = refl
    by false false = refl

    members : (key : RuleKey) → list_any (same_key key) (keys_of t.rules) ≡ list_any (same_key key) (keys_of p.topology.rules ++ flat_map (new_keys p.topology.rules) p.lives)
    members key =
        sym (is_some-lookup (same_key key) t.rules) ∙ stands.places (about.Rule key)
        ∙ by (is_some (part_owner p (about.Rule key))) (is_some (lookup (same_key key) p.topology.rules))
        ∙ sym (list_any-append (same_key key) (keys_of p.topology.rules) (flat_map (new_keys p.topology.rules) p.lives)
        ∙ ap (λ b. b || list_any (same_key key) (flat_map (new_keys p.topology.rules) p.lives)) (sym (is_some-lookup (same_key key) p.topology.rules))
        ∙ ap (λ b. is_some (lookup (same_key key) p.topology.rules) || b) (all_new p.topology.rules p.lives key))

pub keyspaces_counted : (p : Plain) (t : TopologyState) → HasDistinctPlaces p.topology → TopologyStands p t → length t.keyspaces ≡ length p.topology.keyspaces
keyspaces_counted p t distinct stands =
    sym (length-map t.keyspaces (λ e. e.0))
    ∙ length-from_same_keys (equivalence same_text same_text_decides) (keys_of t.keyspaces) (keys_of p.topology.keyspaces) stands.served.places.keyspaces distinct.keyspaces
    (λ name. sym (is_some-lookup (same_text name) t.keyspaces) ∙ stands.served.keyspaces name ∙ is_some-lookup (same_text name) p.topology.keyspaces)
    ∙ length-map p.topology.keyspaces (λ e. e.0)

-- ---- from the laws

abbrev pub Meet : Live → Live → Type 0
Meet v w = (key : EntryKey) → has_part v key ≡ true → has_part w key ≡ true → ⊥

pub by_recursion : {A : Type 0} (P : A → Type 0) (xs : List A) → All P xs → AllByRecursion P xs
by_recursion P [] all = tt
by_recursion P (x ∷ xs) all = (All-head P x xs all, by_recursion P xs (All-tail P x xs all))

pub apart_from_pairs : (ws : List Live) → AllPairs Meet ws → PartsApart ws
apart_from_pairs [] pairs = tt
apart_from_pairs (w ∷ ws) pairs = (
  by_recursion (Meet w) ws (λ i d inside. pairs zero (suc i) d (omega arith) (omega arith)),
  apart_from_pairs ws (λ i j d below inside. pairs (suc i) (suc j) d (omega arith) (omega arith)),
)

pub each_placed : (p : Plain) → ((name : List ℕ) (w : Live) → live_at p name ≡ Some w → IsInPlace p.topology w) → (ws : List Live) → All (λ w. live_at p w.name ≡ Some w) ws
    → AllByRecursion (λ w. (w.source ≢ w.target) × IsDistinct same_text w.tables) ws
each_placed p placed [] all = tt
each_placed p placed (w ∷ ws) all =
    let live : live_at p w.name ≡ Some w = All-head (λ v. live_at p v.name ≡ Some v) w ws all in
    let place = placed w.name w live in
    ((place.sides.apart, place.tables), each_placed p placed ws (All-tail (λ v. live_at p v.name ≡ Some v) w ws all))
