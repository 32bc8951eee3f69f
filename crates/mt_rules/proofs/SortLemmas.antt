-- Rules put into an object by the texts of their keys stand in the order of these.
use Rattle.std.proofs.Common.{◌≡◌, ◌≢◌, ◌≤◌, ◌+◌, length, ℕ, Bool, true, false, List, [], ◌∷◌, map, Option, None, Some, option_map, Result, Ok, Err, refl, sym, ap, subst, ◌∙◌, arith}
use Rattle.std.proofs.lemmas.Bool.{true≢false}
use Rattle.std.proofs.lemmas.List.{length-map}
use Rattle.std.proofs.lemmas.Map.Made.{lookup-map_values}
use Rattle.std.specs.List.{AllByRecursion, IsDistinct, flat_map, fold}
use Rattle.std.specs.Map.{keys_of, lookup}
use Rattle.std.specs.Option.{option_or}
use Rattle.std.specs.Prelude.{unwrap_or}
use Rattle.serde_json.specs.Data.{Members, no_members, put, array}
use Rattle.mt_names.specs.declared.keys.RuleKey.{RuleKey}
use Rattle.mt_names.specs.declared.keys.RuleTarget.{RuleTarget}
use Rattle.mt_names.specs.Keys.{key_text, read_key}
use Rattle.mt_names.specs.declared.fault.NameFault.{NameFault}
use Rattle.mt_names.specs.Same.{same_key}
use Rattle.mt_names.proofs.EntryLemmas.{lookup_from_absent}
use Rattle.mt_names.proofs.SameLemmas.{same_key_decides}
use Rattle.mt_model.specs.Topology.{Rules, rule_at}
use Rattle.mt_model.specs.Documents.{entries_of, put_by_text}
use Rattle.mt_rules.specs.Values.{AreInOrder, IsApart, IsNamed, by_text, ruled, members_by, rule_value, rules_value, values_in}
use Rattle.mt_rules.proofs.KeysLemmas.{flipped_key}
use Rattle.mt_rules.proofs.PutLemmas.{all-put, distinct-put, length-put, lookup-none, lookup-put, or_none, put-members, values_in-members_by}

abbrev pub Named : Type 0
Named = List ℕ × (RuleKey × RuleTarget)

-- ---- all rules in turn

-- each pair so far is of a rule, under its key's text, and its key is none of those that are left
pub record IsPlaced (left : Rules) (x : Named) : Type 0 where
  pub text : x.0 ≡ key_text x.1.0
  pub named : IsNamed x.1
  pub apart : AllByRecursion (λ k. same_key x.1.0 k ≡ false) (keys_of left)

-- what these rules say of a key
abbrev pub at : List Named → RuleKey → Option RuleTarget
at xs key = lookup (same_key key) (map (λ x. x.1) xs)

abbrev pub keys_in : List Named → List RuleKey
keys_in xs = map (λ x. x.1.0) xs

-- what the rules that are left complete to the whole
pub record Completes (ms : Members) (left rules : Rules) : Type 0 where
  pub found : List Named
  pub members : ms ≡ members_by rule_value found
  pub placed : AllByRecursion (IsPlaced left) found
  pub apart : IsDistinct same_key (keys_in found)
  pub distinct : IsDistinct same_key (keys_of left)
  pub whole : fold put_by_text found (map (λ r. (key_text r.0, r)) (flat_map entries_of left)) ≡ by_text rules
  pub says : (key : RuleKey) → option_or (at found key) (rule_at left key) ≡ rule_at rules key
  pub few : length found + length left ≤ length rules

pub Completes-none : (rules : Rules) → IsDistinct same_key (keys_of rules) → Completes no_members rules rules
unfolding IsDistinct
Completes-none rules distinct = record { found = []; members = refl; placed = tt; apart = tt; distinct = distinct; whole = refl; says = λ key. refl; few = omega arith }

keys-ruled : (xs : List Named) → keys_of (ruled (map (λ x. x.1) xs)) ≡ keys_in xs
keys-ruled [] = refl
keys-ruled (x ∷ xs) = ap (λ l. x.1.0 ∷ l) (keys-ruled xs)

rule_at-ruled : (xs : List Named) (key : RuleKey) → rule_at (ruled (map (λ x. x.1) xs)) key ≡ at xs key
rule_at-ruled xs key = ap (λ o. unwrap_or o None) (lookup-map_values Some (same_key key) (map (λ x. x.1) xs)) ∙ by (at xs key)
  where
    by : (o : Option RuleTarget) → unwrap_or (option_map Some o) None ≡ o
    by None = refl
    by (Some target) = refl

pub Completes-all : (ms : Members) (rules : Rules) → Completes ms [] rules → AreInOrder ms rules
Completes-all ms rules c = record {
  members = c.members ∙ ap (members_by rule_value) c.whole;
  sorted = record {
    named = subst (λ xs. AllByRecursion IsNamed (map (λ x. x.1) xs)) c.whole (each c.found c.placed);
    distinct = subst (λ xs. IsDistinct same_key (keys_of (ruled (map (λ x. x.1) xs)))) c.whole (subst (IsDistinct same_key) (sym (keys-ruled c.found)) c.apart);
    says = λ key. subst (λ xs. rule_at (ruled (map (λ x. x.1) xs)) key ≡ rule_at rules key) c.whole (rule_at-ruled c.found key ∙ sym (or_none (at c.found key)) ∙ c.says key);
    few = subst (λ xs. length (map (λ x. x.1) xs) ≤ length rules) c.whole (let few = c.few in let same : length (map (λ x. x.1) c.found) ≡ length c.found = length-map c.found (λ x. x.1) in omega (arith, few, same));
  };
}
  where
    each : (xs : List Named) → AllByRecursion (IsPlaced []) xs → AllByRecursion IsNamed (map (λ x. x.1) xs)
    each [] p = tt
    each (x ∷ xs) p = (p.0.named, each xs p.1)

-- with fewer that are left
fewer : (k : RuleKey × Option RuleTarget) (left : Rules) (xs : List Named) → AllByRecursion (IsPlaced (k ∷ left)) xs → AllByRecursion (IsPlaced left) xs
fewer k left [] p = tt
fewer k left (x ∷ xs) p = (record { text = p.0.text; named = p.0.named; apart = p.0.apart.1 }, fewer k left xs p.1)

key_or : RuleKey → Result RuleKey NameFault → RuleKey
key_or other (Ok key) = key
key_or other (Err fault) = other

-- a key that is left has another text than those so far
other_text : (key : RuleKey) (rule : Option RuleTarget) (left : Rules) (xs : List Named) → read_key (key_text key) ≡ Ok key → AllByRecursion (IsPlaced ((key, rule) ∷ left)) xs → IsApart (key_text key) xs
unfolding key_or
other_text key rule left [] back p = tt
other_text key rule left (x ∷ xs) back p =
    let other : key_text key ≢ x.0 = λ e.
    let same : Ok x.1.0 ≡ Ok key = sym p.0.named.key_back ∙ ap read_key (sym p.0.text ∙ sym e) ∙ back in
    true≢false (sym ((same_key_decides x.1.0 key).1 (ap (key_or key) same)) ∙ p.0.apart.0) in
    (other, other_text key rule left xs back p.1)

-- a rule put among others, none of which has its key
same_or : (key k : RuleKey) → same_key key k ≡ true → key ≡ k
same_or key k e = (same_key_decides key k).0 e

abbrev pub HasOtherKeys : RuleKey → List Named → Type 0
HasOtherKeys k xs = AllByRecursion (λ l. same_key k l ≡ false) (keys_in xs)

other_keys : (k : RuleKey × Option RuleTarget) (left : Rules) (xs : List Named) → AllByRecursion (IsPlaced (k ∷ left)) xs → HasOtherKeys k.0 xs
other_keys k left [] p = tt
other_keys k left (x ∷ xs) p = (flipped_key k.0 x.1.0 ∙ p.0.apart.0, other_keys k left xs p.1)

-- a key that none has
none_at : (k : RuleKey) (left : Rules) → AllByRecursion (λ l. same_key k l ≡ false) (keys_of left) → rule_at left k ≡ None
none_at k left other = ap (λ o. unwrap_or o None) (lookup_from_absent same_key same_key_decides left k other)

-- a place without a rule
says-skip : (found : Option RuleTarget) (k : RuleKey) (left : Rules) (key : RuleKey) → AllByRecursion (λ l. same_key k l ≡ false) (keys_of left)
    → option_or found (rule_at left key) ≡ option_or found (rule_at ((k, None) ∷ left) key)
says-skip found k left key other = ap (option_or found) (by (same_key key k) refl)
  where
    by : (t : Bool) → same_key key k ≡ t → rule_at left key ≡ rule_at ((k, None) ∷ left) key
    by true t = ap (rule_at left) (same_or key k t) ∙ none_at k left other ∙ rw t refl
    by false t = rw t refl

pub Completes-skip : (ms : Members) (key : RuleKey) (left rules : Rules) → Completes ms ((key, None) ∷ left) rules → Completes ms left rules
unfolding IsDistinct
Completes-skip ms key left rules c = record {
  found = c.found;
  members = c.members;
  placed = fewer (key, None) left c.found c.placed;
  apart = c.apart;
  distinct = c.distinct.1;
  whole = c.whole;
  says = λ k. says-skip (at c.found k) key left k c.distinct.0 ∙ c.says k;
  few = let few = c.few in omega (arith, few);
}

-- a place with a rule
says-put : (x : Named) (found : List Named) (left : Rules) (key : RuleKey) → HasOtherKeys x.1.0 found
    → option_or (at (put_by_text found x) key) (rule_at left key) ≡ option_or (at found key) (rule_at ((x.1.0, Some x.1.1) ∷ left) key)
says-put x found left key other = by (same_key key x.1.0) refl
  where
    by : (t : Bool) → same_key key x.1.0 ≡ t → option_or (at (put_by_text found x) key) (rule_at left key) ≡ option_or (at found key) (rule_at ((x.1.0, Some x.1.1) ∷ left) key)
    by true t =
        let none : at found key ≡ None = ap (at found) (same_or key x.1.0 t) ∙ lookup-none same_key x.1.0 found other in
        rw (lookup-put same_key same_key_decides key found x other, none, t) refl
    by false t = rw (lookup-put same_key same_key_decides key found x other, t) refl

pub Completes-put : (ms : Members) (key : RuleKey) (target : RuleTarget) (left rules : Rules) → IsNamed (key, target)
    → Completes ms ((key, Some target) ∷ left) rules → Completes (put (key_text key) (rule_value (key, target)) ms) left rules
unfolding IsDistinct
Completes-put ms key target left rules named c =
    let x : Named = (key_text key, (key, target)) in
    let other = other_keys (key, Some target) left c.found c.placed in
    record {
      found = put_by_text c.found x;
      members = ap (put (key_text key) (rule_value (key, target))) c.members
          ∙ put-members rule_value (key_text key) (key, target) c.found (other_text key (Some target) left c.found named.key_back c.placed);
      placed = all-put (IsPlaced left) c.found x (record { text = refl; named = named; apart = c.distinct.0 }) (fewer (key, Some target) left c.found c.placed);
      apart = distinct-put same_key flipped_key (λ (r : RuleKey × RuleTarget). r.0) c.found x other c.apart;
      distinct = c.distinct.1;
      whole = c.whole;
      says = λ k. says-put x c.found left k other ∙ c.says k;
      few = let few = c.few in let more = length-put c.found x in omega (arith, few, more);
    }

pub values_in-sorted : (ms : Members) (rules : Rules) → AreInOrder ms rules → array (values_in ms) ≡ rules_value rules
values_in-sorted ms rules is = ap (λ m. array (values_in m)) is.members ∙ ap array (values_in-members_by rule_value (by_text rules))
