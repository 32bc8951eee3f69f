-- What is written is read back.
use Rattle.std.proofs.Common.{◌≡◌, ◌≤◌, ◌+◌, ℕ, suc, max, Bool, true, false, cond, if◌then◌else◌, List, [], ◌∷◌, length, map, fold, Option, None, Some, is_some, unwrap_or, option_and_then, Ok, Err, IsUtf8, refl, sym, ap, ap₂, subst, ◌∙◌, arith}
use Rattle.std.proofs.lemmas.Bool.{ne_eqb, true≢false}
use Rattle.std.proofs.Math.Nat.{max-le}
use Rattle.std.specs.List.{AllByRecursion, IsDistinct}
use Rattle.std.specs.Map.{keys_of, lookup}
use Rattle.std.specs.Option.{option_map_or, option_or}
use Rattle.serde_json.specs.Data.{Data, depth, items_depth}
use Rattle.serde_json.specs.Read.{max_depth, read}
use Rattle.serde_json.specs.View.{items_of}
use Rattle.serde_json.specs.Written.{items_have_float}
use Rattle.mt_names.specs.declared.keys.RuleKey.{RuleKey}
use Rattle.mt_names.specs.declared.keys.RuleTarget.{RuleTarget}
use Rattle.mt_names.specs.Keys.{target_text, read_target}
use Rattle.mt_names.specs.Results.{◌>>=◌}
use Rattle.mt_names.specs.Same.{same_key}
use Rattle.mt_names.proofs.EntryLemmas.{lookup_from_absent}
use Rattle.mt_names.proofs.SameLemmas.{same_key_decides}
use Rattle.mt_model.specs.Limits.{most_rules}
use Rattle.mt_model.specs.Order.{key_before}
use Rattle.mt_model.specs.Topology.{Rules, put_rule, rule_at}
use Rattle.mt_model.proofs.OrderLemmas.{length-put_by, lookup-put_by_elsewhere, lookup-put_by_here}
use Rattle.mt_rules.specs.declared.fault.RulesFault.TheVariants.{NotJson}
use Rattle.mt_rules.specs.Read.{rule_of, or_bad_name, rules_of_value, with_one_more, with_rules}
use Rattle.mt_rules.specs.Values.{IsNamed, IsWellSorted, Says, document_value, rule_value, ruled, rules_value}
use Rattle.mt_model.specs.Documents.{sorted_rules}
use Rattle.mt_rules.specs.Member.{rules_in, rules_of, unless_fault, with_new_rule}
use Rattle.mt_rules.proofs.KeysLemmas.{none_yet, still_none}
use Rattle.mt_rules.proofs.ReadLemmas.{value_of_text-some}
use Rattle.mt_rules.proofs.RulesLemmas.{with_one_more-new}

-- ---- the value has no float and is not deep

pub no_float_rules : (rs : List (RuleKey × RuleTarget)) → items_have_float (items_of (map rule_value rs)) ≡ false
no_float_rules [] = refl
no_float_rules (r ∷ rs) = no_float_rules rs

pub not_deep : (rs : List (RuleKey × RuleTarget)) → items_depth (items_of (map rule_value rs)) ≤ 2
not_deep [] = omega arith
not_deep (r ∷ rs) = max-le {a = depth (rule_value r)} (omega arith) (not_deep rs)

not_deep_document : (rules : Rules) → depth (document_value rules) ≤ max_depth
not_deep_document rules =
    let few = not_deep (sorted_rules rules) in
    let inside : max (depth (rules_value rules)) 0 ≤ 3 = max-le {a = depth (rules_value rules)} {b = 0} {k = 3} (omega (arith, few)) (omega arith) in omega (arith, inside)

-- ---- each rule is read back

rule_of-rule : (r : RuleKey × RuleTarget) → IsNamed r → rule_of (rule_value r) ≡ Ok r
rule_of-rule r named = ap (λ key. or_bad_name key >>= λ k. or_bad_name (read_target (target_text r.1)) >>= λ t. Ok (k, t)) named.key_back ∙ ap (λ target. or_bad_name target >>= λ t. Ok (r.0, t)) named.target_back

-- rules put one after another
abbrev pub put_all : Rules → Rules → Rules
put_all acc rules = fold put_rule acc rules

with_rules-back : (acc : Rules) (rs : List (RuleKey × RuleTarget)) → AllByRecursion IsNamed rs → AllByRecursion (λ k. lookup (same_key k) acc ≡ None) (keys_of (ruled rs))
    → IsDistinct same_key (keys_of (ruled rs)) → length acc + length rs ≤ most_rules → with_rules acc (items_of (map rule_value rs)) ≡ Ok (put_all acc (ruled rs))
unfolding IsDistinct
with_rules-back acc [] named lacks distinct room = refl
with_rules-back acc (r ∷ rs) named lacks distinct room =
    let rest = items_of (map rule_value rs) in
    let more : length (put_rule acc (r.0, Some r.1)) ≡ suc (length acc) = length-put_by key_before acc (r.0, Some r.1) in
    ap (λ a. (a >>= with_one_more acc) >>= λ rules. with_rules rules rest) (rule_of-rule r named.0)
    ∙ ap (λ a. a >>= λ rules. with_rules rules rest) (sym (with_one_more-new acc r (put_rule acc (r.0, Some r.1)) (ap is_some lacks.0) (ne_eqb (length acc) most_rules (λ e. omega (arith, e, room))) refl))
    ∙ with_rules-back (put_rule acc (r.0, Some r.1)) rs named.1 (still_none key_before same_key same_key_decides acc r.0 (Some r.1) (keys_of (ruled rs)) lacks.1 distinct.0) distinct.1 (omega (arith, room, more))

-- what is found then
found_put : (k : RuleKey) (acc rules : Rules) → AllByRecursion (λ j. lookup (same_key j) acc ≡ None) (keys_of rules) → IsDistinct same_key (keys_of rules)
    → lookup (same_key k) (put_all acc rules) ≡ option_or (lookup (same_key k) rules) (lookup (same_key k) acc)
unfolding IsDistinct
found_put k acc [] lacks distinct = refl
found_put k acc (r ∷ rules) lacks distinct =
    found_put k (put_rule acc r) rules (still_none key_before same_key same_key_decides acc r.0 r.1 (keys_of rules) lacks.1 distinct.0) distinct.1 ∙ by (same_key k r.0) refl
  where
    by : (t : Bool) → same_key k r.0 ≡ t → option_or (lookup (same_key k) rules) (lookup (same_key k) (put_rule acc r)) ≡ option_or (cond (same_key k r.0) (Some r.1) (lookup (same_key k) rules)) (lookup (same_key k) acc)
    by true t =
        let is : k ≡ r.0 = (same_key_decides k r.0).0 t in
        let none : lookup (same_key k) rules ≡ None = subst (λ j. lookup (same_key j) rules ≡ None) (sym is) (lookup_from_absent same_key same_key_decides rules r.0 distinct.0) in
        let here : lookup (same_key k) (put_rule acc r) ≡ Some r.1 = subst (λ j. lookup (same_key j) (put_rule acc r) ≡ Some r.1) (sym is) (lookup-put_by_here key_before same_key same_key_decides acc r.0 r.1 lacks.0) in
        ap₂ option_or none here ∙ sym (ap (λ b. option_or (cond b (Some r.1) (lookup (same_key k) rules)) (lookup (same_key k) acc)) t)
    by false t =
        ap (option_or (lookup (same_key k) rules)) (lookup-put_by_elsewhere key_before same_key same_key_decides acc r.0 k r.1 (λ e. true≢false (sym ((same_key_decides k r.0).1 (sym e)) ∙ t)))
        ∙ sym (ap (λ b. option_or (cond b (Some r.1) (lookup (same_key k) rules)) (lookup (same_key k) acc)) t)

rule_at-put_all : (key : RuleKey) (rules : Rules) → IsDistinct same_key (keys_of rules) → rule_at (put_all [] rules) key ≡ rule_at rules key
rule_at-put_all key rules distinct = ap (λ o. unwrap_or o None) (found_put key [] rules (none_yet (Option RuleTarget) same_key (keys_of rules)) distinct ∙ or_nothing (lookup (same_key key) rules))
  where
    or_nothing : (o : Option (Option RuleTarget)) → option_or o None ≡ o
    or_nothing None = refl
    or_nothing (Some rule) = refl

-- the same of the rules as a member of a larger document
rules_of-back : (acc : Rules) (rs : List (RuleKey × RuleTarget)) → AllByRecursion IsNamed rs → AllByRecursion (λ k. lookup (same_key k) acc ≡ None) (keys_of (ruled rs)) → IsDistinct same_key (keys_of (ruled rs))
    → rules_of acc (items_of (map rule_value rs)) ≡ Some (put_all acc (ruled rs))
unfolding IsDistinct
rules_of-back acc [] named lacks distinct = refl
rules_of-back acc (r ∷ rs) named lacks distinct =
    let rest = items_of (map rule_value rs) in
    ap (λ a. option_and_then (λ more. rules_of more rest) (option_and_then (with_new_rule acc) (unless_fault a))) (rule_of-rule r named.0)
    ∙ ap (λ o. option_and_then (λ more. rules_of more rest) (if is_some o then None else Some (put_rule acc (r.0, Some r.1)))) lacks.0
    ∙ rules_of-back (put_rule acc (r.0, Some r.1)) rs named.1 (still_none key_before same_key same_key_decides acc r.0 (Some r.1) (keys_of (ruled rs)) lacks.1 distinct.0) distinct.1

-- the rules of a member that says them: they are found as they were
pub rules_read_back : (rules : Rules) → IsWellSorted rules → rules_in (Some (rules_value rules)) ≡ Some (put_all [] (ruled (sorted_rules rules)))
rules_read_back rules sorted = rules_of-back [] (sorted_rules rules) sorted.named (none_yet (Option RuleTarget) same_key (keys_of (ruled (sorted_rules rules)))) sorted.distinct

pub rule_at-read_back : (rules : Rules) → IsWellSorted rules → (key : RuleKey) → rule_at (put_all [] (ruled (sorted_rules rules))) key ≡ rule_at rules key
rule_at-read_back rules sorted key = rule_at-put_all key (ruled (sorted_rules rules)) sorted.distinct ∙ sorted.says key

pub document_says : (rules : Rules) (d : Data) (text : List ℕ) → d ≡ document_value rules → IsWellSorted rules → length rules ≤ most_rules → IsUtf8 text
    → (depth d ≤ max_depth → read text ≡ Some d) → Says text rules
document_says rules d text is sorted few valid back =
    let few_sorted = sorted.few in
    let shallow : depth d ≤ max_depth = let deep = ap depth is in let bound = not_deep_document rules in omega (arith, deep, bound) in (
      put_all [] (ruled (sorted_rules rules)),
      ap (λ v. option_map_or rules_of_value v (Err NotJson)) (value_of_text-some text d valid (back shallow))
          ∙ ap rules_of_value is
          ∙ with_rules-back [] (sorted_rules rules) sorted.named (none_yet (Option RuleTarget) same_key (keys_of (ruled (sorted_rules rules)))) sorted.distinct (omega (arith, few, few_sorted)),
      rule_at-read_back rules sorted,
    )
