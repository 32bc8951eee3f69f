-- A place more, at a key that has none, and one less; how many there are.
use Rattle.std.proofs.Common.{◌≡◌, ◌≤◌, ◌==◌, Bool, arith, true, false, length, List, Ok, [], ◌∷◌, fold, Option, None, Some, refl, sym, ap}
use Rattle.std.specs.Option.{option_map_or}
use Rattle.std.specs.Map.{lookup, remove_entry}
use Rattle.mt_names.specs.declared.keys.RuleKey.{RuleKey}
use Rattle.mt_names.specs.declared.keys.RuleTarget.{RuleTarget}
use Rattle.mt_names.specs.Same.{same_key}
use Rattle.mt_names.proofs.EntryLemmas.{none_from}
use Rattle.mt_model.specs.Limits.{most_rules}
use Rattle.mt_model.specs.Topology.{Rules, put_rule, rule_at, with_rule_place, without_rule_place}
use Rattle.mt_rules.specs.Read.{with_one_more}
use Rattle.mt_rules.specs.Rules.{has_rule_place}
use Rattle.mt_rules.specs.Member.{or_shape, with_new_rule}

pub with_rule_place-new : (rules : Rules) (key : RuleKey) → has_rule_place rules key ≡ false → with_rule_place rules key ≡ put_rule rules (key, None)
with_rule_place-new rules key lacks = rw (none_from (lookup (same_key key) rules) lacks) refl

pub with_one_more-new : (rules : Rules) (r : RuleKey × RuleTarget) (new : Rules) → has_rule_place rules r.0 ≡ false → (length rules == most_rules) ≡ false → new ≡ put_rule rules (r.0, Some r.1) → Ok new ≡ with_one_more rules r
with_one_more-new rules r new lacks room is = rw (lacks, room) (ap Ok is)

-- the same where the limit doesn't count yet
pub with_new_rule-new : (rules : Rules) (r : RuleKey × RuleTarget) (new : Rules) → has_rule_place rules r.0 ≡ false → new ≡ put_rule rules (r.0, Some r.1) → Ok new ≡ or_shape (with_new_rule rules r)
with_new_rule-new rules r new lacks is = rw lacks (ap Ok is)

-- ---- a place dropped

pub remove_entry-none : (test : RuleKey → Bool) (rules : Rules) → lookup test rules ≡ None → remove_entry test rules ≡ rules
remove_entry-none test [] none = refl
remove_entry-none test (r ∷ rules) none = by (remove_entry-none test rules) (test r.0) refl
  where
    by : (lookup test rules ≡ None → remove_entry test rules ≡ rules) → (t : Bool) → test r.0 ≡ t → remove_entry test (r ∷ rules) ≡ r ∷ rules
    by again true t = absurd (let h = rw t at none in cc)
    by again false t = rw t (ap (λ l. r ∷ l) (again (rw t at none)))

-- where the key has none
pub released-none : (rules : Rules) (key : RuleKey) → lookup (same_key key) rules ≡ None → rules ≡ without_rule_place rules key
released-none rules key none = rw none (sym (remove_entry-none (same_key key) rules none))

-- there are no more places than before
pub length-remove_entry : (test : RuleKey → Bool) (rules : Rules) → length (remove_entry test rules) ≤ length rules
length-remove_entry test [] = omega (arith)
length-remove_entry test (r ∷ rules) = by (length-remove_entry test rules) (test r.0) refl
  where
    by : length (remove_entry test rules) ≤ length rules → (t : Bool) → test r.0 ≡ t → length (remove_entry test (r ∷ rules)) ≤ length (r ∷ rules)
    by again true t = rw t (omega (arith))
    by again false t = rw t (omega (arith, again))

released_length : (rules : Rules) (key : RuleKey) → length (without_rule_place rules key) ≤ length rules
released_length rules key = by (rule_at rules key)
  where
    by : (o : Option RuleTarget) → length (option_map_or (λ target. rules) o (remove_entry (same_key key) rules)) ≤ length rules
    by None = length-remove_entry (same_key key) rules
    by (Some target) = omega arith

pub released_no_more : (rules : Rules) (keys : List RuleKey) → length (fold without_rule_place rules keys) ≤ length rules
released_no_more rules [] = omega arith
released_no_more rules (k ∷ keys) = omega (arith, released_no_more (without_rule_place rules k) keys, released_length rules k)
