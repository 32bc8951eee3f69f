-- A rule taken away.
use Rattle.std.proofs.Common.{◌≡◌, Bool, true, false, List, [], ◌∷◌, Option, None, Some, is_some, unwrap_or, refl, ap, ◌∙◌}
use Rattle.std.proofs.lemmas.Bool.{true≢false}
use Rattle.std.specs.Map.{lookup, remove_entry, set_value}
use Rattle.mt_names.specs.declared.keys.RuleKey.{RuleKey}
use Rattle.mt_names.specs.declared.keys.RuleTarget.{RuleTarget}
use Rattle.mt_names.specs.Same.{same_key}
use Rattle.mt_model.specs.Topology.{Rules, rule_at, without_rule_place}
use Rattle.mt_model.proofs.TopologyLemmas.{rule_at-set_here}

remove_entry-set_value : {K V : Type 0} (test : K → Bool) (es : List (K × V)) (v : V) → remove_entry test (set_value test es v) ≡ remove_entry test es
remove_entry-set_value test [] v = refl
remove_entry-set_value {K} {V} test (e ∷ es) v = by (remove_entry-set_value test es v) (test e.0) refl
  where
    by : remove_entry test (set_value test es v) ≡ remove_entry test es → (t : Bool) → test e.0 ≡ t → remove_entry test (set_value test (e ∷ es) v) ≡ remove_entry test (e ∷ es)
    by again true t = rw (t, t) refl
    by again false f = rw (f, f) (ap (λ l. e ∷ l) again)

-- where there is none, its place goes
without_rule_place-unruled : (rules : Rules) (key : RuleKey) → rule_at rules key ≡ None → without_rule_place rules key ≡ remove_entry (same_key key) rules
without_rule_place-unruled rules key none = rw none refl

pub taken_from_place : (rules : Rules) (key : RuleKey) → is_some (lookup (same_key key) rules) ≡ true → without_rule_place (set_value (same_key key) rules None) key ≡ remove_entry (same_key key) rules
taken_from_place rules key there =
    without_rule_place-unruled (set_value (same_key key) rules None) key (rule_at-set_here rules key None there) ∙ remove_entry-set_value (same_key key) rules None

pub taken_from_no_place : (rules : Rules) (key : RuleKey) → is_some (lookup (same_key key) rules) ≡ false → without_rule_place rules key ≡ remove_entry (same_key key) rules
taken_from_no_place rules key none = without_rule_place-unruled rules key (by (lookup (same_key key) rules) none)
  where
    by : (r : Option (Option RuleTarget)) → is_some r ≡ false → unwrap_or r None ≡ None
    by None e = refl
    by (Some rule) e = absurd (true≢false e)
