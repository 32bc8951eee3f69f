-- The places of names as rules in their order: what is found there, and what one more, one less and another rule make of them.
use Rattle.std.proofs.Common.{◌≡◌, ◌≢◌, Bool, true, false, Option, None, Some, option_and_then, refl, sym, ap, subst, ◌∙◌}
use Rattle.std.proofs.lemmas.Map.Steps.{set_value_same}
use Rattle.std.specs.List.{IsDistinct}
use Rattle.std.specs.Map.{keys_of, lookup, remove_entry, set_value}
use Rattle.mt_names.specs.declared.keys.RuleKey.{RuleKey}
use Rattle.mt_names.specs.declared.keys.RuleTarget.{RuleTarget}
use Rattle.mt_names.specs.declared.types.TabletType.{TabletType}
use Rattle.mt_names.specs.Same.{same_key}
use Rattle.mt_names.proofs.EntryLemmas.{IsDistinct-set_value, lookup-set_value_elsewhere, lookup-set_value_here, other_from}
use Rattle.mt_names.proofs.SameLemmas.{same_key_decides}
use Rattle.mt_model.specs.Order.{Ascends, key_before}
use Rattle.mt_model.specs.Topology.{put_rule}
use Rattle.mt_model.proofs.OrderLemmas.{Ascends-ordered, IsDistinct-Ascends, is_put, is_removed, is_set, key_order, lookup-ordered, same_entries}
use Rattle.mt_rules.specs.declared.four.FourPlaces.{FourPlaces}
use Rattle.mt_rules.specs.declared.name.RuleName.{RuleName}
use Rattle.mt_rules.specs.Places.{Names, Place, key_of, listed, name_of, place_at, place_in, rules_in, same_name, with_place_at}
use Rattle.mt_rules.proofs.NameLemmas.{listed-found, place-other, place-set, same_name_decides}

abbrev pub AreDistinct : Names → Type 0
AreDistinct names = IsDistinct same_name (keys_of names)

pub found : (names : Names) → AreDistinct names → (k : RuleKey) → lookup (same_key k) (rules_in names) ≡ place_in names k
found names distinct k = lookup-ordered key_before key_order same_key same_key_decides (listed names) k ∙ listed-found names k distinct

pub ascends : (names : Names) → Ascends key_before (rules_in names)
ascends names = Ascends-ordered key_before key_order same_key same_key_decides (listed names)

pub distinct_keys : (names : Names) → IsDistinct same_key (keys_of (rules_in names))
distinct_keys names = IsDistinct-Ascends key_before key_order same_key same_key_decides (rules_in names) (ascends names)

-- names of which each key has the same place hold the same rules
pub same_rules : (names others : Names) → AreDistinct names → AreDistinct others → ((k : RuleKey) → place_in names k ≡ place_in others k) → rules_in names ≡ rules_in others
same_rules names others first second same =
    same_entries key_before key_order same_key same_key_decides (rules_in names) (rules_in others) (ascends names) (ascends others)
    (λ k. found names first k ∙ same k ∙ sym (found others second k))

-- ---- one name among them

abbrev at : Option TabletType → Option FourPlaces → Place
at t o = option_and_then (λ four. place_at four t) o

-- of names of which each has the same places: a rule more, a rule that is set, a rule less
module _ (names : Names) (n : RuleName) (four : FourPlaces) (is : lookup (same_name n) names ≡ Some four) (distinct : AreDistinct names) where
  -- the names, with these four places
  abbrev pub placed : FourPlaces → Names
  placed f = set_value (same_name n) names f

  pub placed-same : placed four ≡ names
  placed-same = set_value_same (same_name n) names four is

  pub placed-distinct : (f : FourPlaces) → AreDistinct (placed f)
  placed-distinct f = IsDistinct-set_value same_name same_name_decides names n f distinct

  pub placed-here : (f : FourPlaces) (t : Option TabletType) → place_in (placed f) (key_of n t) ≡ place_at f t
  placed-here f t = ap (at t) (lookup-set_value_here same_name same_name_decides names n f four is)

  placed-elsewhere : (f g : FourPlaces) (k : RuleKey) → n ≢ name_of k → place_in (placed f) k ≡ place_in (placed g) k
  placed-elsewhere f g k other =
      ap (at k.tablet_type) (lookup-set_value_elsewhere same_name same_name_decides names n (name_of k) f other ∙ sym (lookup-set_value_elsewhere same_name same_name_decides names n (name_of k) g other))

  -- another key than that of the name and the type
  placed-other : (f : FourPlaces) (t : Option TabletType) (p : Place) (k : RuleKey) → key_of n t ≢ k → place_in (placed (with_place_at f t p)) k ≡ place_in (placed f) k
  placed-other f t p k other = by (same_name n (name_of k)) refl
    where
      by : (b : Bool) → same_name n (name_of k) ≡ b → place_in (placed (with_place_at f t p)) k ≡ place_in (placed f) k
      by false b = placed-elsewhere (with_place_at f t p) f k (other_from same_name same_name_decides n (name_of k) b)
      by true b =
          let name : n ≡ name_of k = (same_name_decides n (name_of k)).0 b in
          let type : t ≢ k.tablet_type = λ e. other (ap (λ m. key_of m t) name ∙ ap (λ u. key_of (name_of k) u) e) in
          subst (λ m. place_in (placed (with_place_at f t p)) (key_of m k.tablet_type) ≡ place_in (placed f) (key_of m k.tablet_type)) name
          (placed-here (with_place_at f t p) k.tablet_type ∙ place-other f t k.tablet_type p type ∙ sym (placed-here f k.tablet_type))

  placed-set : (f : FourPlaces) (t : Option TabletType) (p : Place) → lookup (same_key (key_of n t)) (rules_in (placed (with_place_at f t p))) ≡ p
  placed-set f t p = found (placed (with_place_at f t p)) (placed-distinct (with_place_at f t p)) (key_of n t) ∙ placed-here (with_place_at f t p) t ∙ place-set f t p

  pub placed-was : (f : FourPlaces) (t : Option TabletType) → lookup (same_key (key_of n t)) (rules_in (placed f)) ≡ place_at f t
  placed-was f t = found (placed f) (placed-distinct f) (key_of n t) ∙ placed-here f t

  else_where : (f : FourPlaces) (t : Option TabletType) (p : Place) (j : RuleKey) → key_of n t ≢ j → lookup (same_key j) (rules_in (placed (with_place_at f t p))) ≡ lookup (same_key j) (rules_in (placed f))
  else_where f t p j other =
      found (placed (with_place_at f t p)) (placed-distinct (with_place_at f t p)) j ∙ placed-other f t p j other ∙ sym (found (placed f) (placed-distinct f) j)

  pub added : (f : FourPlaces) (t : Option TabletType) (rule : Option RuleTarget) → place_at f t ≡ None → rules_in (placed (with_place_at f t (Some rule))) ≡ put_rule (rules_in (placed f)) (key_of n t, rule)
  added f t rule none =
      is_put key_before key_order same_key same_key_decides (rules_in (placed f)) (rules_in (placed (with_place_at f t (Some rule)))) (key_of n t) rule
      (ascends (placed f)) (ascends (placed (with_place_at f t (Some rule)))) (placed-was f t ∙ none) (placed-set f t (Some rule)) (else_where f t (Some rule))

  pub changed : (f : FourPlaces) (t : Option TabletType) (rule old : Option RuleTarget) → place_at f t ≡ Some old → rules_in (placed (with_place_at f t (Some rule))) ≡ set_value (same_key (key_of n t)) (rules_in (placed f)) rule
  changed f t rule old some =
      is_set key_before key_order same_key same_key_decides (rules_in (placed f)) (rules_in (placed (with_place_at f t (Some rule)))) (key_of n t) rule old
      (ascends (placed f)) (ascends (placed (with_place_at f t (Some rule)))) (placed-was f t ∙ some) (placed-set f t (Some rule)) (else_where f t (Some rule))

  pub dropped : (f : FourPlaces) (t : Option TabletType) → rules_in (placed (with_place_at f t None)) ≡ remove_entry (same_key (key_of n t)) (rules_in (placed f))
  dropped f t =
      is_removed key_before key_order same_key same_key_decides (rules_in (placed f)) (rules_in (placed (with_place_at f t None))) (key_of n t)
      (ascends (placed f)) (ascends (placed (with_place_at f t None))) (placed-set f t None) (else_where f t None)
