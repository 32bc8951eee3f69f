-- What calls make of the rules: of one key, of two and of a name's four.
use Rattle.std.proofs.Common.{◌≡◌, ◌≢◌, ◌+◌, suc, length, Bool, true, false, cond, [], ◌∷◌, fold, reverse, Option, None, Some, is_some, unwrap_or, option_and_then, OnErr, Result, Ok, Err, refl, sym, ap, subst, ◌∙◌, arith}
use Rattle.std.proofs.lemmas.Bool.{true≢false}
use Rattle.std.proofs.lemmas.Map.{length-set_value}
use Rattle.std.proofs.lemmas.Map.Steps.{set_value_same}
use Rattle.std.specs.Int.{from_bool}
use Rattle.std.specs.List.{AllByRecursion}
use Rattle.std.specs.Map.{lookup, remove_entry, set_value}
use Rattle.std.specs.Option.{option_map_or}
use Rattle.mt_names.specs.declared.keys.RuleKey.{RuleKey}
use Rattle.mt_names.specs.declared.keys.RuleTarget.{RuleTarget}
use Rattle.mt_names.specs.declared.types.TabletType.{TabletType}
use Rattle.mt_names.specs.declared.types.TabletType.TheVariants.{Primary, Replica, Rdonly}
use Rattle.mt_names.specs.Same.{same_key}
use Rattle.mt_names.proofs.EntryLemmas.{none_from, some_from}
use Rattle.mt_model.specs.Order.{key_before}
use Rattle.mt_model.specs.Topology.{Rules, put_rule, rule_at, with_rule_place, without_rule_place}
use Rattle.mt_names.proofs.SameLemmas.{same_key_decides}
use Rattle.mt_model.proofs.OrderLemmas.{length-put_by, put_placed-elsewhere}
use Rattle.mt_rules.specs.declared.four.FourPlaces.{FourPlaces}
use Rattle.mt_rules.specs.declared.name.RuleName.{RuleName}
use Rattle.mt_rules.specs.Places.{Names, Place, blank_count, is_blank, key_of, name_of, no_places, place_at, place_in, released, released_at, released_four, rules_in, same_name, with_name, with_place_at}
use Rattle.mt_rules.specs.Rules.{four_keys, four_rules, has_rule_place, with_rules_set}
use Rattle.mt_rules.proofs.NameLemmas.{same_name_decides}
use Rattle.mt_rules.proofs.PlacesLemmas.{AreDistinct, added, changed, dropped, found, placed, placed-distinct, placed-same, placed-was, same_rules}
use Rattle.mt_rules.proofs.RulesLemmas.{released-none, remove_entry-none, with_rule_place-new}

-- ---- the name of a key that has a place

named : (names : Names) (n : RuleName) (four : FourPlaces) (change : FourPlaces → FourPlaces) → lookup (same_name n) names ≡ Some four → with_name names n change ≡ set_value (same_name n) names (change four)
named names n four change is = ap (λ o. option_map_or (λ four. set_value (same_name n) names (change four)) o names) is

unnamed : (names : Names) (n : RuleName) (change : FourPlaces → FourPlaces) → lookup (same_name n) names ≡ None → with_name names n change ≡ names
unnamed names n change is = ap (λ o. option_map_or (λ four. set_value (same_name n) names (change four)) o names) is

-- four places with that of a key
record Holds (names : Names) (k : RuleKey) (old : Option RuleTarget) : Type 0 where
  four : FourPlaces
  is : lookup (same_name (name_of k)) names ≡ Some four
  at : place_at four k.tablet_type ≡ Some old

holds : (names : Names) (k : RuleKey) (old : Option RuleTarget) → place_in names k ≡ Some old → Holds names k old
holds names k old there = by (lookup (same_name (name_of k)) names) refl there
  where
    by : (o : Option FourPlaces) → lookup (same_name (name_of k)) names ≡ o → option_and_then (λ four. place_at four k.tablet_type) o ≡ Some old → Holds names k old
    by None is at = absurd cc
    by (Some four) is at = record { four = four; is = is; at = at }

pub there : (names : Names) → AreDistinct names → (k : RuleKey) → has_rule_place (rules_in names) k ≡ true → (old : Option RuleTarget) × (place_in names k ≡ Some old)
there names distinct k has = let some = some_from (lookup (same_key k) (rules_in names)) has in (some.0, sym (found names distinct k) ∙ some.1)

pub distinct-with_name : (names : Names) (n : RuleName) (change : FourPlaces → FourPlaces) → AreDistinct names → AreDistinct (with_name names n change)
distinct-with_name names n change distinct = by (lookup (same_name n) names) refl
  where
    by : (o : Option FourPlaces) → lookup (same_name n) names ≡ o → AreDistinct (with_name names n change)
    by None is = subst AreDistinct (sym (unnamed names n change is)) distinct
    by (Some four) is = subst AreDistinct (sym (named names n four change is)) (placed-distinct names n four is distinct (change four))

-- ---- one key

-- a rule set where there is a place
pub put_there : (names : Names) → AreDistinct names → (k : RuleKey) (rule : Option RuleTarget) → has_rule_place (rules_in names) k ≡ true
    → rules_in (with_name names (name_of k) (λ four. with_place_at four k.tablet_type (Some rule))) ≡ set_value (same_key k) (rules_in names) rule
put_there names distinct k rule has =
    let old = there names distinct k has in
    let h = holds names k old.0 old.1 in
    ap rules_in (named names (name_of k) h.four (λ four. with_place_at four k.tablet_type (Some rule)) h.is)
    ∙ changed names (name_of k) h.four h.is distinct h.four k.tablet_type rule old.0 h.at
    ∙ ap (λ l. set_value (same_key k) (rules_in l) rule) (placed-same names (name_of k) h.four h.is distinct)

-- a place made where there is none, in names with the same places that have the key's name
pub add_there : (names more : Names) → AreDistinct names → AreDistinct more → ((j : RuleKey) → place_in more j ≡ place_in names j) → (k : RuleKey) (rule : Option RuleTarget)
    → is_some (lookup (same_name (name_of k)) more) ≡ true → has_rule_place (rules_in names) k ≡ false
    → rules_in (with_name more (name_of k) (λ four. with_place_at four k.tablet_type (Some rule))) ≡ put_rule (rules_in names) (k, rule)
add_there names more first second same k rule room lacks =
    let four = some_from (lookup (same_name (name_of k)) more) room in
    let none : place_at four.0 k.tablet_type ≡ None =
    sym (ap (λ o. option_and_then (λ f. place_at f k.tablet_type) o) four.1) ∙ same k ∙ sym (found names first k) ∙ none_from (lookup (same_key k) (rules_in names)) lacks in
    ap rules_in (named more (name_of k) four.0 (λ f. with_place_at f k.tablet_type (Some rule)) four.1)
    ∙ added more (name_of k) four.0 four.1 second four.0 k.tablet_type rule none
    ∙ ap (λ l. put_rule (rules_in l) (k, rule)) (placed-same more (name_of k) four.0 four.1 second)
    ∙ ap (λ l. put_rule l (k, rule)) (same_rules more names second first same)

-- a place dropped
pub remove_there : (names : Names) → AreDistinct names → (k : RuleKey) → has_rule_place (rules_in names) k ≡ true
    → rules_in (with_name names (name_of k) (λ four. with_place_at four k.tablet_type None)) ≡ remove_entry (same_key k) (rules_in names)
remove_there names distinct k has =
    let old = there names distinct k has in
    let h = holds names k old.0 old.1 in
    ap rules_in (named names (name_of k) h.four (λ four. with_place_at four k.tablet_type None) h.is)
    ∙ dropped names (name_of k) h.four h.is distinct h.four k.tablet_type
    ∙ ap (λ l. remove_entry (same_key k) (rules_in l)) (placed-same names (name_of k) h.four h.is distinct)

pub removed_length : (rules : Rules) (k : RuleKey) → is_some (lookup (same_key k) rules) ≡ true → suc (length (remove_entry (same_key k) rules)) ≡ length rules
removed_length [] k has = absurd (true≢false (sym has))
removed_length (r ∷ rs) k has = by (same_key k r.0) refl (removed_length rs k)
  where
    by : (t : Bool) → same_key k r.0 ≡ t → (is_some (lookup (same_key k) rs) ≡ true → suc (length (remove_entry (same_key k) rs)) ≡ length rs)
        → suc (length (cond t rs (r ∷ remove_entry (same_key k) rs))) ≡ suc (length rs)
    by true e again = refl
    by false e again = ap suc (again (rw e at has))

-- ---- a name's four keys

module _ (names : Names) (n : RuleName) (four : FourPlaces) (is : lookup (same_name n) names ≡ Some four) (distinct : AreDistinct names) where
  abbrev rules_of : FourPlaces → Rules
  rules_of f = rules_in (placed names n four is distinct f)

  -- a place made
  made : (f : FourPlaces) (t : Option TabletType) → place_at f t ≡ None → rules_of (with_place_at f t (Some None)) ≡ with_rule_place (rules_of f) (key_of n t)
  made f t none =
      added names n four is distinct f t None none
      ∙ sym (with_rule_place-new (rules_of f) (key_of n t) (ap is_some (placed-was names n four is distinct f t ∙ none)))

  -- a place dropped that has no rule, and how many there are then
  let_go : (f : FourPlaces) (t : Option TabletType) → rules_of (released_at f t) ≡ without_rule_place (rules_of f) (key_of n t)
  let_go f t = by (place_at f t) refl
    where
      at : (p : Place) → place_at f t ≡ p → rule_at (rules_of f) (key_of n t) ≡ unwrap_or p None
      at p e = ap (λ o. unwrap_or o None) (placed-was names n four is distinct f t ∙ e)

      by : (p : Place) → place_at f t ≡ p → rules_of (with_place_at f t (released p)) ≡ without_rule_place (rules_of f) (key_of n t)
      by None e = dropped names n four is distinct f t ∙ sym (ap (λ o. option_map_or (λ target. rules_of f) o (remove_entry (same_key (key_of n t)) (rules_of f))) (at None e))
      by (Some None) e = dropped names n four is distinct f t ∙ sym (ap (λ o. option_map_or (λ target. rules_of f) o (remove_entry (same_key (key_of n t)) (rules_of f))) (at (Some None) e))
      by (Some (Some rule)) e =
          changed names n four is distinct f t (Some rule) (Some rule) e ∙ set_value_same (same_key (key_of n t)) (rules_of f) (Some rule) (placed-was names n four is distinct f t ∙ e)
          ∙ sym (ap (λ o. option_map_or (λ target. rules_of f) o (remove_entry (same_key (key_of n t)) (rules_of f))) (at (Some (Some rule)) e))

  let_go_length : (f : FourPlaces) (t : Option TabletType) → length (rules_of (released_at f t)) + from_bool (is_blank (place_at f t)) ≡ length (rules_of f)
  let_go_length f t = by (place_at f t) refl
    where
      by : (p : Place) → place_at f t ≡ p → length (rules_of (with_place_at f t (released p))) + from_bool (is_blank p) ≡ length (rules_of f)
      by None e =
          let same : length (rules_of (with_place_at f t None)) ≡ length (rules_of f) =
          ap length (dropped names n four is distinct f t ∙ remove_entry-none (same_key (key_of n t)) (rules_of f) (placed-was names n four is distinct f t ∙ e)) in
          omega (arith, same)
      by (Some None) e =
          let less : suc (length (rules_of (with_place_at f t None))) ≡ length (rules_of f) =
          ap (λ l. suc (length l)) (dropped names n four is distinct f t) ∙ removed_length (rules_of f) (key_of n t) (ap is_some (placed-was names n four is distinct f t ∙ e)) in
          omega (arith, less)
      by (Some (Some rule)) e =
          let same : length (rules_of (with_place_at f t (Some (Some rule)))) ≡ length (rules_of f) =
          ap length (changed names n four is distinct f t (Some rule) (Some rule) e) ∙ length-set_value (same_key (key_of n t)) (rules_of f) (Some rule) in
          omega (arith, same)

  start : rules_of four ≡ rules_in names
  start = ap rules_in (placed-same names n four is distinct)

  -- all four set
  set_four : (a b c d w x y z : Option RuleTarget) → four.all ≡ Some w → four.primary ≡ Some x → four.replica ≡ Some y → four.rdonly ≡ Some z
      → rules_of (record { all = Some a; primary = Some b; replica = Some c; rdonly = Some d })
      ≡ set_value (same_key (key_of n (Some Rdonly))) (set_value (same_key (key_of n (Some Replica))) (set_value (same_key (key_of n (Some Primary))) (set_value (same_key (key_of n None)) (rules_in names) a) b) c) d
  set_four a b c d w x y z first second third fourth =
      let f1 = with_place_at four None (Some a) in
      let f2 = with_place_at f1 (Some Primary) (Some b) in
      let f3 = with_place_at f2 (Some Replica) (Some c) in
      let one = changed names n four is distinct four None a w first ∙ ap (λ l. set_value (same_key (key_of n None)) l a) start in
      let two = changed names n four is distinct f1 (Some Primary) b x second ∙ ap (λ l. set_value (same_key (key_of n (Some Primary))) l b) one in
      let three = changed names n four is distinct f2 (Some Replica) c y third ∙ ap (λ l. set_value (same_key (key_of n (Some Replica))) l c) two in
      changed names n four is distinct f3 (Some Rdonly) d z fourth ∙ ap (λ l. set_value (same_key (key_of n (Some Rdonly))) l d) three

  -- all four made
  make_four : four.all ≡ None → four.primary ≡ None → four.replica ≡ None → four.rdonly ≡ None
      → rules_of (record { all = Some None; primary = Some None; replica = Some None; rdonly = Some None })
      ≡ with_rule_place (with_rule_place (with_rule_place (with_rule_place (rules_in names) (key_of n None)) (key_of n (Some Primary))) (key_of n (Some Replica))) (key_of n (Some Rdonly))
  make_four first second third fourth =
      let f1 = with_place_at four None (Some None) in
      let f2 = with_place_at f1 (Some Primary) (Some None) in
      let f3 = with_place_at f2 (Some Replica) (Some None) in
      let one = made four None first ∙ ap (λ l. with_rule_place l (key_of n None)) start in
      let two = made f1 (Some Primary) second ∙ ap (λ l. with_rule_place l (key_of n (Some Primary))) one in
      let three = made f2 (Some Replica) third ∙ ap (λ l. with_rule_place l (key_of n (Some Replica))) two in
      made f3 (Some Rdonly) fourth ∙ ap (λ l. with_rule_place l (key_of n (Some Rdonly))) three

  -- and those dropped that have no rule
  release_four : rules_of (released_four four)
      ≡ without_rule_place (without_rule_place (without_rule_place (without_rule_place (rules_in names) (key_of n (Some Rdonly))) (key_of n (Some Replica))) (key_of n (Some Primary))) (key_of n None)
  release_four =
      let f1 = released_at four (Some Rdonly) in
      let f2 = released_at f1 (Some Replica) in
      let f3 = released_at f2 (Some Primary) in
      let one = let_go four (Some Rdonly) ∙ ap (λ l. without_rule_place l (key_of n (Some Rdonly))) start in
      let two = let_go f1 (Some Replica) ∙ ap (λ l. without_rule_place l (key_of n (Some Replica))) one in
      let three = let_go f2 (Some Primary) ∙ ap (λ l. without_rule_place l (key_of n (Some Primary))) two in
      let_go f3 None ∙ ap (λ l. without_rule_place l (key_of n None)) three

  release_four_length : length (rules_of (released_four four)) + blank_count four ≡ length (rules_in names)
  release_four_length =
      let f1 = released_at four (Some Rdonly) in
      let f2 = released_at f1 (Some Replica) in
      let f3 = released_at f2 (Some Primary) in
      omega (arith, let_go_length four (Some Rdonly), let_go_length f1 (Some Replica), let_go_length f2 (Some Primary), let_go_length f3 None, ap length start)

-- ---- as calls say it

pub put_four : (names : Names) → AreDistinct names → (k : RuleKey) (a b c d : Option RuleTarget) → AllByRecursion (λ key. has_rule_place (rules_in names) key ≡ true) (four_keys k)
    → rules_in (with_name names (name_of k) (λ four. record { all = Some a; primary = Some b; replica = Some c; rdonly = Some d })) ≡ with_rules_set (rules_in names) (four_rules k a b c d)
put_four names distinct k a b c d has =
    let n = name_of k in
    let w = there names distinct (key_of n None) has.0 in
    let x = there names distinct (key_of n (Some Primary)) has.1.0 in
    let y = there names distinct (key_of n (Some Replica)) has.1.1.0 in
    let z = there names distinct (key_of n (Some Rdonly)) has.1.1.1.0 in
    let h = holds names (key_of n None) w.0 w.1 in
    let at : (t : Option TabletType) (old : Option RuleTarget) → place_in names (key_of n t) ≡ Some old → place_at h.four t ≡ Some old = λ t old e. sym (ap (λ o. option_and_then (λ f. place_at f t) o) h.is) ∙ e in
    ap rules_in (named names n h.four (λ four. record { all = Some a; primary = Some b; replica = Some c; rdonly = Some d }) h.is)
    ∙ set_four names n h.four h.is distinct a b c d w.0 x.0 y.0 z.0 h.at (at (Some Primary) x.0 x.1) (at (Some Replica) y.0 y.1) (at (Some Rdonly) z.0 z.1)

pub add_four : (names more : Names) → AreDistinct names → AreDistinct more → ((j : RuleKey) → place_in more j ≡ place_in names j) → (k : RuleKey) → is_some (lookup (same_name (name_of k)) more) ≡ true
    → AllByRecursion (λ key. has_rule_place (rules_in names) key ≡ false) (four_keys k)
    → rules_in (with_name more (name_of k) (λ four. record { all = Some None; primary = Some None; replica = Some None; rdonly = Some None })) ≡ fold with_rule_place (rules_in names) (four_keys k)
add_four names more first second same k room lacks =
    let n = name_of k in
    let four = some_from (lookup (same_name n) more) room in
    let none : (t : Option TabletType) → has_rule_place (rules_in names) (key_of n t) ≡ false → place_at four.0 t ≡ None = λ t lack.
    sym (ap (λ o. option_and_then (λ f. place_at f t) o) four.1) ∙ same (key_of n t) ∙ sym (found names first (key_of n t)) ∙ none_from (lookup (same_key (key_of n t)) (rules_in names)) lack in
    ap rules_in (named more n four.0 (λ four. record { all = Some None; primary = Some None; replica = Some None; rdonly = Some None }) four.1)
    ∙ make_four more n four.0 four.1 second (none None lacks.0) (none (Some Primary) lacks.1.0) (none (Some Replica) lacks.1.1.0) (none (Some Rdonly) lacks.1.1.1.0)
    ∙ ap (λ l. fold with_rule_place l (four_keys k)) (same_rules more names second first same)

-- a name that isn't there has nothing to drop
none_dropped : (rules : Rules) (n : RuleName) → ((t : Option TabletType) → lookup (same_key (key_of n t)) rules ≡ None)
    → rules ≡ without_rule_place (without_rule_place (without_rule_place (without_rule_place rules (key_of n (Some Rdonly))) (key_of n (Some Replica))) (key_of n (Some Primary))) (key_of n None)
none_dropped rules n none =
    let gone : (t : Option TabletType) → rules ≡ without_rule_place rules (key_of n t) = λ t. released-none rules (key_of n t) (none t) in
    gone None ∙ ap (λ l. without_rule_place l (key_of n None)) (gone (Some Primary) ∙ ap (λ l. without_rule_place l (key_of n (Some Primary))) (gone (Some Replica) ∙ ap (λ l. without_rule_place l (key_of n (Some Replica))) (gone (Some Rdonly))))

pub release_there : (names : Names) → AreDistinct names → (k : RuleKey) → rules_in (with_name names (name_of k) released_four) ≡ fold without_rule_place (rules_in names) (reverse (four_keys k))
release_there names distinct k = by (lookup (same_name n) names) refl
  where
    n : RuleName
    n = name_of k

    by : (o : Option FourPlaces) → lookup (same_name n) names ≡ o → rules_in (with_name names n released_four) ≡ fold without_rule_place (rules_in names) (reverse (four_keys k))
    by None is = ap rules_in (unnamed names n released_four is) ∙ none_dropped (rules_in names) n (λ t. found names distinct (key_of n t) ∙ ap (λ o. option_and_then (λ f. place_at f t) o) is)
    by (Some four) is = ap rules_in (named names n four released_four is) ∙ release_four names n four is distinct

pub release_length : (names : Names) → AreDistinct names → (k : RuleKey)
    → length (rules_in (with_name names (name_of k) released_four)) + option_map_or blank_count (lookup (same_name (name_of k)) names) 0 ≡ length (rules_in names)
release_length names distinct k = by (lookup (same_name n) names) refl
  where
    n : RuleName
    n = name_of k

    by : (o : Option FourPlaces) → lookup (same_name n) names ≡ o → length (rules_in (with_name names n released_four)) + option_map_or blank_count o 0 ≡ length (rules_in names)
    by None is = let same : length (rules_in (with_name names n released_four)) ≡ length (rules_in names) = ap (λ l. length (rules_in l)) (unnamed names n released_four is) in omega (arith, same)
    by (Some four) is =
        let same : length (rules_in (with_name names n released_four)) ≡ length (rules_in (placed names n four is distinct (released_four four))) = ap (λ l. length (rules_in l)) (named names n four released_four is) in
        omega (arith, same, release_four_length names n four is distinct)

-- a rule that was left is the one that stood
pub stood_there : (names : Names) → AreDistinct names → (k : RuleKey) (before : Option RuleTarget) → has_rule_place (rules_in names) k ≡ true
    → ((four : FourPlaces) → lookup (same_name (name_of k)) names ≡ Some four → before ≡ unwrap_or (place_at four k.tablet_type) None) → before ≡ rule_at (rules_in names) k
stood_there names distinct k before has is =
    let old = there names distinct k has in
    let h = holds names k old.0 old.1 in
    is h.four h.is ∙ ap (λ p. unwrap_or p None) h.at ∙ sym (ap (λ o. unwrap_or o None) (found names distinct k ∙ old.1))

-- how many there are once a name's four are set, and once they are made
pub length-four_set : (rules : Rules) (k : RuleKey) (a b c d : Option RuleTarget) → length (with_rules_set rules (four_rules k a b c d)) ≡ length rules
length-four_set rules k a b c d =
    let n = name_of k in
    let once : Rules = set_value (same_key (key_of n None)) rules a in
    let twice : Rules = set_value (same_key (key_of n (Some Primary))) once b in
    let thrice : Rules = set_value (same_key (key_of n (Some Replica))) twice c in
    length-set_value (same_key (key_of n (Some Rdonly))) thrice d ∙ length-set_value (same_key (key_of n (Some Replica))) twice c
    ∙ length-set_value (same_key (key_of n (Some Primary))) once b ∙ length-set_value (same_key (key_of n None)) rules a

place_length : (rules : Rules) (k : RuleKey) → lookup (same_key k) rules ≡ None → length (with_rule_place rules k) ≡ suc (length rules)
place_length rules k none = ap length (with_rule_place-new rules k (ap is_some none)) ∙ length-put_by key_before rules (k, None)

still : (rules : Rules) (k j : RuleKey) → k ≢ j → lookup (same_key j) rules ≡ None → lookup (same_key j) (with_rule_place rules k) ≡ None
still rules k j other none = put_placed-elsewhere key_before same_key same_key_decides None rules k j other ∙ none

pub add_four_length : (rules : Rules) (k : RuleKey) → AllByRecursion (λ key. has_rule_place rules key ≡ false) (four_keys k) → length (fold with_rule_place rules (four_keys k)) ≡ length rules + 4
add_four_length rules k lacks =
    let n = name_of k in
    let ka = key_of n None in
    let kb = key_of n (Some Primary) in
    let kc = key_of n (Some Replica) in
    let kd = key_of n (Some Rdonly) in
    let r1 = with_rule_place rules ka in
    let r2 = with_rule_place r1 kb in
    let r3 = with_rule_place r2 kc in
    let type : (j : RuleKey) → Option TabletType = λ j. j.tablet_type in
    let none : (j : RuleKey) → has_rule_place rules j ≡ false → lookup (same_key j) rules ≡ None = λ j lack. none_from (lookup (same_key j) rules) lack in
    let other : (s t : Option TabletType) → s ≢ t → key_of n s ≢ key_of n t = λ s t differ e. differ (ap type e) in
    let b1 = still rules ka kb (other None (Some Primary) (λ e. cc)) (none kb lacks.1.0) in
    let c1 = still rules ka kc (other None (Some Replica) (λ e. cc)) (none kc lacks.1.1.0) in
    let d1 = still rules ka kd (other None (Some Rdonly) (λ e. cc)) (none kd lacks.1.1.1.0) in
    let c2 = still r1 kb kc (other (Some Primary) (Some Replica) (λ e. cc)) c1 in
    let d2 = still r1 kb kd (other (Some Primary) (Some Rdonly) (λ e. cc)) d1 in
    let d3 = still r2 kc kd (other (Some Replica) (Some Rdonly) (λ e. cc)) d2 in
    omega (arith, place_length rules ka (none ka lacks.0), place_length r1 kb b1, place_length r2 kc c2, place_length r3 kd d3)

-- what holds of a refusal
pub on_err : {A E : Type 0} (r : Result A E) (P : Type 0) → P → OnErr r P
on_err (Ok done) P p = tt
on_err (Err fault) P p = p

no_place : (t : Option TabletType) → place_at no_places t ≡ None
no_place None = refl
no_place (Some Primary) = refl
no_place (Some Replica) = refl
no_place (Some Rdonly) = refl

-- a name none of whose keys has a place goes without a change
pub let_name_go : (old new : Names) (n : RuleName) → ((m : RuleName) → lookup (same_name m) new ≡ cond (same_name n m) None (lookup (same_name m) old)) → lookup (same_name n) old ≡ Some no_places
    → (k : RuleKey) → place_in new k ≡ place_in old k
let_name_go old new n updates is k = ap at (updates (name_of k)) ∙ by (same_name n (name_of k)) refl
  where
    at : Option FourPlaces → Place
    at o = option_and_then (λ four. place_at four k.tablet_type) o

    by : (b : Bool) → same_name n (name_of k) ≡ b → option_and_then (λ four. place_at four k.tablet_type) (cond b None (lookup (same_name (name_of k)) old)) ≡ place_in old k
    by true e = sym (ap at (subst (λ m. lookup (same_name m) old ≡ Some no_places) ((same_name_decides n (name_of k)).0 e) is) ∙ no_place k.tablet_type)
    by false e = refl
