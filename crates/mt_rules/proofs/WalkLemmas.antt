-- Walks over the places: a key after another, and all of them sorted.
use Rattle.std.proofs.Common.{◌≡◌, ◌≢◌, ◌⊎◌, inl, inr, ◌+◌, ◌-◌, ◌<◌, ◌&&◌, ℕ, zero, suc, Bool, true, false, cond, if◌then◌else◌, List, [], ◌∷◌, ◌++◌, drop, find, length, map, slice_get, Option, None, Some, is_some, option_map, unwrap_or, refl, sym, ap, subst, ◌∙◌, arith}
use Rattle.std.proofs.lemmas.Bool.{true≢false}
use Rattle.std.proofs.lemmas.List.Elements.{All-from_recursion, recursion_from_All}
use Rattle.std.proofs.lemmas.List.Sorted.{All-permutation, IsPermutation-map, IsPermutation-sym}
use Rattle.std.proofs.lemmas.List.Sums.{fold-append}
use Rattle.std.proofs.lemmas.Map.Keys.{IsDistinct-IsPermutation}
use Rattle.std.specs.Int.{from_bool}
use Rattle.std.specs.List.{AllByRecursion, IsDistinct}
use Rattle.std.specs.List.Sorted.{IsPermutation}
use Rattle.std.specs.Map.{keys_of, lookup, remove_entry}
use Rattle.mt_names.specs.declared.keys.RuleKey.{RuleKey}
use Rattle.mt_names.specs.declared.keys.RuleTarget.{RuleTarget}
use Rattle.mt_names.specs.declared.types.TabletType.TheVariants.{Primary, Replica, Rdonly}
use Rattle.mt_names.specs.Same.{same_key}
use Rattle.mt_names.proofs.EntryLemmas.{apart, lookup_from_absent, other_from, same_itself, same_or_other}
use Rattle.mt_names.proofs.SameLemmas.{same_key_decides}
use Rattle.mt_model.specs.declared.entries.Entry.TheVariants as entry
use Rattle.mt_model.specs.Order.{Ascends, comes_before, key_before, key_code, ordered, put_by}
use Rattle.mt_model.specs.Part.{rule_routes}
use Rattle.mt_model.specs.Topology.{Rules, rule_at}
use Rattle.mt_model.proofs.OrderLemmas.{key_order, lookup-ordered, not_after, one_way, same_entries}
use Rattle.mt_rules.specs.declared.four.FourPlaces.{FourPlaces}
use Rattle.mt_rules.specs.declared.name.RuleName.{RuleName}
use Rattle.mt_rules.specs.Places.{Names, Place, entry_at, first_after, four_entries, is_after, is_ruled, key_of, listed, ruled_count, rules_in}
use Rattle.mt_rules.specs.Walk.{nearer, nearest}
use Rattle.mt_rules.proofs.AscendLemmas.{Rises}
use Rattle.mt_rules.proofs.KeysLemmas.{flipped_key}
use Rattle.mt_rules.proofs.NameLemmas.{four-tail, listed-distinct}
use Rattle.mt_rules.proofs.PlacesLemmas.{AreDistinct, ascends}
use Rattle.mt_rules.proofs.RulesLemmas.{remove_entry-none}

-- ---- the first key after another

-- of the keys of which A holds, this is the first after another, if there is one
IsFirst : Option RuleKey → (RuleKey → Type 0) → Option RuleKey → Type 0
IsFirst last A None = (k : RuleKey) → A k → is_after last k ≡ false
IsFirst last A (Some m) = A m × (is_after last m ≡ true) × ((k : RuleKey) → A k → is_after last k ≡ true → key_before k m ≡ false)

-- the same of others that are the same keys
first-same : (last : Option RuleKey) (A B : RuleKey → Type 0) (n : Option RuleKey) → ((k : RuleKey) → A k → B k) → ((k : RuleKey) → B k → A k) → IsFirst last A n → IsFirst last B n
unfolding IsFirst
first-same last A B None to from first = λ k b. first k (from k b)
first-same last A B (Some m) to from first = (to m first.0, first.1, λ k b later. first.2 k (from k b) later)

-- one key more
abbrev With : (RuleKey → Type 0) → RuleKey → RuleKey → Type 0
With A j k = A k ⊎ (k ≡ j)

one_more : (last : Option RuleKey) (A : RuleKey → Type 0) (n : Option RuleKey) (j : RuleKey) → IsFirst last A n → IsFirst last (With A j) (nearer last n j)
unfolding IsFirst
one_more last A None j first = by (is_after last j) refl
  where
    by : (t : Bool) → is_after last j ≡ t → IsFirst last (With A j) (if t && true then Some j else None)
    by true t = (inr refl, t, λ k also later. each k also later)
      where
        each : (k : RuleKey) → With A j k → is_after last k ≡ true → key_before k j ≡ false
        each k (inl a) later = absurd (true≢false (sym later ∙ first k a))
        each k (inr is) later = ap (λ i. key_before i j) is ∙ key_order.itself j
    by false t = each
      where
        each : (k : RuleKey) → With A j k → is_after last k ≡ false
        each k (inl a) = first k a
        each k (inr is) = ap (is_after last) is ∙ t
one_more last A (Some m) j first = by (is_after last j) refl (key_before j m) refl
  where
    by : (t : Bool) → is_after last j ≡ t → (b : Bool) → key_before j m ≡ b → IsFirst last (With A j) (if t && b then Some j else Some m)
    by true t true b = (inr refl, t, each)
      where
        each : (k : RuleKey) → With A j k → is_after last k ≡ true → key_before k j ≡ false
        each k (inl a) later = not_after key_before key_order j k m b (first.2 k a later)
        each k (inr is) later = ap (λ i. key_before i j) is ∙ key_order.itself j
    by true t false b = (inl first.0, first.1, each)
      where
        each : (k : RuleKey) → With A j k → is_after last k ≡ true → key_before k m ≡ false
        each k (inl a) later = first.2 k a later
        each k (inr is) later = ap (λ i. key_before i m) is ∙ b
    by false t b is = (inl first.0, first.1, each)
      where
        each : (k : RuleKey) → With A j k → is_after last k ≡ true → key_before k m ≡ false
        each k (inl a) later = first.2 k a later
        each k (inr same) later = absurd (true≢false (sym later ∙ ap (is_after last) same ∙ t))

abbrev Has : Rules → RuleKey → Type 0
Has rules k = is_some (lookup (same_key k) rules) ≡ true

-- the keys of some places more
all_more : (last : Option RuleKey) (A : RuleKey → Type 0) (n : Option RuleKey) (es : Rules) → IsFirst last A n → IsFirst last (λ k. A k ⊎ Has es k) (nearest last n es)
all_more last A n [] first = first-same last A (λ k. A k ⊎ Has [] k) n (λ k a. inl a) back first
  where
    back : (k : RuleKey) → A k ⊎ Has [] k → A k
    back k (inl a) = a
    back k (inr has) = absurd (true≢false (sym has))
all_more last A n (e ∷ es) first =
    first-same last (λ k. With A e.0 k ⊎ Has es k) (λ k. A k ⊎ Has (e ∷ es) k) (nearest last (nearer last n e.0) es) to from
    (all_more last (With A e.0) (nearer last n e.0) es (one_more last A n e.0 first))
  where
    has : (k : RuleKey) (t : Bool) → same_key k e.0 ≡ t → Has es k → Has (e ∷ es) k
    has k true t h = rw t refl
    has k false t h = rw t h

    to : (k : RuleKey) → With A e.0 k ⊎ Has es k → A k ⊎ Has (e ∷ es) k
    to k (inl (inl a)) = inl a
    to k (inl (inr is)) = inr (rw ((same_key_decides k e.0).1 is) refl)
    to k (inr h) = inr (has k (same_key k e.0) refl h)

    from : (k : RuleKey) → A k ⊎ Has (e ∷ es) k → With A e.0 k ⊎ Has es k
    from k (inl a) = inl (inl a)
    from k (inr h) = at (same_key k e.0) refl
      where
        at : (t : Bool) → same_key k e.0 ≡ t → With A e.0 k ⊎ Has es k
        at true t = inl (inr ((same_key_decides k e.0).0 t))
        at false t = inr (rw t at h)

-- of places in order it is the first after the other
in_front : (k : RuleKey) (es : Rules) (m : RuleKey) → AllByRecursion (λ j. key_before k j ≡ true) (keys_of es) → Has es m → key_before k m ≡ true
in_front k [] m all has = absurd (true≢false (sym has))
in_front k (e ∷ es) m all has = by (same_key m e.0) refl (in_front k es m all.1)
  where
    by : (t : Bool) → same_key m e.0 ≡ t → (Has es m → key_before k m ≡ true) → key_before k m ≡ true
    by true t again = subst (λ j. key_before k j ≡ true) (sym ((same_key_decides m e.0).0 t)) all.0
    by false t again = again (rw t at has)

the_first : (last : Option RuleKey) (es : Rules) (n : Option RuleKey) → Ascends key_before es → IsFirst last (Has es) n → n ≡ first_after last es
unfolding IsFirst
the_first last [] None up first = refl
the_first last [] (Some m) up first = absurd (true≢false (sym first.0))
the_first last (e ∷ es) n up first = by (λ m. the_first last es m up.1) (is_after last e.0) refl n first
  where
    here : Has (e ∷ es) e.0
    here = rw (same_itself same_key same_key_decides e.0) refl

    later : (k : RuleKey) → Has es k → Has (e ∷ es) k
    later k h = at (same_key k e.0) refl
      where
        at : (t : Bool) → same_key k e.0 ≡ t → Has (e ∷ es) k
        at true t = rw t refl
        at false t = rw t h

    earlier : (k : RuleKey) → k ≢ e.0 → Has (e ∷ es) k → Has es k
    earlier k other h = rw (apart same_key same_key_decides k e.0 other) at h

    by : ((m : Option RuleKey) → IsFirst last (Has es) m → m ≡ first_after last es) → (t : Bool) → is_after last e.0 ≡ t → (n : Option RuleKey) → IsFirst last (Has (e ∷ es)) n → n ≡ option_map (λ r. r.0) (cond t (Some e) (find (λ r. is_after last r.0) es))
    by again true t None first = absurd (true≢false (sym t ∙ first e.0 here))
    by again true t (Some m) first = at (same_or_other same_key same_key_decides m e.0)
      where
        at : (m ≡ e.0) ⊎ (m ≢ e.0) → Some m ≡ Some e.0
        at (inl is) = ap (λ k. Some k) is
        at (inr other) = absurd (true≢false (sym (in_front e.0 es m up.0 (earlier m other first.0)) ∙ first.2 e.0 here t))
    by again false t None first = again None (λ k h. first k (later k h))
    by again false t (Some m) first =
        let other : m ≢ e.0 = λ is. true≢false (sym first.1 ∙ ap (is_after last) is ∙ t) in
        again (Some m) (earlier m other first.0, first.1, λ k h after. first.2 k (later k h) after)

-- what a walk over all names finds
pub found_first : (names : Names) (last : Option RuleKey) → nearest last None (listed names) ≡ first_after last (rules_in names)
unfolding IsFirst
found_first names last =
    the_first last (rules_in names) (nearest last None (listed names)) (ascends names)
    (first-same last (λ k. ⊥ ⊎ Has (listed names) k) (Has (rules_in names)) (nearest last None (listed names)) to from (all_more last (λ k. ⊥) None (listed names) (λ k a. absurd a)))
  where
    same : (k : RuleKey) → lookup (same_key k) (rules_in names) ≡ lookup (same_key k) (listed names)
    same k = lookup-ordered key_before key_order same_key same_key_decides (listed names) k

    to : (k : RuleKey) → ⊥ ⊎ Has (listed names) k → Has (rules_in names) k
    to k (inl a) = absurd a
    to k (inr h) = ap is_some (same k) ∙ h

    from : (k : RuleKey) → Has (rules_in names) k → ⊥ ⊎ Has (listed names) k
    from k h = inr (sym (ap is_some (same k)) ∙ h)

pub nearest-append : (last next : Option RuleKey) (xs ys : Rules) → nearest last next (xs ++ ys) ≡ nearest last (nearest last next xs) ys
nearest-append last next xs ys = fold-append (λ n r. nearer last n r.0) next xs ys

-- ---- from place to place

-- the key before a place, if there is one
abbrev pub key_until : Rules → ℕ → Option RuleKey
key_until rules zero = None
key_until rules (suc i) = option_map (λ r. r.0) (slice_get rules i)

-- the first of some that all come after a key
first_of : (k : RuleKey) (es : Rules) → AllByRecursion (λ j. key_before k j ≡ true) (keys_of es) → first_after (Some k) es ≡ option_map (λ r. r.0) (slice_get es 0)
first_of k [] all = refl
first_of k (e ∷ es) all = rw all.0 refl

past_first : (k : RuleKey) (e : RuleKey × Option RuleTarget) (es : Rules) → key_before k e.0 ≡ false → first_after (Some k) (e ∷ es) ≡ first_after (Some k) es
past_first k e es not = rw not refl

pub at_place : (es : Rules) (i : ℕ) → i < length es → (e : RuleKey × Option RuleTarget) × (slice_get es i ≡ Some e)
at_place [] i within = absurd (omega (arith, within))
at_place (e ∷ es) zero within = (e, refl)
at_place (e ∷ es) (suc i) within = at_place es i (omega (arith, within))

among : (es : Rules) (i : ℕ) (e : RuleKey × Option RuleTarget) (P : RuleKey → Type 0) → slice_get es i ≡ Some e → AllByRecursion P (keys_of es) → P e.0
among [] i e P is all = absurd cc
among (x ∷ es) zero e P is all = subst (λ (y : RuleKey × Option RuleTarget). P y.0) (let same : x ≡ e = cc in same) all.0
among (x ∷ es) (suc i) e P is all = among es i e P is all.1

next_place : (es : Rules) → Ascends key_before es → (i : ℕ) → i < length es → first_after (key_until es i) es ≡ key_until es (suc i)
next_place [] up i within = absurd (omega (arith, within))
next_place (e ∷ es) up zero within = refl
next_place (e ∷ es) up (suc zero) within = past_first e.0 e es (key_order.itself e.0) ∙ first_of e.0 es up.0
next_place (e ∷ es) up (suc (suc i)) within =
    let last = at_place es i (omega (arith, within)) in
    let before : key_before e.0 last.0.0 ≡ true = among es i last.0 (λ j. key_before e.0 j ≡ true) last.1 up.0 in
    ap (λ o. first_after (option_map (λ r. r.0) o) (e ∷ es)) last.1 ∙ past_first last.0.0 e es (one_way key_before key_order e.0 last.0.0 before)
    ∙ sym (ap (λ o. first_after (option_map (λ r. r.0) o) es) last.1) ∙ next_place es up.1 (suc i) (omega (arith, within))

pub next_key : (es : Rules) → Ascends key_before es → (i : ℕ) → i < length es → first_after (key_until es i) es ≡ key_until es (i + 1)
next_key es up i within = let more : i + 1 ≡ suc i = omega arith in next_place es up i within ∙ sym (ap (key_until es) more)

pub last_key : (es : Rules) (i : ℕ) (e : RuleKey × Option RuleTarget) → slice_get es i ≡ Some e → key_until es (i + 1) ≡ Some e.0
last_key es i e is = let more : i + 1 ≡ suc i = omega arith in ap (key_until es) more ∙ ap (λ o. option_map (λ r. r.0) o) is

-- what comes after the key before a place is the key of the place
pub key_after : (es : Rules) → Ascends key_before es → (i : ℕ) (within : i < length es) {last after : Option RuleKey} → last ≡ key_until es i → after ≡ first_after last es
    → after ≡ Some (at_place es i within).0.0
key_after es up i within is after = after ∙ ap (λ o. first_after o es) is ∙ next_key es up i within ∙ last_key es i (at_place es i within).0 (at_place es i within).1

pub from_place : (es : Rules) (i : ℕ) (e : RuleKey × Option RuleTarget) → slice_get es i ≡ Some e → drop i es ≡ e ∷ drop (i + 1) es
from_place [] i e is = absurd cc
from_place (x ∷ es) zero e is = let same : x ≡ e = cc in ap (λ y. y ∷ es) same
from_place (x ∷ es) (suc i) e is =
    let more : suc i + 1 ≡ suc (i + 1) = omega arith in
    from_place es i e is ∙ sym (ap (λ n. e ∷ drop n (x ∷ es)) more)

-- the rules of such a place and of those after it
pub ruled_first : (e : RuleKey × Option RuleTarget) (to : RuleTarget) (es : Rules) → e.1 ≡ Some to → slice_get (rule_routes (e ∷ es)) 0 ≡ Some (entry.Rule e.0 (Some to))
ruled_first e to es is = ap (λ o. slice_get (cond (is_some o) (entry.Rule e.0 o ∷ []) [] ++ rule_routes es) 0) is

pub ruled_later : (e : RuleKey × Option RuleTarget) (to : RuleTarget) (es : Rules) (i : ℕ) → e.1 ≡ Some to → 0 < i → slice_get (rule_routes (e ∷ es)) i ≡ slice_get (rule_routes es) (i - 1)
ruled_later e to es zero is more = absurd (omega (arith, more))
ruled_later e to es (suc i) is more =
    let less : suc i - 1 ≡ i = omega arith in
    ap (λ o. slice_get (cond (is_some o) (entry.Rule e.0 o ∷ []) [] ++ rule_routes es) (suc i)) is ∙ sym (ap (slice_get (rule_routes es)) less)

pub unruled_first : (e : RuleKey × Option RuleTarget) (es : Rules) → e.1 ≡ None → rule_routes (e ∷ es) ≡ rule_routes es
unruled_first e es is = ap (λ o. cond (is_some o) (entry.Rule e.0 o ∷ []) [] ++ rule_routes es) is

-- what its key finds there
pub place_at_key : (es : Rules) → IsDistinct same_key (keys_of es) → (i : ℕ) (e : RuleKey × Option RuleTarget) → slice_get es i ≡ Some e → lookup (same_key e.0) es ≡ Some e.1
unfolding IsDistinct
place_at_key [] distinct i e is = absurd cc
place_at_key (x ∷ es) distinct zero e is =
    let same : x ≡ e = cc in
    subst (λ (y : RuleKey × Option RuleTarget). lookup (same_key y.0) (x ∷ es) ≡ Some y.1) same (rw (same_itself same_key same_key_decides x.0) refl)
place_at_key (x ∷ es) distinct (suc i) e is =
    let other : same_key x.0 e.0 ≡ false = among es i e (λ j. same_key x.0 j ≡ false) is distinct.0 in
    rw (flipped_key e.0 x.0 ∙ other) (place_at_key es distinct.1 i e is)

pub rule_at_key : (es : Rules) → IsDistinct same_key (keys_of es) → (i : ℕ) (e : RuleKey × Option RuleTarget) → slice_get es i ≡ Some e → rule_at es e.0 ≡ e.1
rule_at_key es distinct i e is = ap (λ o. unwrap_or o None) (place_at_key es distinct i e is)

-- ---- how many have a rule

abbrev pub number : Rules → ℕ
number rules = length (rule_routes rules)

entry_number : (k : RuleKey) (p : Place) (es : Rules) → number (entry_at k p ++ es) ≡ from_bool (is_ruled p) + number es
entry_number k None es = omega arith
entry_number k (Some None) es = omega arith
entry_number k (Some (Some rule)) es = let more : number (entry_at k (Some (Some rule)) ++ es) ≡ suc (number es) = refl in omega (arith, more)

pub four_number : (n : RuleName) (four : FourPlaces) (es : Rules) → number (four_entries (n, four) ++ es) ≡ ruled_count four + number es
four_number n four es =
    let d = entry_at (key_of n (Some Rdonly)) four.rdonly ++ es in
    let c = entry_at (key_of n (Some Replica)) four.replica ++ d in
    let b = entry_at (key_of n (Some Primary)) four.primary ++ c in
    let whole = ap number (four-tail n four es) in
    omega (arith, whole, entry_number (key_of n None) four.all b, entry_number (key_of n (Some Primary)) four.primary c, entry_number (key_of n (Some Replica)) four.replica d, entry_number (key_of n (Some Rdonly)) four.rdonly es)

put_number : (es : Rules) (e : RuleKey × Option RuleTarget) → number (put_by key_before es e) ≡ number (e ∷ es)
put_number [] e = refl
put_number (x ∷ es) e = by (key_before e.0 x.0) (put_number es e)
  where
    one : (x : RuleKey × Option RuleTarget) (es : Rules) → number (x ∷ es) ≡ from_bool (is_some x.1) + number es
    one (k, None) es = omega arith
    one (k, Some rule) es = let more : number ((k, Some rule) ∷ es) ≡ suc (number es) = refl in omega (arith, more)

    by : (t : Bool) → number (put_by key_before es e) ≡ number (e ∷ es) → number (if t then e ∷ x ∷ es else (x ∷ put_by key_before es e)) ≡ number (e ∷ x ∷ es)
    by true again = refl
    by false again = omega (arith, one x (put_by key_before es e), again, one e es, one e (x ∷ es), one x es)

remove_absent : (k : RuleKey) (es : Rules) → lookup (same_key k) es ≡ None → remove_entry (same_key k) es ≡ es
remove_absent k es none = remove_entry-none (same_key k) es none

ordered_number : (es : Rules) → IsDistinct same_key (keys_of es) → number (ordered key_before same_key es) ≡ number es
unfolding IsDistinct
ordered_number [] distinct = refl
ordered_number ((k, rule) ∷ es) distinct =
    let rest = ordered key_before same_key es in
    let none : lookup (same_key k) rest ≡ None = lookup-ordered key_before key_order same_key same_key_decides es k ∙ lookup_from_absent same_key same_key_decides es k distinct.0 in
    put_number (remove_entry (same_key k) rest) (k, rule) ∙ ap (λ l. number ((k, rule) ∷ l)) (remove_absent k rest none) ∙ by rule (ordered_number es distinct.1)
  where
    by : (rule : Option RuleTarget) → number (ordered key_before same_key es) ≡ number es → number ((k, rule) ∷ ordered key_before same_key es) ≡ number ((k, rule) ∷ es)
    by None again = again
    by (Some to) again = ap suc again

pub all_number : (names : Names) → AreDistinct names → number (listed names) ≡ number (rules_in names)
all_number names distinct = sym (ordered_number (listed names) (listed-distinct names distinct))

-- ---- sorted

-- such rules, with the codes of their keys
abbrev pub coded : RuleKey × Option RuleTarget → List ℕ × (RuleKey × Option RuleTarget)
coded r = (key_code r.0, r)

rising : (es : Rules) → Rises (map coded es) → IsDistinct same_key (keys_of es) → Ascends key_before es
unfolding IsDistinct
rising [] rises distinct = tt
rising (e ∷ es) rises distinct = (later e es rises.0 distinct.0, rising es rises.1 distinct.1)
  where
    later : (e : RuleKey × Option RuleTarget) (es : Rules) → AllByRecursion (λ y. comes_before y.0 (key_code e.0) ≡ false) (map coded es) → AllByRecursion (λ j. same_key e.0 j ≡ false) (keys_of es)
        → AllByRecursion (λ j. key_before e.0 j ≡ true) (keys_of es)
    later e [] rises other = tt
    later e (x ∷ es) rises other = (
      key_order.total x.0 e.0 (λ is. other_from same_key same_key_decides e.0 x.0 other.0 (sym is)) rises.0,
      later e es rises.1 other.1,
    )

-- each entry finds itself
self_found : (es : Rules) → IsDistinct same_key (keys_of es) → AllByRecursion (λ (e : RuleKey × Option RuleTarget). lookup (same_key e.0) es ≡ Some e.1) es
unfolding IsDistinct
self_found [] distinct = tt
self_found (e ∷ es) distinct = (rw (same_itself same_key same_key_decides e.0) refl, later e es es distinct.0 (self_found es distinct.1))
  where
    later : (e : RuleKey × Option RuleTarget) (es xs : Rules) → AllByRecursion (λ j. same_key e.0 j ≡ false) (keys_of xs) → AllByRecursion (λ (x : RuleKey × Option RuleTarget). lookup (same_key x.0) es ≡ Some x.1) xs
        → AllByRecursion (λ (x : RuleKey × Option RuleTarget). lookup (same_key x.0) (e ∷ es) ≡ Some x.1) xs
    later e es [] other all = tt
    later e es (x ∷ xs) other all = (rw (flipped_key x.0 e.0 ∙ other.0) all.0, later e es xs other.1 all.1)

-- what an entry of one list finds in another
found_among : (xs ys : Rules) (k : RuleKey) (v : Option RuleTarget) → AllByRecursion (λ (e : RuleKey × Option RuleTarget). lookup (same_key e.0) ys ≡ Some e.1) xs → lookup (same_key k) xs ≡ Some v → lookup (same_key k) ys ≡ Some v
found_among [] ys k v all is = absurd cc
found_among (x ∷ xs) ys k v all is = by (same_key k x.0) refl (found_among xs ys k v all.1)
  where
    by : (t : Bool) → same_key k x.0 ≡ t → (lookup (same_key k) xs ≡ Some v → lookup (same_key k) ys ≡ Some v) → lookup (same_key k) ys ≡ Some v
    by true t again =
        let value : Some x.1 ≡ Some v = rw t at is in
        subst (λ j. lookup (same_key j) ys ≡ Some v) (sym ((same_key_decides k x.0).0 t)) (all.0 ∙ value)
    by false t again = again (rw t at is)

same_found : (xs ys : Rules) → IsPermutation xs ys → IsDistinct same_key (keys_of xs) → IsDistinct same_key (keys_of ys) → (k : RuleKey) → lookup (same_key k) ys ≡ lookup (same_key k) xs
same_found xs ys same first second k = by (lookup (same_key k) xs) refl (lookup (same_key k) ys) refl
  where
    moved : (as' bs cs : Rules) → IsPermutation as' bs → AllByRecursion (λ (e : RuleKey × Option RuleTarget). lookup (same_key e.0) cs ≡ Some e.1) as' → AllByRecursion (λ (e : RuleKey × Option RuleTarget). lookup (same_key e.0) cs ≡ Some e.1) bs
    moved as' bs cs same all =
        recursion_from_All (λ (e : RuleKey × Option RuleTarget). lookup (same_key e.0) cs ≡ Some e.1) bs
        (All-permutation (λ (e : RuleKey × Option RuleTarget). lookup (same_key e.0) cs ≡ Some e.1) as' bs same (All-from_recursion (λ (e : RuleKey × Option RuleTarget). lookup (same_key e.0) cs ≡ Some e.1) as' all))

    by : (o : Option (Option RuleTarget)) → lookup (same_key k) xs ≡ o → (p : Option (Option RuleTarget)) → lookup (same_key k) ys ≡ p → lookup (same_key k) ys ≡ lookup (same_key k) xs
    by (Some v) is p at = found_among xs ys k v (moved ys xs ys (IsPermutation-sym xs ys same) (self_found ys second)) is ∙ sym is
    by None is (Some v) at = absurd (let h : None ≡ Some v = sym is ∙ found_among ys xs k v (moved xs ys xs same (self_found xs first)) at in cc)
    by None is None at = at ∙ sym is

pub sorted_names : (names : Names) (sorted : Rules) → AreDistinct names → IsPermutation (listed names) sorted → Rises (map coded sorted) → sorted ≡ rules_in names
sorted_names names sorted distinct same rises =
    let first = listed-distinct names distinct in
    let second : IsDistinct same_key (keys_of sorted) =
    IsDistinct-IsPermutation same_key flipped_key (keys_of (listed names)) (keys_of sorted) (IsPermutation-map (λ (r : RuleKey × Option RuleTarget). r.0) (listed names) sorted same) first in
    same_entries key_before key_order same_key same_key_decides sorted (rules_in names) (rising sorted rises second) (ascends names)
    (λ k. same_found (listed names) sorted same first second k ∙ sym (lookup-ordered key_before key_order same_key same_key_decides (listed names) k))
