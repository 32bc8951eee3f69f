-- The places of a name's four keys, and what each key finds among the places of all names.
use Rattle.std.proofs.Common.{◌≡◌, ◌≢◌, Bool, true, false, cond, [], ◌∷◌, ◌++◌, Option, None, Some, option_and_then, append_assoc, refl, sym, ap, ap₂, subst, ◌∙◌, rules}
use Rattle.std.specs.List.{IsDistinct}
use Rattle.std.specs.Map.{keys_of, lookup}
use Rattle.std.specs.Option.{option_or}
use Rattle.mt_names.specs.declared.keys.RuleKey.{RuleKey}
use Rattle.mt_names.specs.declared.types.TabletType.{TabletType}
use Rattle.mt_names.specs.declared.types.TabletType.TheVariants.{Primary, Replica, Rdonly}
use Rattle.mt_names.specs.Same.{DecidesEquality, same_key}
use Rattle.mt_names.proofs.EntryLemmas.{absent_from_lookup, apart, lookup_from_absent, other_from, same_itself}
use Rattle.mt_names.proofs.SameLemmas.{same_key_decides}
use Rattle.mt_model.specs.Topology.{Rules}
use Rattle.mt_rules.specs.declared.four.FourPlaces.{FourPlaces}
use Rattle.mt_rules.specs.declared.name.RuleName.{RuleName}
use Rattle.mt_rules.specs.Places.{Names, Place, entry_at, four_entries, key_of, listed, name_of, place_at, place_in, same_name, with_place_at}

pub same_name_decides : DecidesEquality same_name
same_name_decides = search rules

-- ---- four places

pub place-set : (four : FourPlaces) (t : Option TabletType) (p : Place) → place_at (with_place_at four t p) t ≡ p
place-set four None p = refl
place-set four (Some Primary) p = refl
place-set four (Some Replica) p = refl
place-set four (Some Rdonly) p = refl

pub place-other : (four : FourPlaces) (t u : Option TabletType) (p : Place) → t ≢ u → place_at (with_place_at four t p) u ≡ place_at four u
place-other four None None p other = absurd (other refl)
place-other four None (Some Primary) p other = refl
place-other four None (Some Replica) p other = refl
place-other four None (Some Rdonly) p other = refl
place-other four (Some Primary) None p other = refl
place-other four (Some Primary) (Some Primary) p other = absurd (other refl)
place-other four (Some Primary) (Some Replica) p other = refl
place-other four (Some Primary) (Some Rdonly) p other = refl
place-other four (Some Replica) None p other = refl
place-other four (Some Replica) (Some Primary) p other = refl
place-other four (Some Replica) (Some Replica) p other = absurd (other refl)
place-other four (Some Replica) (Some Rdonly) p other = refl
place-other four (Some Rdonly) None p other = refl
place-other four (Some Rdonly) (Some Primary) p other = refl
place-other four (Some Rdonly) (Some Replica) p other = refl
place-other four (Some Rdonly) (Some Rdonly) p other = absurd (other refl)

-- ---- keys of names

type_apart : (n : RuleName) (t u : Option TabletType) → t ≢ u → same_key (key_of n t) (key_of n u) ≡ false
type_apart n t u other = apart same_key same_key_decides (key_of n t) (key_of n u) (λ e. other (ap (λ (k : RuleKey). k.tablet_type) e))

name_apart : (m n : RuleName) (t u : Option TabletType) → m ≢ n → same_key (key_of m t) (key_of n u) ≡ false
name_apart m n t u other = apart same_key same_key_decides (key_of m t) (key_of n u) (λ e. other (ap name_of e))

itself : (k : RuleKey) → same_key k k ≡ true
itself k = same_itself same_key same_key_decides k

-- ---- the entries of a name

lookup-append : (k : RuleKey) (xs ys : Rules) → lookup (same_key k) (xs ++ ys) ≡ option_or (lookup (same_key k) xs) (lookup (same_key k) ys)
lookup-append k [] ys = refl
lookup-append k (x ∷ xs) ys = by (same_key k x.0) (lookup-append k xs ys)
  where
    by : (t : Bool) → lookup (same_key k) (xs ++ ys) ≡ option_or (lookup (same_key k) xs) (lookup (same_key k) ys)
        → cond t (Some x.1) (lookup (same_key k) (xs ++ ys)) ≡ option_or (cond t (Some x.1) (lookup (same_key k) xs)) (lookup (same_key k) ys)
    by true again = refl
    by false again = again

lookup-entry : (k j : RuleKey) (p : Place) → lookup (same_key k) (entry_at j p) ≡ cond (same_key k j) p None
lookup-entry k j None = by (same_key k j)
  where
    by : (t : Bool) → None ≡ cond {A = Place} t None None
    by true = refl
    by false = refl
lookup-entry k j (Some rule) = refl

or_none : (p : Place) → option_or p None ≡ p
or_none None = refl
or_none (Some rule) = refl

-- what is found among four entries, by which key it is
abbrev among_four : FourPlaces → Bool → Bool → Bool → Bool → Place
among_four four a b c d = option_or (cond a four.all None) (option_or (cond b four.primary None) (option_or (cond c four.replica None) (cond d four.rdonly None)))

lookup-among : (k : RuleKey) (n : RuleName) (four : FourPlaces) → lookup (same_key k) (four_entries (n, four))
    ≡ among_four four (same_key k (key_of n None)) (same_key k (key_of n (Some Primary))) (same_key k (key_of n (Some Replica))) (same_key k (key_of n (Some Rdonly)))
lookup-among k n four =
    let a = entry_at (key_of n None) four.all in
    let b = entry_at (key_of n (Some Primary)) four.primary in
    let c = entry_at (key_of n (Some Replica)) four.replica in
    let d = entry_at (key_of n (Some Rdonly)) four.rdonly in
    lookup-append k a (b ++ (c ++ d))
    ∙ ap₂ option_or (lookup-entry k (key_of n None) four.all)
    (lookup-append k b (c ++ d)
    ∙ ap₂ option_or (lookup-entry k (key_of n (Some Primary)) four.primary)
    (lookup-append k c d ∙ ap₂ option_or (lookup-entry k (key_of n (Some Replica)) four.replica) (lookup-entry k (key_of n (Some Rdonly)) four.rdonly)))

-- a key of the name
four-here : (n : RuleName) (t : Option TabletType) (four : FourPlaces) → lookup (same_key (key_of n t)) (four_entries (n, four)) ≡ place_at four t
four-here n None four = lookup-among (key_of n None) n four ∙ rw (itself (key_of n None), type_apart n None (Some Primary) (λ e. cc)) (or_none four.all)
four-here n (Some Primary) four = lookup-among (key_of n (Some Primary)) n four ∙ rw (itself (key_of n (Some Primary)), type_apart n (Some Primary) None (λ e. cc)) (or_none four.primary)
four-here n (Some Replica) four = lookup-among (key_of n (Some Replica)) n four ∙ rw (itself (key_of n (Some Replica)), type_apart n (Some Replica) None (λ e. cc)) (or_none four.replica)
four-here n (Some Rdonly) four = lookup-among (key_of n (Some Rdonly)) n four ∙ rw (itself (key_of n (Some Rdonly)), type_apart n (Some Rdonly) None (λ e. cc)) refl

other_four : (four : FourPlaces) (a b c d : Bool) → a ≡ false → b ≡ false → c ≡ false → d ≡ false → among_four four a b c d ≡ None
other_four four a b c d first second third fourth = rw (first, second, third, fourth) refl

-- a key of another name
four-other : (m n : RuleName) (t : Option TabletType) (four : FourPlaces) → m ≢ n → lookup (same_key (key_of m t)) (four_entries (n, four)) ≡ None
four-other m n t four other =
    lookup-among (key_of m t) n four
    ∙ other_four four (same_key (key_of m t) (key_of n None)) (same_key (key_of m t) (key_of n (Some Primary))) (same_key (key_of m t) (key_of n (Some Replica))) (same_key (key_of m t) (key_of n (Some Rdonly)))
    (name_apart m n t None other) (name_apart m n t (Some Primary) other) (name_apart m n t (Some Replica) other) (name_apart m n t (Some Rdonly) other)

-- ---- the entries of all names

pub listed-found : (names : Names) (k : RuleKey) → IsDistinct same_name (keys_of names) → lookup (same_key k) (listed names) ≡ place_in names k
unfolding IsDistinct
listed-found [] k distinct = refl
listed-found (e ∷ es) k distinct = lookup-append k (four_entries e) (listed es) ∙ by (same_name (name_of k) e.0) refl (listed-found es k distinct.1)
  where
    at : Option FourPlaces → Place
    at o = option_and_then (λ four. place_at four k.tablet_type) o

    by : (t : Bool) → same_name (name_of k) e.0 ≡ t → lookup (same_key k) (listed es) ≡ place_in es k
        → option_or (lookup (same_key k) (four_entries e)) (lookup (same_key k) (listed es)) ≡ option_and_then (λ four. place_at four k.tablet_type) (cond (same_name (name_of k) e.0) (Some e.1) (lookup (same_name (name_of k)) es))
    by true t again =
        let is : name_of k ≡ e.0 = (same_name_decides (name_of k) e.0).0 t in
        let absent : lookup (same_name (name_of k)) es ≡ None = subst (λ n. lookup (same_name n) es ≡ None) (sym is) (lookup_from_absent same_name same_name_decides es e.0 distinct.0) in
        let here : lookup (same_key k) (four_entries e) ≡ place_at e.1 k.tablet_type = subst (λ n. lookup (same_key k) (four_entries (n, e.1)) ≡ place_at e.1 k.tablet_type) is (four-here (name_of k) k.tablet_type e.1) in
        ap₂ option_or here (again ∙ ap (λ o. option_and_then (λ four. place_at four k.tablet_type) o) absent) ∙ or_none (place_at e.1 k.tablet_type)
        ∙ sym (ap (λ b. option_and_then (λ four. place_at four k.tablet_type) (cond b (Some e.1) (lookup (same_name (name_of k)) es))) t)
    by false t again =
        ap₂ option_or (four-other (name_of k) e.0 k.tablet_type e.1 (other_from same_name same_name_decides (name_of k) e.0 t)) again
        ∙ sym (ap (λ b. option_and_then (λ four. place_at four k.tablet_type) (cond b (Some e.1) (lookup (same_name (name_of k)) es))) t)

-- no key is listed twice
distinct-entry : (j : RuleKey) (p : Place) (es : Rules) → lookup (same_key j) es ≡ None → IsDistinct same_key (keys_of es) → IsDistinct same_key (keys_of (entry_at j p ++ es))
unfolding IsDistinct
distinct-entry j None es none distinct = distinct
distinct-entry j (Some rule) es none distinct = (absent_from_lookup same_key same_key_decides es j none, distinct)

-- another key finds what it found
entry-other : (k j : RuleKey) (p : Place) (es : Rules) → same_key k j ≡ false → lookup (same_key k) (entry_at j p ++ es) ≡ lookup (same_key k) es
entry-other k j None es other = refl
entry-other k j (Some rule) es other = rw other refl

pub four-tail : (n : RuleName) (four : FourPlaces) (es : Rules) → four_entries (n, four) ++ es
    ≡ entry_at (key_of n None) four.all ++ (entry_at (key_of n (Some Primary)) four.primary ++ (entry_at (key_of n (Some Replica)) four.replica ++ (entry_at (key_of n (Some Rdonly)) four.rdonly ++ es)))
four-tail n four es =
    let a = entry_at (key_of n None) four.all in
    let b = entry_at (key_of n (Some Primary)) four.primary in
    let c = entry_at (key_of n (Some Replica)) four.replica in
    let d = entry_at (key_of n (Some Rdonly)) four.rdonly in
    append_assoc a (b ++ (c ++ d)) es ∙ ap (λ l. a ++ l) (append_assoc b (c ++ d) es ∙ ap (λ l. b ++ l) (append_assoc c d es))

distinct-four : (n : RuleName) (four : FourPlaces) (es : Rules) → ((t : Option TabletType) → lookup (same_key (key_of n t)) es ≡ None) → IsDistinct same_key (keys_of es) → IsDistinct same_key (keys_of (four_entries (n, four) ++ es))
distinct-four n four es none distinct =
    let kb = key_of n (Some Primary) in
    let kc = key_of n (Some Replica) in
    let kd = key_of n (Some Rdonly) in
    let ka = key_of n None in
    let d = entry_at kd four.rdonly ++ es in
    let c = entry_at kc four.replica ++ d in
    let b = entry_at kb four.primary ++ c in
    let in_d : IsDistinct same_key (keys_of d) = distinct-entry kd four.rdonly es (none (Some Rdonly)) distinct in
    let none_d : (t : Option TabletType) → t ≢ Some Rdonly → lookup (same_key (key_of n t)) d ≡ None = λ t other. entry-other (key_of n t) kd four.rdonly es (type_apart n t (Some Rdonly) other) ∙ none t in
    let in_c : IsDistinct same_key (keys_of c) = distinct-entry kc four.replica d (none_d (Some Replica) (λ e. cc)) in_d in
    let none_c : (t : Option TabletType) → t ≢ Some Rdonly → t ≢ Some Replica → lookup (same_key (key_of n t)) c ≡ None = λ t other also. entry-other (key_of n t) kc four.replica d (type_apart n t (Some Replica) also) ∙ none_d t other in
    let in_b : IsDistinct same_key (keys_of b) = distinct-entry kb four.primary c (none_c (Some Primary) (λ e. cc) (λ e. cc)) in_c in
    let none_b : lookup (same_key ka) b ≡ None = entry-other ka kb four.primary c (type_apart n None (Some Primary) (λ e. cc)) ∙ none_c None (λ e. cc) (λ e. cc) in
    subst (λ l. IsDistinct same_key (keys_of l)) (sym (four-tail n four es)) (distinct-entry ka four.all b none_b in_b)

pub listed-distinct : (names : Names) → IsDistinct same_name (keys_of names) → IsDistinct same_key (keys_of (listed names))
unfolding IsDistinct
listed-distinct [] distinct = tt
listed-distinct (e ∷ es) distinct =
    distinct-four e.0 e.1 (listed es)
    (λ t. listed-found es (key_of e.0 t) distinct.1 ∙ ap (λ o. option_and_then (λ four. place_at four t) o) (lookup_from_absent same_name same_name_decides es e.0 distinct.0))
    (listed-distinct es distinct.1)
