-- What sorting by text keeps: what is there, how much of it, that it differs, and what is found at a name.
use Rattle.std.proofs.Common.{◌≡◌, ℕ, ◌+◌, ◌||◌, Bool, true, false, cond, if◌then◌else◌, List, [], ◌∷◌, map, fold, length, Some, refl, sym, ap, subst, ◌∙◌, arith}
use Rattle.std.proofs.lemmas.Cmp.{nat_list_eq_equiv}
use Rattle.std.proofs.lemmas.List.{length-map, map-id}
use Rattle.std.specs.List.{AllByRecursion, IsDistinct, list_any}
use Rattle.std.specs.Map.{keys_of, lookup}
use Rattle.std.specs.Option.{option_or}
use Rattle.mt_names.specs.Names.{same_text}
use Rattle.mt_names.proofs.SameLemmas.{same_text_decides}
use Rattle.mt_model.specs.Documents.{comes_before, keyspaces_in_order, put_by_text, sorted_texts}
use Rattle.mt_model.specs.Topology.{KeyspaceState, Keyspaces, TopologyState, keyspace_at}
use Rattle.mt_rules.proofs.PutLemmas.{all-keys-put, all-put, distinct-put, length-put, lookup-none, lookup-put, none_apart, of_seconds, or_none}
use Rattle.mt_keyspace.specs.Values.{by_name, by_themselves}
use Rattle.mt_keyspace.proofs.GatherLemmas.{or-false, or-grouped, or-turned}
use Rattle.mt_keyspace.proofs.SortLemmas.{themselves}

module _ {A : Type 0} where
  -- ---- what is there, and how much of it

  any-put : (test : A → Bool) (xs : List (List ℕ × A)) (x : List ℕ × A) → list_any test (map (λ y. y.1) (put_by_text xs x)) ≡ (test x.1 || list_any test (map (λ y. y.1) xs))
  any-put test [] x = refl
  any-put test (y ∷ ys) x = by (any-put test ys x) (comes_before x.0 y.0)
    where
      by : list_any test (map (λ z. z.1) (put_by_text ys x)) ≡ (test x.1 || list_any test (map (λ z. z.1) ys)) → (b : Bool)
          → list_any test (map (λ z. z.1) (if b then x ∷ y ∷ ys else (y ∷ put_by_text ys x))) ≡ (test x.1 || (test y.1 || list_any test (map (λ z. z.1) ys)))
      by again true = refl
      by again false = ap (λ r. test y.1 || r) again ∙ or-turned (test y.1) (test x.1) (list_any test (map (λ z. z.1) ys))

  any-sort : (test : A → Bool) (xs left : List (List ℕ × A)) → list_any test (map (λ y. y.1) (fold put_by_text xs left)) ≡ (list_any test (map (λ y. y.1) left) || list_any test (map (λ y. y.1) xs))
  any-sort test xs [] = refl
  any-sort test xs (x ∷ left) =
      any-sort test (put_by_text xs x) left ∙ ap (λ b. list_any test (map (λ y. y.1) left) || b) (any-put test xs x)
      ∙ sym (or-grouped (test x.1) (list_any test (map (λ y. y.1) left)) (list_any test (map (λ y. y.1) xs)))

  length-sort : (xs left : List (List ℕ × A)) → length (fold put_by_text xs left) ≡ length xs + length left
  length-sort xs [] = omega arith
  length-sort xs (x ∷ left) = let rest = length-sort (put_by_text xs x) left in let one = length-put xs x in omega (arith, rest, one)

  pub all-sort : (P : List ℕ × A → Type 0) (xs left : List (List ℕ × A)) → AllByRecursion P xs → AllByRecursion P left → AllByRecursion P (fold put_by_text xs left)
  all-sort P xs [] all rest = all
  all-sort P xs (x ∷ left) all rest = all-sort P (put_by_text xs x) left (all-put P xs x rest.0 all) rest.1

-- ---- names that differ

module _ {A : Type 0} (name : A → List ℕ) where
  still_apart : (x : List ℕ × A) (xs : List (List ℕ × A)) (left : List (List ℕ)) → AllByRecursion (λ m. same_text (name x.1) m ≡ false) left → AllByRecursion (λ m. AllByRecursion (λ n. same_text m n ≡ false) (map (λ y. name y.1) xs)) left
      → AllByRecursion (λ m. AllByRecursion (λ n. same_text m n ≡ false) (map (λ y. name y.1) (put_by_text xs x))) left
  still_apart x xs [] other all = tt
  still_apart x xs (m ∷ left) other all = (all-keys-put name (λ n. same_text m n ≡ false) xs x (nat_list_eq_equiv.symm m (name x.1) ∙ other.0) all.0, still_apart x xs left other.1 all.1)

  distinct-sort : (xs left : List (List ℕ × A)) → IsDistinct same_text (map (λ y. name y.1) xs) → IsDistinct same_text (map (λ y. name y.1) left)
      → AllByRecursion (λ m. AllByRecursion (λ n. same_text m n ≡ false) (map (λ y. name y.1) xs)) (map (λ y. name y.1) left) → IsDistinct same_text (map (λ y. name y.1) (fold put_by_text xs left))
  unfolding IsDistinct
  distinct-sort xs [] distinct rest apart = distinct
  distinct-sort xs (x ∷ left) distinct rest apart =
      distinct-sort (put_by_text xs x) left (distinct-put same_text nat_list_eq_equiv.symm name xs x apart.0 distinct) rest.1 (still_apart x xs (map (λ y. name y.1) left) rest.0 apart.1)

-- ---- texts in their order

same_map : {A : Type 0} (xs : List (List ℕ × A)) (name : A → List ℕ) → map name (map (λ x. x.1) xs) ≡ map (λ x. name x.1) xs
same_map [] name = refl
same_map (x ∷ xs) name = ap (λ l. name x.1 ∷ l) (same_map xs name)

pub any-sorted : (test : List ℕ → Bool) (texts : List (List ℕ)) → list_any test (sorted_texts texts) ≡ list_any test texts
any-sorted test texts = any-sort test [] (by_themselves texts) ∙ or-false (list_any test (map (λ x. x.1) (by_themselves texts))) ∙ ap (list_any test) (themselves texts)

pub distinct-sorted : (texts : List (List ℕ)) → IsDistinct same_text texts → IsDistinct same_text (sorted_texts texts)
unfolding IsDistinct
distinct-sorted texts distinct =
    let items = by_themselves texts in
    subst (IsDistinct same_text) (sym (same_map (fold put_by_text [] items) (λ t. t)) ∙ map-id (sorted_texts texts))
    (distinct-sort (λ t. t) [] items tt (subst (IsDistinct same_text) (sym (sym (same_map items (λ t. t)) ∙ map-id (map (λ x. x.1) items) ∙ themselves texts)) distinct) (none_apart (λ m n. same_text m n ≡ false) (map (λ x. x.1) items)))

pub length-sorted : (texts : List (List ℕ)) → length (sorted_texts texts) ≡ length texts
length-sorted texts =
    let items = by_themselves texts in
    let sorted : length (fold put_by_text [] items) ≡ length items = let all : length (fold put_by_text [] items) ≡ 0 + length items = length-sort [] items in omega (arith, all) in
    length-map (fold put_by_text [] items) (λ x. x.1) ∙ sorted ∙ sym (length-map items (λ x. x.1)) ∙ ap length (themselves texts)

-- ---- keyspaces in their order

named_by : (ks : Keyspaces) → map (λ x. x.1) (by_name ks) ≡ ks
named_by [] = refl
named_by (k ∷ ks) = ap (λ l. k ∷ l) (named_by ks)

pub all-by_name : (P : List ℕ × KeyspaceState → Type 0) (ks : Keyspaces) → AllByRecursion P ks → AllByRecursion (λ x. P x.1) (by_name ks)
all-by_name P [] all = tt
all-by_name P (k ∷ ks) all = (all.0, all-by_name P ks all.1)

pub all-ordered : (P : List ℕ × KeyspaceState → Type 0) (t : TopologyState) → AllByRecursion P t.keyspaces → AllByRecursion P (keyspaces_in_order t)
all-ordered P t all = of_seconds P (fold put_by_text [] (by_name t.keyspaces)) (all-sort (λ x. P x.1) [] (by_name t.keyspaces) tt (all-by_name P t.keyspaces all))

pub distinct-ordered : (t : TopologyState) → IsDistinct same_text (keys_of t.keyspaces) → IsDistinct same_text (keys_of (keyspaces_in_order t))
unfolding IsDistinct
distinct-ordered t distinct =
    let items = by_name t.keyspaces in
    subst (IsDistinct same_text) (sym (same_map (fold put_by_text [] items) (λ k. k.0)))
    (distinct-sort (λ k. k.0) [] items tt (subst (IsDistinct same_text) (sym (sym (same_map items (λ k. k.0)) ∙ ap keys_of (named_by t.keyspaces))) distinct) (none_apart (λ m n. same_text m n ≡ false) (map (λ x. x.1.0) items)))

pub length-ordered : (t : TopologyState) → length (keyspaces_in_order t) ≡ length t.keyspaces
length-ordered t =
    let items = by_name t.keyspaces in
    let sorted : length (fold put_by_text [] items) ≡ length items = let all : length (fold put_by_text [] items) ≡ 0 + length items = length-sort [] items in omega (arith, all) in
    length-map (fold put_by_text [] items) (λ x. x.1) ∙ sorted ∙ sym (length-map items (λ x. x.1)) ∙ ap length (named_by t.keyspaces)

-- what is found at a name
lookup-sort : (n : List ℕ) (xs left : List (List ℕ × (List ℕ × KeyspaceState))) → IsDistinct same_text (map (λ y. y.1.0) left)
    → AllByRecursion (λ m. AllByRecursion (λ o. same_text m o ≡ false) (map (λ y. y.1.0) xs)) (map (λ y. y.1.0) left)
    → lookup (same_text n) (map (λ y. y.1) (fold put_by_text xs left)) ≡ option_or (lookup (same_text n) (map (λ y. y.1) left)) (lookup (same_text n) (map (λ y. y.1) xs))
unfolding IsDistinct
lookup-sort n xs [] distinct apart = refl
lookup-sort n xs (x ∷ left) distinct apart =
    lookup-sort n (put_by_text xs x) left distinct.1 (still_apart (λ k. k.0) x xs (map (λ y. y.1.0) left) distinct.0 apart.1)
    ∙ ap (option_or (lookup (same_text n) (map (λ y. y.1) left))) (lookup-put same_text same_text_decides n xs x apart.0)
    ∙ by (same_text n x.1.0) refl
  where
    by : (b : Bool) → same_text n x.1.0 ≡ b
        → option_or (lookup (same_text n) (map (λ y. y.1) left)) (cond (same_text n x.1.0) (Some x.1.1) (lookup (same_text n) (map (λ y. y.1) xs)))
        ≡ option_or (cond (same_text n x.1.0) (Some x.1.1) (lookup (same_text n) (map (λ y. y.1) left))) (lookup (same_text n) (map (λ y. y.1) xs))
    by true b =
        let none = ap (λ m. lookup (same_text m) (map (λ y. y.1) left)) ((same_text_decides n x.1.0).0 b) ∙ lookup-none same_text x.1.0 left distinct.0 in
        rw (none, b) refl
    by false b = rw b refl

pub keyspace_at-ordered : (t : TopologyState) (n : List ℕ) → IsDistinct same_text (keys_of t.keyspaces) → keyspace_at (keyspaces_in_order t) n ≡ keyspace_at t.keyspaces n
unfolding IsDistinct
keyspace_at-ordered t n distinct =
    let items = by_name t.keyspaces in
    lookup-sort n [] items (subst (IsDistinct same_text) (sym (sym (same_map items (λ k. k.0)) ∙ ap keys_of (named_by t.keyspaces))) distinct) (none_apart (λ m n. same_text m n ≡ false) (map (λ x. x.1.0) items))
    ∙ or_none (lookup (same_text n) (map (λ y. y.1) items)) ∙ ap (lookup (same_text n)) (named_by t.keyspaces)
