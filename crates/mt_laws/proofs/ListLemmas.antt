-- What holds of each item of a list holds of each item of lists that are made of it.
use Rattle.std.proofs.Common.{◌≡◌, ℕ, Bool, true, false, not, cond, List, [], ◌∷◌, ◌++◌, Option, None, Some, refl, zero, suc, take}
use Rattle.std.specs.List.{AllByRecursion, filter, flat_map, fold}
use Rattle.std.specs.Map.{lookup, remove_entry, set_value}
use Rattle.std.specs.Option.{option_map_or}
use Rattle.std.specs.Prelude.{⊤, find, map, option_and_then, option_map}
use Rattle.mt_names.specs.Names.{same_text}
use Rattle.mt_model.specs.Documents.{comes_before, put_by_text, sorted_by_text}
use Rattle.mt_plain.specs.Plain.{each_once}

-- ---- a test, and what holds on either side

pub cond-holds : {A : Type 0} (P : A → Type 0) (test : Bool) (x y : A) → (test ≡ true → P x) → (test ≡ false → P y) → P (cond test x y)
cond-holds P true x y first second = first refl
cond-holds P false x y first second = second refl

-- a function of either
pub cond-ap : {A B : Type 0} (f : A → B) (test : Bool) (x y : A) → f (cond test x y) ≡ cond test (f x) (f y)
cond-ap f true x y = refl
cond-ap f false x y = refl

pub cond-either : {A : Type 0} (P : A → Type 0) (test : Bool) (x y : A) → P x → P y → P (cond test x y)
cond-either P true x y first second = first
cond-either P false x y first second = second

-- ---- an option

-- what holds of the value, where there is one
abbrev pub OfSome : {A : Type 0} → (A → Type 0) → Option A → Type 0
OfSome P None = ⊤
OfSome P (Some x) = P x

pub option_map-of : {A B : Type 0} (P : A → Type 0) (Q : B → Type 0) (f : A → B) (o : Option A) → ((x : A) → P x → Q (f x)) → OfSome P o → OfSome Q (option_map f o)
option_map-of P Q f None each of = tt
option_map-of P Q f (Some x) each of = each x of

pub option_and_then-of : {A B : Type 0} (P : A → Type 0) (Q : B → Type 0) (f : A → Option B) (o : Option A) → ((x : A) → P x → OfSome Q (f x)) → OfSome P o → OfSome Q (option_and_then f o)
option_and_then-of P Q f None each of = tt
option_and_then-of P Q f (Some x) each of = each x of

pub option_map_or-of : {A B : Type 0} (P : A → Type 0) (Q : B → Type 0) (f : A → B) (o : Option A) (other : B) → ((x : A) → P x → Q (f x)) → Q other → OfSome P o → Q (option_map_or f o other)
option_map_or-of P Q f None other each none of = none
option_map_or-of P Q f (Some x) other each none of = each x of

-- ---- lists

module _ {A : Type 0} (P : A → Type 0) where
  pub append-all : (xs ys : List A) → AllByRecursion P xs → AllByRecursion P ys → AllByRecursion P (xs ++ ys)
  append-all [] ys first second = second
  append-all (x ∷ xs) ys first second = (first.0, append-all xs ys first.1 second)

  pub filter-all : (test : A → Bool) (xs : List A) → AllByRecursion P xs → AllByRecursion P (filter test xs)
  filter-all test [] all = tt
  filter-all test (x ∷ xs) all =
      let again = filter-all test xs all.1 in
      cond-either (AllByRecursion P) (test x) (x ∷ filter test xs) (filter test xs) (all.0, again) again

  pub take-all : (n : ℕ) (xs : List A) → AllByRecursion P xs → AllByRecursion P (take n xs)
  take-all zero xs all = tt
  take-all (suc n) [] all = tt
  take-all (suc n) (x ∷ xs) all = (all.0, take-all n xs all.1)

  pub find-of : (test : A → Bool) (xs : List A) → AllByRecursion P xs → OfSome P (find test xs)
  find-of test [] all = tt
  find-of test (x ∷ xs) all = cond-either (OfSome P) (test x) (Some x) (find test xs) all.0 (find-of test xs all.1)

  pub fold-holds : {B : Type 0} (Q : B → Type 0) (f : B → A → B) (b : B) (xs : List A) → ((c : B) (x : A) → Q c → P x → Q (f c x)) → Q b → AllByRecursion P xs → Q (fold f b xs)
  fold-holds Q f b [] each first all = first
  fold-holds Q f b (x ∷ xs) each first all = fold-holds Q f (f b x) xs each (each b x first all.0) all.1

  module _ {B : Type 0} (Q : B → Type 0) where
    pub map-all : (f : A → B) (xs : List A) → ((x : A) → P x → Q (f x)) → AllByRecursion P xs → AllByRecursion Q (map f xs)
    map-all f [] each all = tt
    map-all f (x ∷ xs) each all = (each x all.0, map-all f xs each all.1)

module _ {A B : Type 0} (P : A → Type 0) (Q : B → Type 0) where
  pub flat_map-all : (f : A → List B) (xs : List A) → ((x : A) → P x → AllByRecursion Q (f x)) → AllByRecursion P xs → AllByRecursion Q (flat_map f xs)
  flat_map-all f [] each all = tt
  flat_map-all f (x ∷ xs) each all = append-all Q (f x) (flat_map f xs) (each x all.0) (flat_map-all f xs each all.1)

-- whatever the items are
pub each-all : {A : Type 0} (P : A → Type 0) (xs : List A) → ((x : A) → P x) → AllByRecursion P xs
each-all P [] each = tt
each-all P (x ∷ xs) each = (each x, each-all P xs each)

pub each-mapped : {A B : Type 0} (Q : B → Type 0) (f : A → B) (xs : List A) → ((x : A) → Q (f x)) → AllByRecursion Q (map f xs)
each-mapped Q f [] each = tt
each-mapped Q f (x ∷ xs) each = (each x, each-mapped Q f xs each)

-- ---- lists of entries

module _ {K X : Type 0} (P : K × X → Type 0) (test : K → Bool) where
  pub remove_entry-all : (es : List (K × X)) → AllByRecursion P es → AllByRecursion P (remove_entry test es)
  remove_entry-all [] all = tt
  remove_entry-all (e ∷ es) all =
      cond-either (AllByRecursion P) (test e.0) es (e ∷ remove_entry test es) all.1 (all.0, remove_entry-all es all.1)

  pub set_value-all : (es : List (K × X)) (v : X) → ((e : K × X) → P e → P (e.0, v)) → AllByRecursion P es → AllByRecursion P (set_value test es v)
  set_value-all [] v each all = tt
  set_value-all (e ∷ es) v each all =
      cond-either (AllByRecursion P) (test e.0) ((e.0, v) ∷ es) (e ∷ set_value test es v) (each e all.0, all.1) (all.0, set_value-all es v each all.1)

  pub lookup-of : (Q : X → Type 0) (es : List (K × X)) → ((e : K × X) → P e → Q e.1) → AllByRecursion P es → OfSome Q (lookup test es)
  lookup-of Q [] each all = tt
  lookup-of Q (e ∷ es) each all = cond-either (OfSome Q) (test e.0) (Some e.1) (lookup test es) (each e all.0) (lookup-of Q es each all.1)

-- ---- lists in the order of texts

module _ {A : Type 0} (P : A → Type 0) where
  put_by_text-all : (xs : List (List ℕ × A)) (x : List ℕ × A) → AllByRecursion (λ y. P y.1) xs → P x.1 → AllByRecursion (λ y. P y.1) (put_by_text xs x)
  put_by_text-all [] x all first = (first, tt)
  put_by_text-all (y ∷ ys) x all first =
      cond-either (AllByRecursion (λ z. P z.1)) (comes_before x.0 y.0) (x ∷ y ∷ ys) (y ∷ put_by_text ys x) (first, all) (all.0, put_by_text-all ys x all.1 first)

  pub sorted_by_text-all : (text : A → List ℕ) (items : List A) → AllByRecursion P items → AllByRecursion P (sorted_by_text text items)
  sorted_by_text-all text items all =
      let pairs = map (λ item. (text item, item)) items in
      map-all (λ y. P y.1) P (λ x. x.1) (fold put_by_text [] pairs) (λ x is. is)
      (fold-holds (λ y. P y.1) (AllByRecursion (λ y. P y.1)) put_by_text [] pairs (λ c x held is. put_by_text-all c x held is) tt
      (map-all P (λ y. P y.1) (λ item. (text item, item)) items (λ x is. is) all))

-- names as a set are some of them
pub each_once-all : (P : List ℕ → Type 0) (names : List (List ℕ)) → AllByRecursion P names → AllByRecursion P (each_once names)
each_once-all P [] all = tt
each_once-all P (name ∷ names) all = (all.0, filter-all P (λ n. not (same_text n name)) (each_once names) (each_once-all P names all.1))
