-- Tests that decide equality, put together as `==` puts them for a struct and for an enum.
use Rattle.std.proofs.Common.{◌≡◌, Bool, true, false, ◌&&◌, List, [], ◌∷◌, None, Some, refl, sym, ap}
use Rattle.std.specs.Option.{option_eq}
use Rattle.std.proofs.lemmas.Bool.{true≢false}
use Rattle.mt_names.specs.Same.{DecidesEquality}
use Rattle.mt_names.proofs.BoolLemmas.{both}
use denote.Enum.Compared.{Each, by}
use denote.Enum.Declared.{Choice, left_or, right_or}
use denote.Struct.Field.{Field}
use denote.Struct.Values.{Values}
use mathlib.Core.Logic.{inl, inr}

-- nothing is left to tell apart
pub nothing_decides : DecidesEquality {K = Unit {0}} (λ a b. true)
nothing_decides a b = (λ _. refl, λ _. refl)

-- the last of some fields
pub last_decides : {A : Type 0} (f : A → A → Bool) → DecidesEquality f → DecidesEquality {K = A × Unit {0}} (λ x y. f x.0 y.0)
last_decides {A} f first x y = (λ is. ap (λ a. (a, tt)) ((first x.0 y.0).0 is), λ same. (first x.0 y.0).1 (ap (λ (z : A × Unit {0}). z.0) same))

and_true : (a b : Bool) → a ≡ true → b ≡ true → (a && b) ≡ true
and_true true b is too = too
and_true false b is too = is

same_pair : {A B : Type 0} (x y : A × B) → x.0 ≡ y.0 → x.1 ≡ y.1 → x ≡ y
same_pair x y one other = λ i. (one i, other i)

-- a field, and those behind it
pub pair_decides : {A B : Type 0} (f : A → A → Bool) (g : B → B → Bool) → DecidesEquality f → DecidesEquality g → DecidesEquality {K = A × B} (λ x y. f x.0 y.0 && g x.1 y.1)
pair_decides {A} {B} f g first rest x y = (
  λ is. let parts = both (f x.0 y.0) (g x.1 y.1) is in same_pair x y ((first x.0 y.0).0 parts.0) ((rest x.1 y.1).0 parts.1),
  λ same. and_true (f x.0 y.0) (g x.1 y.1) ((first x.0 y.0).1 (ap (λ (z : A × B). z.0) same)) ((rest x.1 y.1).1 (ap (λ (z : A × B). z.1) same)),
)

-- a struct, by its fields
pub struct_decides : {A B : Type 0} (fields : A → B) → ((x y : A) → fields x ≡ fields y → x ≡ y) → (f : B → B → Bool) → DecidesEquality f → DecidesEquality (λ x y. f (fields x) (fields y))
struct_decides fields one f decides x y = (λ is. one x y ((decides (fields x) (fields y)).0 is), λ same. (decides (fields x) (fields y)).1 (ap fields same))

-- an option
pub option_decides : {A : Type 0} (f : A → A → Bool) → DecidesEquality f → DecidesEquality (option_eq f)
option_decides f decides None None = (λ _. refl, λ _. refl)
option_decides f decides None (Some y) = (λ is. absurd (true≢false (sym is)), λ same. absurd cc)
option_decides f decides (Some x) None = (λ is. absurd (true≢false (sym is)), λ same. absurd cc)
option_decides {A} f decides (Some x) (Some y) = (λ is. ap Some ((decides x y).0 is), λ same. (decides x y).1 (some_one same))
  where
    some_one : Some x ≡ Some y → x ≡ y
    some_one same = cc

-- the tests of an enum's variants, each of which decides
abbrev pub EachDecides : (parts : List (List Field)) → Each Bool parts → Type 0
EachDecides [] each = Unit {0}
EachDecides (fields ∷ parts) each = DecidesEquality {K = Values fields} each.0 × EachDecides parts each.1

pub choice_decides : (parts : List (List Field)) (each : Each Bool parts) → EachDecides parts each → DecidesEquality {K = Choice parts} (by false false parts each)
choice_decides [] each all c d = absurd c
choice_decides (fields ∷ parts) each all (inl x) (inl y) = (λ is. ap inl ((all.0 x y).0 is), λ same. (all.0 x y).1 (ap (left_or x) same))
choice_decides (fields ∷ parts) each all (inl x) (inr d) = (λ is. absurd (true≢false (sym is)), λ same. absurd (apart same))
  where
    apart : inl x ≡ inr d → ⊥
    apart same = cc
choice_decides (fields ∷ parts) each all (inr c) (inl y) = (λ is. absurd (true≢false (sym is)), λ same. absurd (apart same))
  where
    apart : inr c ≡ inl y → ⊥
    apart same = cc
choice_decides (fields ∷ parts) each all (inr c) (inr d) =
    (λ is. ap inr ((choice_decides parts each.1 all.1 c d).0 is), λ same. (choice_decides parts each.1 all.1 c d).1 (ap (right_or c) same))
