-- What holds of texts holds where one more is put once, and tests that are joined.
use Rattle.std.proofs.Common.{◌≡◌, ℕ, ◌||◌, if◌then◌else◌, Bool, true, false, List, [], ◌∷◌, refl}
use Rattle.std.specs.List.{AllByRecursion}
use Rattle.mt_names.specs.Names.{same_text}
use Rattle.mt_model.specs.Documents.{comes_before}
use Rattle.mt_keyspace.specs.Written.{put_once}

pub all-put_once : (P : List ℕ → Type 0) (xs : List (List ℕ)) (x : List ℕ) → P x → AllByRecursion P xs → AllByRecursion P (put_once xs x)
all-put_once P [] x p all = (p, tt)
all-put_once P (y ∷ ys) x p all = by (all-put_once P ys x p all.1) (comes_before x y) (same_text x y)
  where
    by : AllByRecursion P (put_once ys x) → (b s : Bool) → AllByRecursion P (if b then x ∷ y ∷ ys else (if s then y ∷ ys else (y ∷ put_once ys x)))
    by later true s = (p, all)
    by later false true = all
    by later false false = (all.0, later)

pub or-turned : (b c r : Bool) → (b || (c || r)) ≡ (c || (b || r))
or-turned true true r = refl
or-turned true false r = refl
or-turned false true r = refl
or-turned false false r = refl

pub or-grouped : (b c r : Bool) → ((b || c) || r) ≡ (c || (b || r))
or-grouped true true r = refl
or-grouped true false r = refl
or-grouped false true r = refl
or-grouped false false r = refl

pub or-false : (b : Bool) → (b || false) ≡ b
or-false true = refl
or-false false = refl

pub or-true : (b : Bool) → (b || true) ≡ true
or-true true = refl
or-true false = refl
