-- Truth values: the parts of an `and` that is true, and an `or` whose second part is.
use Rattle.std.proofs.Common.{◌≡◌, Bool, true, false, ◌&&◌, ◌||◌, refl, sym}
use Rattle.std.proofs.lemmas.Bool.{true≢false}

pub both : (a b : Bool) → (a && b) ≡ true → (a ≡ true) × (b ≡ true)
both true b is = (refl, is)
both false b is = absurd (true≢false (sym is))

pub or-true : (b : Bool) → (b || true) ≡ true
or-true true = refl
or-true false = refl
