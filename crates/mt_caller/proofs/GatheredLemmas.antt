-- What was gathered, where that was tested.
use Rattle.std.proofs.Common.{◌≡◌, true, Result, Ok, Err, sym}
use Rattle.std.proofs.lemmas.Bool.{true≢false}
use Rattle.std.specs.Result.{OnOk, is_ok}

-- what is so at Ok is so where it was tested
pub on_ok : {T E P : Type 0} (r : Result T E) → is_ok r ≡ true → OnOk r P → P
on_ok (Ok x) is p = p
on_ok (Err e) is p = absurd (true≢false (sym is))
