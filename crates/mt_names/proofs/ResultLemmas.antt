-- Steps that may be refused, one after another.
use Rattle.std.proofs.Common.{◌≡◌, ◌↔◌, ℕ, Result, Ok, Err, IsOk, is_ok, refl, sym, ap, ◌∙◌}
use Rattle.std.proofs.lemmas.Bool.{true≢false}
use Rattle.mt_names.specs.declared.fault.NameFault.{NameFault}
use Rattle.mt_names.specs.Keys.{fault_behind}
use Rattle.mt_names.specs.Results.{◌>>=◌}

-- where the whole was taken, so was the first step, and the next one took its value
pub after_step : {A B E : Type 0} (r : Result A E) (f : A → Result B E) (y : B) → (r >>= f) ≡ Ok y → (x : A) × (r ≡ Ok x) × (f x ≡ Ok y)
after_step (Ok x) f y e = (x, refl, e)
after_step (Err fault) f y e = absurd cc

pub Ok-fault_behind : {A : Type 0} (front : ℕ) (r : Result A NameFault) (x : A) → fault_behind front r ≡ Ok x → r ≡ Ok x
Ok-fault_behind front (Ok y) x e = e
Ok-fault_behind front (Err fault) x e = absurd cc

-- an answer that is what was read is taken exactly where the text is one
pub accepts : {A E : Type 0} (Is : Type 0) (read r : Result A E) → r ≡ read → ((x : A) → read ≡ Ok x → Is) → (Is → IsOk read) → IsOk r ↔ Is
accepts {A} {E} Is read r e is_one is_read = (by r e, λ is. ap is_ok e ∙ is_read is)
  where
    by : (r : Result A E) → r ≡ read → IsOk r → Is
    by (Ok x) e ok = is_one x (sym e)
    by (Err fault) e ok = absurd (true≢false (sym ok))
