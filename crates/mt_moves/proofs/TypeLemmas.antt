-- A set of types that isn't empty has one of the three.
use Rattle.std.proofs.Common.{◌≡◌, Bool, true, false, not, ◌||◌, refl, sym, ◌∙◌}
use Rattle.std.specs.Prelude.{IsTrue, ◌↔◌}
use Rattle.std.proofs.lemmas.Bool.{true≢false}
use Rattle.mt_names.specs.declared.types.TypeSet.{TypeSet}
use Rattle.mt_names.specs.declared.types.TabletType.{TabletType}
use Rattle.mt_names.specs.declared.types.TabletType.TheVariants.{Primary, Replica, Rdonly}
use Rattle.mt_names.specs.Types.{has}

pub some_type : (set : TypeSet) (empty a b c : Bool) → (IsTrue empty ↔ ((type : TabletType) → has set type ≡ false)) → has set Primary ≡ a → has set Replica ≡ b → has set Rdonly ≡ c → not empty ≡ (a || b || c)
some_type set true true b c is p q r = absurd (true≢false (sym p ∙ is.0 refl Primary))
some_type set true false true c is p q r = absurd (true≢false (sym q ∙ is.0 refl Replica))
some_type set true false false true is p q r = absurd (true≢false (sym r ∙ is.0 refl Rdonly))
some_type set true false false false is p q r = refl
some_type set false true b c is p q r = refl
some_type set false false true c is p q r = refl
some_type set false false false true is p q r = refl
some_type set false false false false is p q r = absurd (true≢false (sym (is.1 none)))
  where
    none : (type : TabletType) → has set type ≡ false
    none Primary = p
    none Replica = q
    none Rdonly = r
