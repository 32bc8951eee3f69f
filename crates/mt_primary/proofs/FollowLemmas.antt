-- What is written back of two parts, of each of which a part was lent.
use Rattle.std.proofs.Common.{◌≡◌, refl, [], ◌∷◌}
use seplogic.Ra.Ura.{Ura}
use base.Logic.{ent, sep, wand}
use base.Fml.{GName, fres, fsep}
use types.Follow.{followed₂}
use types.Kit.{‵, ◌$◌, ◌∵◌, !, qed, each, assume, move, use2, rewrite, fsplit, join, done}
use types.Logic.{Logic, sem}
use denote.Follow.{both_by, follows, follows_both, followed}
use denote.Memory.{mem}
use denote.RattleType.{RattleType}

module _ {M : Type 1} {𝓤 : Ura M} (𝓛 : Logic 𝓤) (R T U V W : RattleType) (G : T.Denot → U.Denot → R.Denot) (F₁ : V.Denot → T.Denot) (F₂ : W.Denot → U.Denot) (H : V.Denot → W.Denot → R.Denot)
    (same : (x : V.Denot) (y : W.Denot) → G (F₁ x) (F₂ y) ≡ H x y) (γ γ₁ γ₂ γ₃ γ₄ : GName) where
  open 𝓛 use {A}

  pub both_then : ent 𝓤 (sep 𝓤 (sem 𝓛 (follows_both R T U γ γ₁ γ₂ G)) (sep 𝓤 (sem 𝓛 (follows T V γ₁ γ₃ F₁)) (sem 𝓛 (follows U W γ₂ γ₄ F₂)))) (sem 𝓛 (follows_both R V W γ γ₃ γ₄ H))
  unfolding both_by
  both_then =
      qed 𝓛 (‵ (follows_both R T U γ γ₁ γ₂ G) ∷ ‵ (follows T V γ₁ γ₃ F₁) ∷ ‵ (follows U W γ₂ γ₄ F₂) ∷ []) ∵
      each ! (λ (w : V.Denot × W.Denot). wand 𝓤 (sep 𝓤 (A.res γ₃ (V.coded.code w.0)) (A.res γ₄ (W.coded.code w.1))) (A.res γ (R.coded.code (H w.0 w.1)))) (λ w.
      assume ! (‵ (fsep (fres γ₃ (V.coded.code w.0)) (fres γ₄ (W.coded.code w.1)))) $ fsplit ! $
      -- [the first part's last value; the second's; the three]
      move ! (4 ∷ 1 ∷ []) $ use2 𝓛 (‵ (fres γ₂ (U.coded.code (F₂ w.1)))) (followed 𝓛 U W F₂ γ₂ γ₄ w.1) $
      move ! (3 ∷ 1 ∷ []) $ use2 𝓛 (‵ (fres γ₁ (T.coded.code (F₁ w.0)))) (followed 𝓛 T V F₁ γ₁ γ₃ w.0) $ move ! (0 ∷ 1 ∷ []) $ join ! $
      use2 𝓛 (‵ (fres γ (R.coded.code (G (F₁ w.0) (F₂ w.1))))) (followed₂ 𝓛 (mem R) (mem T) (mem U) G γ γ₁ γ₂ (F₁ w.0) (F₂ w.1)) $
      rewrite ! 0 (λ (d : R.Denot). ‵ (fres γ (R.coded.code d))) (same w.0 w.1) refl $ done !)
