-- The live workflow of a name, where the controller finds one, and what is found and set again.
use Rattle.std.proofs.Common.{◌≡◌, ℕ, Bool, true, false, List, [], ◌∷◌, Option, None, Some, refl, sym, ap, subst}
use Rattle.std.specs.Map.{lookup, set_value}
use Rattle.mt_names.specs.Names.{same_text}
use Rattle.mt_plain.specs.Plain.{Live, Plain}
use Rattle.mt_workflow.specs.Workflows.{WorkflowState}
use Rattle.mt_stands.specs.Stands.{StandsFor, StandsForAny}

-- the live workflow of a name that the controller finds, and the other way round
pub live_found : (p : Plain) (o : Option Live) (v : Option WorkflowState) (w : WorkflowState) → v ≡ Some w → StandsForAny p o v → (live : Live) × (o ≡ Some live) × StandsFor p live w
live_found p None None w e stands = absurd cc
live_found p None (Some v) w e stands = absurd stands
live_found p (Some live) None w e stands = absurd stands
live_found p (Some live) (Some v) w e stands = (live, refl, subst (StandsFor p live) (let same : v ≡ w = cc in same) stands)

pub no_live : (p : Plain) (o : Option Live) (v : Option WorkflowState) → v ≡ None → StandsForAny p o v → o ≡ None
no_live p None None e stands = refl
no_live p None (Some v) e stands = absurd stands
no_live p (Some live) None e stands = absurd stands
no_live p (Some live) (Some v) e stands = absurd cc

-- what is there, set again, leaves all as it is
pub set_value-same : {V : Type 0} (es : List (List ℕ × V)) (k : List ℕ) (v : V) → lookup (same_text k) es ≡ Some v → set_value (same_text k) es v ≡ es
set_value-same [] k v found = refl
set_value-same (e ∷ es) k v found = by (set_value-same es k v) (same_text k e.0) refl
  where
    by : (lookup (same_text k) es ≡ Some v → set_value (same_text k) es v ≡ es) → (t : Bool) → same_text k e.0 ≡ t → set_value (same_text k) (e ∷ es) v ≡ e ∷ es
    by again true t = let is : Some e.1 ≡ Some v = rw t at found in let was : e.1 ≡ v = cc in rw t (ap (λ x. (e.0, x) ∷ es) (sym was))
    by again false t = rw t (ap (λ l. e ∷ l) (again (rw t at found)))
