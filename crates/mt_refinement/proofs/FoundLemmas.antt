-- What is found: one of some, by a test, and the live workflow for which a workflow stands.
use Rattle.std.proofs.Common.{◌≡◌, Bool, true, false, cond, List, [], ◌∷◌, Option, None, Some, is_some, refl, ap, ◌∙◌, subst}
use Rattle.std.proofs.lemmas.Bool.{or_right}
use Rattle.std.specs.List.{list_any}
use Rattle.std.specs.Map.{lookup}
use Rattle.std.specs.Prelude.{◌||◌, find}
use Rattle.mt_plain.specs.Plain.{Live, Plain}
use Rattle.mt_workflow.specs.Workflows.{WorkflowState}
use Rattle.mt_stands.specs.Stands.{StandsFor, StandsForAny}

-- one is found just where there is any
pub found_any : {X : Type 0} (test : X → Bool) (xs : List X) → is_some (find test xs) ≡ list_any test xs
found_any test [] = refl
found_any test (x ∷ xs) = by (test x) (found_any test xs)
  where
    by : (t : Bool) → is_some (find test xs) ≡ list_any test xs → is_some (cond t (Some x) (find test xs)) ≡ (t || list_any test xs)
    by true again = refl
    by false again = again

-- what is found in a map is one of its values
pub value_any : {K V : Type 0} (test : K → Bool) (is : V → Bool) (es : List (K × V)) (v : V) → lookup test es ≡ Some v → is v ≡ true → list_any (λ e. is e.1) es ≡ true
value_any test is [] v found e = absurd cc
value_any {K} {V} test is (x ∷ es) v found e = by (test x.0) (value_any test is es v) found
  where
    by : (t : Bool) → (lookup test es ≡ Some v → is v ≡ true → list_any (λ y. is y.1) es ≡ true) → cond t (Some x.1) (lookup test es) ≡ Some v → (is x.1 || list_any (λ y. is y.1) es) ≡ true
    by true again found = let same : x.1 ≡ v = cc in ap (λ b. b || list_any (λ y. is y.1) es) (ap is same ∙ e)
    by false again found = or_right (is x.1) (list_any (λ y. is y.1) es) (again found e)

-- a workflow of a base stands for a live one, and the other way round
pub live_of_state : (p : Plain) (o : Option Live) (v : Option WorkflowState) (w : WorkflowState) → StandsForAny p o v → v ≡ Some w → (live : Live) × (o ≡ Some live) × StandsFor p live w
live_of_state p None None w stands e = absurd cc
live_of_state p None (Some x) w stands e = absurd stands
live_of_state p (Some live) None w stands e = absurd stands
live_of_state p (Some live) (Some x) w stands e = let same : x ≡ w = cc in (live, refl, subst (StandsFor p live) same stands)

pub state_of_live : (p : Plain) (o : Option Live) (v : Option WorkflowState) (live : Live) → StandsForAny p o v → o ≡ Some live → (w : WorkflowState) × (v ≡ Some w) × StandsFor p live w
state_of_live p None None live stands e = absurd cc
state_of_live p None (Some w) live stands e = absurd stands
state_of_live p (Some x) None live stands e = absurd stands
state_of_live p (Some x) (Some w) live stands e = let same : x ≡ live = cc in (w, refl, subst (λ y. StandsFor p y w) same stands)
