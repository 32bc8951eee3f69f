-- What was appended is a list, and what was sorted stands in order.
use Rattle.std.proofs.Common.{◌≡◌, ℕ, List, [], ◌∷◌, ◌++◌, codes, append_assoc, append-nil, map, refl, sym, ap, ◌∙◌}
use Rattle.std.specs.List.{join_with_byte}
use Rattle.mt_names.specs.Types.{comma}
use Rattle.mt_model.specs.Documents.{array}
use Rattle.mt_rules.specs.Written.{rest_text}
use Rattle.mt_rules.proofs.WrittenLemmas.{rest_is_joined}

-- one function after another
pub map_twice : {A B C : Type 0} (f : B → C) (g : A → B) (xs : List A) → map (λ x. f (g x)) xs ≡ map f (map g xs)
map_twice f g [] = refl
map_twice f g (x ∷ xs) = ap (λ l. f (g x) ∷ l) (map_twice f g xs)

-- all texts between the brackets
pub closed : (start first now all : List ℕ) (texts : List (List ℕ)) → first ≡ start ++ codes "[" → now ++ [] ≡ first ++ rest_text [] texts → all ≡ now ++ codes "]" → all ≡ start ++ array texts
closed start first now all texts opened is end =
    end ∙ ap (λ t. t ++ codes "]") (sym (append-nil now) ∙ is ∙ ap (λ t. t ++ rest_text [] texts) opened ∙ ap (λ t. (start ++ codes "[") ++ t) (rest_is_joined texts)) ∙ regroup (join_with_byte comma texts)
  where
    regroup : (t : List ℕ) → ((start ++ 91 ∷ []) ++ t) ++ 93 ∷ [] ≡ start ++ (91 ∷ (t ++ 93 ∷ []))
    regroup t = simp append_assoc
