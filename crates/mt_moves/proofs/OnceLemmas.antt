-- Tables that are a set as they stand: none of them is named twice.
use Rattle.std.proofs.Common.{◌≡◌, ℕ, ◌<◌, ◌+◌, false, cond, List, [], ◌∷◌, ◌++◌, get_or, length, take, ap, sym, ◌∙◌}
use Rattle.std.specs.List.{list_any}
use Rattle.std.proofs.lemmas.List.{take_more}
use Rattle.indexmap.specs.IndexSet.{insert_key}
use Rattle.mt_names.specs.Names.{same_text}
use Rattle.mt_plain.specs.Plain.{each_once}
use Rattle.mt_workflow.proofs.OnceLemmas.{once-more}

-- one more that isn't among those before it
pub stays-more : (names : List (List ℕ)) (i : ℕ) (one : List ℕ) → i < length names → one ≡ get_or names i one → each_once (take i names) ≡ take i names
    → list_any (same_text one) (take i names) ≡ false → each_once (take (i + 1) names) ≡ take (i + 1) names
stays-more names i one inside is stays differs =
    sym (once-more names i one inside is)
    ∙ ap (λ l. insert_key same_text l one) stays
    ∙ ap (λ b. cond b (take i names) (take i names ++ one ∷ [])) differs
    ∙ sym (take_more names i one inside ∙ ap (λ n. take i names ++ n ∷ []) (sym is))
