-- The words of a line that has just four.
use Rattle.std.proofs.Common.{◌≡◌, ℕ, List, [], ◌∷◌, Some, option_map, refl, sym, ap, ◌∙◌}
use Rattle.mt_plain.specs.Script.{four_words, two_words}

-- two words, and two behind them
four-by-two : (first second : List ℕ) (words : List (List ℕ)) → four_words (first ∷ second ∷ words) ≡ option_map (λ w. (first, second, w.0, w.1)) (two_words words)
four-by-two first second [] = refl
four-by-two first second (third ∷ []) = refl
four-by-two first second (third ∷ fourth ∷ []) = refl
four-by-two first second (third ∷ fourth ∷ fifth ∷ words) = refl

pub four-found : {first second : List ℕ} {line rest behind : List (List ℕ)} {last : List ℕ × List ℕ} → line ≡ first ∷ rest → rest ≡ second ∷ behind → Some last ≡ two_words behind
    → Some (first, second, last.0, last.1) ≡ four_words line
four-found {first = first} {second = second} {behind = behind} one two others =
    ap (option_map (λ w. (first, second, w.0, w.1))) others ∙ sym (four-by-two first second behind)
    ∙ ap four_words (ap (λ words. first ∷ words) (sym two) ∙ sym one)
