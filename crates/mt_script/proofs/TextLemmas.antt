-- Texts of numbers and of lists.
use Rattle.std.proofs.Common.{◌≡◌, ℕ, ◌+◌, ◌<◌, List, [], ◌∷◌, ◌++◌, get_or, length, take, refl, sym, ap, ◌∙◌}
use Rattle.std.proofs.lemmas.List.{append_assoc, take_more}
use Rattle.std.specs.Fmt.{decimal, digits}
use Rattle.std.specs.List.{join_with_byte}
use Rattle.mt_names.specs.Types.{comma}
use Rattle.mt_plain.specs.Numbers.{number_text}
use Rattle.mt_plain.specs.Output.{spaced}

-- std's decimal digits are these
pub decimal-number_text : (n : ℕ) → decimal n ≡ number_text n
unfolding digits
decimal-number_text n = refl

-- one more behind the others
pub join-more : (mark : ℕ) (first : List ℕ) (others : List (List ℕ)) (last : List ℕ)
    → join_with_byte mark (first ∷ (others ++ last ∷ [])) ≡ join_with_byte mark (first ∷ others) ++ mark ∷ last
join-more mark first [] last = refl
join-more mark first (next ∷ others) last =
    ap (λ text. first ++ mark ∷ text) (join-more mark next others last) ∙ sym (append_assoc first (mark ∷ join_with_byte mark (next ∷ others)) (mark ∷ last))

-- the tables passed, and one more
pub comma-more : (first : List ℕ) (others : List (List ℕ)) (i : ℕ) (table text : List ℕ) → i < length others → table ≡ get_or others i table
    → text ≡ join_with_byte comma (first ∷ take i others) → text ++ comma ∷ table ≡ join_with_byte comma (first ∷ take (i + 1) others)
comma-more first others i table text below is passed =
    ap (λ t. t ++ comma ∷ table) passed ∙ sym (join-more comma first (take i others) table)
    ∙ ap (λ l. join_with_byte comma (first ∷ l)) (ap (λ t. take i others ++ t ∷ []) is ∙ sym (take_more others i table below))

-- the same behind what stood there
pub comma-behind : (start first : List ℕ) (others : List (List ℕ)) (i : ℕ) (table text : List ℕ) → i < length others → table ≡ get_or others i table
    → text ≡ start ++ join_with_byte comma (first ∷ take i others) → text ++ comma ∷ table ≡ start ++ join_with_byte comma (first ∷ take (i + 1) others)
comma-behind start first others i table text below is passed =
    ap (λ t. t ++ comma ∷ table) passed ∙ append_assoc start (join_with_byte comma (first ∷ take i others)) (comma ∷ table)
    ∙ ap (λ t. start ++ t) (comma-more first others i table (join_with_byte comma (first ∷ take i others)) below is refl)

-- a text behind a word and a space
pub spaced-behind : (text before start word written more : List ℕ) → text ≡ before ++ more → before ≡ start ++ written ++ 32 ∷ [] → written ≡ word → text ≡ start ++ spaced word more
spaced-behind text before start word written more is front same =
    is ∙ ap (λ t. t ++ more) front ∙ append_assoc (start ++ written) (32 ∷ []) more ∙ append_assoc start written (32 ∷ more)
    ∙ ap (λ t. start ++ t) (sym (append_assoc written (32 ∷ []) more)) ∙ ap (λ w. start ++ spaced w more) same
