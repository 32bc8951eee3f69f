-- The words of a text, as far as there is room, and the names that they are.
use native.Mathlib.Omega.{arith}
use Rattle.std.proofs.Common.{◌≡◌, ℕ, zero, suc, ◌<◌, ◌==◌, Bool, true, false, if◌then◌else◌, not, List, [], ◌∷◌, ◌++◌, length, take, Result, Ok, Err, refl, sym, ap, ◌∙◌, subst, append-nil, inr}
use Rattle.std.proofs.Math.Seq.{take-nil}
use Rattle.std.proofs.lemmas.List.Elements.{filter-append}
use Rattle.std.specs.List.{filter}
use Rattle.std.specs.Result.{result_ok}
use Rattle.arrayvec.specs.ArrayVec.{ArrayVec}
use Rattle.mt_choice.specs.Keyspaces.{names_of, read_within}
use Rattle.mt_names.specs.declared.fault.NameFault.{NameFault}
use Rattle.mt_names.specs.Names.{read_keyspace}
use Rattle.mt_names.specs.Results.{◌>>=◌}
use Rattle.mt.specs.Names.{Watches, is_word, watched_in}

take_more : (n : ℕ) (xs : List (List ℕ)) (x : List ℕ) → length (take n xs) < n → take n xs ++ x ∷ [] ≡ take n (xs ++ x ∷ [])
take_more zero xs x few = absurd (omega (arith, few))
take_more (suc n) [] x few = ap (λ (l : List (List ℕ)). x ∷ l) (sym (take-nil n))
take_more (suc n) (y ∷ xs) x few = ap (λ (l : List (List ℕ)). y ∷ l) (take_more n xs x (omega (arith, few)))

take_full : (n : ℕ) (xs ys : List (List ℕ)) → length (take n xs) ≡ n → take n xs ≡ take n (xs ++ ys)
take_full zero xs ys full = refl
take_full (suc n) [] ys full = absurd (omega (arith, full))
take_full (suc n) (y ∷ xs) ys full = ap (λ (l : List (List ℕ)). y ∷ l) (take_full n xs ys (omega (arith, full)))

module _ (n : ℕ) (words parts : List (List ℕ)) (part : List ℕ) (is : words ≡ take n (filter is_word parts)) where
  -- a part that is a word is one word more
  pub one_word_more : (length part == 0) ≡ false → length words < n → words ++ part ∷ [] ≡ take n (filter is_word (parts ++ part ∷ []))
  one_word_more some room =
      let kept : filter is_word (part ∷ []) ≡ part ∷ [] = ap (λ (b : Bool). if not b then part ∷ [] else []) some in
      ap (λ (l : List (List ℕ)). l ++ part ∷ []) is ∙ take_more n (filter is_word parts) part (subst (λ (l : List (List ℕ)). length l < n) is room)
      ∙ ap (take n) (sym (filter-append is_word parts (part ∷ []) ∙ ap (λ (l : List (List ℕ)). filter is_word parts ++ l) kept))

  -- one that is none adds nothing
  pub no_word_more : (length part == 0) ≡ true → words ≡ take n (filter is_word (parts ++ part ∷ []))
  no_word_more none =
      let dropped : filter is_word (part ∷ []) ≡ [] = ap (λ (b : Bool). if not b then part ∷ [] else []) none in
      is ∙ ap (take n) (sym (filter-append is_word parts (part ∷ []) ∙ ap (λ (l : List (List ℕ)). filter is_word parts ++ l) dropped ∙ append-nil (filter is_word parts)))

  -- nor does any, where there is no room
  pub no_room_more : length words ≡ n → words ≡ take n (filter is_word (parts ++ part ∷ []))
  no_room_more full =
      is ∙ take_full n (filter is_word parts) (filter is_word (part ∷ [])) (sym (ap length is) ∙ full) ∙ ap (take n) (sym (filter-append is_word parts (part ∷ [])))

-- what is behind one word too many isn't looked at
pub read_first : (n : ℕ) (words : List (List ℕ)) → read_within n (take (suc n) words) ≡ read_within n words
read_first n [] = refl
read_first zero (word ∷ words) = refl
read_first (suc n) (word ∷ words) = ap (λ r. read_keyspace word >>= λ name. r >>= λ names. Ok (name ∷ names)) (read_first n words)

pub names_watched : (text : List ℕ) (r : Result (ArrayVec (List ℕ)) NameFault) → names_of r ≡ watched_in text → Watches text (result_ok r)
names_watched text (Ok names) is = sym is
names_watched text (Err fault) is = inr (fault, sym is)
