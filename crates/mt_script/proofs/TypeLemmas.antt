-- The last byte of a name that has a type is the type's.
use Rattle.std.proofs.Common.{◌≡◌, ◌≢◌, ℕ, suc, ◌-◌, ◌<◌, ◌==◌, Bool, true, false, if◌then◌else◌, List, [], ◌∷◌, length, codes, Option, None, Some, unwrap_or, refl, ap, ◌∙◌, arith}
use Rattle.std.specs.Cmp.Lexicographic.{bytes_decides}
use Rattle.std.specs.List.{slice_get}
use Rattle.mt_names.specs.Keys.{after, at_sign}
use Rattle.mt_names.specs.Names.{same_text}
use Rattle.mt_plain.specs.Script.{is_for_reads}

abbrev last : List ℕ → ℕ
last bytes = unwrap_or (slice_get bytes (length bytes - 1)) 0

last-more : (byte : ℕ) (bytes : List ℕ) → 0 < length bytes → last (byte ∷ bytes) ≡ last bytes
last-more byte bytes some = let place : length (byte ∷ bytes) - 1 ≡ suc (length bytes - 1) = omega (arith, some) in ap (λ k. unwrap_or (slice_get (byte ∷ bytes) k) 0) place

-- what stands behind the mark ends the name
after-last : (name type : List ℕ) → after at_sign name ≡ Some type → 0 < length type → (0 < length name) × (last name ≡ last type)
after-last [] type is some = absurd cc
after-last (b ∷ bs) type is some = (omega arith, by (b == at_sign) (λ behind. after-last bs type behind some) is)
  where
    by : (m : Bool) → (after at_sign bs ≡ Some type → (0 < length bs) × (last bs ≡ last type)) → (if m then Some bs else after at_sign bs) ≡ Some type → last (b ∷ bs) ≡ last type
    by true rest is = let same : bs ≡ type = cc in ap (λ l. last (b ∷ l)) same ∙ last-more b type some
    by false rest is = last-more b bs (rest is).0 ∙ (rest is).1

-- a name that ends otherwise isn't for reads
pub not_for_reads : (name : List ℕ) (l : ℕ) → l ≡ last name → l ≢ 97 → l ≢ 121 → false ≡ is_for_reads (after at_sign name)
not_for_reads name l is not_a not_y = by (after at_sign name) refl
  where
    ends : (type : List ℕ) → after at_sign name ≡ Some type → (word : List ℕ) → 0 < length word → same_text type word ≡ true → l ≡ last word
    ends type at word some same =
        let is_word : type ≡ word = (bytes_decides type word).0 same in
        is ∙ (after-last name word (at ∙ ap Some is_word) some).1

    neither : (type : List ℕ) → after at_sign name ≡ Some type → (a b : Bool) → same_text type (codes "replica") ≡ a → same_text type (codes "rdonly") ≡ b → false ≡ is_for_reads (Some type)
    neither type at true b one two = absurd (not_a (ends type at (codes "replica") (omega arith) one))
    neither type at false true one two = absurd (not_y (ends type at (codes "rdonly") (omega arith) two))
    neither type at false false one two = rw (one, two) refl

    by : (type : Option (List ℕ)) → after at_sign name ≡ type → false ≡ is_for_reads type
    by None at = refl
    by (Some type) at = neither type at (same_text type (codes "replica")) (same_text type (codes "rdonly")) refl refl
