-- The first blank of a line, by a mark for each of its first sixteen bytes; and a line without one.
use Rattle.std.proofs.Common.{◌≡◌, ℕ, ◌%◌, ◌^◌, ◌<◌, ◌≤◌, Bool, true, false, not, List, [], ◌∷◌, map, length, get_or, take, position, None, Some, Fits, w8, refl, sym, ap, ap₂, ◌∙◌, arith, inl, inr}
use Rattle.std.proofs.lemmas.Bool.{agree_below, agree_below_at, cases_eq, not-true, not-false, true≢false}
use Rattle.std.proofs.lemmas.Simd.{map-map, mask_l-mod, trailing_mask_l}
use Rattle.std.proofs.lemmas.List.{get_or-take, length-map, length-take-le}
use Rattle.std.proofs.lemmas.List.Sums.{AllPass-from_list_all, prefix_len_passes, prefix_len_stops}
use Rattle.std.specs.List.{list_all, prefix_len}
use lib.Count.{count_trailing_zeros}
use lib.Lanes.{mask_l, top, zip2}
use Rattle.mt_plain.specs.Script.{is_blank}
use Rattle.mt_script.proofs.CutLemmas.{first_place}

zip2-map : (h : ℕ → ℕ → ℕ) (f g : ℕ → ℕ) (xs : List ℕ) → zip2 h (map f xs) (map g xs) ≡ map (λ x. h (f x) (g x)) xs
zip2-map h f g [] = refl
zip2-map h f g (x ∷ xs) = ap (λ r. h (f x) (g x) ∷ r) (zip2-map h f g xs)

-- an operation on two vectors that were computed byte by byte
pub joined : (h : ℕ → ℕ → ℕ) (f g : ℕ → ℕ) (v : List ℕ) {a b : List ℕ} → a ≡ map f v → b ≡ map g v → zip2 h a b ≡ map (λ x. h (f x) (g x)) v
joined h f g v p q = ap₂ (zip2 h) p q ∙ zip2-map h f g v

-- the lowest mark is where the first blank stands
module _ (line : List ℕ) (long : 16 ≤ length line) (fits : (k : ℕ) → Fits w8 (get_or line k 0)) (f : ℕ → ℕ) (z : List ℕ) (lanes : z ≡ map f (take 16 line))
    (same : agree_below (λ x. top 7 (f x)) is_blank 256 ≡ true) where
  abbrev marked : ℕ → Bool
  marked x = top 7 (f x)

  abbrev front : List ℕ
  front = take 16 line

  front-length : length front ≡ 16
  front-length = length-take-le 16 line long

  mask : mask_l (map (top 7) z) % 2 ^ 64 ≡ mask_l (map marked front)
  mask = ap (λ l. mask_l l % 2 ^ 64) (ap (map (top 7)) lanes ∙ map-map (top 7) f front) ∙ mask_l-mod (map marked front) 64 (omega (arith, length-map front marked, front-length))

  nothing_marked : count_trailing_zeros 64 0 ≡ 64
  unfolding count_trailing_zeros
  nothing_marked = refl

  module _ (r : ℕ) (near : r < 16) (found : r ≡ count_trailing_zeros 64 (mask_l (map marked front))) where
    counted : r ≡ prefix_len (λ x. not (marked x)) front
    counted =
        elim (cases_eq (mask_l (map marked front)) 0) [
          | inl none ↦ absurd (omega (arith, near, found ∙ ap (count_trailing_zeros 64) none ∙ nothing_marked))
          | inr some ↦ found ∙ trailing_mask_l marked 64 front (omega (arith, front-length)) (omega (arith, some))
        ]

    byte-marked : (k : ℕ) → marked (get_or line k 0) ≡ is_blank (get_or line k 0)
    byte-marked k = agree_below_at marked is_blank 256 (get_or line k 0) same (fits k).fits

    none_before : (k : ℕ) → k < r → is_blank (get_or line k 0) ≡ false
    none_before k below =
        sym (byte-marked k) ∙ ap marked (sym (get_or-take 16 line k 0 (omega (arith, below, near))))
        ∙ not-true _ (prefix_len_passes (λ x. not (marked x)) front k 0 (omega (arith, below, counted)))

    is_there : is_blank (get_or line r 0) ≡ true
    is_there =
        sym (byte-marked r) ∙ ap marked (sym (get_or-take 16 line r 0 near))
        ∙ ap (λ k. marked (get_or front k 0)) counted
        ∙ not-false _ (prefix_len_stops (λ x. not (marked x)) front 0 (omega (arith, counted, near, front-length)))

    at_first : position is_blank line ≡ Some r
    at_first = sym (first_place is_blank line (Some r) (record { low = omega arith; high = omega (arith, near, long); before = λ k low below blank. true≢false (sym blank ∙ none_before k below) }, is_there))

  pub blank_found : (r : ℕ) → r ≡ count_trailing_zeros 64 (mask_l (map (top 7) z) % 2 ^ 64) → r < 16 → position is_blank line ≡ Some r
  blank_found r is near = at_first r near (is ∙ ap (count_trailing_zeros 64) mask)

-- where no byte is blank, there is no first one
pub no_blank : (line : List ℕ) → list_all (λ byte. not (is_blank byte)) line ≡ true → None ≡ position is_blank line
no_blank line lacks =
    first_place is_blank line None (λ k low below blank. true≢false (sym blank ∙ not-true _ (AllPass-from_list_all (λ byte. not (is_blank byte)) line lacks k 0 below)))
