-- Numbers of a script, by their digits and as the standard parser reads them.
use Rattle.std.proofs.Common.{◌≡◌, ℕ, ◌+◌, ◌-◌, ◌*◌, ◌^◌, ◌<◌, ◌≤◌, ◌≢◌, true, ltb, leb, ◌&&◌, List, length, fold, get_or, if◌then◌else◌, Option, None, Some, Result, Ok, Err, refl, sym, ap, ◌∙◌, arith, rules}
use Rattle.std.proofs.Math.Nat.{pow-le-pow_right}
use Rattle.std.proofs.lemmas.Bool.{and_parts, false_from_ne_true, lt-ltb, le-leb, ltb-true}
use Rattle.std.proofs.lemmas.Str.Parse.{IsNumeralModel, numerals_by_fold, parse_plain}
use Rattle.std.specs.Char.{is_ascii_digit}
use Rattle.std.specs.List.{list_all}
use Rattle.std.specs.Str.Parse.{ParsesUnsigned}
use Rattle.std.specs.Result.{OkIff, result_ok}
use Rattle.mt_plain.specs.Script.{is_number_of, number_of_digits}

-- a number read on from what stands before
abbrev read_on : ℕ → List ℕ → ℕ
read_on n digits = fold (λ m digit. 10 * m + (digit - 48)) n digits

own : IsNumeralModel (λ ds. list_all is_ascii_digit ds ≡ true) (read_on 0)
own = numerals_by_fold _ (search rules) read_on (search rules)

-- a number is read where its digits are, and their number fits
module _ (most bound : ℕ) where
  abbrev read : List ℕ → Option ℕ
  read word = if is_number_of most bound word then Some (number_of_digits word) else None

  both_tests : (word : List ℕ) → length word ≤ most → list_all is_ascii_digit word ≡ true → 0 < length word → number_of_digits word < bound → is_number_of most bound word ≡ true
  both_tests word short digits some fits =
      rw (lt-ltb 0 (length word) some, le-leb (length word) most short, digits, lt-ltb (number_of_digits word) bound fits) refl

  tests_from : (word : List ℕ) → is_number_of most bound word ≡ true → (0 < length word) × (list_all is_ascii_digit word ≡ true) × (number_of_digits word < bound)
  tests_from word is =
      let three = and_parts (ltb 0 (length word) && leb (length word) most && list_all is_ascii_digit word) (ltb (number_of_digits word) bound) is in
      let two = and_parts (ltb 0 (length word) && leb (length word) most) (list_all is_ascii_digit word) three.0 in
      let one = and_parts (ltb 0 (length word)) (leb (length word) most) two.0 in
      (ltb-true 0 (length word) one.0, two.1, ltb-true (number_of_digits word) bound three.1)

  reads-Some : (word : List ℕ) → length word ≤ most → list_all is_ascii_digit word ≡ true → 0 < length word → number_of_digits word < bound → read word ≡ Some (number_of_digits word)
  reads-Some word short digits some fits = rw (both_tests word short digits some fits) refl

  reads-None : (word : List ℕ) → ¬ ((0 < length word) × (list_all is_ascii_digit word ≡ true) × (number_of_digits word < bound)) → read word ≡ None
  reads-None word not = rw (false_from_ne_true (is_number_of most bound word) (λ is. not (tests_from word is))) refl

-- what the parser reads of a text without a plus
pub result_ok-parse : {E : Type 0} (most bits : ℕ) (word : List ℕ) (r : Result ℕ E) → ParsesUnsigned bits 10 word r → length word ≤ most → get_or word 0 0 ≢ 43
    → result_ok r ≡ (if is_number_of most (2 ^ bits) word then Some (number_of_digits word) else None)
result_ok-parse most bits word r parsed short plain = by r (parse_plain own bits word r parsed plain)
  where
    by : {E : Type 0} (r : Result ℕ E) → OkIff r ((list_all is_ascii_digit word ≡ true) × (0 < length word) × (number_of_digits word < 2 ^ bits)) (number_of_digits word)
        → result_ok r ≡ (if is_number_of most (2 ^ bits) word then Some (number_of_digits word) else None)
    by (Ok x) is = sym (reads-Some most (2 ^ bits) word short is.0.0 is.0.1 is.0.2 ∙ ap Some (sym is.1))
    by (Err e) not = sym (reads-None most (2 ^ bits) word (λ tests. not (tests.1, tests.0, tests.2)))

-- a number of fewer than 19 digits, and one more digit
pub next-fits : (number count : ℕ) → number < 10 ^ count → count < 19 → number < 1000000000000000000
next-fits number count below few =
    let most : count ≤ 18 = omega (arith, few) in
    let at_most : 10 ^ count ≤ 10 ^ 18 = pow-le-pow_right (omega arith) most in
    omega (arith, below, at_most)
