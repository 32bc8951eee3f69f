-- The digits of a bound, and the order of its eight bytes.
use Rattle.std.proofs.Common.{◌≡◌, ℕ, zero, suc, ◌+◌, ◌*◌, ◌/◌, ◌%◌, ◌<◌, ◌≤◌, ◌^◌, Bool, true, false, ◌&&◌, ◌||◌, cond, eqb, ltb, leb, List, [], ◌∷◌, length, get_or, refl, sym, ap, ◌∙◌, arith}
use Rattle.std.proofs.lemmas.Bool.{and_parts, leb-true, eqb-true, eqb-false, ltb-true, ltb-false, lt-ltb, le-ltb, eq-eqb, ne_eqb, true≢false}
use Rattle.std.proofs.lemmas.Bool.Decides.{nat_tests}
use Rattle.std.proofs.lemmas.List.Sums.{AllPass-from_list_all}
use Rattle.std.proofs.lemmas.Nat.{from_be_bytes-to_be_bytes_8, mod_below}
use Rattle.std.specs.Cmp.Lexicographic.{slice_cmp}
use Rattle.std.specs.Int.{byte_at as byte_of, from_be_bytes, to_be_bytes, w64}
use Rattle.std.specs.List.{list_all}
use Rattle.std.specs.Ordering.{is_le, is_lt, nat_cmp, ordering_then}
use Rattle.std.specs.declared.cmp.Ordering.TheVariants.{Less, Equal, Greater}
use Rattle.mt_names.specs.Shards.{Bound, KeyRange, bound_value, byte_at, bytes_of, digit_at, digit_value, holds, holds_bytes, is_bound, is_digit, is_open, is_range, longest_bound}
use Rattle.mt_names.proofs.CutLemmas.{Lacks}

-- the digit at a place of digits is one, and so is the `0` behind them
pub digit_at_is_digit : (digits : List ℕ) (place : ℕ) → list_all is_digit digits ≡ true → is_digit (get_or digits place 48) ≡ true
digit_at_is_digit [] place all = refl
digit_at_is_digit (digit ∷ digits) zero all = (and_parts (is_digit digit) (list_all is_digit digits) all).0
digit_at_is_digit (digit ∷ digits) (suc place) all = digit_at_is_digit digits place (and_parts (is_digit digit) (list_all is_digit digits) all).1

-- a digit says less than 16
pub digit_value_low : (digit : ℕ) → is_digit digit ≡ true → digit_value digit < 16
digit_value_low digit is = grind (arith, nat_tests)

pub byte_at_low : (digits : List ℕ) (place : ℕ) → list_all is_digit digits ≡ true → byte_at digits place < 256
byte_at_low digits place all =
    let high = digit_value_low (get_or digits (2 * place) 48) (digit_at_is_digit digits (2 * place) all) in
    let low = digit_value_low (get_or digits (2 * place + 1) 48) (digit_at_is_digit digits (2 * place + 1) all) in
    low_sum (digit_at digits (2 * place)) (digit_at digits (2 * place + 1)) high low
  where
    low_sum : (a b : ℕ) → a < 16 → b < 16 → 16 * a + b < 256
    low_sum a b p q = omega (arith, p, q)

-- what holds of a bound
bound_parts : (digits : Bound) → is_bound digits ≡ true → (list_all is_digit digits ≡ true) × (leb (length digits) longest_bound ≡ true)
bound_parts digits is =
    and_parts (list_all is_digit digits) (leb (length digits) longest_bound) (and_parts (list_all is_digit digits && leb (length digits) longest_bound) (eqb (length digits % 2) 0) is).0

pub bound_digits : (digits : Bound) → is_bound digits ≡ true → list_all is_digit digits ≡ true
bound_digits digits is = (bound_parts digits is).0

pub bound_short : (digits : Bound) → is_bound digits ≡ true → length digits ≤ 16
bound_short digits is = leb-true (length digits) 16 (bound_parts digits is).1

pub bound_lacks : (mark : ℕ) → is_digit mark ≡ false → (digits : Bound) → is_bound digits ≡ true → Lacks mark digits
bound_lacks mark none digits is i h same =
    true≢false (sym (AllPass-from_list_all is_digit digits (bound_digits digits is) i 0 h) ∙ ap is_digit same ∙ none)

-- ---- the order of bytes

-- the number whose digits to the base 256 these are, the highest first, behind those of n
abbrev pub accumulated : ℕ → List ℕ → ℕ
accumulated n [] = n
accumulated n (byte ∷ bytes) = accumulated (256 * n + byte) bytes

abbrev pub AreBytes : List ℕ → Type 0
AreBytes [] = Unit {0}
AreBytes (byte ∷ bytes) = (byte < 256) × AreBytes bytes

-- what is below stays below, whatever follows
below_stays : (m n : ℕ) (xs ys : List ℕ) → length xs ≡ length ys → AreBytes xs → m < n → accumulated m xs < accumulated n ys
below_stays m n [] [] e bytes low = low
below_stays m n [] (y ∷ ys) e bytes low = absurd (omega (arith, e))
below_stays m n (x ∷ xs) [] e bytes low = absurd (omega (arith, e))
below_stays m n (x ∷ xs) (y ∷ ys) e bytes low =
    let first = bytes.0 in below_stays (256 * m + x) (256 * n + y) xs ys (omega (arith, e)) bytes.1 (omega (arith, first, low))

cmp_less : (a b : ℕ) → a < b → nat_cmp a b ≡ Less
cmp_less a b l = ap (λ t. cond t Less (cond (eqb a b) Equal Greater)) (lt-ltb a b l)

cmp_greater : (a b : ℕ) → b < a → nat_cmp a b ≡ Greater
cmp_greater a b l =
    ap (λ t. cond t Less (cond (eqb a b) Equal Greater)) (le-ltb a b (omega (arith, l))) ∙ ap (λ t. cond t Equal Greater) (ne_eqb a b (λ same. omega (arith, l, same)))

cmp_equal : (a b : ℕ) → a ≡ b → nat_cmp a b ≡ Equal
cmp_equal a b same =
    ap (λ t. cond t Less (cond (eqb a b) Equal Greater)) (le-ltb a b (omega (arith, same))) ∙ ap (λ t. cond t Equal Greater) (eq-eqb a b same)

-- two numbers of as many bytes go by the first in which they differ
cmp_accumulated : (n : ℕ) (xs ys : List ℕ) → length xs ≡ length ys → AreBytes xs → AreBytes ys → nat_cmp (accumulated n xs) (accumulated n ys) ≡ slice_cmp nat_cmp xs ys
cmp_accumulated n [] [] e left right = cmp_equal n n refl
cmp_accumulated n [] (y ∷ ys) e left right = absurd (omega (arith, e))
cmp_accumulated n (x ∷ xs) [] e left right = absurd (omega (arith, e))
cmp_accumulated n (x ∷ xs) (y ∷ ys) e left right =
    by (cmp_accumulated (256 * n + x) xs ys (omega (arith, e)) left.1 right.1) (ltb x y) refl (eqb x y) refl
  where
    rest : length xs ≡ length ys
    rest = omega (arith, e)

    by : nat_cmp (accumulated (256 * n + x) xs) (accumulated (256 * n + x) ys) ≡ slice_cmp nat_cmp xs ys
        → (t : Bool) → ltb x y ≡ t → (u : Bool) → eqb x y ≡ u → nat_cmp (accumulated n (x ∷ xs)) (accumulated n (y ∷ ys)) ≡ slice_cmp nat_cmp (x ∷ xs) (y ∷ ys)
    by again true less u same =
        let low = ltb-true x y less in
        cmp_less (accumulated n (x ∷ xs)) (accumulated n (y ∷ ys)) (below_stays (256 * n + x) (256 * n + y) xs ys rest left.1 (omega (arith, low)))
        ∙ ap (λ o. ordering_then o (slice_cmp nat_cmp xs ys)) (sym (cmp_less x y low))
    by again false less true same =
        let equal = eqb-true x y same in
        ap (λ z. nat_cmp (accumulated (256 * n + x) xs) (accumulated (256 * n + z) ys)) (sym equal)
        ∙ again
        ∙ ap (λ o. ordering_then o (slice_cmp nat_cmp xs ys)) (sym (cmp_equal x y equal))
    by again false less false same =
        let not_less = ltb-false x y less in
        let other = eqb-false x y same in
        let more : y < x = omega (arith, not_less, other) in
        cmp_greater (accumulated n (x ∷ xs)) (accumulated n (y ∷ ys)) (below_stays (256 * n + y) (256 * n + x) ys xs (sym rest) right.1 (omega (arith, more)))
        ∙ ap (λ o. ordering_then o (slice_cmp nat_cmp xs ys)) (sym (cmp_greater x y more))

eight_bytes : (a b c d e f g h : ℕ) → from_be_bytes w64 (a ∷ b ∷ c ∷ d ∷ e ∷ f ∷ g ∷ h ∷ []) ≡ accumulated 0 (a ∷ b ∷ c ∷ d ∷ e ∷ f ∷ g ∷ h ∷ [])
eight_bytes a b c d e f g h = omega arith

-- so the order of two keys is that of their bytes
cmp_bytes : (xs ys : List ℕ) → from_be_bytes w64 xs ≡ accumulated 0 xs → from_be_bytes w64 ys ≡ accumulated 0 ys → length xs ≡ length ys → AreBytes xs → AreBytes ys
    → nat_cmp (from_be_bytes w64 xs) (from_be_bytes w64 ys) ≡ slice_cmp nat_cmp xs ys
cmp_bytes xs ys left right e all_left all_right = (λ i. nat_cmp (left i) (right i)) ∙ cmp_accumulated 0 xs ys e all_left all_right

byte_of_low : (i n : ℕ) → byte_of i n < 256
byte_of_low zero n = mod_below n 256 (omega arith)
byte_of_low (suc i) n = mod_below (n / 256 ^ suc i) 256 (omega arith)

module _ (key : ℕ) where
  key_eight : from_be_bytes w64 (to_be_bytes w64 key) ≡ accumulated 0 (to_be_bytes w64 key)
  key_eight = eight_bytes (byte_of 7 key) (byte_of 6 key) (byte_of 5 key) (byte_of 4 key) (byte_of 3 key) (byte_of 2 key) (byte_of 1 key) (byte_of 0 key)

  key_bytes : AreBytes (to_be_bytes w64 key)
  key_bytes = (byte_of_low 7 key, (byte_of_low 6 key, (byte_of_low 5 key, (byte_of_low 4 key, (byte_of_low 3 key, (byte_of_low 2 key, (byte_of_low 1 key, (byte_of_low 0 key, tt))))))))

module _ (digits : Bound) (all : list_all is_digit digits ≡ true) where
  bound_eight : from_be_bytes w64 (bytes_of digits) ≡ accumulated 0 (bytes_of digits)
  bound_eight = eight_bytes (byte_at digits 0) (byte_at digits 1) (byte_at digits 2) (byte_at digits 3) (byte_at digits 4) (byte_at digits 5) (byte_at digits 6) (byte_at digits 7)

  bound_bytes : AreBytes (bytes_of digits)
  bound_bytes = (low 0, (low 1, (low 2, (low 3, (low 4, (low 5, (low 6, (low 7, tt))))))))
    where
      low : (place : ℕ) → byte_at digits place < 256
      low place = byte_at_low digits place all

cmp-le : (a b : ℕ) → is_le (nat_cmp a b) ≡ leb a b
cmp-le a b = grind (arith, nat_tests)

cmp-lt : (a b : ℕ) → is_lt (nat_cmp a b) ≡ ltb a b
cmp-lt a b = grind (arith, nat_tests)

module _ (digits : Bound) (all : list_all is_digit digits ≡ true) (key : ℕ) (fits : key < 2 ^ 64) where
  from_bound : leb (bound_value digits) key ≡ is_le (slice_cmp nat_cmp (bytes_of digits) (to_be_bytes w64 key))
  from_bound =
      sym (cmp-le (bound_value digits) key)
      ∙ ap (λ k. is_le (nat_cmp (bound_value digits) k)) (sym (from_be_bytes-to_be_bytes_8 key fits))
      ∙ ap is_le (cmp_bytes (bytes_of digits) (to_be_bytes w64 key) (bound_eight digits all) (key_eight key) refl (bound_bytes digits all) (key_bytes key))

  below_bound : ltb key (bound_value digits) ≡ is_lt (slice_cmp nat_cmp (to_be_bytes w64 key) (bytes_of digits))
  below_bound =
      sym (cmp-lt key (bound_value digits))
      ∙ ap (λ k. is_lt (nat_cmp k (bound_value digits))) (sym (from_be_bytes-to_be_bytes_8 key fits))
      ∙ ap is_lt (cmp_bytes (to_be_bytes w64 key) (bytes_of digits) (key_eight key) (bound_eight digits all) refl (key_bytes key) (bound_bytes digits all))

-- what holds of the bounds of a range
pub range_parts : (range : KeyRange) → is_range range ≡ true
    → (is_bound range.start ≡ true) × (is_bound range.end ≡ true) × ((is_open range.end || ltb (bound_value range.start) (bound_value range.end)) ≡ true)
range_parts range is =
    let all = and_parts (is_bound range.start && is_bound range.end) (is_open range.end || ltb (bound_value range.start) (bound_value range.end)) is in
    let both = and_parts (is_bound range.start) (is_bound range.end) all.0 in
    (both.0, both.1, all.1)

pub holds-bytes : (range : KeyRange) → is_range range ≡ true → (key : ℕ) → key < 2 ^ 64 → holds range key ≡ holds_bytes range (to_be_bytes w64 key)
holds-bytes range is key fits =
    let parts = range_parts range is in
    λ i. (is_open range.start || from_bound range.start (bound_digits range.start parts.0) key fits i) && (is_open range.end || below_bound range.end (bound_digits range.end parts.1) key fits i)
