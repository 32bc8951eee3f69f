-- Numbers of a command line, as the standard parser reads them.
use Rattle.std.proofs.Common.{◌≡◌, ℕ, ◌<◌, ◌≤◌, ◌^◌, Bool, true, false, ltb, leb, ◌&&◌, List, length, Option, None, Some, Result, Ok, Err, refl, sym, ap, arith}
use Rattle.std.proofs.lemmas.Bool.{and_parts, lt-ltb, le-leb, ltb-true, leb-true}
use Rattle.std.proofs.lemmas.Str.Parse.{IsNumeralModel, numerals_by_value, tells_all_ascii_digits}
use Rattle.std.specs.Option.{option_and_then}
use Rattle.std.specs.Str.{all_ascii_digits}
use Rattle.std.specs.Str.Parse.{IsNumeral, ParsesUnsigned, digits_value, without_leading_plus}
use Rattle.clap.specs.Words.{Text, ReadsOne, one_of, one_text, rows_of}
use Rattle.clap.specs.declared.parser.matches.Found.{Found}
use Rattle.clap.proofs.WalkLemmas.{one_text-rows}
use Rattle.mt_choice.specs.Meaning.{are_digits, number_up_to}

own : IsNumeralModel (λ ds. all_ascii_digits ds ≡ true) (digits_value 10)
own = numerals_by_value _ tells_all_ascii_digits

are_digits-from : (ds : List ℕ) → IsNumeral 10 ds → are_digits ds ≡ true
are_digits-from ds h = rw (lt-ltb 0 (length ds) h.0, own.from ds h.1) refl

numeral-from : (ds : List ℕ) → are_digits ds ≡ true → IsNumeral 10 ds
numeral-from ds e = let two = and_parts (ltb 0 (length ds)) (all_ascii_digits ds) e in (ltb-true 0 (length ds) two.0, own.to ds two.1)

module _ (most : ℕ) (text : Text) where
  abbrev ds : List ℕ
  ds = without_leading_plus text

  abbrev is_in : Bool
  is_in = are_digits ds && (leb 1 (digits_value 10 ds) && leb (digits_value 10 ds) most)

  is_out : (is_in ≡ true → ⊥) → number_up_to most text ≡ None
  is_out bad = by is_in refl
    where
      by : (t : Bool) → is_in ≡ t → number_up_to most text ≡ None
      by true e = absurd (bad e)
      by false e = rw e refl

  bounds : is_in ≡ true → IsNumeral 10 ds × (1 ≤ digits_value 10 ds) × (digits_value 10 ds ≤ most)
  bounds e =
      let two = and_parts (are_digits ds) (leb 1 (digits_value 10 ds) && leb (digits_value 10 ds) most) e in
      let ends = and_parts (leb 1 (digits_value 10 ds)) (leb (digits_value 10 ds) most) two.1 in
      (numeral-from ds two.0, leb-true 1 (digits_value 10 ds) ends.0, leb-true (digits_value 10 ds) most ends.1)

  -- a number that was read and is in range
  pub number-taken : (E : Type 0) (n : ℕ) → ParsesUnsigned {E = E} 16 10 text (Ok n) → 1 ≤ n → n ≤ most → number_up_to most text ≡ Some n
  number-taken E n parsed low high =
      let is : n ≡ digits_value 10 ds = parsed.1 in
      let least : 1 ≤ digits_value 10 ds = omega (arith, is) in
      let last : digits_value 10 ds ≤ most = omega (arith, is) in
      rw (are_digits-from ds parsed.0.0, le-leb 1 (digits_value 10 ds) least, le-leb (digits_value 10 ds) most last) (ap Some (sym is))

  pub number-small : (E : Type 0) (n : ℕ) → ParsesUnsigned {E = E} 16 10 text (Ok n) → n < 1 → number_up_to most text ≡ None
  number-small E n parsed low = is_out (λ e. let is : n ≡ digits_value 10 ds = parsed.1 in let ok = (bounds e).1 in omega (arith, is, ok))

  pub number-large : (E : Type 0) (n : ℕ) → ParsesUnsigned {E = E} 16 10 text (Ok n) → most < n → number_up_to most text ≡ None
  number-large E n parsed high = is_out (λ e. let is : n ≡ digits_value 10 ds = parsed.1 in let ok = (bounds e).2 in omega (arith, is, ok))

  -- a text that was not read
  pub number-unread : (E : Type 0) (e : E) → most < 2 ^ 16 → ParsesUnsigned {E = E} 16 10 text (Err e) → number_up_to most text ≡ None
  number-unread E e fits refused = is_out (λ t. let b = bounds t in refused (b.0, omega (arith, b.2, fits)))

module _ (f : Found) (id : Text) (most : ℕ) {E : Type 0} (gives : List ℕ → Result ℕ E → Type 0) (only : (u : List ℕ) (x : Result ℕ E) → gives u x → ParsesUnsigned 16 10 u x) where
  abbrev number_there : Option ℕ
  number_there = option_and_then (number_up_to most) (one_of id (rows_of f))

  abbrev Reads : Option ℕ → Type 0
  Reads r = (t : Text) → one_text f id ≡ Some t → ReadsOne gives t r

  at_text : (R : Option ℕ → Type 0) → R None → ((t : Text) → one_text f id ≡ Some t → R (number_up_to most t)) → R number_there
  at_text R none some = by (one_text f id) refl
    where
      by : (o : Option Text) → one_text f id ≡ o → R number_there
      by None e = rw (sym (one_text-rows f id), e) none
      by (Some t) e = rw (sym (one_text-rows f id), e) (some t e)

  pub none-there : Reads None → most < 2 ^ 16 → None ≡ number_there
  none-there read fits = at_text (λ o. None ≡ o) refl (λ t is. sym (number-unread most t E (read t is).0 fits (only t (Err (read t is).0) (read t is).1)))

  pub small-there : (n : ℕ) → Reads (Some n) → n < 1 → None ≡ number_there
  small-there n read low = at_text (λ o. None ≡ o) refl (λ t is. sym (number-small most t E n (only t (Ok n) (read t is)) low))

  pub large-there : (n : ℕ) → Reads (Some n) → most < n → None ≡ number_there
  large-there n read high = at_text (λ o. None ≡ o) refl (λ t is. sym (number-large most t E n (only t (Ok n) (read t is)) high))

  pub number-there : (n : ℕ) → (one_text f id ≡ None → Some n ≡ None) → Reads (Some n) → 1 ≤ n → n ≤ most → Some n ≡ number_there
  number-there n some read low high = by (one_text f id) refl
    where
      by : (o : Option Text) → one_text f id ≡ o → Some n ≡ number_there
      by None e = let bad : Some n ≡ None = some e in cc
      by (Some t) e = rw (sym (one_text-rows f id), e) (sym (number-taken most t E n (only t (Ok n) (read t e)) low high))
