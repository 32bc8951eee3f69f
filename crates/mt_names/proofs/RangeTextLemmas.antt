-- A text is read as a range exactly where it is the text of one.
use Rattle.std.proofs.Common.{◌≡◌, ℕ, ◌<◌, ◌≤◌, Bool, true, false, ◌&&◌, ◌||◌, cond, ltb, List, [], ◌∷◌, length, Option, None, Some, Result, Ok, Err, IsOk, ◌↔◌, is_ok, refl, sym, ap, ◌∙◌, length-append, arith}
use Rattle.std.proofs.lemmas.Bool.{and_from, and_left, and_right}
use Rattle.mt_names.specs.declared.fault.NameFault.{NameFault}
use Rattle.mt_names.specs.declared.fault.NameFault.TheVariants.{BadRange}
use Rattle.mt_names.specs.Keys.{after, before}
use Rattle.mt_names.specs.Names.{dash}
use Rattle.mt_names.specs.Shards.{Bound, IsRangeText, KeyRange, bound_value, is_bound, is_open, is_range, range_from, range_text, read_range}
use Rattle.mt_names.specs.Types.{comma}
use Rattle.mt_names.proofs.BoundLemmas.{bound_lacks, bound_short, range_parts}
use Rattle.mt_names.proofs.CutLemmas.{Lacks, Lacks-append, Lacks-one, after-append, before-append, joined, joined-before}
use Rattle.mt_names.proofs.ResultLemmas.{accepts}

-- ---- the range between two bounds

-- what a text is read as
abbrev bound_of : List ℕ → Result Bound NameFault
bound_of text = cond (is_bound text) (Ok text) (Err BadRange)

bound_from_read : (text bound : List ℕ) → bound_of text ≡ Ok bound → (bound ≡ text) × (is_bound text ≡ true)
bound_from_read text bound e = by (is_bound text) refl
  where
    by : (t : Bool) → is_bound text ≡ t → (bound ≡ text) × (is_bound text ≡ true)
    by true is = let h : Ok text ≡ Ok bound = sym (ap (λ t. cond t (Ok text) (Err BadRange)) is) ∙ e in let same : bound ≡ text = cc in (same, is)
    by false is = let h : Err BadRange ≡ Ok bound = sym (ap (λ t. cond t (Ok text) (Err BadRange)) is) ∙ e in absurd cc

fault_from_read : (text : List ℕ) (fault : NameFault) → bound_of text ≡ Err fault → (fault ≡ BadRange) × (is_bound text ≡ false)
fault_from_read text fault e = by (is_bound text) refl
  where
    by : (t : Bool) → is_bound text ≡ t → (fault ≡ BadRange) × (is_bound text ≡ false)
    by true is = let h : Ok text ≡ Err fault = sym (ap (λ t. cond t (Ok text) (Err BadRange)) is) ∙ e in absurd cc
    by false is = let h : Err BadRange ≡ Err fault = sym (ap (λ t. cond t (Ok text) (Err BadRange)) is) ∙ e in let same : fault ≡ BadRange = cc in (same, is)

module _ (start end : List ℕ) where
  no_range : is_range (record { start = start; end = end }) ≡ false → Err BadRange ≡ range_from start (Some end)
  no_range is = sym (ap (λ t. cond t (Ok (record { start = start; end = end })) (Err BadRange)) is)

  pub bad-start : (fault : NameFault) → bound_of start ≡ Err fault → Err fault ≡ range_from start (Some end)
  bad-start fault e =
      let bad = fault_from_read start fault e in
      ap Err bad.0 ∙ no_range (and_left (is_bound start && is_bound end) (is_open end || ltb (bound_value start) (bound_value end)) (and_left (is_bound start) (is_bound end) bad.1))

  pub bad-end : (fault : NameFault) → bound_of end ≡ Err fault → Err fault ≡ range_from start (Some end)
  bad-end fault e =
      let bad = fault_from_read end fault e in
      ap Err bad.0 ∙ no_range (and_left (is_bound start && is_bound end) (is_open end || ltb (bound_value start) (bound_value end)) (and_right (is_bound start) (is_bound end) bad.1))

  module _ (low high : List ℕ) (first : bound_of start ≡ Ok low) (second : bound_of end ≡ Ok high) where
    pub not-below : (is_open high || ltb (bound_value low) (bound_value high)) ≡ false → Err BadRange ≡ range_from start (Some end)
    not-below above =
        let s = bound_from_read start low first in
        let e = bound_from_read end high second in
        no_range (and_right (is_bound start && is_bound end) (is_open end || ltb (bound_value start) (bound_value end))
        ((λ i. is_open (sym e.0 i) || ltb (bound_value (sym s.0 i)) (bound_value (sym e.0 i))) ∙ above))

    pub below-is : (is_open high || ltb (bound_value low) (bound_value high)) ≡ true → is_range (record { start = low; end = high }) ≡ true
    below-is low_first =
        let s = bound_from_read start low first in
        let e = bound_from_read end high second in
        and_from (is_bound low && is_bound high) (is_open high || ltb (bound_value low) (bound_value high)) (and_from (is_bound low) (is_bound high) (ap is_bound s.0 ∙ s.1) (ap is_bound e.0 ∙ e.1)) low_first

    pub below-read : (is_open high || ltb (bound_value low) (bound_value high)) ≡ true → Ok (record { start = low; end = high }) ≡ range_from start (Some end)
    below-read low_first =
        let s = bound_from_read start low first in
        let e = bound_from_read end high second in
        sym (ap (λ t. cond t (Ok (record { start = low; end = high })) (Err BadRange)) (below-is low_first)) ∙ (λ i. range_from (s.0 i) (Some (e.0 i)))

-- ---- texts of ranges

-- a range is read back
pub read_range-range_text : (range : KeyRange) → is_range range ≡ true → read_range (range_text range) ≡ Ok range
read_range-range_text range is =
    let lacks = bound_lacks dash refl range.start (range_parts range is).0 in
    ap (λ start. range_from start (after dash (range_text range))) (before-append dash range.start range.end lacks)
    ∙ ap (range_from range.start) (after-append dash range.start range.end lacks)
    ∙ ap (λ t. cond t (Ok range) (Err BadRange)) is

-- what is read is a range, and the text is its only one
pub range_from_read : (text : List ℕ) (range : KeyRange) → read_range text ≡ Ok range → (is_range range ≡ true) × (range_text range ≡ text)
range_from_read text range e = by (after dash text) refl
  where
    tested : (end : List ℕ) → after dash text ≡ Some end → (t : Bool) → is_range (record { start = before dash text; end = end }) ≡ t → (is_range range ≡ true) × (range_text range ≡ text)
    tested end cut true is =
        let bounds : KeyRange = record { start = before dash text; end = end } in
        let read : Ok bounds ≡ Ok range = sym (ap (λ t. cond t (Ok bounds) (Err BadRange)) is) ∙ sym (ap (range_from (before dash text)) cut) ∙ e in
        let same : bounds ≡ range = cc in (
          ap is_range (sym same) ∙ is,
          ap range_text (sym same) ∙ ap (joined dash (before dash text)) (sym cut) ∙ joined-before dash text,
        )
    tested end cut false is =
        let bounds : KeyRange = record { start = before dash text; end = end } in
        let read : Err BadRange ≡ Ok range = sym (ap (λ t. cond t (Ok bounds) (Err BadRange)) is) ∙ sym (ap (range_from (before dash text)) cut) ∙ e in
        absurd cc

    by : (rest : Option (List ℕ)) → after dash text ≡ rest → (is_range range ≡ true) × (range_text range ≡ text)
    by None cut = let read : Err BadRange ≡ Ok range = sym (ap (range_from (before dash text)) cut) ∙ e in absurd cc
    by (Some end) cut = tested end cut (is_range (record { start = before dash text; end = end })) refl

pub range_accepts : (text : List ℕ) (r : Result KeyRange NameFault) → r ≡ read_range text → IsOk r ↔ IsRangeText text
range_accepts text r e =
    accepts (IsRangeText text) (read_range text) r e (λ range is. let both = range_from_read text range is in (range, both.0, both.1)) (λ is. ap is_ok (ap read_range (sym is.2) ∙ read_range-range_text is.0 is.1))

-- the text of a range has no comma, a byte at least, and at most 33
pub range_text_lacks_comma : (range : KeyRange) → is_range range ≡ true → Lacks comma (range_text range)
range_text_lacks_comma range is =
    let parts = range_parts range is in
    Lacks-append comma range.start (dash ∷ range.end) (bound_lacks comma refl range.start parts.0)
    (Lacks-append comma (dash ∷ []) range.end (Lacks-one comma dash (λ same. omega (arith, same))) (bound_lacks comma refl range.end parts.1))

pub range_text_some : (range : KeyRange) → 0 < length (range_text range)
range_text_some range = let total = length-append range.start (dash ∷ range.end) in omega (arith, total)

pub range_text_short : (range : KeyRange) → is_range range ≡ true → length (range_text range) ≤ 33
range_text_short range is =
    let parts = range_parts range is in
    let total = length-append range.start (dash ∷ range.end) in
    let first = bound_short range.start parts.0 in
    let second = bound_short range.end parts.1 in
    omega (arith, total, first, second)
