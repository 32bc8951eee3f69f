-- The lines of an input, taken off from the front.
use Rattle.std.proofs.Common.{◌≡◌, ℕ, suc, ◌<◌, Bool, true, false, eqb, List, [], ◌∷◌, ◌++◌, length, get_or, take, drop, drop-cons, position, Option, None, Some, refl, sym, ap, ◌∙◌, arith, ⊎_elim}
use Rattle.memchr.specs.Find.{IsFirstByte}
use Rattle.std.proofs.lemmas.Bool.{ne_eqb, cases_lt, false_from_ne_true}
use Rattle.std.proofs.lemmas.Grind.{common_steps}
use Rattle.std.proofs.Math.Seq.{take-length, drop-length}
use Rattle.std.proofs.lemmas.List.{take-append-drop, get_or-take, length-take-le}
use Rattle.std.proofs.lemmas.List.Quantifiers.{position-Some}
use Rattle.std.proofs.lemmas.List.Splits.{slice_split_none, slice_split_at, length-slice_split}
use Rattle.std.proofs.lemmas.List.Sums.{fails_before_first, position_or_len_is}
use Rattle.std.specs.List.{All, position_or_len, slice_split}
use Rattle.std.specs.Str.Lines.{lines, lines_of_parts, strip_carriage_return}

-- the first place that passes a test, as it is found
pub first_place : (test : ℕ → Bool) (bytes : List ℕ) (r : Option ℕ) → IsFirstByte test bytes r → r ≡ position test bytes
first_place test bytes None none =
    let at : position_or_len test bytes ≡ length bytes =
    position_or_len_is test bytes (length bytes) 0 (omega arith) (λ k below. false_from_ne_true (test (get_or bytes k 0)) (none k (omega arith) below)) (λ inside. absurd (omega (arith, inside))) in
    grind (arith, at)
first_place test bytes (Some place) (found, passes) =
    let at : position_or_len test bytes ≡ place =
    position_or_len_is test bytes place 0 (omega (arith, found.high)) (λ k below. false_from_ne_true (test (get_or bytes k 0)) (found.before k (omega arith) below)) (λ inside. passes) in
    grind (arith, at, found.high)

-- parts of which another follows
parts_after : (line : List ℕ) (parts : List (List ℕ)) → 0 < length parts → lines_of_parts (line ∷ parts) ≡ strip_carriage_return line ∷ lines_of_parts parts
parts_after line [] some = absurd (omega arith)
parts_after line (next ∷ more) some = refl

-- an input without a line feed is one line
pub lines-None : (input : List ℕ) → 0 < length input → position (λ byte. eqb byte 10) input ≡ None → lines input ≡ take (length input) input ∷ lines (drop (length input) input)
lines-None input some none =
    ap lines_of_parts (slice_split_none (λ byte. eqb byte 10) input all)
    ∙ rw (ne_eqb (length input) 0 (λ e. omega (arith, e))) (λ i. sym (take-length input) i ∷ lines (sym (drop-length input) i))
  where
    all : All (λ byte. eqb byte 10 ≡ false) input
    all k d h =
        ⊎_elim (λ below. absurd (grind (arith, common_steps)))
        (λ beyond. fails_before_first (λ byte. eqb byte 10) input k d (omega arith))
        (cases_lt (position_or_len (λ byte. eqb byte 10) input) (length input))

-- the first line ends at the first line feed
pub lines-Some : (input : List ℕ) (end : ℕ) → position (λ byte. eqb byte 10) input ≡ Some end → lines input ≡ strip_carriage_return (take end input) ∷ lines (drop 1 (drop end input))
lines-Some input end found =
    ap lines (sym (take-append-drop end input) ∙ ap (λ l. take end input ++ l) behind)
    ∙ ap lines_of_parts (slice_split_at (λ byte. eqb byte 10) (take end input) (get_or input end 0) (drop (suc end) input) before at.1)
    ∙ parts_after (take end input) (slice_split (λ byte. eqb byte 10) (drop (suc end) input)) (omega (arith, length-slice_split (λ byte. eqb byte 10) (drop (suc end) input)))
    ∙ ap (λ l. strip_carriage_return (take end input) ∷ lines (drop 1 l)) (sym behind)
  where
    at : (end < length input) × (eqb (get_or input end 0) 10 ≡ true) × ((k : ℕ) → k < end → eqb (get_or input k 0) 10 ≡ false)
    at = position-Some (λ byte. eqb byte 10) input end 0 found

    behind : drop end input ≡ get_or input end 0 ∷ drop (suc end) input
    behind = drop-cons input end 0 at.0

    before : All (λ byte. eqb byte 10 ≡ false) (take end input)
    before k d h =
        let below : k < end = omega (arith, length-take-le end input (omega (arith, at.0)), h) in
        rw (get_or-take end input k d below) ((position-Some (λ byte. eqb byte 10) input end d found).2 k below)
