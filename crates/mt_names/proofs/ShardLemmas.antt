-- Ranges cover all keys exactly where they are those between bounds that ascend; and how they are read and written.
use Rattle.std.proofs.Common.{◌≡◌, ℕ, suc, ◌+◌, ◌*◌, ◌-◌, ◌<◌, ◌≤◌, Bool, true, false, ◌&&◌, ◌||◌, cond, eqb, ltb, List, [], ◌∷◌, ◌++◌, length, map, take, get_or, drop, drop-cons, add-one, All, Option, None, Some, Result, Ok, Err, IsOk, ◌↔◌, is_ok, refl, sym, ap, subst, ◌∙◌, append_assoc, append-nil, length-append, position, arith}
use Rattle.std.proofs.lemmas.Bool.{and_from, and_parts, eq-eqb, eqb-false, lt-ltb, ltb-true, ne_eqb}
use Rattle.std.proofs.lemmas.Grind.{get_or_default_zero}
use Rattle.std.proofs.Math.ListN.{drop_of_length-le}
use Rattle.std.proofs.lemmas.List.{take-append-drop, take_all, take_more}
use Rattle.std.proofs.lemmas.List.Folds.{list_all_more}
use Rattle.std.proofs.lemmas.List.Splits.{join_with_byte-slice_split, slice_split_at, slice_split_none}
use Rattle.std.proofs.lemmas.List.Sums.{position_or_len_is}
use Rattle.std.proofs.lemmas.Option.{slice_get-get_or}
use Rattle.std.specs.Cmp.Lexicographic.{bytes_decides}
use Rattle.std.specs.List.{join_with_byte, list_all, position_or_len, slice_split}
use Rattle.mt_names.specs.declared.fault.NameFault.{NameFault}
use Rattle.mt_names.specs.declared.fault.NameFault.TheVariants.{Empty, TooMany, NotCovering}
use Rattle.mt_names.specs.Names.{same_text}
use Rattle.mt_names.specs.Results.{◌>>=◌}
use Rattle.mt_names.specs.Shards.{AreCuts, Bound, Cuts, IsShardsText, KeyRange, ascend_from, bound_value, cuts_behind, cuts_between, cuts_of_ranges, end_of, holds, is_bound, is_open, is_range, most_shards, outcome, place_of_range, range_text, ranges_from, ranges_of, read_range, read_ranges_after, read_shards, same_range, shard_count, shard_of, shards_text, start_behind, whole, with_range, with_word}
use Rattle.mt_names.specs.Types.{comma, followed_by}
use Rattle.mt_names.proofs.RangeLemmas.{ascend_parts, closed, ranges-long, shard-holds, shard-low}
use Rattle.mt_names.proofs.BoundLemmas.{range_parts}
use Rattle.mt_names.proofs.RangeTextLemmas.{range_from_read, range_text_lacks_comma, range_text_short, range_text_some, read_range-range_text}
use Rattle.mt_names.proofs.ResultLemmas.{accepts, after_step}

-- ---- ranges that follow one another

same_itself : (bound : Bound) → same_text bound bound ≡ true
same_itself bound = (bytes_decides bound bound).1 refl

is_same : (a b : Bound) → same_text a b ≡ true → a ≡ b
is_same a b e = (bytes_decides a b).0 e

open_is : (bound : Bound) → is_open bound ≡ true → bound ≡ []
open_is [] e = refl
open_is (digit ∷ digits) e = absurd cc

module _ (start : Bound) (range : KeyRange) (ranges : List KeyRange) where
  behind-other : same_text range.start start ≡ false → cuts_behind start (range ∷ ranges) ≡ Err NotCovering
  behind-other other = rw other refl

  behind-open : same_text range.start start ≡ true → is_open range.end ≡ true → cuts_behind start (range ∷ ranges) ≡ cond (eqb (length ranges) 0) (Ok []) (Err NotCovering)
  behind-open same ended = rw (same, ended) refl

  behind-closed : same_text range.start start ≡ true → is_open range.end ≡ false → cuts_behind start (range ∷ ranges) ≡ (cuts_behind range.end ranges >>= λ cuts. Ok (range.end ∷ cuts))
  behind-closed same shut = rw (same, shut) refl

-- a range behind an open end
no_more : (next : KeyRange) (rest : List KeyRange) → ◌≡◌ {A = Result Cuts NameFault} (cond (eqb (length (next ∷ rest)) 0) (Ok []) (Err NotCovering)) (Err NotCovering)
no_more next rest = ap (λ t. cond t (Ok []) (Err NotCovering)) (ne_eqb (length (next ∷ rest)) 0 (λ none. omega (arith, none)))

-- the ranges from a start on are those between these cuts
pub record AreCutsOf (start : Bound) (ranges : List KeyRange) (cuts : Cuts) : Type 0 where
  pub ranges_are : ranges_from start cuts ≡ ranges
  pub between : cuts_between ranges ≡ cuts
  pub ascend : list_all is_range ranges ≡ true → ascend_from (bound_value start) cuts ≡ true

module _ (start : Bound) (range : KeyRange) (cuts : Cuts) (same : range.start ≡ start) where
  last_of : range.end ≡ [] → (rest : List KeyRange) → cond (eqb (length rest) 0) (Ok []) (Err NotCovering) ≡ Ok cuts → AreCutsOf start (range ∷ rest) cuts
  last_of ended [] e =
      let none : [] ≡ cuts = cc in
      subst (AreCutsOf start (range ∷ [])) none (record {
        ranges_are = λ i. record { start = sym same i; end = sym ended i } ∷ [];
        between = refl;
        ascend = λ all. refl;
      })
  last_of ended (next ∷ rest) e = let h : Err NotCovering ≡ Ok cuts = sym (no_more next rest) ∙ e in absurd cc

  first_of_more : is_open range.end ≡ false → (rest : List KeyRange) → ((cs : Cuts) → cuts_behind range.end rest ≡ Ok cs → AreCutsOf range.end rest cs)
      → (cuts_behind range.end rest >>= λ cs. Ok (range.end ∷ cs)) ≡ Ok cuts → AreCutsOf start (range ∷ rest) cuts
  first_of_more shut [] more e = absurd cc
  first_of_more shut (next ∷ rest) more e =
      let step = after_step (cuts_behind range.end (next ∷ rest)) (λ cs. Ok (range.end ∷ cs)) cuts e in
      let behind : AreCutsOf range.end (next ∷ rest) step.0 = more step.0 step.1 in
      let whole_list : range.end ∷ step.0 ≡ cuts = (let h = step.2 in cc) in
      subst (AreCutsOf start (range ∷ next ∷ rest)) whole_list (record {
        ranges_are = λ i. record { start = sym same i; end = range.end } ∷ behind.ranges_are i;
        between = ap (λ l. range.end ∷ l) behind.between;
        ascend = λ all.
            let both = and_parts (is_range range) (list_all is_range (next ∷ rest)) all in
            let parts = range_parts range both.0 in
            let above : ltb (bound_value range.start) (bound_value range.end) ≡ true = ap (λ o. o || ltb (bound_value range.start) (bound_value range.end)) (sym shut) ∙ parts.2 in
            and_from (is_bound range.end && ltb (bound_value start) (bound_value range.end)) (ascend_from (bound_value range.end) step.0)
            (and_from (is_bound range.end) (ltb (bound_value start) (bound_value range.end)) parts.1 (ap (λ b. ltb (bound_value b) (bound_value range.end)) (sym same) ∙ above))
            (behind.ascend both.1);
      })

pub cuts_from_behind : (start : Bound) (ranges : List KeyRange) (cuts : Cuts) → cuts_behind start ranges ≡ Ok cuts → AreCutsOf start ranges cuts
cuts_from_behind start [] cuts e = absurd cc
cuts_from_behind start (range ∷ ranges) cuts e = by (λ cs h. cuts_from_behind range.end ranges cs h) (same_text range.start start) refl (is_open range.end) refl
  where
    by : ((cs : Cuts) → cuts_behind range.end ranges ≡ Ok cs → AreCutsOf range.end ranges cs)
        → (t : Bool) → same_text range.start start ≡ t → (u : Bool) → is_open range.end ≡ u → AreCutsOf start (range ∷ ranges) cuts
    by more false other u end = let h : Err NotCovering ≡ Ok cuts = sym (behind-other start range ranges other) ∙ e in absurd cc
    by more true same true ended = last_of start range cuts (is_same range.start start same) (open_is range.end ended) ranges (sym (behind-open start range ranges same ended) ∙ e)
    by more true same false shut = first_of_more start range cuts (is_same range.start start same) shut ranges more (sym (behind-closed start range ranges same shut) ∙ e)

-- and the other way round
pub behind_from_cuts : (start : Bound) (cuts : Cuts) → ascend_from (bound_value start) cuts ≡ true → cuts_behind start (ranges_from start cuts) ≡ Ok cuts
behind_from_cuts start [] up = behind-open start (record { start = start; end = [] }) [] (same_itself start) refl
behind_from_cuts start (cut ∷ cuts) up =
    let parts = ascend_parts (bound_value start) cut cuts up in
    behind-closed start (record { start = start; end = cut }) (ranges_from cut cuts) (same_itself start) (closed (bound_value start) cut (ltb-true (bound_value start) (bound_value cut) parts.1))
    ∙ ap (λ r. r >>= λ cs. Ok (cut ∷ cs)) (behind_from_cuts cut cuts parts.2)

pub ranges_are_ranges : (start : Bound) (cuts : Cuts) → is_bound start ≡ true → ascend_from (bound_value start) cuts ≡ true → list_all is_range (ranges_from start cuts) ≡ true
ranges_are_ranges start [] is up = ap (λ b. b && true && true && true) is
ranges_are_ranges start (cut ∷ cuts) is up =
    let parts = ascend_parts (bound_value start) cut cuts up in
    and_from (is_range (record { start = start; end = cut })) (list_all is_range (ranges_from cut cuts))
    (and_from (is_bound start && is_bound cut) (is_open cut || ltb (bound_value start) (bound_value cut)) (and_from (is_bound start) (is_bound cut) is parts.0)
    (ap (λ b. is_open cut || b) parts.1 ∙ or_true (is_open cut)))
    (ranges_are_ranges cut cuts parts.0 parts.2)
  where
    or_true : (b : Bool) → (b || true) ≡ true
    or_true true = refl
    or_true false = refl

pub cuts_between-ranges_from : (start : Bound) (cuts : Cuts) → cuts_between (ranges_from start cuts) ≡ cuts
cuts_between-ranges_from start [] = refl
cuts_between-ranges_from start (cut ∷ []) = refl
cuts_between-ranges_from start (cut ∷ next ∷ cuts) = ap (λ l. cut ∷ l) (cuts_between-ranges_from cut (next ∷ cuts))

module _ (cuts : Cuts) (are : AreCuts cuts) where
  pub all_ranges : list_all is_range (ranges_of cuts) ≡ true
  all_ranges = ranges_are_ranges [] cuts refl are.ascend

  pub few_ranges : length (ranges_of cuts) ≤ 8
  few_ranges = let long = ranges-long [] cuts in let few = are.few in omega (arith, long, few)

  pub count_ranges : length (ranges_of cuts) ≡ shard_count cuts
  count_ranges = let long = ranges-long [] cuts in let few = are.few in omega (arith, long, few)

-- ---- shards made of ranges

pub cuts_of_ranges-some : (ranges : List KeyRange) → 0 < length ranges → cuts_of_ranges ranges ≡ cuts_behind [] ranges
cuts_of_ranges-some [] some = absurd (omega (arith, some))
cuts_of_ranges-some (range ∷ ranges) some = refl

some_ranges : (cuts : Cuts) → 0 < length (ranges_of cuts)
some_ranges cuts = let long = ranges-long [] cuts in omega (arith, long)

pub cuts_of_ranges-ranges_of : (cuts : Cuts) → AreCuts cuts → cuts_of_ranges (ranges_of cuts) ≡ Ok cuts
cuts_of_ranges-ranges_of cuts are = cuts_of_ranges-some (ranges_of cuts) (some_ranges cuts) ∙ behind_from_cuts [] cuts are.ascend

-- what ranges make, where they are taken
pub record MakeShards (ranges : List KeyRange) (cuts : Cuts) : Type 0 where
  pub ranges_are : ranges_of cuts ≡ ranges
  pub between : cuts_between ranges ≡ cuts
  pub cuts_are : AreCuts cuts

pub shards_from_behind : (ranges : List KeyRange) (cuts : Cuts) → cuts_behind [] ranges ≡ Ok cuts → list_all is_range ranges ≡ true → length ranges ≤ 8 → MakeShards ranges cuts
shards_from_behind ranges cuts e all few =
    let are = cuts_from_behind [] ranges cuts e in
    let long : suc (length cuts) ≡ length ranges = sym (ranges-long [] cuts) ∙ ap length are.ranges_are in
    record { ranges_are = are.ranges_are; between = are.between; cuts_are = record { ascend = are.ascend all; few = omega (arith, long, few) } }

-- what was taken has cuts
cuts_from_outcome : (ranges : List KeyRange) (u : Unit {0}) → Ok u ≡ outcome (cuts_behind [] ranges) → (cuts : Cuts) × (cuts_behind [] ranges ≡ Ok cuts)
cuts_from_outcome ranges u e = by (cuts_behind [] ranges) refl
  where
    by : (r : Result Cuts NameFault) → cuts_behind [] ranges ≡ r → (cuts : Cuts) × (cuts_behind [] ranges ≡ Ok cuts)
    by (Ok cuts) is = (cuts, is)
    by (Err fault) is = let h : Ok u ≡ Err fault = e ∙ ap outcome is in absurd cc

behind_taken : (ranges : List KeyRange) (cuts : Cuts) → cuts_behind [] ranges ≡ Ok cuts → cuts_of_ranges ranges ≡ Ok cuts
behind_taken [] cuts e = absurd cc
behind_taken (range ∷ ranges) cuts e = e

-- what a list of shards holds
pub taken : (items slice : List KeyRange) (u : Unit {0}) → slice ≡ items → Ok u ≡ outcome (cuts_behind [] slice) → list_all is_range slice ≡ true → length slice ≤ 8
    → MakeShards items (cuts_between items) × (cuts_of_ranges items ≡ Ok (cuts_between items))
taken items slice u is e all few =
    let found = cuts_from_outcome items u (e ∙ ap (λ l. outcome (cuts_behind [] l)) is) in
    let make = shards_from_behind items found.0 found.1 (ap (list_all is_range) (sym is) ∙ all) (subst (λ (l : List KeyRange). length l ≤ 8) is few) in (
      subst (MakeShards items) (sym make.between) make,
      behind_taken items found.0 found.1 ∙ ap Ok (sym make.between),
    )

-- ---- a turn of the loop over ranges

-- what is left makes, from where it has to start
abbrev pub goes_on : Option Bound → List KeyRange → Result Cuts NameFault
goes_on None [] = Ok []
goes_on None (range ∷ ranges) = Err NotCovering
goes_on (Some start) ranges = cuts_behind start ranges

pub goes_on-step : (start : Option Bound) (range : KeyRange) (ranges : List KeyRange) (next : Option Bound) → start_behind start range ≡ Ok next
    → outcome (goes_on next ranges) ≡ outcome (goes_on start (range ∷ ranges))
goes_on-step None range ranges next e = absurd cc
goes_on-step (Some start) range ranges next e = by (same_text range.start start) refl (is_open range.end) refl
  where
    at_end : (rest : List KeyRange) → outcome (goes_on None rest) ≡ outcome {A = Cuts} (cond (eqb (length rest) 0) (Ok []) (Err NotCovering))
    at_end [] = refl
    at_end (r ∷ rs) = ap outcome (sym (no_more r rs))

    forgets : (r : Result Cuts NameFault) → outcome r ≡ outcome (r >>= λ cuts. Ok (range.end ∷ cuts))
    forgets (Ok cuts) = refl
    forgets (Err fault) = refl

    by : (t : Bool) → same_text range.start start ≡ t → (u : Bool) → is_open range.end ≡ u → outcome (goes_on next ranges) ≡ outcome (cuts_behind start (range ∷ ranges))
    by false other u end = let h : Err NotCovering ≡ Ok next = sym (ap (λ t. cond t (Ok (end_of range)) (Err NotCovering)) other) ∙ e in absurd cc
    by true same true ended =
        let h : Ok (end_of range) ≡ Ok next = sym (ap (λ t. cond t (Ok (end_of range)) (Err NotCovering)) same) ∙ e in
        let none : end_of range ≡ None = ap (λ t. cond t None (Some range.end)) ended in
        let is : next ≡ None = cc in
        ap (λ o. outcome (goes_on o ranges)) is ∙ at_end ranges ∙ ap outcome (sym (behind-open start range ranges same ended))
    by true same false shut =
        let h : Ok (end_of range) ≡ Ok next = sym (ap (λ t. cond t (Ok (end_of range)) (Err NotCovering)) same) ∙ e in
        let some : end_of range ≡ Some range.end = ap (λ t. cond t None (Some range.end)) shut in
        let is : next ≡ Some range.end = cc in
        ap (λ o. outcome (goes_on o ranges)) is ∙ forgets (cuts_behind range.end ranges) ∙ ap outcome (sym (behind-closed start range ranges same shut))

pub goes_on-fault : (start : Option Bound) (range : KeyRange) (ranges : List KeyRange) (fault : NameFault) → start_behind start range ≡ Err fault
    → outcome (goes_on start (range ∷ ranges)) ≡ Err fault
goes_on-fault None range ranges fault e = let same : NotCovering ≡ fault = cc in ap Err same
goes_on-fault (Some start) range ranges fault e = by (same_text range.start start) refl
  where
    by : (t : Bool) → same_text range.start start ≡ t → outcome (cuts_behind start (range ∷ ranges)) ≡ Err fault
    by false other =
        let h : ◌≡◌ {A = Result (Option Bound) NameFault} (Err NotCovering) (Err fault) = sym (ap (λ t. cond t (Ok (end_of range)) (Err NotCovering)) other) ∙ e in
        let same : NotCovering ≡ fault = cc in
        ap outcome (behind-other start range ranges other) ∙ ap Err same
    by true same = let h : Ok (end_of range) ≡ Err fault = sym (ap (λ t. cond t (Ok (end_of range)) (Err NotCovering)) same) ∙ e in absurd cc

drop_next : (ranges : List KeyRange) (i : ℕ) (range : KeyRange) → i < length ranges → range ≡ get_or ranges i range → drop i ranges ≡ range ∷ drop (i + 1) ranges
drop_next ranges i range within is = drop-cons ranges i range within ∙ (λ j. sym is j ∷ drop (sym (add-one i) j) ranges)

module _ (ranges : List KeyRange) (i : ℕ) (start : Option Bound) (range : KeyRange) (within : i < length ranges) (is : range ≡ get_or ranges i range)
    (left : outcome (goes_on start (drop i ranges)) ≡ outcome (cuts_behind [] ranges)) where
  pub left-step : (next : Option Bound) → start_behind start range ≡ Ok next → outcome (goes_on next (drop (i + 1) ranges)) ≡ outcome (cuts_behind [] ranges)
  left-step next e = goes_on-step start range (drop (i + 1) ranges) next e ∙ ap (λ l. outcome (goes_on start l)) (sym (drop_next ranges i range within is)) ∙ left

  pub left-fault : (fault : NameFault) → start_behind start range ≡ Err fault → Err fault ≡ outcome (cuts_behind [] ranges)
  left-fault fault e = sym (goes_on-fault start range (drop (i + 1) ranges) fault e) ∙ ap (λ l. outcome (goes_on start l)) (sym (drop_next ranges i range within is)) ∙ left

  pub each-step : list_all is_range (take i ranges) ≡ true → is_range range ≡ true → list_all is_range (take (i + 1) ranges) ≡ true
  each-step each is_one =
      list_all_more is_range ranges i range within
      ∙ and_from (list_all is_range (take i ranges)) (is_range (get_or ranges i range)) each (ap is_range (sym is) ∙ is_one)

pub left-end : (ranges : List KeyRange) (i : ℕ) (start : Option Bound) → length ranges ≤ i → outcome (goes_on start (drop i ranges)) ≡ outcome (cuts_behind [] ranges)
    → outcome (goes_on start []) ≡ outcome (cuts_behind [] ranges)
left-end ranges i start past left = ap (λ l. outcome (goes_on start l)) (sym (drop_of_length-le ranges past)) ∙ left

pub each-end : (ranges : List KeyRange) (i : ℕ) → length ranges ≤ i → list_all is_range (take i ranges) ≡ true → list_all is_range ranges ≡ true
each-end ranges i past each = ap (list_all is_range) (sym (take_all i ranges past)) ∙ each

-- ---- reading

-- the words of a text, separated by commas
abbrev pub words_of : List ℕ → List (List ℕ)
words_of text = slice_split (λ byte. eqb byte comma) text

all_but_commas : (range : KeyRange) → is_range range ≡ true → All (λ byte. eqb byte comma ≡ false) (range_text range)
all_but_commas range is k d h =
    ne_eqb (get_or (range_text range) k d) comma (λ same. range_text_lacks_comma range is k h (sym (get_or_default_zero (range_text range) k d h) ∙ same))

-- the words of the texts of ranges, joined, are these texts
words_of-texts : (range : KeyRange) (ranges : List KeyRange) → list_all is_range (range ∷ ranges) ≡ true → words_of (join_with_byte comma (map range_text (range ∷ ranges))) ≡ map range_text (range ∷ ranges)
words_of-texts range [] all = slice_split_none (λ byte. eqb byte comma) (range_text range) (all_but_commas range (and_parts (is_range range) true all).0)
words_of-texts range (next ∷ ranges) all =
    let both = and_parts (is_range range) (list_all is_range (next ∷ ranges)) all in
    slice_split_at (λ byte. eqb byte comma) (range_text range) comma (join_with_byte comma (map range_text (next ∷ ranges))) (all_but_commas range both.0) (eq-eqb comma comma refl)
    ∙ ap (λ l. range_text range ∷ l) (words_of-texts next ranges both.1)

texts_are_words : (ranges : List KeyRange) → 0 < length ranges → list_all is_range ranges ≡ true → words_of (join_with_byte comma (map range_text ranges)) ≡ map range_text ranges
texts_are_words [] some all = absurd (omega (arith, some))
texts_are_words (range ∷ ranges) some all = words_of-texts range ranges all

with_range-room : (ranges : List KeyRange) (range : KeyRange) → length ranges < 8 → with_range ranges range ≡ Ok (ranges ++ range ∷ [])
with_range-room ranges range room =
    ap (λ t. cond t (Err TooMany) (Ok (ranges ++ range ∷ []))) (ne_eqb (length ranges) most_shards (λ full. omega (arith, room, full)))

read_ranges_after-texts : (ranges done : List KeyRange) → list_all is_range ranges ≡ true → length done + length ranges ≤ 8 → read_ranges_after done (map range_text ranges) ≡ Ok (done ++ ranges)
read_ranges_after-texts [] done all few = ap Ok (sym (append-nil done))
read_ranges_after-texts (range ∷ ranges) done all few =
    let both = and_parts (is_range range) (list_all is_range ranges) all in
    let long = length-append done (range ∷ []) in
    ap (λ r. r >>= λ x. with_range done x >>= λ more. read_ranges_after more (map range_text ranges)) (read_range-range_text range both.0)
    ∙ ap (λ r. r >>= λ more. read_ranges_after more (map range_text ranges)) (with_range-room done range (omega (arith, few)))
    ∙ read_ranges_after-texts ranges (done ++ range ∷ []) both.1 (omega (arith, few, long))
    ∙ ap Ok (append_assoc done (range ∷ []) ranges)

pub read_shards-some : (text : List ℕ) → 0 < length text → read_shards text ≡ (read_ranges_after [] (words_of text) >>= cuts_of_ranges)
read_shards-some [] some = absurd (omega (arith, some))
read_shards-some (byte ∷ bytes) some = refl

joined_some : (range : KeyRange) (ranges : List KeyRange) → 0 < length (join_with_byte comma (map range_text (range ∷ ranges)))
joined_some range [] = range_text_some range
joined_some range (next ∷ ranges) =
    let first = range_text_some range in
    let long = length-append (range_text range) (comma ∷ join_with_byte comma (map range_text (next ∷ ranges))) in
    omega (arith, first, long)

texts_some : (ranges : List KeyRange) → 0 < length ranges → 0 < length (join_with_byte comma (map range_text ranges))
texts_some [] some = absurd (omega (arith, some))
texts_some (range ∷ ranges) some = joined_some range ranges

-- shards are read back
pub read_shards-shards_text : (cuts : Cuts) → AreCuts cuts → read_shards (shards_text cuts) ≡ Ok cuts
read_shards-shards_text cuts are =
    let ranges : List KeyRange = ranges_of cuts in
    let some = some_ranges cuts in
    let all = all_ranges cuts are in
    let few = few_ranges cuts are in
    read_shards-some (shards_text cuts) (texts_some ranges some)
    ∙ ap (λ words. read_ranges_after [] words >>= cuts_of_ranges) (texts_are_words ranges some all)
    ∙ ap (λ r. r >>= cuts_of_ranges) (read_ranges_after-texts ranges [] all (omega (arith, few)))
    ∙ cuts_of_ranges-ranges_of cuts are

-- what words are read as
record AreReadFrom (words : List (List ℕ)) (done read : List KeyRange) : Type 0 where
  ranges : List KeyRange
  whole_list : read ≡ done ++ ranges
  texts : map range_text ranges ≡ words
  each : list_all is_range ranges ≡ true
  few : length read ≤ 8

with_range-taken : (ranges : List KeyRange) (range : KeyRange) (more : List KeyRange) → with_range ranges range ≡ Ok more → (more ≡ ranges ++ range ∷ []) × (length ranges ≡ 8 → ⊥)
with_range-taken ranges range more e = by (eqb (length ranges) most_shards) refl
  where
    by : (t : Bool) → eqb (length ranges) most_shards ≡ t → (more ≡ ranges ++ range ∷ []) × (length ranges ≡ 8 → ⊥)
    by true full = let h : Err TooMany ≡ Ok more = sym (ap (λ t. cond t (Err TooMany) (Ok (ranges ++ range ∷ []))) full) ∙ e in absurd cc
    by false room =
        let h : Ok (ranges ++ range ∷ []) ≡ Ok more = sym (ap (λ t. cond t (Err TooMany) (Ok (ranges ++ range ∷ []))) room) ∙ e in
        let same : more ≡ ranges ++ range ∷ [] = cc in (same, eqb-false (length ranges) 8 room)

one_longer : (ranges more : List KeyRange) (range : KeyRange) → more ≡ ranges ++ range ∷ [] → length more ≡ length ranges + 1
one_longer ranges more range added = ap length added ∙ length-append ranges (range ∷ [])

with_rest : (done more rest read : List KeyRange) (range : KeyRange) → more ≡ done ++ range ∷ [] → read ≡ more ++ rest → read ≡ done ++ range ∷ rest
with_rest done more rest read range added is = is ∙ ap (λ l. l ++ rest) added ∙ append_assoc done (range ∷ []) rest

are_read : (words : List (List ℕ)) (done read : List KeyRange) → read_ranges_after done words ≡ Ok read → length done ≤ 8 → AreReadFrom words done read
are_read [] done read e few =
    let same : done ≡ read = cc in
    record { ranges = []; whole_list = sym same ∙ sym (append-nil done); texts = refl; each = refl; few = subst (λ l. length l ≤ 8) same few }
are_read (word ∷ words) done read e few =
    let one = after_step (read_range word) (λ range. with_range done range >>= λ more. read_ranges_after more words) read e in
    let two = after_step (with_range done one.0) (λ more. read_ranges_after more words) read one.2 in
    let taken = with_range-taken done one.0 two.0 two.1 in
    let added = taken.0 in
    let room = taken.1 in
    let long = one_longer done two.0 one.0 added in
    let is = range_from_read word one.0 one.1 in
    let rest : AreReadFrom words two.0 read = are_read words two.0 read two.2 (omega (arith, long, few, room)) in
    record {
      ranges = one.0 ∷ rest.ranges;
      whole_list = with_rest done two.0 rest.ranges read one.0 added rest.whole_list;
      texts = (λ i. is.1 i ∷ rest.texts i);
      each = and_from (is_range one.0) (list_all is_range rest.ranges) is.0 rest.each;
      few = rest.few;
    }

-- what is read are shards, and the text is their only one
pub shards_from_read : (text : List ℕ) (cuts : Cuts) → read_shards text ≡ Ok cuts → AreCuts cuts × (shards_text cuts ≡ text)
shards_from_read [] cuts e = absurd cc
shards_from_read (byte ∷ bytes) cuts e =
    let text : List ℕ = byte ∷ bytes in
    let step = after_step (read_ranges_after [] (words_of text)) cuts_of_ranges cuts e in
    let from : AreReadFrom (words_of text) [] step.0 = are_read (words_of text) [] step.0 step.1 (omega arith) in
    let all : list_all is_range step.0 ≡ true = ap (list_all is_range) from.whole_list ∙ from.each in
    let make : MakeShards step.0 cuts = made step.0 all from.few step.2 in (
      make.cuts_are,
      ap (λ l. join_with_byte comma (map range_text l)) (make.ranges_are ∙ from.whole_list) ∙ ap (join_with_byte comma) from.texts ∙ join_with_byte-slice_split comma text,
    )
  where
    made : (ranges : List KeyRange) → list_all is_range ranges ≡ true → length ranges ≤ 8 → cuts_of_ranges ranges ≡ Ok cuts → MakeShards ranges cuts
    made [] all few h = absurd cc
    made (range ∷ ranges) all few h = shards_from_behind (range ∷ ranges) cuts h all few

pub read_shards-empty : (text : List ℕ) → length text ≡ 0 → Err Empty ≡ read_shards text
read_shards-empty [] none = refl
read_shards-empty (byte ∷ bytes) none = absurd (omega (arith, none))

module _ (text : List ℕ) (some : length text ≡ 0 → ⊥) where
  long : 0 < length text
  long = omega (arith, some)

  pub read_shards-fault : (fault : NameFault) → Err fault ≡ read_ranges_after [] (words_of text) → Err fault ≡ read_shards text
  read_shards-fault fault e = ap (λ r. r >>= cuts_of_ranges) e ∙ sym (read_shards-some text long)

  pub read_shards-ranges : (ranges : List KeyRange) → Ok ranges ≡ read_ranges_after [] (words_of text) → cuts_of_ranges ranges ≡ read_shards text
  read_shards-ranges ranges e = ap (λ r. r >>= cuts_of_ranges) e ∙ sym (read_shards-some text long)

pub shards_accept : (text : List ℕ) (r : Result Cuts NameFault) → r ≡ read_shards text → IsOk r ↔ IsShardsText text
shards_accept text r e =
    accepts (IsShardsText text) (read_shards text) r e (λ cuts is. let both = shards_from_read text cuts is in (cuts, both.0, both.1)) (λ is. ap is_ok (ap read_shards (sym is.2) ∙ read_shards-shards_text is.0 is.1))

-- ---- a turn of the loop over words

-- a word is read, and its range added
with_word-then : (ranges : List KeyRange) (word : List ℕ) (words : List (List ℕ)) → read_ranges_after ranges (word ∷ words) ≡ (with_word ranges word >>= λ more. read_ranges_after more words)
with_word-then ranges word words = by (read_range word)
  where
    by : (r : Result KeyRange NameFault) → (r >>= λ range. with_range ranges range >>= λ more. read_ranges_after more words) ≡ ((r >>= with_range ranges) >>= λ more. read_ranges_after more words)
    by (Ok range) = refl
    by (Err fault) = refl

-- words that were read leave the rest to read
pub read_on : (before : List (List ℕ)) (done ranges : List KeyRange) (after : List (List ℕ)) → read_ranges_after done before ≡ Ok ranges → read_ranges_after done (before ++ after) ≡ read_ranges_after ranges after
read_on [] done ranges after e = let same : done ≡ ranges = cc in ap (λ l. read_ranges_after l after) same
read_on (word ∷ words) done ranges after e = by (with_word done word) refl (sym (with_word-then done word words) ∙ e) (λ more h. read_on words more ranges after h)
  where
    by : (r : Result (List KeyRange) NameFault) → with_word done word ≡ r → (with_word done word >>= λ more. read_ranges_after more words) ≡ Ok ranges
        → ((more : List KeyRange) → read_ranges_after more words ≡ Ok ranges → read_ranges_after more (words ++ after) ≡ read_ranges_after ranges after)
        → read_ranges_after done (word ∷ words ++ after) ≡ read_ranges_after ranges after
    by (Ok more) is h call = with_word-then done word (words ++ after) ∙ ap (λ r. r >>= λ m. read_ranges_after m (words ++ after)) is ∙ call more (sym (ap (λ r. r >>= λ m. read_ranges_after m words) is) ∙ h)
    by (Err fault) is h call = let bad : Err fault ≡ Ok ranges = sym (ap (λ r. r >>= λ m. read_ranges_after m words) is) ∙ h in absurd cc

pub read_one_more : (before : List (List ℕ)) (ranges more : List KeyRange) (word : List ℕ) → read_ranges_after [] before ≡ Ok ranges → with_word ranges word ≡ Ok more → read_ranges_after [] (before ++ word ∷ []) ≡ Ok more
read_one_more before ranges more word e taken = read_on before [] ranges (word ∷ []) e ∙ with_word-then ranges word [] ∙ ap (λ r. r >>= λ m. read_ranges_after m []) taken

pub read_refused : (before : List (List ℕ)) (ranges : List KeyRange) (word : List ℕ) (after : List (List ℕ)) (fault : NameFault) → read_ranges_after [] before ≡ Ok ranges → with_word ranges word ≡ Err fault → read_ranges_after [] (before ++ word ∷ after) ≡ Err fault
read_refused before ranges word after fault e refused = read_on before [] ranges (word ∷ after) e ∙ with_word-then ranges word after ∙ ap (λ r. r >>= λ m. read_ranges_after m after) refused

pub read_stops : (words so_far : List (List ℕ)) (n : ℕ) (word : List ℕ) (ranges : List KeyRange) (fault : NameFault) → so_far ≡ take n words → n < length words → word ≡ get_or words n word
    → read_ranges_after [] so_far ≡ Ok ranges → with_word ranges word ≡ Err fault → read_ranges_after [] words ≡ Err fault
read_stops words so_far n word ranges fault taken within is read refused =
    let cut : words ≡ so_far ++ word ∷ drop (suc n) words = sym (take-append-drop n words) ∙ ap (λ l. take n words ++ l) (drop-cons words n word within) ∙ ap (λ l. l ++ get_or words n word ∷ drop (suc n) words) (sym taken) ∙ ap (λ w. so_far ++ w ∷ drop (suc n) words) (sym is) in
    ap (read_ranges_after []) cut ∙ read_refused so_far ranges word (drop (suc n) words) fault read refused

-- ---- a turn of the loop that writes

followed_some : (text word : List ℕ) → 0 < length text → followed_by text word ≡ text ++ comma ∷ word
followed_some [] word some = absurd (omega (arith, some))
followed_some (byte ∷ bytes) word some = refl

joined-push : (range : KeyRange) (ranges : List KeyRange) (next : KeyRange)
    → join_with_byte comma (map range_text (range ∷ ranges)) ++ comma ∷ range_text next ≡ join_with_byte comma (map range_text (range ∷ ranges ++ next ∷ []))
joined-push range [] next = refl
joined-push range (other ∷ ranges) next =
    append_assoc (range_text range) (comma ∷ join_with_byte comma (map range_text (other ∷ ranges))) (comma ∷ range_text next)
    ∙ ap (λ l. range_text range ++ comma ∷ l) (joined-push other ranges next)

pub followed-push : (ranges : List KeyRange) (next : KeyRange) → followed_by (join_with_byte comma (map range_text ranges)) (range_text next) ≡ join_with_byte comma (map range_text (ranges ++ next ∷ []))
followed-push [] next = refl
followed-push (range ∷ ranges) next = followed_some (join_with_byte comma (map range_text (range ∷ ranges))) (range_text next) (joined_some range ranges) ∙ joined-push range ranges next

followed_short : (text word : List ℕ) (i : ℕ) → length text ≤ 34 * i - 1 → length word ≤ 33 → length (followed_by text word) ≤ 34 * (i + 1) - 1
followed_short [] word i short fits = omega (arith, fits)
followed_short (byte ∷ bytes) word i short fits = let long = length-append (byte ∷ bytes) (comma ∷ word) in omega (arith, short, fits, long)

pub written-step : (ranges : List KeyRange) (i : ℕ) (range : KeyRange) (text word : List ℕ) → i < length ranges → range ≡ get_or ranges i range → word ≡ range_text range
    → text ≡ join_with_byte comma (map range_text (take i ranges)) → followed_by text word ≡ join_with_byte comma (map range_text (take (i + 1) ranges))
written-step ranges i range text word within is_range_at is_word so_far =
    (λ j. followed_by (so_far j) (is_word j)) ∙ followed-push (take i ranges) range
    ∙ ap (λ l. join_with_byte comma (map range_text l)) (ap (λ r. take i ranges ++ r ∷ []) is_range_at ∙ sym (take_more ranges i range within))

pub written-end : (ranges : List KeyRange) (i : ℕ) (text : List ℕ) → length ranges ≤ i → text ≡ join_with_byte comma (map range_text (take i ranges)) → text ≡ join_with_byte comma (map range_text ranges)
written-end ranges i text past so_far = so_far ∙ ap (λ l. join_with_byte comma (map range_text l)) (take_all i ranges past)

pub short-step : (i : ℕ) (range : KeyRange) (text word more : List ℕ) → is_range range ≡ true → word ≡ range_text range → more ≡ followed_by text word → length text ≤ 34 * i - 1 → length more ≤ 34 * (i + 1) - 1
short-step i range text word more is is_word is_more short =
    let fits : length word ≤ 33 = subst (λ (w : List ℕ). length w ≤ 33) (sym is_word) (range_text_short range is) in
    subst (λ (m : List ℕ). length m ≤ 34 * (i + 1) - 1) (sym is_more) (followed_short text word i short fits)

-- ---- looking for a shard

pub shard_there : (cuts : Cuts) → AreCuts cuts → (key : ℕ) → shard_of cuts key < length (ranges_of cuts)
shard_there cuts are key = let low = shard-low cuts are key in let long = ranges-long [] cuts in omega (arith, low, long)

pub position-shard : (cuts : Cuts) → AreCuts cuts → (key : ℕ) → position (λ range. holds range key) (ranges_of cuts) ≡ Some (shard_of cuts key)
position-shard cuts are key =
    let ranges : List KeyRange = ranges_of cuts in
    let shard : ℕ = shard_of cuts key in
    let there : shard < length ranges = shard_there cuts are key in
    let first : position_or_len (λ (range : KeyRange). holds range key) ranges ≡ shard =
    position_or_len_is (λ (range : KeyRange). holds range key) ranges shard whole (omega (arith, there))
    (λ k below. held k (omega (arith, below, there)) ∙ ne_eqb shard k (λ same. omega (arith, same, below)))
    (λ l. held shard l ∙ eq-eqb shard shard refl) in
    (λ i. cond (ltb (first i) (length ranges)) (Some (first i)) None) ∙ ap (λ t. cond t (Some shard) None) (lt-ltb shard (length ranges) there)
  where
    held : (k : ℕ) → k < length (ranges_of cuts) → holds (get_or (ranges_of cuts) k whole) key ≡ eqb (shard_of cuts key) k
    held k within = shard-holds cuts are k (get_or (ranges_of cuts) k whole) (slice_get-get_or (ranges_of cuts) k whole within) key

pub place-counted : (cuts : Cuts) → AreCuts cuts → (range : KeyRange)
    → position (same_range range) (ranges_of cuts) ≡ cond (ltb (place_of_range cuts range) (shard_count cuts)) (Some (place_of_range cuts range)) None
place-counted cuts are range = ap (λ n. cond (ltb (place_of_range cuts range) n) (Some (place_of_range cuts range)) None) (count_ranges cuts are)

-- of the ranges that a list holds
module _ (items slice : List KeyRange) (self : Cuts) (ranges_are : ranges_of (cuts_between items) ≡ items) (are : AreCuts (cuts_between items)) (view_is : cuts_between items ≡ self) (is : slice ≡ items) where
  pub found_at : (key : ℕ) → position (λ range. holds range key) slice ≡ Some (shard_of self key)
  found_at key =
      ap (position (λ (range : KeyRange). holds range key)) (is ∙ sym ranges_are) ∙ position-shard (cuts_between items) are key ∙ ap (λ (cuts : Cuts). Some (shard_of cuts key)) view_is

  pub placed_at : (range : KeyRange) → position (same_range range) slice ≡ cond (ltb (place_of_range self range) (shard_count self)) (Some (place_of_range self range)) None
  placed_at range =
      ap (position (same_range range)) (is ∙ sym ranges_are) ∙ place-counted (cuts_between items) are range
      ∙ ap (λ (cuts : Cuts). cond (ltb (place_of_range cuts range) (shard_count cuts)) (Some (place_of_range cuts range)) None) view_is
