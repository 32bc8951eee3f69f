-- The shards of a keyspace are read back from the texts of their ranges.
use Rattle.std.proofs.Common.{◌≡◌, ◌<◌, ◌≤◌, ◌+◌, ℕ, suc, nat_lt, ◌&&◌, true, false, if◌then◌else◌, List, [], ◌∷◌, ◌++◌, length, map, Some, option_and_then, Ok, Err, append_assoc, append-nil, refl, sym, ap, ◌∙◌, arith, length-append, ltb-true}
use Rattle.std.proofs.lemmas.Bool.{and_parts, le-ltb, ne_eqb}
use Rattle.std.specs.List.{AllByRecursion}
use Rattle.serde_json.specs.Data.{string}
use Rattle.serde_json.specs.View.{items_of}
use Rattle.mt_names.specs.declared.fault.NameFault.TheVariants.{TooMany}
use Rattle.mt_names.specs.Names.{same_text}
use Rattle.mt_names.specs.Shards.{AreCuts, Bound, Cuts, KeyRange, ascend_from, bound_value, cuts_behind, cuts_of_ranges, is_bound, is_open, most_shards, range_text, ranges_from, ranges_of, shards_from, with_range}
use Rattle.mt_names.proofs.EntryLemmas.{same_itself}
use Rattle.mt_names.proofs.SameLemmas.{same_text_decides}
use Rattle.mt_rules.specs.Member.{unless_fault}
use Rattle.mt_keyspace.specs.Load.{cuts_in, ranges_read}
use Rattle.mt_keyspace.specs.Values.{IsReadRange}

-- ---- one range after another

ranges_back : (before ranges : List KeyRange) → AllByRecursion IsReadRange ranges → length before + length ranges ≤ most_shards
    → ranges_read before (items_of (map string (map range_text ranges))) ≡ Some (before ++ ranges)
ranges_back before [] read few = ap Some (sym (append-nil before))
ranges_back before (r ∷ rs) read few =
    let rest = items_of (map string (map range_text rs)) in
    let longer : length (before ++ r ∷ []) ≡ length before + 1 = length-append before (r ∷ []) in
    ap (λ x. option_and_then (λ more. ranges_read more rest) (option_and_then (λ range. unless_fault (with_range before range)) (unless_fault x))) read.0.1
    ∙ ap (λ b. option_and_then (λ more. ranges_read more rest) (unless_fault (if b then Err TooMany else Ok (before ++ r ∷ [])))) (ne_eqb (length before) most_shards (λ e. omega (arith, e, few)))
    ∙ ranges_back (before ++ r ∷ []) rs read.1 (omega (arith, longer, few))
    ∙ ap Some (append_assoc before (r ∷ []) rs)

-- ---- the bounds between them

closed : (low : ℕ) (cut : Bound) → nat_lt low (bound_value cut) ≡ true → is_open cut ≡ false
closed low [] above = absurd (let less : low < 0 = ltb-true low 0 above in omega (arith, less))
closed low (digit ∷ digits) above = refl

module _ (start : Bound) where
  itself : same_text start start ≡ true
  itself = same_itself same_text same_text_decides start

behind_back : (start : Bound) (cuts : Cuts) (low : ℕ) → ascend_from low cuts ≡ true → cuts_behind start (ranges_from start cuts) ≡ Ok cuts
behind_back start [] low ascends = rw (itself start) refl
behind_back start (cut ∷ cuts) low ascends =
    let first = and_parts (is_bound cut && nat_lt low (bound_value cut)) (ascend_from (bound_value cut) cuts) ascends in
    let above = (and_parts (is_bound cut) (nat_lt low (bound_value cut)) first.0).1 in
    rw (itself start, closed low cut above, behind_back cut cuts (bound_value cut) first.1) refl

length-ranges : (start : Bound) (cuts : Cuts) → length (ranges_from start cuts) ≡ suc (length cuts)
length-ranges start [] = refl
length-ranges start (cut ∷ cuts) = ap suc (length-ranges cut cuts)

of_ranges : (cuts : Cuts) → cuts_of_ranges (ranges_of cuts) ≡ cuts_behind [] (ranges_of cuts)
of_ranges [] = refl
of_ranges (cut ∷ cuts) = refl

pub shards_back : (cuts : Cuts) → AreCuts cuts → AllByRecursion IsReadRange (ranges_of cuts) → cuts_in (items_of (map string (map range_text (ranges_of cuts)))) ≡ Some cuts
shards_back cuts are read =
    let long = length-ranges [] cuts in
    let few : length (ranges_of cuts) ≤ most_shards = let most = are.few in omega (arith, long, most) in
    let room : 0 + length (ranges_of cuts) ≤ most_shards = omega (arith, few) in
    ap (option_and_then (λ ranges. unless_fault (shards_from ranges))) (ranges_back [] (ranges_of cuts) read room)
    ∙ ap (λ b. unless_fault (if b then Err TooMany else cuts_of_ranges (ranges_of cuts))) (le-ltb most_shards (length (ranges_of cuts)) few)
    ∙ ap unless_fault (of_ranges cuts ∙ behind_back [] cuts 0 are.ascend)
