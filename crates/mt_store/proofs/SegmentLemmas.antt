-- The entries of segments, one by one.
use Rattle.std.proofs.Common.{◌≡◌, ℕ, suc, zero, ◌+◌, ◌-◌, ◌*◌, ◌/◌, ◌%◌, ◌<◌, ◌≤◌, Bool, true, false, nat_lt, List, [], ◌∷◌, ◌++◌, length, drop, slice_get, Option, Some, None, refl, sym, ap, subst, Bor, ◌∙◌, arith, append-nil, append_assoc, length-append}
use Rattle.std.proofs.lemmas.Bool.{ltb-true, ltb-false}
use Rattle.std.proofs.lemmas.List.{drop-drop, drop_at, drop_all}
use Rattle.std.proofs.lemmas.Option.{slice_get_past, slice_get_read}
use Rattle.std.specs.List.{AllByRecursion}
use Rattle.std.specs.Option.{option_copied}
use Rattle.std.specs.Slice.{IsItemAt}
use Rattle.mt_model.specs.declared.rows.RowChange.{RowChange}
use Rattle.mt_model.specs.Limits.{longest_log}
use Rattle.mt_store.specs.Log.{LogState, log_end, without_first}
use Rattle.mt_store.specs.Segments.{AreSegments, IsWhole, SegmentState, entries_in, log_of}

-- ---- how many there are

pub entries_count : (ss : List SegmentState) → AllByRecursion IsWhole ss → length (entries_in ss) ≡ 256 * length ss
entries_count [] whole = refl
entries_count (s ∷ ss) whole = let n = length-append s (entries_in ss) in let h = whole.0 in let more = entries_count ss whole.1 in omega (arith, n, h, more)

pub log_count : (ss : List SegmentState) (last : SegmentState) → AllByRecursion IsWhole ss → length (entries_in ss ++ last) ≡ 256 * length ss + length last
log_count ss last whole = let n = length-append (entries_in ss) last in let h = entries_count ss whole in omega (arith, n, h)

-- ---- where one stands

get-front : (xs ys : List RowChange) (i : ℕ) → i < length xs → slice_get (xs ++ ys) i ≡ slice_get xs i
get-front [] ys i within = absurd (omega arith)
get-front (x ∷ xs) ys zero within = refl
get-front (x ∷ xs) ys (suc i) within = get-front xs ys i (omega arith)

get-back : (xs ys : List RowChange) (i : ℕ) → length xs ≤ i → slice_get (xs ++ ys) i ≡ slice_get ys (i - length xs)
get-back [] ys i within = let same : i - 0 ≡ i = omega arith in rw same refl
get-back (x ∷ xs) ys zero within = absurd (omega arith)
get-back (x ∷ xs) ys (suc i) within = let same : suc i - suc (length xs) ≡ i - length xs = omega arith in rw same (get-back xs ys i (omega arith))

-- in a whole segment, by the segment and the place there
pub entry_whole : (ss : List SegmentState) (last : SegmentState) → AllByRecursion IsWhole ss → (i : ℕ) (s : SegmentState) → slice_get ss (i / 256) ≡ Some s → slice_get (entries_in ss ++ last) i ≡ slice_get s (i % 256)
entry_whole [] last whole i s e = absurd (no (i / 256) e)
  where
    no : (k : ℕ) → slice_get {X = SegmentState} [] k ≡ Some s → ⊥
    no zero e = cc
    no (suc k) e = cc
entry_whole (p ∷ ss) last whole i s e = by (entry_whole ss last whole.1 (i - 256) s) (nat_lt i 256) refl
  where
    grouped : (p ++ entries_in ss) ++ last ≡ p ++ (entries_in ss ++ last)
    grouped = append_assoc p (entries_in ss) last

    by : (slice_get ss ((i - 256) / 256) ≡ Some s → slice_get (entries_in ss ++ last) (i - 256) ≡ slice_get s ((i - 256) % 256)) → (b : Bool) → nat_lt i 256 ≡ b → slice_get ((p ++ entries_in ss) ++ last) i ≡ slice_get s (i % 256)
    by again true low =
        let below = ltb-true i 256 low in
        let first : i / 256 ≡ 0 = omega (arith, below) in
        let place : i % 256 ≡ i = omega (arith, below) in
        let same : Some p ≡ Some s = sym (ap (slice_get (p ∷ ss)) first) ∙ e in
        let is : p ≡ s = cc in
        rw (grouped, place, ← is) (get-front p (entries_in ss ++ last) i (let n = whole.0 in omega (arith, n, below)))
    by again false high =
        let above = ltb-false i 256 high in
        let later : i / 256 ≡ suc ((i - 256) / 256) = omega (arith, above) in
        let place : i % 256 ≡ (i - 256) % 256 = omega (arith, above) in
        let n = whole.0 in
        rw (grouped, place) (get-back p (entries_in ss ++ last) i (omega (arith, n, above)) ∙ ap (λ k. slice_get (entries_in ss ++ last) (i - k)) n ∙ again (sym (ap (slice_get (p ∷ ss)) later) ∙ e))

-- behind them
pub entry_last : (ss : List SegmentState) (last : SegmentState) → AllByRecursion IsWhole ss → (i : ℕ) → length ss ≤ i / 256 → slice_get (entries_in ss ++ last) i ≡ slice_get last (i - 256 * length ss)
entry_last ss last whole i past =
    let n = entries_count ss whole in
    get-back (entries_in ss) last i (omega (arith, n, past)) ∙ ap (λ k. slice_get last (i - k)) n

-- one that is lent
pub lent_is : (entries : List RowChange) (i : ℕ) (r : Option (Bor RowChange)) → IsItemAt entries i r → option_copied r ≡ slice_get entries i
lent_is entries i None item = sym (slice_get_past entries i item.3)
lent_is entries i (Some x) item = sym (slice_get_read entries (length entries) i x.now refl item.3.0 item.1)

-- ---- a segment more, and one less

pub all_push : (ss : List SegmentState) (s : SegmentState) → AllByRecursion IsWhole ss → length s ≡ 256 → AllByRecursion IsWhole (ss ++ s ∷ [])
all_push [] s whole is = (is, tt)
all_push (p ∷ ss) s whole is = (whole.0, all_push ss s whole.1 is)

pub entries_push : (ss : List SegmentState) (s : SegmentState) → entries_in (ss ++ s ∷ []) ≡ entries_in ss ++ s
entries_push [] s = append-nil s
entries_push (p ∷ ss) s = ap (λ es. p ++ es) (entries_push ss s) ∙ sym (append_assoc p (entries_in ss) s)

-- a whole last segment goes among the others, and one without an entry stands behind them
pub closed_log : (purged : ℕ) (ss : List SegmentState) (last : SegmentState) → log_of purged (ss ++ last ∷ []) [] ≡ log_of purged ss last
closed_log purged ss last = ap (λ (es : List RowChange). record { purged = purged; entries = es }) (append-nil (entries_in (ss ++ last ∷ [])) ∙ entries_push ss last)

pub closed_are : (purged : ℕ) (ss : List SegmentState) (last : SegmentState) → length last ≡ 256 → AreSegments purged ss last → AreSegments purged (ss ++ last ∷ []) []
closed_are purged ss last full are = record {
  whole = all_push ss last are.whole full;
  open_one = omega arith;
  within = subst (λ l. log_end l ≤ longest_log) (sym (closed_log purged ss last)) are.within;
}

pub all_rest : (ss : List SegmentState) → AllByRecursion IsWhole ss → AllByRecursion IsWhole (drop 1 ss)
all_rest [] whole = whole
all_rest (s ∷ ss) whole = whole.1

-- the first one goes, or if there is none, the last one
pub first_goes : (purged : ℕ) (ss : List SegmentState) (last : SegmentState) → AllByRecursion IsWhole ss → 0 < length ss → log_of (purged + 256) (drop 1 ss) last ≡ without_first 256 (log_of purged ss last)
first_goes purged [] last whole some = absurd (omega arith)
first_goes purged (s ∷ ss) last whole some =
    ap (λ (es : List RowChange). record { purged = purged + 256; entries = es }) (sym (ap (drop 256) (append_assoc s (entries_in ss) last) ∙ drop_at s (entries_in ss ++ last) 256 whole.0))

pub last_goes : (purged : ℕ) (ss : List SegmentState) (last : SegmentState) → length ss ≡ 0 → length last ≤ 256 → log_of (purged + 256) ss [] ≡ without_first 256 (log_of purged ss last)
last_goes purged [] last none short = ap (λ (es : List RowChange). record { purged = purged + 256; entries = es }) (sym (drop_all 256 last short))
last_goes purged (s ∷ ss) last none short = absurd (omega arith)

-- one segment more is purged
pub one_more : (log : LogState) (n : ℕ) → without_first 256 (without_first (256 * n) log) ≡ without_first (256 * (n + 1)) log
one_more log n =
    let more : 256 * n + 256 ≡ 256 * (n + 1) = omega arith in
    let up : (log.purged + 256 * n) + 256 ≡ log.purged + 256 * (n + 1) = omega arith in
    let entries : drop 256 (drop (256 * n) log.entries) ≡ drop (256 * (n + 1)) log.entries = drop-drop 256 (256 * n) log.entries ∙ ap (λ k. drop k log.entries) more in
    rw (up, entries) refl
