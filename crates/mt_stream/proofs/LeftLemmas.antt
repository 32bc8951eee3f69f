-- The rows left to copy: where they begin, and the first of them.
use Rattle.std.proofs.Common.{◌≡◌, ◌≢◌, ℕ, suc, ◌<◌, ◌+◌, Bool, true, false, not, ◌&&◌, ◌||◌, cond, eqb, eqb-true, nat_lt, nat_le, ◌-◌, List, [], ◌∷◌, ◌++◌, length, drop, get_or, filter, map, Option, Some, None, refl, sym, ap, subst, ◌∙◌, arith}
use Rattle.std.proofs.lemmas.Bool.{and_parts, and_right, eqb-false, le-leb, le-ltb, leb-false, leb-true, lt-leb, lt-ltb, ltb-false, ltb-true, or_right, true≢false}
use Rattle.std.proofs.lemmas.List.{drop_all, drop_more}
use Rattle.std.specs.declared.cmp.Ordering.TheVariants.{Less}
use Rattle.std.specs.List.{AllByRecursion, find, flat_map}
use Rattle.std.specs.List.Sorted.{IsStrictlySortedBy}
use Rattle.std.specs.Map.{keys_of}
use Rattle.std.specs.Option.{option_map_or}
use Rattle.std.specs.Ordering.{nat_cmp}
use Rattle.mt_names.specs.Names.{same_text}
use Rattle.mt_names.proofs.SameLemmas.{same_text_decides}
use Rattle.mt_model.specs.Rows.{RowValue}
use Rattle.mt_names.specs.Shards.{KeyRange, bound_value, holds, is_open}
use Rattle.mt_plain.specs.Plain.{Copied, not_begun, up_to, ended, among}
use Rattle.mt_plain.specs.Writes.{in_range, place_of}
use Rattle.mt_primary.specs.Primary.{IsPrimary, PrimaryState, TableState, table_at}
use Rattle.mt_primary.specs.Reads.{is_above, next_row}
use Rattle.mt_primary.specs.Writes.{RowPut}
use Rattle.mt_stream.specs.Advance.{left_in, row_copied, rows_left, rows_of}
use Rattle.mt_stream.specs.Loops.{behind_start, first_behind, next_in}
use Rattle.mt_stream.specs.Streams.{IsPlaced, copied_from}
use Rattle.mt_stream.specs.declared.stream.CopiedRange.{CopiedRange}
use Rattle.mt_stream.specs.declared.stream.CopiedRange.TheVariants.{NotBegun, UpTo, Ended}
use Rattle.mt_stream.proofs.ListLemmas.{filter-none, find-none}
use Rattle.mt_stream.proofs.PlaceLemmas.{Distinct, place_of-at, same-apart, same-self}

-- ---- the rows from a place on

-- the rows of a table in the key range, above a key
abbrev pub rows_above : PrimaryState → KeyRange → List ℕ → Option ℕ → List RowPut
rows_above p keys table behind = map (row_copied table) (filter (λ row. holds keys row.0 && is_above behind row.0) (rows_of p table))

-- the rows of tables: of the first one those above a key, of the others all
abbrev pub rows_from : PrimaryState → KeyRange → List (List ℕ) → Option ℕ → List RowPut
rows_from p keys [] behind = []
rows_from p keys (t ∷ ts) behind = rows_above p keys t behind ++ flat_map (λ u. rows_above p keys u None) ts

pub rows_from-none : (p : PrimaryState) (keys : KeyRange) (ts : List (List ℕ)) → rows_from p keys ts None ≡ flat_map (λ u. rows_above p keys u None) ts
rows_from-none p keys [] = refl
rows_from-none p keys (t ∷ ts) = refl

-- ---- the rows left are those from a place on

-- functions that agree on the members
flat_map-agree : (f g : List ℕ → List RowPut) (xs : List (List ℕ)) → ((x : List ℕ) → among xs x ≡ true → f x ≡ g x) → flat_map f xs ≡ flat_map g xs
flat_map-agree f g [] agree = refl
flat_map-agree f g (x ∷ xs) agree =
    ap (λ l. l ++ flat_map f xs) (agree x (rw (same-self x) refl))
    ∙ ap (λ l. g x ++ l) (flat_map-agree f g xs (λ y in_xs. agree y (or_right (same_text x y) (among xs y) in_xs)))

flat_map-nothing : (f : List ℕ → List RowPut) (xs : List (List ℕ)) → ((x : List ℕ) → f x ≡ []) → flat_map f xs ≡ []
flat_map-nothing f [] none = refl
flat_map-nothing f (x ∷ xs) none = rw (none x) (flat_map-nothing f xs none)

-- filters that agree
filter-agree : {X : Type 0} (p q : X → Bool) (xs : List X) → ((x : X) → p x ≡ q x) → filter p xs ≡ filter q xs
filter-agree p q [] agree = refl
filter-agree p q (x ∷ xs) agree = rw (agree x) (ap (λ l. cond (q x) (x ∷ l) l) (filter-agree p q xs agree))

not-le : (a b : ℕ) → not (nat_le a b) ≡ nat_lt b a
not-le a b = by (nat_lt b a) refl
  where
    by : (t : Bool) → nat_lt b a ≡ t → not (nat_le a b) ≡ nat_lt b a
    by true h = rw (h, lt-leb a b (ltb-true b a h)) refl
    by false h = rw (h, le-leb a b (ltb-false b a h)) refl

less-suc : (a b : ℕ) → nat_lt (1 + a) (1 + b) ≡ nat_lt a b
less-suc a b = by (nat_lt a b) refl
  where
    by : (t : Bool) → nat_lt a b ≡ t → nat_lt (1 + a) (1 + b) ≡ nat_lt a b
    by true h = let l = ltb-true a b h in lt-ltb (1 + a) (1 + b) (omega arith) ∙ sym h
    by false h = let l = ltb-false a b h in le-ltb (1 + a) (1 + b) (omega arith) ∙ sym h

-- a member is not a name that is no member
apart_from : (xs : List (List ℕ)) (x y : List ℕ) → among xs x ≡ false → among xs y ≡ true → x ≢ y
apart_from xs x y out in_xs same = true≢false (sym in_xs ∙ ap (among xs) (sym same) ∙ out)

left-by : (p : PrimaryState) (keys : KeyRange) (table : List ℕ) (f g : ℕ → Bool) → ((key : ℕ) → f key ≡ g key)
    → map (row_copied table) (filter (λ row. holds keys row.0 && f row.0) (rows_of p table)) ≡ map (row_copied table) (filter (λ row. holds keys row.0 && g row.0) (rows_of p table))
left-by p keys table f g agree = ap (map (row_copied table)) (filter-agree (λ row. holds keys row.0 && f row.0) (λ row. holds keys row.0 && g row.0) (rows_of p table) (λ row. ap (λ b. holds keys row.0 && b) (agree row.0)))

-- none passes
none-in : (keys : KeyRange) (f : ℕ → Bool) (rows : List (ℕ × RowValue)) → ((key : ℕ) → f key ≡ false) → filter (λ row. holds keys row.0 && f row.0) rows ≡ []
none-in keys f rows none = filter-none (λ row. holds keys row.0 && f row.0) rows (λ row. ap (λ b. holds keys row.0 && b) (none row.0) ∙ and_right (holds keys row.0) false refl)

pub left-up_to : (p : PrimaryState) (keys : KeyRange) (ts : List (List ℕ)) (last : List ℕ) (key : ℕ) → Distinct ts
    → flat_map (left_in p keys ts (up_to last key)) ts ≡ rows_from p keys (drop (place_of ts last) ts) (Some key)
left-up_to p keys [] last key distinct = refl
left-up_to p keys (x ∷ xs) last key distinct = by (left-up_to p keys xs last key distinct.1) (same_text x last) refl
  where
    -- the place of another table
    behind : (y : List ℕ) → among xs y ≡ true → place_of (x ∷ xs) y ≡ 1 + place_of xs y
    behind y in_xs = rw (same-apart x y (apart_from xs x y distinct.0 in_xs)) refl

    front : place_of (x ∷ xs) x ≡ 0
    front = rw (same-self x) refl

    by : flat_map (left_in p keys xs (up_to last key)) xs ≡ rows_from p keys (drop (place_of xs last) xs) (Some key) → (b : Bool) → same_text x last ≡ b
        → flat_map (left_in p keys (x ∷ xs) (up_to last key)) (x ∷ xs) ≡ rows_from p keys (drop (place_of (x ∷ xs) last) (x ∷ xs)) (Some key)
    by again true same =
        let is : x ≡ last = (same_text_decides x last).0 same in
        let place : place_of (x ∷ xs) last ≡ 0 = rw same refl in
        ap (λ l. l ++ flat_map (left_in p keys (x ∷ xs) (up_to last key)) xs) (left-by p keys x (λ k. not (in_range (x ∷ xs) (up_to last key) x k)) (λ k. is_above (Some key) k) (λ k. rw (front, place, same) (not-le k key)))
        ∙ ap (λ l. rows_above p keys x (Some key) ++ l) (flat_map-agree (left_in p keys (x ∷ xs) (up_to last key)) (λ u. rows_above p keys u None) xs (λ y in_xs.
        left-by p keys y (λ k. not (in_range (x ∷ xs) (up_to last key) y k)) (λ k. is_above None k) (λ k.
        rw (place, le-ltb (place_of (x ∷ xs) y) 0 (omega arith), same-apart y last (λ e. apart_from xs x y distinct.0 in_xs (is ∙ sym e))) refl)))
        ∙ ap (λ n. rows_from p keys (drop n (x ∷ xs)) (Some key)) (sym place)
    by again false apart =
        let place : place_of (x ∷ xs) last ≡ 1 + place_of xs last = rw apart refl in
        let one : 1 + place_of xs last ≡ suc (place_of xs last) = omega arith in
        let none : left_in p keys (x ∷ xs) (up_to last key) x ≡ [] = ap (map (row_copied x)) (none-in keys (λ k. not (in_range (x ∷ xs) (up_to last key) x k)) (rows_of p x) (λ k. rw (front, place, lt-ltb 0 (1 + place_of xs last) (omega arith)) refl)) in
        ap (λ l. l ++ flat_map (left_in p keys (x ∷ xs) (up_to last key)) xs) none
        ∙ flat_map-agree (left_in p keys (x ∷ xs) (up_to last key)) (left_in p keys xs (up_to last key)) xs (λ y in_xs.
        left-by p keys y (λ k. not (in_range (x ∷ xs) (up_to last key) y k)) (λ k. not (in_range xs (up_to last key) y k)) (λ k. rw (behind y in_xs, place, less-suc (place_of xs y) (place_of xs last)) refl))
        ∙ again ∙ rw (place, one) refl

-- where the rows left begin, of any range
abbrev pub begin : List (List ℕ) → Copied → ℕ × Option ℕ
begin tables not_begun = (0, None)
begin tables (up_to last key) = (place_of tables last, Some key)
begin tables ended = (length tables, None)

pub left-from : (p : PrimaryState) (keys : KeyRange) (tables : List (List ℕ)) (copied : Copied) → Distinct tables → rows_left p keys tables copied ≡ rows_from p keys (drop (begin tables copied).0 tables) (begin tables copied).1
left-from p keys tables not_begun distinct = sym (rows_from-none p keys tables)
left-from p keys tables (up_to last key) distinct = left-up_to p keys tables last key distinct
left-from p keys tables ended distinct =
    flat_map-nothing (left_in p keys tables ended) tables (λ t. ap (map (row_copied t)) (none-in keys (λ k. not (in_range tables ended t k)) (rows_of p t) (λ k. refl)))
    ∙ sym (ap (λ l. rows_from p keys l None) (drop_all (length tables) tables (omega arith)))

-- the code's range begins there
pub begin-placed : (tables : List (List ℕ)) (range : CopiedRange) → Distinct tables → IsPlaced tables range → begin tables (copied_from tables range) ≡ first_behind tables range
begin-placed tables NotBegun distinct placed = refl
begin-placed tables (UpTo place key) distinct placed = ap (λ n. (n, Some key)) (place_of-at tables place distinct placed)
begin-placed tables Ended distinct placed = refl

-- ---- the first row above a key

-- rows in the order of their keys
abbrev pub AllAbove : ℕ → List (ℕ × RowValue) → Type 0
AllAbove key [] = Unit {0}
AllAbove key (r ∷ rs) = (nat_lt key r.0 ≡ true) × AllAbove key rs

abbrev pub Ascends : List (ℕ × RowValue) → Type 0
Ascends [] = Unit {0}
Ascends (r ∷ rs) = AllAbove r.0 rs × Ascends rs

less-cmp : (a b : ℕ) → nat_cmp a b ≡ Less → nat_lt a b ≡ true
less-cmp a b e = by (nat_lt a b) (eqb a b) refl refl
  where
    by : (l s : Bool) → nat_lt a b ≡ l → eqb a b ≡ s → nat_lt a b ≡ true
    by true s l t = l
    by false true l t = absurd (let h = rw (l, t) at e in cc)
    by false false l t = absurd (let h = rw (l, t) at e in cc)

all_above : (key : ℕ) (rs : List (ℕ × RowValue)) → AllByRecursion (λ y. nat_cmp key y ≡ Less) (keys_of rs) → AllAbove key rs
all_above key [] all = tt
all_above key (r ∷ rs) all = (less-cmp key r.0 all.0, all_above key rs all.1)

ascends : (rs : List (ℕ × RowValue)) → IsStrictlySortedBy nat_cmp (keys_of rs) → Ascends rs
unfolding IsStrictlySortedBy
ascends [] sorted = tt
ascends (r ∷ rs) sorted = (all_above r.0 rs sorted.0, ascends rs sorted.1)

pub rows-ascend : (p : PrimaryState) (table : List ℕ) → IsPrimary p → Ascends (rows_of p table)
rows-ascend p table is = by (table_at p table) refl
  where
    by : (o : Option TableState) → table_at p table ≡ o → Ascends (option_map_or (λ t. t.rows) o [])
    by None at = tt
    by (Some t) at = ascends t.rows (is.ordered table t at)

above-trans : (a b c : ℕ) → nat_lt a b ≡ true → nat_lt b c ≡ true → nat_lt a c ≡ true
above-trans a b c ab bc = let l = ltb-true a b ab in let m = ltb-true b c bc in lt-ltb a c (omega arith)

all-pass : (keys : KeyRange) (behind : Option ℕ) (key : ℕ) (rs : List (ℕ × RowValue)) → is_above behind key ≡ true → AllAbove key rs → filter (λ row. holds keys row.0 && is_above behind row.0) rs ≡ filter (λ row. holds keys row.0) rs
all-pass keys behind key [] above all = refl
all-pass keys behind key (r ∷ rs) above all = rw (by behind above, and-true (holds keys r.0)) (ap (λ l. cond (holds keys r.0) (r ∷ l) l) (all-pass keys behind key rs above all.1))
  where
    and-true : (b : Bool) → (b && true) ≡ b
    and-true true = refl
    and-true false = refl

    by : (b : Option ℕ) → is_above b key ≡ true → is_above b r.0 ≡ true
    by None h = refl
    by (Some last) h = above-trans last key r.0 h all.0

all-pass-self : (keys : KeyRange) (key : ℕ) (rs : List (ℕ × RowValue)) → AllAbove key rs → filter (λ row. holds keys row.0 && is_above (Some key) row.0) rs ≡ filter (λ row. holds keys row.0) rs
all-pass-self keys key [] all = refl
all-pass-self keys key (r ∷ rs) all = rw (all.0, and-true (holds keys r.0)) (ap (λ l. cond (holds keys r.0) (r ∷ l) l) (all-pass-self keys key rs all.1))
  where
    and-true : (b : Bool) → (b && true) ≡ b
    and-true true = refl
    and-true false = refl

pub found-above : (test : ℕ → Bool) (key : ℕ) (rs : List (ℕ × RowValue)) (row : ℕ × RowValue) → AllAbove key rs → find (λ r. test r.0) rs ≡ Some row → nat_lt key row.0 ≡ true
found-above test key [] row all e = absurd cc
found-above test key (r ∷ rs) row all e = by (found-above test key rs row all.1) (test r.0) refl
  where
    by : (find (λ r. test r.0) rs ≡ Some row → nat_lt key row.0 ≡ true) → (t : Bool) → test r.0 ≡ t → nat_lt key row.0 ≡ true
    by again true t = let h = rw t at e in let same : r ≡ row = cc in rw (← same) all.0
    by again false t = again (rw t at e)

-- the rows above a key are the first of them, and those above that one
pub first-above : (keys : KeyRange) (behind : Option ℕ) (rs : List (ℕ × RowValue)) (row : ℕ × RowValue) → Ascends rs → find (λ r. holds keys r.0 && is_above behind r.0) rs ≡ Some row
    → filter (λ r. holds keys r.0 && is_above behind r.0) rs ≡ row ∷ filter (λ r. holds keys r.0 && is_above (Some row.0) r.0) rs
first-above keys behind [] row up e = absurd cc
first-above keys behind (r ∷ rs) row up e = by (first-above keys behind rs row up.1) (holds keys r.0 && is_above behind r.0) refl
  where
    Found : Bool → Type 0
    Found t = cond t (Some r) (find (λ r. holds keys r.0 && is_above behind r.0) rs) ≡ Some row

    found : (t : Bool) → (holds keys r.0 && is_above behind r.0) ≡ t → Found t
    found t is = subst Found is e

    here : (holds keys r.0 && is_above behind r.0) ≡ true → filter (λ q. holds keys q.0 && is_above behind q.0) (r ∷ rs) ≡ r ∷ filter (λ q. holds keys q.0 && is_above (Some r.0) q.0) (r ∷ rs)
    here t =
        let not_self : (holds keys r.0 && nat_lt r.0 r.0) ≡ false = ap (λ b. holds keys r.0 && b) (le-ltb r.0 r.0 (omega arith)) ∙ and_right (holds keys r.0) false refl in
        ap (λ b. cond b (r ∷ filter (λ q. holds keys q.0 && is_above behind q.0) rs) (filter (λ q. holds keys q.0 && is_above behind q.0) rs)) t
        ∙ ap (λ l. r ∷ l) (all-pass keys behind r.0 rs (and_parts (holds keys r.0) (is_above behind r.0) t).1 up.0 ∙ sym (all-pass-self keys r.0 rs up.0)
        ∙ sym (ap (λ b. cond b (r ∷ filter (λ q. holds keys q.0 && is_above (Some r.0) q.0) rs) (filter (λ q. holds keys q.0 && is_above (Some r.0) q.0) rs)) not_self))

    by : (find (λ r. holds keys r.0 && is_above behind r.0) rs ≡ Some row → filter (λ r. holds keys r.0 && is_above behind r.0) rs ≡ row ∷ filter (λ r. holds keys r.0 && is_above (Some row.0) r.0) rs) → (t : Bool) → (holds keys r.0 && is_above behind r.0) ≡ t
        → filter (λ r. holds keys r.0 && is_above behind r.0) (r ∷ rs) ≡ row ∷ filter (λ r. holds keys r.0 && is_above (Some row.0) r.0) (r ∷ rs)
    by again true t =
        let h = found true t in
        let same : r ≡ row = cc in
        subst (λ x. filter (λ q. holds keys q.0 && is_above behind q.0) (r ∷ rs) ≡ x ∷ filter (λ q. holds keys q.0 && is_above (Some x.0) q.0) (r ∷ rs)) same (here t)
    by again false t =
        let later = found false t in
        let l = ltb-true r.0 row.0 (found-above (λ k. holds keys k && is_above behind k) r.0 rs row up.0 later) in
        let not_above : (holds keys r.0 && nat_lt row.0 r.0) ≡ false = ap (λ b. holds keys r.0 && b) (le-ltb row.0 r.0 (omega arith)) ∙ and_right (holds keys r.0) false refl in
        ap (λ b. cond b (r ∷ filter (λ q. holds keys q.0 && is_above behind q.0) rs) (filter (λ q. holds keys q.0 && is_above behind q.0) rs)) t
        ∙ again later
        ∙ ap (λ l. row ∷ l) (sym (ap (λ b. cond b (r ∷ filter (λ q. holds keys q.0 && is_above (Some row.0) q.0) rs) (filter (λ q. holds keys q.0 && is_above (Some row.0) q.0) rs)) not_above))

-- the next row of a table, as one of its rows
pub next-found : (p : PrimaryState) (table : List ℕ) (behind : Option ℕ) → next_row p table behind ≡ find (λ row. is_above behind row.0) (rows_of p table)
next-found p table behind = by (table_at p table)
  where
    by : (o : Option TableState) → option_map_or (λ t. find (λ row. is_above behind row.0) t.rows) o None ≡ find (λ row. is_above behind row.0) (option_map_or (λ t. t.rows) o [])
    by None = refl
    by (Some t) = refl

-- ---- the next row in the key range, by the first one from the range's start on

-- from the start on
abbrev pub from_start : KeyRange → Option ℕ → Option ℕ
from_start keys behind = behind_start (bound_value keys.start) behind

above-start : (first : ℕ) (behind : Option ℕ) (k : ℕ) → is_above (behind_start first behind) k ≡ (nat_le first k && is_above behind k)
above-start first None k = by (eqb first 0) refl (nat_le first k) refl
  where
    by : (b : Bool) → eqb first 0 ≡ b → (c : Bool) → nat_le first k ≡ c → is_above (cond b None (Some (first - 1))) k ≡ (c && true)
    by true z true l = refl
    by true z false l = let e = eqb-true first 0 z in let h = leb-false first k l in absurd (omega (arith, e, h))
    by false z true l = let e = eqb-false first 0 z in let h = leb-true first k l in lt-ltb (first - 1) k (omega (arith, e, h))
    by false z false l = let h = leb-false first k l in le-ltb (first - 1) k (omega (arith, h))
above-start first (Some last) k = by (nat_lt last first) refl (nat_le first k) refl
  where
    by : (b : Bool) → nat_lt last first ≡ b → (c : Bool) → nat_le first k ≡ c → is_above (cond b (Some (first - 1)) (Some last)) k ≡ (c && nat_lt last k)
    by true z true l = let e = ltb-true last first z in let h = leb-true first k l in lt-ltb (first - 1) k (omega (arith, e, h)) ∙ sym (lt-ltb last k (omega (arith, e, h)))
    by true z false l = let h = leb-false first k l in le-ltb (first - 1) k (omega (arith, h))
    by false z true l = refl
    by false z false l = let e = ltb-false last first z in let h = leb-false first k l in le-ltb last k (omega (arith, e, h))

-- whether a key is below the end
below_end : KeyRange → ℕ → Bool
below_end keys k = is_open keys.end || nat_lt k (bound_value keys.end)

from-holds : (keys : KeyRange) (k : ℕ) → holds keys k ≡ (nat_le (bound_value keys.start) k && below_end keys k)
unfolding below_end
from-holds keys k = by keys.start
  where
    by : (start : List ℕ) → ((is_open start || nat_le (bound_value start) k) && (is_open keys.end || nat_lt k (bound_value keys.end))) ≡ (nat_le (bound_value start) k && (is_open keys.end || nat_lt k (bound_value keys.end)))
    by [] = ap (λ b. b && (is_open keys.end || nat_lt k (bound_value keys.end))) (sym (le-leb 0 k (omega arith)))
    by (d ∷ ds) = refl

in-test : (keys : KeyRange) (behind : Option ℕ) (k : ℕ) → (holds keys k && is_above behind k) ≡ (is_above (from_start keys behind) k && below_end keys k)
in-test keys behind k =
    ap (λ b. b && is_above behind k) (from-holds keys k) ∙ turned (nat_le (bound_value keys.start) k) (below_end keys k) (is_above behind k)
    ∙ ap (λ b. b && below_end keys k) (sym (above-start (bound_value keys.start) behind k))
  where
    turned : (a b c : Bool) → ((a && b) && c) ≡ ((a && c) && b)
    turned true true true = refl
    turned true true false = refl
    turned true false true = refl
    turned true false false = refl
    turned false b c = refl

find-agree : (f g : ℕ → Bool) (rs : List (ℕ × RowValue)) → ((k : ℕ) → f k ≡ g k) → find (λ r. f r.0) rs ≡ find (λ r. g r.0) rs
find-agree f g [] agree = refl
find-agree f g (r ∷ rs) agree = ap (λ b. cond b (Some r) (find (λ r. f r.0) rs)) (agree r.0) ∙ ap (λ o. cond (g r.0) (Some r) o) (find-agree f g rs agree)

-- a key above one that is not below the end isn't either
end-passed : (keys : KeyRange) (a b : ℕ) → nat_lt a b ≡ true → below_end keys a ≡ false → below_end keys b ≡ false
unfolding below_end
end-passed keys a b less out = by (is_open keys.end) out
  where
    by : (o : Bool) → (o || nat_lt a (bound_value keys.end)) ≡ false → (o || nat_lt b (bound_value keys.end)) ≡ false
    by true e = absurd (true≢false e)
    by false e = let l = ltb-true a b less in let h = ltb-false a (bound_value keys.end) e in le-ltb b (bound_value keys.end) (omega (arith, l, h))

passes : (f : ℕ → Bool) (rs : List (ℕ × RowValue)) (row : ℕ × RowValue) → find (λ r. f r.0) rs ≡ Some row → f row.0 ≡ true
passes f [] row e = absurd cc
passes f (r ∷ rs) row e = by (f r.0) refl e (passes f rs row)
  where
    by : (b : Bool) → f r.0 ≡ b → cond b (Some r) (find (λ r. f r.0) rs) ≡ Some row → (find (λ r. f r.0) rs ≡ Some row → f row.0 ≡ true) → f row.0 ≡ true
    by true t e again = let same : r ≡ row = cc in ap (λ x. f x.0) (sym same) ∙ t
    by false t e again = again e

-- the first row from the start on decides
first-none : (f g : ℕ → Bool) (rs : List (ℕ × RowValue)) → find (λ r. f r.0) rs ≡ None → find (λ r. f r.0 && g r.0) rs ≡ None
first-none f g [] e = refl
first-none f g (r ∷ rs) e = by (f r.0) e (first-none f g rs)
  where
    by : (b : Bool) → cond b (Some r) (find (λ r. f r.0) rs) ≡ None → (find (λ r. f r.0) rs ≡ None → find (λ r. f r.0 && g r.0) rs ≡ None) → cond (b && g r.0) (Some r) (find (λ r. f r.0 && g r.0) rs) ≡ None
    by true e again = absurd cc
    by false e again = again e

first-some : (f g : ℕ → Bool) (rs : List (ℕ × RowValue)) (row : ℕ × RowValue) → find (λ r. f r.0) rs ≡ Some row → g row.0 ≡ true → find (λ r. f r.0 && g r.0) rs ≡ Some row
first-some f g [] row e t = absurd cc
first-some f g (r ∷ rs) row e t = by (f r.0) e (λ h. first-some f g rs row h t)
  where
    by : (b : Bool) → cond b (Some r) (find (λ r. f r.0) rs) ≡ Some row → (find (λ r. f r.0) rs ≡ Some row → find (λ r. f r.0 && g r.0) rs ≡ Some row) → cond (b && g r.0) (Some r) (find (λ r. f r.0 && g r.0) rs) ≡ Some row
    by true e again = let same : r ≡ row = cc in ap (λ c. cond c (Some r) (find (λ r. f r.0 && g r.0) rs)) (ap (λ x. g x.0) same ∙ t) ∙ e
    by false e again = again e

none-behind : (keys : KeyRange) (f : ℕ → Bool) (key : ℕ) (rs : List (ℕ × RowValue)) → AllAbove key rs → below_end keys key ≡ false → find (λ r. f r.0 && below_end keys r.0) rs ≡ None
none-behind keys f key [] all out = refl
none-behind keys f key (r ∷ rs) all out =
    ap (λ b. cond (f r.0 && b) (Some r) (find (λ r. f r.0 && below_end keys r.0) rs)) (end-passed keys key r.0 all.0 out)
    ∙ ap (λ b. cond b (Some r) (find (λ r. f r.0 && below_end keys r.0) rs)) (and_right (f r.0) false refl)
    ∙ none-behind keys f key rs all.1 out

first-past : (keys : KeyRange) (f : ℕ → Bool) (rs : List (ℕ × RowValue)) (row : ℕ × RowValue) → Ascends rs → find (λ r. f r.0) rs ≡ Some row → below_end keys row.0 ≡ false → find (λ r. f r.0 && below_end keys r.0) rs ≡ None
first-past keys f [] row up e out = refl
first-past keys f (r ∷ rs) row up e out = by (f r.0) e (λ h. first-past keys f rs row up.1 h out)
  where
    by : (b : Bool) → cond b (Some r) (find (λ r. f r.0) rs) ≡ Some row → (find (λ r. f r.0) rs ≡ Some row → find (λ r. f r.0 && below_end keys r.0) rs ≡ None)
        → cond (b && below_end keys r.0) (Some r) (find (λ r. f r.0 && below_end keys r.0) rs) ≡ None
    by true e again =
        let same : r ≡ row = cc in
        let past : below_end keys r.0 ≡ false = ap (λ x. below_end keys x.0) same ∙ out in
        ap (λ c. cond c (Some r) (find (λ r. f r.0 && below_end keys r.0) rs)) past ∙ none-behind keys f r.0 rs up.0 past
    by false e again = again e

module _ (p : PrimaryState) (keys : KeyRange) (t : List ℕ) (behind : Option ℕ) where
  in-is : next_in p keys t behind ≡ find (λ r. is_above (from_start keys behind) r.0 && below_end keys r.0) (rows_of p t)
  in-is = find-agree (λ k. holds keys k && is_above behind k) (λ k. is_above (from_start keys behind) k && below_end keys k) (rows_of p t) (in-test keys behind)

  pub in-none : next_row p t (from_start keys behind) ≡ None → next_in p keys t behind ≡ None
  in-none e = in-is ∙ first-none (is_above (from_start keys behind)) (below_end keys) (rows_of p t) (sym (next-found p t (from_start keys behind)) ∙ e)

  pub in-some : (row : ℕ × RowValue) → next_row p t (from_start keys behind) ≡ Some row → holds keys row.0 ≡ true → next_in p keys t behind ≡ Some row
  in-some row e held =
      in-is
      ∙ first-some (is_above (from_start keys behind)) (below_end keys) (rows_of p t) row (sym (next-found p t (from_start keys behind)) ∙ e)
      (and_parts (nat_le (bound_value keys.start) row.0) (below_end keys row.0) (sym (from-holds keys row.0) ∙ held)).1

  pub in-past : (row : ℕ × RowValue) → IsPrimary p → next_row p t (from_start keys behind) ≡ Some row → holds keys row.0 ≡ false → next_in p keys t behind ≡ None
  in-past row is e out =
      in-is ∙ first-past keys (is_above (from_start keys behind)) (rows_of p t) row (rows-ascend p t is) found (by (below_end keys row.0) refl)
    where
      found : find (λ r. is_above (from_start keys behind) r.0) (rows_of p t) ≡ Some row
      found = sym (next-found p t (from_start keys behind)) ∙ e

      low : is_above (from_start keys behind) row.0 ≡ true
      low = passes (is_above (from_start keys behind)) (rows_of p t) row found

      by : (b : Bool) → below_end keys row.0 ≡ b → below_end keys row.0 ≡ false
      by false h = h
      by true h =
          let start = (and_parts (nat_le (bound_value keys.start) row.0) (is_above behind row.0) (sym (above-start (bound_value keys.start) behind row.0) ∙ low)).0 in
          absurd (true≢false (sym (from-holds keys row.0 ∙ ap (λ b. b && below_end keys row.0) start ∙ h) ∙ out))

-- ---- a step over the tables

-- a table has no row left
pub step-none : (p : PrimaryState) (keys : KeyRange) (t : List ℕ) (ts : List (List ℕ)) (behind : Option ℕ) → next_in p keys t behind ≡ None → rows_from p keys (t ∷ ts) behind ≡ rows_from p keys ts None
step-none p keys t ts behind none =
    ap (λ l. map (row_copied t) l ++ flat_map (λ u. rows_above p keys u None) ts) (find-none (λ row. holds keys row.0 && is_above behind row.0) (rows_of p t) none) ∙ sym (rows_from-none p keys ts)

-- a table has one
pub step-some : (p : PrimaryState) (keys : KeyRange) (t : List ℕ) (ts : List (List ℕ)) (behind : Option ℕ) (row : ℕ × RowValue) → IsPrimary p → next_in p keys t behind ≡ Some row
    → rows_from p keys (t ∷ ts) behind ≡ row_copied t row ∷ rows_from p keys (t ∷ ts) (Some row.0)
step-some p keys t ts behind row is some =
    ap (λ l. map (row_copied t) l ++ flat_map (λ u. rows_above p keys u None) ts) (first-above keys behind (rows_of p t) row (rows-ascend p t is) some)

-- ---- the loop over the tables

module _ (p : PrimaryState) (keys : KeyRange) (tables : List (List ℕ)) (copied : Copied) (place : ℕ) (behind : Option ℕ) (below : place < length tables) (was : rows_left p keys tables copied ≡ rows_from p keys (drop place tables) behind) where
  -- the table at this place, and those behind it
  here : drop place tables ≡ get_or tables place [] ∷ drop (place + 1) tables
  here = drop_more tables place [] below

  -- it has no row left
  pub left-passed : next_in p keys (get_or tables place []) behind ≡ None → rows_left p keys tables copied ≡ rows_from p keys (drop (place + 1) tables) None
  left-passed none = was ∙ ap (λ l. rows_from p keys l behind) here ∙ step-none p keys (get_or tables place []) (drop (place + 1) tables) behind none

  -- its next row is the first one left, and the others come behind it
  pub left-found : (row : ℕ × RowValue) → IsPrimary p → Distinct tables → next_in p keys (get_or tables place []) behind ≡ Some row
      → rows_left p keys tables copied ≡ row_copied (get_or tables place []) row ∷ rows_left p keys tables (up_to (get_or tables place []) row.0)
  left-found row is distinct some =
      was ∙ ap (λ l. rows_from p keys l behind) here ∙ step-some p keys (get_or tables place []) (drop (place + 1) tables) behind row is some
      ∙ ap (λ l. row_copied (get_or tables place []) row ∷ l) (
      ap (λ l. rows_from p keys l (Some row.0)) (sym here)
      ∙ ap (λ n. rows_from p keys (drop n tables) (Some row.0)) (sym (place_of-at tables place distinct below))
      ∙ sym (left-up_to p keys tables (get_or tables place []) row.0 distinct)
      )
