-- The rows left to copy are those that the definitions have not copied: two lists of keys that ascend and have the same members.
use Rattle.std.proofs.Common.{◌≡◌, ℕ, ◌<◌, ◌≤◌, Bool, true, false, not, ◌&&◌, ◌||◌, cond, eqb, nat_lt, List, [], ◌∷◌, ◌++◌, filter, fold, map, Some, None, is_some, refl, sym, ap, ◌∙◌, arith}
use Rattle.std.proofs.lemmas.Bool.{and_right, eq-eqb, eqb-false, eqb-true, ltb-false, ltb-true, ne_eqb, or_right, true≢false}
use Rattle.std.proofs.lemmas.List.{map-append}
use Rattle.std.specs.List.{flat_map, list_any}
use Rattle.std.specs.Map.{keys_of, lookup}
use Rattle.std.specs.Option.{option_map_or}
use Rattle.mt_names.specs.Names.{same_text}
use Rattle.mt_model.specs.Rows.{Row, RowValue}
use Rattle.mt_names.specs.Shards.{KeyRange, holds}
use Rattle.mt_plain.specs.Plain.{Lane, Live, Plain, Write, among, in_lane, is_side, moves, number_of}
use Rattle.mt_plain.specs.Slots.{keys_of_rows, put_in_order, uncopied}
use Rattle.mt_plain.specs.Writes.{client_number, client_row, in_range, row_after_write, row_after_writes}
use Rattle.mt_primary.specs.Primary.{IsPrimary, PrimaryState}
use Rattle.mt_primary.specs.Writes.{RowPut}
use Rattle.mt_stream.specs.Advance.{left_in, places, row_copied, rows_left, rows_of}
use Rattle.mt_stream.specs.Sources.{HasClientRows}
use Rattle.mt_stream.proofs.FollowLemmas.{row_at-lookup}
use Rattle.mt_stream.proofs.LeftLemmas.{AllAbove, Ascends, rows-ascend}
use Rattle.mt_stream.proofs.ListLemmas.{or-false}
use Rattle.mt_stream.proofs.PlaceLemmas.{same-self}

-- ---- numbers that ascend

-- whether a number stands in a list
abbrev pub has : List ℕ → ℕ → Bool
has xs n = list_any (eqb n) xs

abbrev pub AllOver : ℕ → List ℕ → Type 0
AllOver n [] = Unit {0}
AllOver n (m ∷ ms) = (n < m) × AllOver n ms

abbrev pub Up : List ℕ → Type 0
Up [] = Unit {0}
Up (n ∷ ns) = AllOver n ns × Up ns

over-less : (n m : ℕ) (xs : List ℕ) → n < m → AllOver m xs → AllOver n xs
over-less n m [] l over = tt
over-less n m (x ∷ xs) l over = let h = over.0 in (omega (arith, l, h), over-less n m xs l over.1)

-- a member is over what all members are over
over-has : (n k : ℕ) (xs : List ℕ) → AllOver n xs → has xs k ≡ true → n < k
over-has n k [] over e = absurd cc
over-has n k (x ∷ xs) over e = by (over-has n k xs over.1) (eqb k x) refl
  where
    by : (has xs k ≡ true → n < k) → (b : Bool) → eqb k x ≡ b → n < k
    by again true this = let same = eqb-true k x this in let h = over.0 in omega (arith, same, h)
    by again false other = again (rw other at e)

-- no member is below the first
first-least : (x k : ℕ) (xs : List ℕ) → Up (x ∷ xs) → has (x ∷ xs) k ≡ true → x ≤ k
first-least x k xs up e = by (eqb k x) refl
  where
    by : (b : Bool) → eqb k x ≡ b → x ≤ k
    by true this = let same = eqb-true k x this in omega (arith, same)
    by false other = let h = over-has x k xs up.0 (rw other at e) in omega (arith, h)

has-first : (x : ℕ) (xs : List ℕ) → has (x ∷ xs) x ≡ true
has-first x xs = rw (eq-eqb x x refl) refl

has-not : (x : ℕ) (xs : List ℕ) → AllOver x xs → has xs x ≡ false
has-not x xs over = by (has xs x) refl
  where
    by : (b : Bool) → has xs x ≡ b → has xs x ≡ false
    by true h = let l = over-has x x xs over h in absurd (omega (arith, l))
    by false h = h

-- two lists that ascend and have the same members are one
pub same-up : (xs ys : List ℕ) → Up xs → Up ys → ((k : ℕ) → has xs k ≡ has ys k) → xs ≡ ys
same-up [] [] up-x up-y same = refl
same-up [] (y ∷ ys) up-x up-y same = absurd (true≢false (sym (same y ∙ has-first y ys)))
same-up (x ∷ xs) [] up-x up-y same = absurd (true≢false (sym (has-first x xs) ∙ same x))
same-up (x ∷ xs) (y ∷ ys) up-x up-y same = by (same-up xs ys up-x.1 up-y.1)
  where
    heads : x ≡ y
    heads =
        let low : y ≤ x = first-least y x ys up-y (sym (same x) ∙ has-first x xs) in
        let high : x ≤ y = first-least x y xs up-x (same y ∙ has-first y ys) in
        omega (arith, low, high)

    rest : (k : ℕ) → has xs k ≡ has ys k
    rest k = at (eqb k x) refl
      where
        at : (b : Bool) → eqb k x ≡ b → has xs k ≡ has ys k
        at true this =
            let k-x : k ≡ x = eqb-true k x this in
            let k-y : k ≡ y = k-x ∙ heads in
            ap (has xs) k-x ∙ has-not x xs up-x.0 ∙ sym (has-not y ys up-y.0) ∙ ap (has ys) (sym k-y)
        at false other =
            let apart : eqb k y ≡ false = ap (eqb k) (sym heads) ∙ other in
            sym (ap (λ b. b || has xs k) other) ∙ same k ∙ ap (λ b. b || has ys k) apart

    by : (((k : ℕ) → has xs k ≡ has ys k) → xs ≡ ys) → x ∷ xs ≡ y ∷ ys
    by again = ap (λ z. z ∷ xs) heads ∙ ap (λ l. y ∷ l) (again rest)

-- ---- numbers put in their places

over-put : (k : ℕ) (xs : List ℕ) (n : ℕ) → k < n → AllOver k xs → AllOver k (put_in_order xs n)
over-put k [] n l over = (l, tt)
over-put k (m ∷ ms) n l over = by (over-put k ms n l over.1) (eqb n m) (nat_lt n m)
  where
    by : AllOver k (put_in_order ms n) → (s b : Bool) → AllOver k (cond s (m ∷ ms) (cond b (n ∷ m ∷ ms) (m ∷ put_in_order ms n)))
    by again true b = over
    by again false true = (l, over)
    by again false false = (over.0, again)

up-put : (xs : List ℕ) (n : ℕ) → Up xs → Up (put_in_order xs n)
up-put [] n up = (tt, tt)
up-put (m ∷ ms) n up = by (up-put ms n up.1) (eqb n m) refl (nat_lt n m) refl
  where
    by : Up (put_in_order ms n) → (s : Bool) → eqb n m ≡ s → (b : Bool) → nat_lt n m ≡ b → Up (cond s (m ∷ ms) (cond b (n ∷ m ∷ ms) (m ∷ put_in_order ms n)))
    by again true e b l = up
    by again false e true l = let h = ltb-true n m l in ((h, over-less n m ms h up.0), up)
    by again false e false l =
        let h = ltb-false n m l in
        let d = eqb-false n m e in
        (over-put m ms n (omega (arith, h, d)) up.0, again)

has-put : (xs : List ℕ) (n k : ℕ) → has (put_in_order xs n) k ≡ (eqb k n || has xs k)
has-put [] n k = refl
has-put (m ∷ ms) n k = by (has-put ms n k) (eqb n m) refl (nat_lt n m)
  where
    once : (a b : Bool) → (a || b) ≡ (a || (a || b))
    once true b = refl
    once false b = refl

    turned : (a b c : Bool) → (a || (b || c)) ≡ (b || (a || c))
    turned true true c = refl
    turned true false c = refl
    turned false b c = refl

    by : has (put_in_order ms n) k ≡ (eqb k n || has ms k) → (s : Bool) → eqb n m ≡ s → (b : Bool)
        → has (cond s (m ∷ ms) (cond b (n ∷ m ∷ ms) (m ∷ put_in_order ms n))) k ≡ (eqb k n || (eqb k m || has ms k))
    by again true e b =
        let same : n ≡ m = eqb-true n m e in
        once (eqb k m) (has ms k) ∙ ap (λ i. eqb k i || (eqb k m || has ms k)) (sym same)
    by again false e true = refl
    by again false e false = ap (λ b. eqb k m || b) again ∙ turned (eqb k m) (eqb k n) (has ms k)

up-fold : (ks acc : List ℕ) → Up acc → Up (fold put_in_order acc ks)
up-fold [] acc up = up
up-fold (n ∷ ns) acc up = up-fold ns (put_in_order acc n) (up-put acc n up)

has-fold : (ks acc : List ℕ) (k : ℕ) → has (fold put_in_order acc ks) k ≡ (has acc k || has ks k)
has-fold [] acc k = sym (or-false (has acc k))
has-fold (n ∷ ns) acc k = has-fold ns (put_in_order acc n) k ∙ ap (λ b. b || has ns k) (has-put acc n k) ∙ turned (eqb k n) (has acc k) (has ns k)
  where
    turned : (a b c : Bool) → ((a || b) || c) ≡ (b || (a || c))
    turned true true c = refl
    turned true false c = refl
    turned false b c = refl

-- ---- keys that pass a test

over-filter : (test : ℕ → Bool) (n : ℕ) (xs : List ℕ) → AllOver n xs → AllOver n (filter test xs)
over-filter test n [] over = tt
over-filter test n (x ∷ xs) over = by (over-filter test n xs over.1) (test x)
  where
    by : AllOver n (filter test xs) → (b : Bool) → AllOver n (cond b (x ∷ filter test xs) (filter test xs))
    by again true = (over.0, again)
    by again false = again

up-filter : (test : ℕ → Bool) (xs : List ℕ) → Up xs → Up (filter test xs)
up-filter test [] up = tt
up-filter test (x ∷ xs) up = by (up-filter test xs up.1) (test x)
  where
    by : Up (filter test xs) → (b : Bool) → Up (cond b (x ∷ filter test xs) (filter test xs))
    by again true = (over-filter test x xs up.0, again)
    by again false = again

has-filter : (test : ℕ → Bool) (xs : List ℕ) (k : ℕ) → has (filter test xs) k ≡ (has xs k && test k)
has-filter test [] k = refl
has-filter test (x ∷ xs) k = by (has-filter test xs k) (test x) refl (eqb k x) refl
  where
    by : has (filter test xs) k ≡ (has xs k && test k) → (t : Bool) → test x ≡ t → (e : Bool) → eqb k x ≡ e
        → has (cond (test x) (x ∷ filter test xs) (filter test xs)) k ≡ ((eqb k x || has xs k) && test k)
    by again true t true e = let same : k ≡ x = eqb-true k x e in rw (t, e, same, t) refl
    by again true t false e = rw (t, e) again
    by again false t true e =
        let same : k ≡ x = eqb-true k x e in
        let out : test k ≡ false = ap test same ∙ t in
        rw (t, e) (again ∙ ap (λ b. has xs k && b) out ∙ and_right (has xs k) false refl ∙ sym out)
    by again false t false e = rw (t, e) again

-- ---- a primary's keys

over-rows : (key : ℕ) (rs : List (ℕ × RowValue)) → AllAbove key rs → AllOver key (keys_of rs)
over-rows key [] all = tt
over-rows key (r ∷ rs) all = (ltb-true key r.0 all.0, over-rows key rs all.1)

up-rows : (rs : List (ℕ × RowValue)) → Ascends rs → Up (keys_of rs)
up-rows [] up = tt
up-rows (r ∷ rs) up = (over-rows r.0 rs up.0, up-rows rs up.1)

has-rows : (rs : List (ℕ × RowValue)) (k : ℕ) → has (keys_of rs) k ≡ is_some (lookup (eqb k) rs)
has-rows [] k = refl
has-rows (r ∷ rs) k = by (has-rows rs k) (eqb k r.0)
  where
    by : has (keys_of rs) k ≡ is_some (lookup (eqb k) rs) → (b : Bool) → (b || has (keys_of rs) k) ≡ is_some (cond b (Some r.1) (lookup (eqb k) rs))
    by again true = refl
    by again false = again

-- ---- the keys that were written

abbrev pub keys_written : ℕ → List Write → List ℕ
keys_written number ws = flat_map (λ (write : Write). cond (eqb write.table number) (write.key ∷ []) []) ws

-- a key with a row was written
written : (number key : ℕ) (ws : List Write) (before : Row) → is_some (fold (row_after_write number key) before ws) ≡ true → (is_some before || has (keys_written number ws) key) ≡ true
written number key [] before e = or-false (is_some before) ∙ e
written number key (w ∷ ws) before e = by (eqb w.table number) refl (eqb w.key key) refl (written number key ws (row_after_write number key before w) e)
  where
    by : (t : Bool) → eqb w.table number ≡ t → (k : Bool) → eqb w.key key ≡ k
        → (is_some (cond (eqb w.table number && eqb w.key key) w.after before) || has (keys_written number ws) key) ≡ true
        → (is_some before || has (cond (eqb w.table number) (w.key ∷ []) [] ++ keys_written number ws) key) ≡ true
    by true t true k again =
        let same : key ≡ w.key = sym (eqb-true w.key key k) in
        rw (t, eq-eqb key w.key same) (or_right (is_some before) true refl)
    by true t false k again =
        let apart : eqb key w.key ≡ false = ne_eqb key w.key (λ e. eqb-false w.key key k (sym e)) in
        rw (t, apart) (rw (t, k) at again)
    by false t k is again = rw t (rw t at again)

-- ---- the rows that are left

module _ (p : Plain) (w : Live) (lane : Lane) (source : PrimaryState) (is : IsPrimary source) (stands : HasClientRows p w lane source) where
  module _ (table : List ℕ) (moved : moves w table ≡ true) where
    -- its number among the clients' tables is that at the source
    number-is : client_number p w.source table ≡ number_of p w.source table
    number-is = ap (λ o. number_of p (option_map_or (λ (u : Live). cond (is_side u w.source) u.source w.source) o w.source) table) (stands.moved table moved) ∙ by (is_side w w.source)
      where
        by : (b : Bool) → number_of p (cond b w.source w.source) table ≡ number_of p w.source table
        by true = refl
        by false = refl

    -- the keys with a row are the definitions' ones
    has-keys : (k : ℕ) → in_lane w lane k ≡ true → has (keys_of (rows_of source table)) k ≡ has (keys_of_rows p w table) k
    has-keys k here =
        has-rows (rows_of source table) k ∙ ap is_some (sym (row_at-lookup source table k) ∙ stands.rows table k moved here)
        ∙ by (is_some (client_row p w.source table k)) refl
        ∙ sym (has-filter (λ key. is_some (client_row p w.source table key)) (fold put_in_order [] (keys_written (number_of p w.source table) p.writes)) k)
      where
        by : (b : Bool) → is_some (client_row p w.source table k) ≡ b
            → is_some (client_row p w.source table k) ≡ (has (fold put_in_order [] (keys_written (number_of p w.source table) p.writes)) k && is_some (client_row p w.source table k))
        by true there =
            let row : is_some (row_after_writes p.writes (number_of p w.source table) k) ≡ true = ap (λ n. is_some (row_after_writes p.writes n k)) (sym number-is) ∙ there in
            let named = has-fold (keys_written (number_of p w.source table) p.writes) [] k ∙ written (number_of p w.source table) k p.writes None row in
            there ∙ sym (ap (λ b. b && is_some (client_row p w.source table k)) named ∙ there)
        by false none = none ∙ sym (ap (λ b. has (fold put_in_order [] (keys_written (number_of p w.source table) p.writes)) k && b) none ∙ and_right (has (fold put_in_order [] (keys_written (number_of p w.source table) p.writes)) k) false refl)

    has-lane : (k : ℕ) → (b : Bool) → in_lane w lane k ≡ b → (has (keys_of (rows_of source table)) k && b) ≡ (has (keys_of_rows p w table) k && b)
    has-lane k true here = ap (λ h. h && true) (has-keys k here)
    has-lane k false out = and_right (has (keys_of (rows_of source table)) k) false refl ∙ sym (and_right (has (keys_of_rows p w table) k) false refl)

    keys-are : filter (in_lane w lane) (keys_of (rows_of source table)) ≡ filter (in_lane w lane) (keys_of_rows p w table)
    keys-are =
        same-up (filter (in_lane w lane) (keys_of (rows_of source table))) (filter (in_lane w lane) (keys_of_rows p w table))
        (up-filter (in_lane w lane) (keys_of (rows_of source table)) (up-rows (rows_of source table) (rows-ascend source table is)))
        (up-filter (in_lane w lane) (keys_of_rows p w table) (up-filter (λ key. is_some (client_row p w.source table key)) (fold put_in_order [] (keys_written (number_of p w.source table) p.writes)) (up-fold (keys_written (number_of p w.source table) p.writes) [] tt)))
        (λ k. has-filter (in_lane w lane) (keys_of (rows_of source table)) k ∙ has-lane k (in_lane w lane k) refl ∙ sym (has-filter (in_lane w lane) (keys_of_rows p w table) k))

-- the places of rows that pass are those of their keys
places-passing : (table : List ℕ) (test : ℕ → Bool) (rs : List (ℕ × RowValue))
    → places (map (row_copied table) (filter (λ row. test row.0) rs)) ≡ map (λ key. (table, key)) (filter test (keys_of rs))
places-passing table test [] = refl
places-passing table test (r ∷ rs) = by (places-passing table test rs) (test r.0)
  where
    by : places (map (row_copied table) (filter (λ row. test row.0) rs)) ≡ map (λ key. (table, key)) (filter test (keys_of rs)) → (b : Bool)
        → places (map (row_copied table) (cond b (r ∷ filter (λ row. test row.0) rs) (filter (λ row. test row.0) rs))) ≡ map (λ key. (table, key)) (cond b (r.0 ∷ filter test (keys_of rs)) (filter test (keys_of rs)))
    by again true = ap (λ l. (table, r.0) ∷ l) again
    by again false = again

-- the rows of several tables
places-flat : (f : List ℕ → List RowPut) (g : List ℕ → List (List ℕ × ℕ)) (ts : List (List ℕ)) → ((t : List ℕ) → among ts t ≡ true → places (f t) ≡ g t) → places (flat_map f ts) ≡ flat_map g ts
places-flat f g [] agree = refl
places-flat f g (t ∷ ts) agree =
    map-append (λ (put : RowPut). (put.table, put.key)) (f t) (flat_map f ts)
    ∙ ap (λ l. l ++ places (flat_map f ts)) (agree t (rw (same-self t) refl))
    ∙ ap (λ l. g t ++ l) (places-flat f g ts (λ u named. agree u (or_right (same_text t u) (among ts u) named)))

-- two tests, one behind the other
filter-both : (f g : ℕ → Bool) (ks : List ℕ) → filter (λ k. f k && g k) ks ≡ filter g (filter f ks)
filter-both f g [] = refl
filter-both f g (k ∷ ks) = by (f k) (filter-both f g ks)
  where
    by : (b : Bool) → filter (λ k. f k && g k) ks ≡ filter g (filter f ks) → cond (b && g k) (k ∷ filter (λ k. f k && g k) ks) (filter (λ k. f k && g k) ks) ≡ filter g (cond b (k ∷ filter f ks) (filter f ks))
    by true again = ap (λ l. cond (g k) (k ∷ l) l) again
    by false again = again

keys-agree : (f g : ℕ → Bool) (ks : List ℕ) → ((k : ℕ) → f k ≡ g k) → filter f ks ≡ filter g ks
keys-agree f g [] agree = refl
keys-agree f g (k ∷ ks) agree = ap (λ b. cond b (k ∷ filter f ks) (filter f ks)) (agree k) ∙ ap (λ l. cond (g k) (k ∷ l) l) (keys-agree f g ks agree)

pub left-uncopied : (p : Plain) (w : Live) (lane : Lane) (range : KeyRange) (source : PrimaryState) → IsPrimary source → HasClientRows p w lane source → ((key : ℕ) → holds range key ≡ in_lane w lane key)
    → places (rows_left source range w.tables lane.copied) ≡ uncopied p w lane
left-uncopied p w lane range source is stands held =
    places-flat (left_in source range w.tables lane.copied) (λ table. map (λ key. (table, key)) (filter (λ key. in_lane w lane key && not (in_range w.tables lane.copied table key)) (keys_of_rows p w table))) w.tables
    (λ table moved.
    places-passing table (λ key. holds range key && not (in_range w.tables lane.copied table key)) (rows_of source table)
    ∙ ap (map (λ key. (table, key)))
    (keys-agree (λ key. holds range key && not (in_range w.tables lane.copied table key)) (λ key. in_lane w lane key && not (in_range w.tables lane.copied table key)) (keys_of (rows_of source table)) (λ key. ap (λ b. b && not (in_range w.tables lane.copied table key)) (held key))
    ∙ filter-both (in_lane w lane) (λ key. not (in_range w.tables lane.copied table key)) (keys_of (rows_of source table))
    ∙ ap (filter (λ key. not (in_range w.tables lane.copied table key))) (keys-are p w lane source is stands table moved)
    ∙ sym (filter-both (in_lane w lane) (λ key. not (in_range w.tables lane.copied table key)) (keys_of_rows p w table))))
