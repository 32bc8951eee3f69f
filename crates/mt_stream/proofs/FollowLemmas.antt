-- The sink's copied range follows the source: by each entry that is read, and by each row that is copied.
use Rattle.std.proofs.Common.{◌≡◌, ◌≢◌, ℕ, zero, suc, ◌<◌, ◌≤◌, ◌+◌, Bool, true, false, not, ◌&&◌, ◌||◌, cond, eqb, nat_lt, nat_le, AllPairs, List, [], ◌∷◌, ◌++◌, length, take, drop, filter, map, fold, get_or, Option, Some, None, is_some, refl, sym, ap, subst, ◌∙◌, arith, append-nil}
use Rattle.std.proofs.lemmas.Bool.{and_parts, and_right, eq-eqb, eqb-true, false_from_ne_true, le-leb, ltb-true, ne_eqb, or_right, true≢false}
use Rattle.std.proofs.lemmas.List.{drop-drop, drop_all, get_or-drop, length-drop, length-map}
use Rattle.std.specs.List.{find, flat_map, list_any}
use Rattle.std.specs.Map.{lookup}
use Rattle.std.specs.Option.{option_map_or}
use Rattle.mt_names.specs.Names.{same_text}
use Rattle.mt_names.proofs.SameLemmas.{same_text_decides}
use Rattle.mt_model.specs.declared.rows.RowChange.{RowChange}
use Rattle.mt_model.specs.Rows.{Row, RowValue, is_change_of, row_with}
use Rattle.mt_store.proofs.ReadLemmas.{past_more}
use Rattle.mt_names.specs.Shards.{KeyRange, holds}
use Rattle.mt_primary.proofs.LeadLemmas.{entries_on}
use Rattle.mt_plain.specs.Plain.{Copied, up_to, ended, among}
use Rattle.mt_plain.specs.Slots.{copied_after}
use Rattle.mt_plain.specs.Writes.{in_range, place_of}
use Rattle.mt_primary.specs.Primary.{IsPrimary, PrimaryState, TableState, made_at, row_at, row_at_position, table_at}
use Rattle.mt_primary.specs.Reads.{is_above}
use Rattle.mt_primary.specs.Writes.{RowPut, put_of, row_after_put}
use Rattle.mt_stream.specs.declared.stream.Advanced.{Advanced}
use Rattle.mt_stream.specs.Advance.{IsAdvanced, applies, left_in, places, puts_of, row_copied, rows_left, rows_of, stream_after, to_copy}
use Rattle.mt_stream.specs.Follows.{FollowsSource}
use Rattle.mt_stream.specs.Loops.{next_in}
use Rattle.mt_stream.specs.Puts.{RowsByKey, rows_after_put}
use Rattle.mt_stream.specs.Streams.{StreamValue, past}
use Rattle.mt_stream.proofs.CopyLemmas.{range_after}
use Rattle.mt_stream.proofs.LeftLemmas.{Ascends, begin, found-above, left-from, left-up_to, rows-ascend, rows_from, step-none, step-some}
use Rattle.mt_stream.proofs.PlaceLemmas.{Distinct, distinct_from, place_of-at, same-apart, same-self}

-- ---- entries

-- the entries of a row in the range are all written, and none of one outside of it
written-here : (test : RowChange → Bool) (table : List ℕ) (key : ℕ) (row : Row) (xs : List RowChange) → ((c : RowChange) → is_change_of table key c ≡ true → test c ≡ true)
    → fold (row_after_put table key) row (map put_of (filter test xs)) ≡ fold (row_with table key) row xs
written-here test table key row [] all = refl
written-here test table key row (c ∷ xs) all = by (test c) refl (λ r. written-here test table key r xs all)
  where
    by : (b : Bool) → test c ≡ b → ((r : Row) → fold (row_after_put table key) r (map put_of (filter test xs)) ≡ fold (row_with table key) r xs)
        → fold (row_after_put table key) row (map put_of (filter test (c ∷ xs))) ≡ fold (row_with table key) (row_with table key row c) xs
    by true t again = rw t (again (row_with table key row c))
    by false t again =
        let other : is_change_of table key c ≡ false = false_from_ne_true (is_change_of table key c) (λ h. true≢false (sym (all c h) ∙ t)) in
        rw t (again row ∙ ap (λ r. fold (row_with table key) r xs) (sym (ap (λ b. cond b c.after row) other)))

written-elsewhere : (test : RowChange → Bool) (table : List ℕ) (key : ℕ) (row : Row) (xs : List RowChange) → ((c : RowChange) → is_change_of table key c ≡ true → test c ≡ false)
    → fold (row_after_put table key) row (map put_of (filter test xs)) ≡ row
written-elsewhere test table key row [] none = refl
written-elsewhere test table key row (c ∷ xs) none = by (test c) refl (written-elsewhere test table key row xs none)
  where
    by : (b : Bool) → test c ≡ b → fold (row_after_put table key) row (map put_of (filter test xs)) ≡ row → fold (row_after_put table key) row (map put_of (filter test (c ∷ xs))) ≡ row
    by true t again =
        let other : is_change_of table key c ≡ false = false_from_ne_true (is_change_of table key c) (λ h. true≢false (sym t ∙ none c h)) in
        rw t (ap (λ r. fold (row_after_put table key) r (map put_of (filter test xs))) (ap (λ b. cond b c.after row) other) ∙ again)
    by false t again = rw t again

-- whether an entry of a row is written: by the row alone
written-by_row : (s : StreamValue) (table : List ℕ) (key : ℕ) → among s.tables table ≡ true → holds s.range key ≡ true → (c : RowChange) → is_change_of table key c ≡ true → applies s c ≡ in_range s.tables s.copied table key
written-by_row s table key named held c this =
    let both = and_parts (same_text table c.table) (eqb key c.key) this in
    let t : table ≡ c.table = (same_text_decides table c.table).0 both.0 in
    let k : key ≡ c.key = eqb-true key c.key both.1 in
    rw (← t, ← k) (ap (λ h. h && (among s.tables table && in_range s.tables s.copied table key)) held ∙ ap (λ b. b && in_range s.tables s.copied table key) named)

pub rows-read : (s : StreamValue) (source sink : PrimaryState) (n : ℕ) → IsPrimary source → source.log.purged ≤ s.position → FollowsSource s source sink → (table : List ℕ) (key : ℕ) → among s.tables table ≡ true → holds s.range key ≡ true
    → fold (row_after_put table key) (row_at sink table key) (map put_of (filter (applies s) (take n (past s source)))) ≡ cond (in_range s.tables s.copied table key) (row_at_position source (s.position + n) table key) None
rows-read s source sink n is kept follows table key named held = by (in_range s.tables s.copied table key) refl
  where
    made : (made : ℕ) × ((made_at source table ≡ Some made) × (made ≤ s.position))
    made = follows.made table named

    by : (b : Bool) → in_range s.tables s.copied table key ≡ b → fold (row_after_put table key) (row_at sink table key) (map put_of (filter (applies s) (take n (past s source)))) ≡ cond b (row_at_position source (s.position + n) table key) None
    by true inside =
        written-here (applies s) table key (row_at sink table key) (take n (past s source)) (λ c this. written-by_row s table key named held c this ∙ inside)
        ∙ ap (λ r. fold (row_with table key) r (take n (past s source))) (follows.rows table key named held ∙ ap (λ b. cond b (row_at_position source s.position table key) None) inside)
        ∙ entries_on source is table key made.0 made.1.0 n s.position made.1.1 kept
    by false outside =
        written-elsewhere (applies s) table key (row_at sink table key) (take n (past s source)) (λ c this. written-by_row s table key named held c this ∙ outside)
        ∙ follows.rows table key named held ∙ ap (λ b. cond b (row_at_position source s.position table key) None) outside

-- ---- rows

-- whether a put is of a row
abbrev is_at : List ℕ → ℕ → RowPut → Bool
is_at table key put = same_text table put.table && eqb key put.key

any-append : (test : RowPut → Bool) (xs ys : List RowPut) → list_any test (xs ++ ys) ≡ (list_any test xs || list_any test ys)
any-append test [] ys = refl
any-append test (x ∷ xs) ys = by (test x) (any-append test xs ys)
  where
    by : (b : Bool) → list_any test (xs ++ ys) ≡ (list_any test xs || list_any test ys) → (b || list_any test (xs ++ ys)) ≡ (b || list_any test xs || list_any test ys)
    by true again = refl
    by false again = again

-- of the tables, the row's own one decides
any-flat_map : (test : RowPut → Bool) (g : List ℕ → List RowPut) (table : List ℕ) (b : Bool) (xs : List (List ℕ)) → ((u : List ℕ) → same_text u table ≡ false → list_any test (g u) ≡ false) → list_any test (g table) ≡ b
    → list_any test (flat_map g xs) ≡ (among xs table && b)
any-flat_map test g table b [] others here = refl
any-flat_map test g table b (x ∷ xs) others here = any-append test (g x) (flat_map g xs) ∙ by (same_text x table) refl (any-flat_map test g table b xs others here)
  where
    or-same : (a b : Bool) → (b || (a && b)) ≡ b
    or-same a true = refl
    or-same true false = refl
    or-same false false = refl

    by : (t : Bool) → same_text x table ≡ t → list_any test (flat_map g xs) ≡ (among xs table && b) → (list_any test (g x) || list_any test (flat_map g xs)) ≡ ((same_text x table || among xs table) && b)
    by true t again =
        let is : x ≡ table = (same_text_decides x table).0 t in
        ap (λ u. list_any test (g u) || list_any test (flat_map g xs)) is ∙ rw (t, here, again) (or-same (among xs table) b)
    by false t again = rw (t, others x t) again

-- a row of a table is left if it passes
any-passing : (table : List ℕ) (key : ℕ) (f : ℕ → Bool) (rows : List (ℕ × RowValue)) → list_any (is_at table key) (map (row_copied table) (filter (λ row. f row.0) rows)) ≡ (f key && is_some (lookup (eqb key) rows))
any-passing table key f [] = sym (and_right (f key) false refl)
any-passing table key f (row ∷ rows) = by (f row.0) refl (eqb key row.0) refl (any-passing table key f rows)
  where
    by : (b : Bool) → f row.0 ≡ b → (t : Bool) → eqb key row.0 ≡ t → list_any (is_at table key) (map (row_copied table) (filter (λ row. f row.0) rows)) ≡ (f key && is_some (lookup (eqb key) rows))
        → list_any (is_at table key) (map (row_copied table) (filter (λ row. f row.0) (row ∷ rows))) ≡ (f key && is_some (cond (eqb key row.0) (Some row.1) (lookup (eqb key) rows)))
    by true p true t again = let k : key ≡ row.0 = eqb-true key row.0 t in rw (p, t, same-self table) (sym (ap (λ n. f n && true) k ∙ ap (λ b. b && true) p))
    by true p false t again = rw (p, t, same-self table) again
    by false p true t again =
        let k : key ≡ row.0 = eqb-true key row.0 t in
        let out : f key ≡ false = ap f k ∙ p in
        rw (p, t) (again ∙ ap (λ b. b && is_some (lookup (eqb key) rows)) out ∙ sym (ap (λ b. b && true) out))
    by false p false t again = rw (p, t) again

any-other_table : (table u : List ℕ) (key : ℕ) (rows : List (ℕ × RowValue)) → same_text u table ≡ false → list_any (is_at table key) (map (row_copied u) rows) ≡ false
any-other_table table u key [] apart = refl
any-other_table table u key (row ∷ rows) apart =
    let other : same_text table u ≡ false = same-apart table u (λ e. true≢false (sym (ap (same_text u) e ∙ same-self u) ∙ apart)) in
    rw other (any-other_table table u key rows apart)

pub row_at-lookup : (p : PrimaryState) (table : List ℕ) (key : ℕ) → row_at p table key ≡ lookup (eqb key) (rows_of p table)
row_at-lookup p table key = by (table_at p table)
  where
    by : (o : Option TableState) → option_map_or (λ t. lookup (eqb key) t.rows) o None ≡ lookup (eqb key) (option_map_or (λ t. t.rows) o [])
    by None = refl
    by (Some t) = refl

module _ (source : PrimaryState) (keys : KeyRange) (tables : List (List ℕ)) (table : List ℕ) (key : ℕ) (value : RowValue) (held : holds keys key ≡ true) (named : among tables table ≡ true) (there : row_at source table key ≡ Some value) where
  -- a row that stands is left if it lies outside of the range
  left-outside : (c : Copied) → list_any (is_at table key) (rows_left source keys tables c) ≡ not (in_range tables c table key)
  left-outside c =
      any-flat_map (is_at table key) (left_in source keys tables c) table (not (in_range tables c table key)) tables
      (λ u apart. any-other_table table u key (filter (λ row. holds keys row.0 && not (in_range tables c u row.0)) (rows_of source u)) apart)
      (any-passing table key (λ k. holds keys k && not (in_range tables c table k)) (rows_of source table) ∙ ap (λ b. (b && not (in_range tables c table key)) && is_some (lookup (eqb key) (rows_of source table))) held ∙ ap (λ r. not (in_range tables c table key) && is_some r) (sym (row_at-lookup source table key) ∙ there) ∙ and-true (not (in_range tables c table key)))
      ∙ ap (λ b. b && not (in_range tables c table key)) named
    where
      and-true : (b : Bool) → (b && true) ≡ b
      and-true true = refl
      and-true false = refl

-- the row that is found above a key stands there
found-there : (test : ℕ → Bool) (rs : List (ℕ × RowValue)) (row : ℕ × RowValue) → Ascends rs → find (λ r. test r.0) rs ≡ Some row → lookup (eqb row.0) rs ≡ Some row.1
found-there test [] row up e = absurd cc
found-there test (r ∷ rs) row up e = by (found-there test rs row up.1) (test r.0) refl
  where
    by : (find (λ r. test r.0) rs ≡ Some row → lookup (eqb row.0) rs ≡ Some row.1) → (t : Bool) → test r.0 ≡ t → lookup (eqb row.0) (r ∷ rs) ≡ Some row.1
    by again true t =
        let h : Some r ≡ Some row = ap (λ b. cond b (Some r) (find (λ r. test r.0) rs)) (sym t) ∙ e in
        let same : r ≡ row = cc in
        rw (← same, eq-eqb r.0 r.0 refl) refl
    by again false t =
        let later : find (λ r. test r.0) rs ≡ Some row = ap (λ b. cond b (Some r) (find (λ r. test r.0) rs)) (sym t) ∙ e in
        let l = ltb-true r.0 row.0 (found-above test r.0 rs row up.0 later) in
        rw (ne_eqb row.0 r.0 (λ e. omega (arith, l, e))) (again later)

-- the first of the rows from a place on: its table and key, and the rows behind it
pub record FirstOf (source : PrimaryState) (keys : KeyRange) (ts : List (List ℕ)) (put : RowPut) (rest : List RowPut) : Type 0 where
  pub place : ℕ
  pub within : place < length ts
  pub table : get_or ts place [] ≡ put.table
  pub behind : rest ≡ rows_from source keys (drop place ts) (Some put.key)
  pub stands : row_at source put.table put.key ≡ put.after

first-of : (source : PrimaryState) (keys : KeyRange) → IsPrimary source → (ts : List (List ℕ)) (behind : Option ℕ) (put : RowPut) (rest : List RowPut) → rows_from source keys ts behind ≡ put ∷ rest → FirstOf source keys ts put rest
first-of source keys is [] behind put rest e = absurd cc
first-of source keys is (t ∷ ts) behind put rest e = by (next_in source keys t behind) refl (first-of source keys is ts None put rest)
  where
    by : (o : Option (ℕ × RowValue)) → next_in source keys t behind ≡ o → (rows_from source keys ts None ≡ put ∷ rest → FirstOf source keys ts put rest) → FirstOf source keys (t ∷ ts) put rest
    by None none again =
        let f = again (sym (step-none source keys t ts behind none) ∙ e) in
        record { place = suc f.place; within = let l = f.within in omega (arith, l); table = f.table; behind = f.behind; stands = f.stands }
    by (Some row) some again =
        let step : row_copied t row ∷ rows_from source keys (t ∷ ts) (Some row.0) ≡ put ∷ rest = sym (step-some source keys t ts behind row is some) ∙ e in
        let is_put : row_copied t row ≡ put = heads step in
        let is_rest : rows_from source keys (t ∷ ts) (Some row.0) ≡ rest = tails step in
        record {
          place = 0;
          within = omega arith;
          table = ap (λ (p : RowPut). p.table) is_put;
          behind = sym is_rest ∙ ap (λ (p : RowPut). rows_from source keys (t ∷ ts) (Some p.key)) is_put;
          stands = subst (λ (p : RowPut). row_at source p.table p.key ≡ p.after) is_put (row_at-lookup source t row.0 ∙ found-there (λ k. holds keys k && is_above behind k) (rows_of source t) row (rows-ascend source t is) some);
        }
      where
        heads : {x y : RowPut} {xs ys : List RowPut} → x ∷ xs ≡ y ∷ ys → x ≡ y
        heads e = cc

        tails : {x y : RowPut} {xs ys : List RowPut} → x ∷ xs ≡ y ∷ ys → xs ≡ ys
        tails e = cc

module _ (source : PrimaryState) (is : IsPrimary source) (keys : KeyRange) (tables : List (List ℕ)) (distinct : Distinct tables) where
  -- behind the first row that is left come those left when it is copied; and it stands at the source
  first-left : (c : Copied) (put : RowPut) (rest : List RowPut) → rows_left source keys tables c ≡ put ∷ rest → (rest ≡ rows_left source keys tables (up_to put.table put.key)) × (row_at source put.table put.key ≡ put.after)
  first-left c put rest e =
      let start = (begin tables c).0 in
      let f = first-of source keys is (drop start tables) (begin tables c).1 put rest (sym (left-from source keys tables c distinct) ∙ e) in
      let l = f.within in
      let long = length-drop start tables in
      let within : start + f.place < length tables = omega (arith, l, long) in
      let table : get_or tables (start + f.place) [] ≡ put.table = sym (get_or-drop start tables f.place []) ∙ f.table in
      let place : place_of tables put.table ≡ start + f.place = ap (place_of tables) (sym table) ∙ place_of-at tables (start + f.place) distinct within in (
        f.behind ∙ ap (λ l. rows_from source keys l (Some put.key)) (drop-drop f.place start tables ∙ ap (λ n. drop n tables) (sym place)) ∙ sym (left-up_to source keys tables put.table put.key distinct),
        f.stands,
      )

  -- the rows of the range stand, and no others
  abbrev pub Mirrors : Copied → RowsByKey → Type 0
  Mirrors c row = (table : List ℕ) (key : ℕ) → among tables table ≡ true → holds keys key ≡ true → row table key ≡ cond (in_range tables c table key) (row_at source table key) None

  -- two ranges outside of which the same rows of a table and key are left mirror the same
  same-mirror : (c d : Copied) (table : List ℕ) (key : ℕ) → among tables table ≡ true → holds keys key ≡ true → list_any (is_at table key) (rows_left source keys tables c) ≡ list_any (is_at table key) (rows_left source keys tables d)
      → cond (in_range tables c table key) (row_at source table key) None ≡ cond (in_range tables d table key) (row_at source table key) None
  same-mirror c d table key named held same = by (row_at source table key) refl
    where
      no_row : (a b : Bool) (r : Row) → r ≡ None → cond a r None ≡ cond b r None
      no_row true true r e = refl
      no_row true false r e = e
      no_row false true r e = sym e
      no_row false false r e = refl

      not-same : (a b : Bool) → not a ≡ not b → a ≡ b
      not-same true true e = refl
      not-same true false e = absurd cc
      not-same false true e = absurd cc
      not-same false false e = refl

      by : (r : Row) → row_at source table key ≡ r → cond (in_range tables c table key) (row_at source table key) None ≡ cond (in_range tables d table key) (row_at source table key) None
      by None none = no_row (in_range tables c table key) (in_range tables d table key) (row_at source table key) none
      by (Some value) there =
          ap (λ b. cond b (row_at source table key) None) (not-same (in_range tables c table key) (in_range tables d table key)
          (sym (left-outside source keys tables table key value held named there c) ∙ same ∙ left-outside source keys tables table key value held named there d))

  -- one row copied
  mirrors-more : (c : Copied) (put : RowPut) (rest : List RowPut) (row : RowsByKey) → rows_left source keys tables c ≡ put ∷ rest → Mirrors c row → Mirrors (up_to put.table put.key) (rows_after_put row put)
  mirrors-more c put rest row e was table key named held = by (is_at table key put) refl
    where
      first : (rest ≡ rows_left source keys tables (up_to put.table put.key)) × (row_at source put.table put.key ≡ put.after)
      first = first-left c put rest e

      by : (b : Bool) → is_at table key put ≡ b → cond (is_at table key put) put.after (row table key) ≡ cond (in_range tables (up_to put.table put.key) table key) (row_at source table key) None
      by true this =
          let both = and_parts (same_text table put.table) (eqb key put.key) this in
          let t : table ≡ put.table = (same_text_decides table put.table).0 both.0 in
          let k : key ≡ put.key = eqb-true key put.key both.1 in
          let inside : in_range tables (up_to put.table put.key) table key ≡ true = or_right (nat_lt (place_of tables table) (place_of tables put.table)) (same_text table put.table && nat_le key put.key) (rw (both.0, le-leb key put.key (omega (arith, k))) refl) in
          rw (this, inside) (sym first.1 ∙ rw (t, k) refl)
      by false other =
          rw other (was table key named held ∙ same-mirror c (up_to put.table put.key) table key named held (ap (list_any (is_at table key)) e ∙ ap (λ b. b || list_any (is_at table key) rest) other ∙ ap (list_any (is_at table key)) first.0))

  -- so many rows copied
  mirrors-rows : (n : ℕ) (c : Copied) (row : RowsByKey) → Mirrors c row
      → Mirrors (range_after c (take n (places (rows_left source keys tables c)))) (λ table key. fold (row_after_put table key) (row table key) (take n (rows_left source keys tables c)))
      × (rows_left source keys tables (range_after c (take n (places (rows_left source keys tables c)))) ≡ drop n (rows_left source keys tables c))
  mirrors-rows zero c row was = (was, refl)
  mirrors-rows (suc n) c row was = by (rows_left source keys tables c) refl (mirrors-rows n)
    where
      by : (left : List RowPut) → rows_left source keys tables c ≡ left
          → ((c : Copied) (row : RowsByKey) → Mirrors c row
          → Mirrors (range_after c (take n (places (rows_left source keys tables c)))) (λ table key. fold (row_after_put table key) (row table key) (take n (rows_left source keys tables c)))
          × (rows_left source keys tables (range_after c (take n (places (rows_left source keys tables c)))) ≡ drop n (rows_left source keys tables c)))
          → Mirrors (range_after c (take (suc n) (places left))) (λ table key. fold (row_after_put table key) (row table key) (take (suc n) left))
          × (rows_left source keys tables (range_after c (take (suc n) (places left))) ≡ drop (suc n) left)
      by [] e again = (was, e)
      by (put ∷ rest) e again =
          let more = again (up_to put.table put.key) (rows_after_put row put) (mirrors-more c put rest row e was) in
          let same = (first-left c put rest e).0 in
          rw same more

  -- the copy has ended
  mirrors-ended : (c : Copied) (row : RowsByKey) → rows_left source keys tables c ≡ [] → Mirrors c row → Mirrors ended row
  mirrors-ended c row none was table key named held =
      was table key named held ∙ same-mirror c ended table key named held (ap (list_any (is_at table key)) none ∙ ap (list_any (is_at table key)) (sym (left-from source keys tables ended distinct ∙ ap (λ l. rows_from source keys l None) (drop_all (length tables) tables (omega arith)))))

-- ---- an advance

take-nil : {X : Type 0} (n : ℕ) → take {A = X} n [] ≡ []
take-nil zero = refl
take-nil (suc n) = refl

drop-nil : {X : Type 0} (n : ℕ) → drop {A = X} n [] ≡ []
drop-nil zero = refl
drop-nil (suc n) = refl

module _ (old new : StreamValue) (source sink new_sink : PrimaryState) (at_most : ℕ) (answer : Advanced) (is : IsPrimary source) (kept : source.log.purged ≤ old.position) (distinct : Distinct old.tables)
    (advanced : IsAdvanced old source sink at_most answer new new_sink) (follows : FollowsSource old source sink) where
  -- nothing stands past the position: rows are copied
  module _ (e : past old source ≡ []) where
    at_position : (n : ℕ) (table : List ℕ) (key : ℕ) → row_at_position source (old.position + n) table key ≡ row_at source table key
    at_position n table key =
        ap (λ l. option_map_or (λ (c : RowChange). c.before) (find (is_change_of table key) l) (row_at source table key)) (sym (past_more source.log old.position n kept) ∙ ap (drop n) e ∙ drop-nil n)

    before : Mirrors source is old.range old.tables distinct old.copied (row_at sink)
    before table key named held =
        follows.rows table key named held
        ∙ ap (λ l. cond (in_range old.tables old.copied table key) (option_map_or (λ (c : RowChange). c.before) (find (is_change_of table key) l) (row_at source table key)) None) e

    behind : Mirrors source is old.range old.tables distinct (copied_after {E = RowChange} old.copied [] (places (rows_left source old.range old.tables old.copied)) answer.rows at_most)
        (λ table key. fold (row_after_put table key) (row_at sink table key) (take answer.rows (rows_left source old.range old.tables old.copied)))
    behind = over (nat_lt answer.rows at_most && eqb answer.rows (length (places (rows_left source old.range old.tables old.copied)))) refl
      where
        copied : Mirrors source is old.range old.tables distinct (range_after old.copied (take answer.rows (places (rows_left source old.range old.tables old.copied)))) (λ table key. fold (row_after_put table key) (row_at sink table key) (take answer.rows (rows_left source old.range old.tables old.copied)))
            × (rows_left source old.range old.tables (range_after old.copied (take answer.rows (places (rows_left source old.range old.tables old.copied)))) ≡ drop answer.rows (rows_left source old.range old.tables old.copied))
        copied = mirrors-rows source is old.range old.tables distinct answer.rows old.copied (row_at sink) before

        over : (b : Bool) → (nat_lt answer.rows at_most && eqb answer.rows (length (places (rows_left source old.range old.tables old.copied)))) ≡ b
            → Mirrors source is old.range old.tables distinct (cond b ended (range_after old.copied (take answer.rows (places (rows_left source old.range old.tables old.copied))))) (λ table key. fold (row_after_put table key) (row_at sink table key) (take answer.rows (rows_left source old.range old.tables old.copied)))
        over true t =
            let both = and_parts (nat_lt answer.rows at_most) (eqb answer.rows (length (places (rows_left source old.range old.tables old.copied)))) t in
            let all = eqb-true answer.rows (length (places (rows_left source old.range old.tables old.copied))) both.1 in
            let many = length-map {B = List ℕ × ℕ} (rows_left source old.range old.tables old.copied) (λ (p : RowPut). (p.table, p.key)) in
            mirrors-ended source is old.range old.tables distinct (range_after old.copied (take answer.rows (places (rows_left source old.range old.tables old.copied)))) (λ table key. fold (row_after_put table key) (row_at sink table key) (take answer.rows (rows_left source old.range old.tables old.copied)))
            (copied.1 ∙ drop_all answer.rows (rows_left source old.range old.tables old.copied) (omega (arith, all, many))) copied.0
        over false t = copied.0

    puts-are : puts_of old source answer.events answer.rows ≡ take answer.rows (rows_left source old.range old.tables old.copied)
    puts-are =
        ap (λ es. map put_of (filter (applies old) (take answer.events es)) ++ take answer.rows (to_copy old source es)) e
        ∙ ap (λ l. map put_of (filter (applies old) l) ++ take answer.rows (rows_left source old.range old.tables old.copied)) (take-nil answer.events)

    copied-rows : (table : List ℕ) (key : ℕ) → among old.tables table ≡ true → holds old.range key ≡ true
        → row_at new_sink table key ≡ cond (in_range old.tables (stream_after old source at_most answer.events answer.rows).copied table key) (row_at_position source (old.position + answer.events) table key) None
    copied-rows table key named held =
        advanced.puts.rows table key ∙ ap (λ l. fold (row_after_put table key) (row_at sink table key) l) puts-are ∙ behind table key named held
        ∙ ap (λ r. cond (in_range old.tables (copied_after {E = RowChange} old.copied [] (places (rows_left source old.range old.tables old.copied)) answer.rows at_most) table key) r None) (sym (at_position answer.events table key))
        ∙ ap (λ es. cond (in_range old.tables (copied_after {E = RowChange} old.copied es (places (to_copy old source es)) answer.rows at_most) table key) (row_at_position source (old.position + answer.events) table key) None) (sym e)

  -- entries stand past it, and are read
  read-rows : (x : RowChange) (xs : List RowChange) → past old source ≡ x ∷ xs → (table : List ℕ) (key : ℕ) → among old.tables table ≡ true → holds old.range key ≡ true
      → row_at new_sink table key ≡ cond (in_range old.tables (stream_after old source at_most answer.events answer.rows).copied table key) (row_at_position source (old.position + answer.events) table key) None
  read-rows x xs e table key named held =
      let none : to_copy old source (past old source) ≡ [] = ap (to_copy old source) e in
      advanced.puts.rows table key
      ∙ ap (λ l. fold (row_after_put table key) (row_at sink table key) (map put_of (filter (applies old) (take answer.events (past old source))) ++ l)) (ap (take answer.rows) none ∙ take-nil answer.rows)
      ∙ ap (λ l. fold (row_after_put table key) (row_at sink table key) l) (append-nil (map put_of (filter (applies old) (take answer.events (past old source)))))
      ∙ rows-read old source sink answer.events is kept follows table key named held
      ∙ ap (λ es. cond (in_range old.tables (copied_after {E = RowChange} old.copied es (places (to_copy old source es)) answer.rows at_most) table key) (row_at_position source (old.position + answer.events) table key) None) (sym e)

  made : (table : List ℕ) → among old.tables table ≡ true → (made : ℕ) × ((made_at source table ≡ Some made) × (made ≤ old.position + answer.events))
  made table named =
      let was = follows.made table named in
      let low = was.1.1 in
      (was.0, (was.1.0, omega (arith, low)))

  follows-stream_after : (entries : List RowChange) → past old source ≡ entries → FollowsSource (stream_after old source at_most answer.events answer.rows) source new_sink
  follows-stream_after [] e = record { made = made; rows = copied-rows e }
  follows-stream_after (x ∷ xs) e = record { made = made; rows = read-rows x xs e }

pub follows-advanced : (old new : StreamValue) (source sink new_sink : PrimaryState) (at_most : ℕ) (answer : Advanced)
    → IsPrimary source → source.log.purged ≤ old.position → AllPairs (λ a b. a ≢ b) old.tables
    → IsAdvanced old source sink at_most answer new new_sink → FollowsSource old source sink → FollowsSource new source new_sink
follows-advanced old new source sink new_sink at_most answer is kept pairs advanced follows =
    subst (λ s. FollowsSource s source new_sink) (sym advanced.stream) (follows-stream_after old new source sink new_sink at_most answer is kept (distinct_from old.tables pairs) advanced follows (past old source) refl)
