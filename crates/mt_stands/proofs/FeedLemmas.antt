-- What an advance puts at the side that its stream writes, in the words of the state: entries, rows and writes.
use Rattle.std.proofs.Common.{◌≡◌, ℕ, zero, suc, ◌+◌, Bool, true, false, not, cond, eqb, List, [], ◌∷◌, ◌++◌, drop, take, filter, length, Option, None, Some, refl, sym, ap, ◌∙◌, subst, arith, map, eqb-true}
use Rattle.std.proofs.lemmas.Bool.{true≢false, eq-eqb, eqb-false, and_parts, and_right, ne_eqb, or_right}
use Rattle.std.proofs.lemmas.List.{length-append, take-append-drop}
use Rattle.std.proofs.lemmas.List.Elements.{filter-append}
use Rattle.std.proofs.Math.Seq.{drop-append_seam, take-append_seam}
use Rattle.std.specs.List.{AllByRecursion, flat_map, fold}
use Rattle.std.specs.Option.{option_map}
use Rattle.std.specs.Prelude.{◌&&◌, ◌||◌, if◌then◌else◌}
use Rattle.mt_names.specs.Names.{same_text}
use Rattle.mt_names.proofs.SameLemmas.{same_text_decides}
use Rattle.mt_model.specs.declared.rows.RowChange.{RowChange}
use Rattle.mt_model.specs.Rows.{Row, RowValue}
use Rattle.mt_primary.specs.Primary.{PrimaryState}
use Rattle.mt_primary.specs.Writes.{RowPut, put_of, row_after_put}
use Rattle.mt_plain.specs.Events.{StreamName, forward, back, running, stopped, Slot, Way}
use Rattle.mt_names.specs.Shards.{holds}
use Rattle.mt_plain.specs.Answers.{range_at}
use Rattle.mt_plain.specs.Plain.{Copied, Lane, Live, LogEntry, in_lane, Plain, among, before_way, changes_primary, create_back, live_at, moves, number_of, start_back, stands_done, stop_feeding}
use Rattle.mt_plain.specs.Slots.{copied_after, entry_of_row, is_for, is_fresh, slot_by_way, slot_of, with_position}
use Rattle.mt_plain.specs.Slots as plain
use Rattle.mt_plain.specs.Writes.{client_number, in_range, is_applied, row_after_write}
use Rattle.mt_stream.specs.Advance.{applies, left_in, places, row_copied, rows_of}
use Rattle.mt_stream.specs.Puts.{RowsByKey, changes_by, rows_after_put}
use Rattle.mt_stands.specs.Rows.{HoldsItsKeys, entry_at, is_moved, stream_of, write_of}
use Rattle.mt_stands.proofs.KnownLemmas.{Known, client_at_side, has_at_source, itself, source_is_side}
use Rattle.mt_laws.proofs.AllWritesLemmas.{filter_same}
use Rattle.mt_laws.proofs.PastLemmas.{drop_twice}

-- ---- lists

abbrev none_of : (X : Type 0) → List X
none_of X = []

drop_none : {X : Type 0} (n : ℕ) → drop n (none_of X) ≡ none_of X
drop_none zero = refl
drop_none (suc n) = refl

pub take_none : {X : Type 0} (n : ℕ) → take n (none_of X) ≡ none_of X
take_none zero = refl
take_none (suc n) = refl

pub take_more : {X : Type 0} (n m : ℕ) (xs : List X) → take (n + m) xs ≡ take n xs ++ take m (drop n xs)
take_more zero m xs = let e : 0 + m ≡ m = omega arith in ap (λ k. take k xs) e
take_more {X} (suc n) m [] = take_none {X = X} (suc n + m) ∙ sym (take_none {X = X} m)
take_more (suc n) m (x ∷ xs) = (let e : suc n + m ≡ suc (n + m) = omega arith in ap (λ k. take k (x ∷ xs)) e) ∙ ap (λ l. x ∷ l) (take_more n m xs)

-- two ends of a list of one length are one
pub same_end : {X : Type 0} (a b c d : List X) → a ++ b ≡ c ++ d → length b ≡ length d → b ≡ d
same_end a b c d e l =
    sym (drop-append_seam a b) ∙ ap (drop (length a)) e ∙ ap (λ n. drop n (c ++ d)) same ∙ drop-append_seam c d
  where
    same : length a ≡ length c
    same = let x = length-append a b in let y = length-append c d in let z = ap length e in omega arith

-- those that pass among the first ones are the first ones that pass
pub take_passing : {X : Type 0} (test : X → Bool) (n : ℕ) (xs : List X) → take (length (filter test (take n xs))) (filter test xs) ≡ filter test (take n xs)
take_passing test n xs =
    ap (λ l. take (length (filter test (take n xs))) l) (ap (filter test) (sym (take-append-drop n xs)) ∙ filter-append test (take n xs) (drop n xs))
    ∙ take-append_seam (filter test (take n xs)) (filter test (drop n xs))

pub all_append : {X : Type 0} (P : X → Type 0) (xs ys : List X) → AllByRecursion P xs → AllByRecursion P ys → AllByRecursion P (xs ++ ys)
all_append P [] ys all more = more
all_append P (x ∷ xs) ys all more = (all.0, all_append P xs ys all.1 more)

pub all_take : {X : Type 0} (P : X → Type 0) (n : ℕ) (xs : List X) → AllByRecursion P xs → AllByRecursion P (take n xs)
all_take P zero xs all = tt
all_take P (suc n) [] all = tt
all_take P (suc n) (x ∷ xs) all = (all.0, all_take P n xs all.1)

-- ---- entries

-- the entries that puts leave name their rows
pub changes_logged : (k : List ℕ) (n : ℕ) (rows : RowsByKey) (puts : List RowPut) → map (entry_at k n) (changes_by rows puts) ≡ map (entry_of_row k n) (places puts)
changes_logged k n rows [] = refl
changes_logged k n rows (put ∷ puts) = ap (λ l. entry_of_row k n (put.table, put.key) ∷ l) (changes_logged k n (rows_after_put rows put) puts)

-- whether a lane's stream writes an entry, by the keys of its shard
abbrev pub lane_test : Live → Lane → RowChange → Bool
lane_test w lane c = in_lane w lane c.key && is_applied w.tables lane.copied c.table c.key

module _ (w : Live) (lane : Lane) (slot : Slot) (split : HoldsItsKeys w lane) where
  pub test_is : (c : RowChange) → applies (stream_of w lane slot) c ≡ lane_test w lane c
  test_is c = ap (λ b. b && is_applied w.tables lane.copied c.table c.key) (split c.key)

  pub tests_are : (cs : List RowChange) → filter (applies (stream_of w lane slot)) cs ≡ filter (lane_test w lane) cs
  tests_are cs = filter_same (applies (stream_of w lane slot)) (lane_test w lane) cs test_is

  pub applied_logged : (from : List ℕ) (m : ℕ) (k : List ℕ) (n : ℕ) (cs : List RowChange)
      → map (entry_of_row k n) (places (map put_of (filter (applies (stream_of w lane slot)) cs))) ≡ map (λ e. entry_of_row k n (e.table, e.key)) (filter (plain.applies w lane) (map (entry_at from m) cs))
  applied_logged from m k n cs = ap (λ l. map (entry_of_row k n) (places (map put_of l))) (tests_are cs) ∙ of cs
    where
      of : (cs : List RowChange) → map (entry_of_row k n) (places (map put_of (filter (lane_test w lane) cs))) ≡ map (λ (e : LogEntry). entry_of_row k n (e.table, e.key)) (filter (plain.applies w lane) (map (entry_at from m) cs))
      of [] = refl
      of (c ∷ cs) = by (lane_test w lane c) (of cs)
        where
          by : (b : Bool) → map (entry_of_row k n) (places (map put_of (filter (lane_test w lane) cs))) ≡ map (λ (e : LogEntry). entry_of_row k n (e.table, e.key)) (filter (plain.applies w lane) (map (entry_at from m) cs))
              → map (entry_of_row k n) (places (map put_of (cond b (c ∷ filter (lane_test w lane) cs) (filter (lane_test w lane) cs))))
              ≡ map (λ (e : LogEntry). entry_of_row k n (e.table, e.key)) (cond b (entry_at from m c ∷ filter (plain.applies w lane) (map (entry_at from m) cs)) (filter (plain.applies w lane) (map (entry_at from m) cs)))
          by true again = ap (λ l. entry_of_row k n (c.table, c.key) ∷ l) again
          by false again = again

pub moved_entries : (w : Live) (lane : Lane) (k : List ℕ) (n : ℕ) (cs : List RowChange) → filter (is_for w lane) (map (entry_at k n) cs) ≡ map (entry_at k n) (filter (is_moved w lane) cs)
moved_entries w lane k n [] = refl
moved_entries w lane k n (c ∷ cs) = by (is_moved w lane c) (moved_entries w lane k n cs)
  where
    by : (b : Bool) → filter (is_for w lane) (map (entry_at k n) cs) ≡ map (entry_at k n) (filter (is_moved w lane) cs)
        → cond b (entry_at k n c ∷ filter (is_for w lane) (map (entry_at k n) cs)) (filter (is_for w lane) (map (entry_at k n) cs)) ≡ map (entry_at k n) (cond b (c ∷ filter (is_moved w lane) cs) (filter (is_moved w lane) cs))
    by true again = ap (λ l. entry_at k n c ∷ l) again
    by false again = again

pub copied_same : (copied : Copied) (k : List ℕ) (n : ℕ) (cs : List RowChange) (left : List (List ℕ × ℕ)) (rows at_most : ℕ) → copied_after copied (map (entry_at k n) cs) left rows at_most ≡ copied_after copied cs left rows at_most
copied_same copied k n [] left rows at_most = refl
copied_same copied k n (c ∷ cs) left rows at_most = refl

-- ---- puts at other tables, and other keys

abbrev pub IsMoved : Live → Lane → List ℕ → ℕ → Type 0
IsMoved w lane table key = (moves w table ≡ true) × (in_lane w lane key ≡ true)

abbrev pub AllMoved : Live → Lane → List RowPut → Type 0
AllMoved w lane puts = AllByRecursion (λ put. IsMoved w lane put.table put.key) puts

pub applied_moved : (w : Live) (lane : Lane) (cs : List RowChange) → AllMoved w lane (map put_of (filter (lane_test w lane) cs))
applied_moved w lane [] = tt
applied_moved w lane (c ∷ cs) = by (lane_test w lane c) refl (applied_moved w lane cs)
  where
    by : (b : Bool) → lane_test w lane c ≡ b → AllMoved w lane (map put_of (filter (lane_test w lane) cs)) → AllMoved w lane (map put_of (cond b (c ∷ filter (lane_test w lane) cs) (filter (lane_test w lane) cs)))
    by true e again =
        let both = and_parts (in_lane w lane c.key) (is_applied w.tables lane.copied c.table c.key) e in
        (((and_parts (moves w c.table) (in_range w.tables lane.copied c.table c.key) both.1).0, both.0), again)
    by false e again = again

module _ (w : Live) (lane : Lane) (split : HoldsItsKeys w lane) where
  rows_moved : (t : List ℕ) → moves w t ≡ true → (test : ℕ → Bool) (rows : List (ℕ × RowValue)) → AllMoved w lane (map (row_copied t) (filter (λ row. holds (range_at w.cuts lane.shard) row.0 && test row.0) rows))
  rows_moved t moved test [] = tt
  rows_moved t moved test (r ∷ rs) = by (holds (range_at w.cuts lane.shard) r.0 && test r.0) refl (rows_moved t moved test rs)
    where
      rest : List (ℕ × RowValue)
      rest = filter (λ row. holds (range_at w.cuts lane.shard) row.0 && test row.0) rs

      by : (b : Bool) → (holds (range_at w.cuts lane.shard) r.0 && test r.0) ≡ b → AllMoved w lane (map (row_copied t) rest) → AllMoved w lane (map (row_copied t) (cond b (r ∷ rest) rest))
      by true e again = ((moved, sym (split r.0) ∙ (and_parts (holds (range_at w.cuts lane.shard) r.0) (test r.0) e).0), again)
      by false e again = again

  pub left_moved : (source : PrimaryState) (ts : List (List ℕ)) → ((t : List ℕ) → among ts t ≡ true → moves w t ≡ true) → AllMoved w lane (flat_map (left_in source (range_at w.cuts lane.shard) w.tables lane.copied) ts)
  left_moved source [] all = tt
  left_moved source (t ∷ ts) all =
      all_append (λ (put : RowPut). IsMoved w lane put.table put.key) (left_in source (range_at w.cuts lane.shard) w.tables lane.copied t) (flat_map (left_in source (range_at w.cuts lane.shard) w.tables lane.copied) ts)
      (rows_moved t (all t (ap (λ b. b || among ts t) (itself t))) (λ key. not (in_range w.tables lane.copied t key)) (rows_of source t))
      (left_moved source ts (λ u named. all u (or_right (same_text t u) (among ts u) named)))

pub fold_untouched : (w : Live) (lane : Lane) (puts : List RowPut) → AllMoved w lane puts → (t : List ℕ) (key : ℕ) → (moves w t && in_lane w lane key) ≡ false → (row : Row) → fold (row_after_put t key) row puts ≡ row
fold_untouched w lane [] all t key none row = refl
fold_untouched w lane (put ∷ puts) all t key none row =
    ap (λ b. fold (row_after_put t key) (cond b put.after row) puts) (by (same_text t put.table) refl (eqb key put.key) refl) ∙ fold_untouched w lane puts all.1 t key none row
  where
    by : (a : Bool) → same_text t put.table ≡ a → (b : Bool) → eqb key put.key ≡ b → (same_text t put.table && eqb key put.key) ≡ false
    by true e true f =
        let m : moves w t ≡ true = ap (moves w) ((same_text_decides t put.table).0 e) ∙ all.0.0 in
        let i : in_lane w lane key ≡ true = ap (in_lane w lane) (eqb-true key put.key f) ∙ all.0.1 in
        absurd (true≢false (sym (ap (λ b. b && in_lane w lane key) m ∙ i) ∙ none))
    by true e false f = ap (λ b. same_text t put.table && b) f ∙ and_right (same_text t put.table) false refl
    by false e b f = ap (λ a. a && eqb key put.key) e

pub none_moved : (w v : Live) (lane l : Lane) → ((t : List ℕ) → moves w t ≡ true → moves v t ≡ false) → (rows : RowsByKey) (puts : List RowPut) → AllMoved w lane puts → filter (is_moved v l) (changes_by rows puts) ≡ []
none_moved w v lane l apart rows [] all = refl
none_moved w v lane l apart rows (put ∷ puts) all =
    ap (λ b. cond b (record { table = put.table; key = put.key; before = rows put.table put.key; after = put.after } ∷ filter (is_moved v l) (changes_by (rows_after_put rows put) puts)) (filter (is_moved v l) (changes_by (rows_after_put rows put) puts)))
    (ap (λ b. in_lane v l put.key && b) (apart put.table all.0.0) ∙ and_right (in_lane v l put.key) false refl)
    ∙ none_moved w v lane l apart (rows_after_put rows put) puts all.1

-- ---- entries that are read

pub same_key : (a b : ℕ) → eqb a b ≡ eqb b a
same_key a b = by (eqb b a) refl
  where
    by : (t : Bool) → eqb b a ≡ t → eqb a b ≡ eqb b a
    by true e = eq-eqb a b (sym (eqb-true b a e)) ∙ sym e
    by false e = ne_eqb a b (λ h. eqb-false b a e (sym h)) ∙ sym e

module _ (p : Plain) (known : Known p) (name : List ℕ) (w : Live) (live : live_at p name ≡ Some w) where
  numbers_apart : (t u : List ℕ) → moves w t ≡ true → moves w u ≡ true → eqb (number_of p w.source u) (number_of p w.source t) ≡ same_text t u
  numbers_apart t u mt mu = by (same_text t u) refl
    where
      client : (x : List ℕ) → moves w x ≡ true → client_number p w.source x ≡ number_of p w.source x
      client x m = client_at_side p w x (known.found name w live x m) w.source (source_is_side w)

      by : (b : Bool) → same_text t u ≡ b → eqb (number_of p w.source u) (number_of p w.source t) ≡ same_text t u
      by true e = eq-eqb (number_of p w.source u) (number_of p w.source t) (ap (number_of p w.source) (sym ((same_text_decides t u).0 e))) ∙ sym e
      by false e =
          ne_eqb (number_of p w.source u) (number_of p w.source t)
          (λ h. true≢false (sym ((same_text_decides t u).1 (sym (known.apart w.source u w.source t (has_at_source p known name w live u mu) (has_at_source p known name w live t mt) (client u mu ∙ h ∙ sym (client t mt))).0)) ∙ e))
          ∙ sym e

  module _ (lane : Lane) (t : List ℕ) (key : ℕ) (here : in_lane w lane key ≡ true) where
    -- in the copied range the entries make of a row what the writes do
    pub fold_read : moves w t ≡ true → in_range w.tables lane.copied t key ≡ true → (cs : List RowChange) (row : Row)
        → fold (row_after_put t key) row (map put_of (filter (lane_test w lane) cs)) ≡ fold (row_after_write (number_of p w.source t) key) row (map (write_of p w) (filter (is_moved w lane) cs))
    fold_read moved within [] row = refl
    fold_read moved within (c ∷ cs) row = by (in_lane w lane c.key) refl (moves w c.table) refl (in_range w.tables lane.copied c.table c.key) refl (fold_read moved within cs)
      where
        puts : List RowChange
        puts = filter (lane_test w lane) cs

        more : List RowChange
        more = filter (is_moved w lane) cs

        Again : Type 0
        Again = (r : Row) → fold (row_after_put t key) r (map put_of puts) ≡ fold (row_after_write (number_of p w.source t) key) r (map (write_of p w) more)

        outside : (s e : Bool) → same_text t c.table ≡ s → eqb key c.key ≡ e → in_range w.tables lane.copied c.table c.key ≡ false → (s && e) ≡ false
        outside true true s e none = absurd (true≢false (sym (ap (λ x. in_range w.tables lane.copied x c.key) (sym ((same_text_decides t c.table).0 s)) ∙ ap (in_range w.tables lane.copied t) (sym (eqb-true key c.key e)) ∙ within) ∙ none))
        outside true false s e none = refl
        outside false e s f none = refl

        step : moves w c.table ≡ true → row_after_write (number_of p w.source t) key row (write_of p w c) ≡ cond (same_text t c.table && eqb key c.key) c.after row
        step m = ap (λ b. cond (b && eqb c.key key) c.after row) (numbers_apart t c.table moved m) ∙ ap (λ b. cond (same_text t c.table && b) c.after row) (same_key c.key key)

        Goal : (i m r : Bool) → Type 0
        Goal i m r = fold (row_after_put t key) row (map put_of (cond (i && (m && r)) (c ∷ puts) puts)) ≡ fold (row_after_write (number_of p w.source t) key) row (map (write_of p w) (cond (i && m) (c ∷ more) more))

        goal : (i : Bool) → in_lane w lane c.key ≡ i → (m : Bool) → moves w c.table ≡ m → (r : Bool) → in_range w.tables lane.copied c.table c.key ≡ r → Again → Goal i m r
        goal false i m e r f again = again row
        goal true i false e r f again = again row
        goal true i true e true f again =
            again (cond (same_text t c.table && eqb key c.key) c.after row)
            ∙ ap (λ r. fold (row_after_write (number_of p w.source t) key) r (map (write_of p w) more)) (sym (step e))
        goal true i true e false f again =
            again row
            ∙ ap (λ r. fold (row_after_write (number_of p w.source t) key) r (map (write_of p w) more)) (sym (step e ∙ ap (λ b. cond b c.after row) (outside (same_text t c.table) (eqb key c.key) refl refl f)))

        by : (i : Bool) → in_lane w lane c.key ≡ i → (m : Bool) → moves w c.table ≡ m → (r : Bool) → in_range w.tables lane.copied c.table c.key ≡ r → Again → Goal (in_lane w lane c.key) (moves w c.table) (in_range w.tables lane.copied c.table c.key)
        by i e m f r g again =
            subst (λ x. Goal x (moves w c.table) (in_range w.tables lane.copied c.table c.key)) (sym e)
            (subst (λ x. Goal i x (in_range w.tables lane.copied c.table c.key)) (sym f) (subst (Goal i m) (sym g) (goal i e m f r g again)))

    -- outside of it they leave the row
    pub fold_passed : in_range w.tables lane.copied t key ≡ false → (cs : List RowChange) (row : Row) → fold (row_after_put t key) row (map put_of (filter (lane_test w lane) cs)) ≡ row
    fold_passed outside [] row = refl
    fold_passed outside (c ∷ cs) row = by (lane_test w lane c) refl (same_text t c.table) refl (eqb key c.key) refl (fold_passed outside cs row)
      where
        puts : List RowChange
        puts = filter (lane_test w lane) cs

        by : (a : Bool) → lane_test w lane c ≡ a → (s : Bool) → same_text t c.table ≡ s → (e : Bool) → eqb key c.key ≡ e → fold (row_after_put t key) row (map put_of puts) ≡ row
            → fold (row_after_put t key) row (map put_of (cond a (c ∷ puts) puts)) ≡ row
        by false a s f e g again = again
        by true a true s true e again =
            let applied = (and_parts (in_lane w lane c.key) (is_applied w.tables lane.copied c.table c.key) a).1 in
            absurd (true≢false (sym (and_parts (moves w c.table) (in_range w.tables lane.copied c.table c.key) applied).1
            ∙ ap (λ x. in_range w.tables lane.copied x c.key) (sym ((same_text_decides t c.table).0 s)) ∙ ap (in_range w.tables lane.copied t) (sym (eqb-true key c.key e)) ∙ outside))
        by true a true s false e again = ap (λ b. fold (row_after_put t key) (cond (same_text t c.table && b) c.after row) (map put_of puts)) e ∙ ap (λ b. fold (row_after_put t key) (cond (b && false) c.after row) (map put_of puts)) s ∙ again
        by true a false s e f again = ap (λ b. fold (row_after_put t key) (cond (b && eqb key c.key) c.after row) (map put_of puts)) s ∙ again

-- ---- the stream goes on

abbrev pub moved_to : ℕ → Option Slot → Option Slot
moved_to position slot = option_map (λ (s : Slot). let x : Slot = record { state = s.state; position = position } in x) slot

-- a slot by the tests of its way
abbrev pub slot_when : Live → Lane → Way → StreamName → (c f d : Bool) → Option Slot
slot_when w lane way name c f d =
    if not c then plain.slot_before_way w lane name else if f then plain.feeding_slot lane way (plain.slot_before_way w lane name)
    else if d then Some (record { state = if stands_done way start_back then running else stopped; position = lane.fresh_at }) else plain.slot_before_way w lane name

module _ (w : Live) (lane : Lane) (position fed : ℕ) (copied : Copied) where
  abbrev gone : StreamName → Bool → Lane
  gone name b = record (with_position lane name b position) { fed = fed; copied = copied }

  at_rest : (name : StreamName) (target_owns : Bool) → plain.slot_at_rest (gone name false) target_owns name ≡ moved_to position (plain.slot_at_rest lane target_owns name)
  at_rest forward true = refl
  at_rest forward false = refl
  at_rest back true = refl
  at_rest back false = refl

  feeding_goes : (other : Lane) (way : Way) (slot : Option Slot) → plain.feeding_slot other way (moved_to position slot) ≡ moved_to position (plain.feeding_slot lane way slot)
  feeding_goes other way None = refl
  feeding_goes other way (Some s) = by (stands_done way stop_feeding)
    where
      by : (b : Bool) → Some (cond b (record { state = stopped; position = position }) (record { state = s.state; position = position }))
          ≡ moved_to position (Some (cond b (record s { state = stopped }) s))
      by true = refl
      by false = refl

  on_way : (way : Way) (name : StreamName) (c f d : Bool) → slot_when w (gone name (c && not f && d)) way name c f d ≡ moved_to position (slot_when w lane way name c f d)
  on_way way forward false f d = at_rest forward (before_way w).primary
  on_way way forward true true d = ap (plain.feeding_slot (gone forward false) way) (at_rest forward (before_way w).primary) ∙ feeding_goes (gone forward false) way (plain.slot_before_way w lane forward)
  on_way way forward true false true = refl
  on_way way forward true false false = at_rest forward (before_way w).primary
  on_way way back false f d = at_rest back (before_way w).primary
  on_way way back true true d = ap (plain.feeding_slot (gone back false) way) (at_rest back (before_way w).primary) ∙ feeding_goes (gone back false) way (plain.slot_before_way w lane back)
  on_way way back true false true = refl
  on_way way back true false false = at_rest back (before_way w).primary

  pub slot_goes : (name : StreamName) → slot_of w (gone name (is_fresh w.way name)) name ≡ moved_to position (slot_of w lane name)
  slot_goes name = by w.way
    where
      rests : (n : StreamName) → slot_by_way w (gone n (is_fresh None n)) None n ≡ moved_to position (slot_by_way w lane None n)
      rests forward = at_rest forward (before_way w).primary
      rests back = at_rest back (before_way w).primary

      by : (o : Option Way) → slot_by_way w (gone name (is_fresh o name)) o name ≡ moved_to position (slot_by_way w lane o name)
      by None = rests name
      by (Some way) = on_way way name (changes_primary way) (plain.is_feeding way name) (stands_done way create_back)
