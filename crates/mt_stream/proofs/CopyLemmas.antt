-- Rows copied one after another: what stands behind the first of them, and where copying ends.
use Rattle.std.proofs.Common.{◌≡◌, ◌⊎◌, ℕ, zero, suc, ◌<◌, ◌≤◌, ◌+◌, Bool, true, false, not, ◌&&◌, nat_lt, min, List, [], ◌∷◌, length, take, drop, map, fold, slice_get, Some, refl, sym, ap, subst, ◌∙◌, inl, inr, arith}
use Rattle.std.proofs.lemmas.Bool.{and_left, and_right, eq-eqb, le-ltb, lt-ltb, ne_eqb}
use Rattle.std.proofs.lemmas.List.{length-map}
use Rattle.std.proofs.lemmas.List.Sums.{fold_push}
use Rattle.std.proofs.lemmas.Option.{slice_get_within}
use Rattle.mt_model.specs.declared.rows.RowChange.{RowChange}
use Rattle.mt_plain.specs.Plain.{Copied, up_to, ended}
use Rattle.mt_names.specs.Shards.{KeyRange}
use Rattle.mt_plain.specs.Slots.{copied_after}
use Rattle.mt_primary.specs.Primary.{PrimaryState}
use Rattle.mt_store.specs.Log.{has_room}
use Rattle.mt_primary.specs.Writes.{IsPut, RowPut}
use Rattle.mt_stream.specs.declared.fault.StreamFault.{StreamFault}
use Rattle.mt_stream.specs.Advance.{places, room_in, rows_left}
use Rattle.mt_stream.specs.Loops.{AreCopied, put_fault}
use Rattle.mt_stream.specs.Puts.{PutsMade}
use Rattle.mt_stream.proofs.ListLemmas.{drop_from, take_next}
use Rattle.mt_stream.proofs.PutLemmas.{no_puts, puts-push, room-none, room-put, room-some}

-- the first entry from a place on
pub get_at : {X : Type 0} (xs : List X) (i : ℕ) (x : X) (rest : List X) → drop i xs ≡ x ∷ rest → slice_get xs i ≡ Some x
get_at [] zero x rest e = absurd cc
get_at [] (suc i) x rest e = absurd cc
get_at (y ∷ xs) zero x rest e = let same : y ≡ x = cc in ap Some same
get_at (y ∷ xs) (suc i) x rest e = get_at xs i x rest e

get_map : {X Y : Type 0} (f : X → Y) (xs : List X) (i : ℕ) (x : X) → slice_get xs i ≡ Some x → slice_get (map f xs) i ≡ Some (f x)
get_map f [] i x e = absurd cc
get_map f (y ∷ xs) zero x e = let same : y ≡ x = cc in ap (λ z. Some (f z)) same
get_map f (y ∷ xs) (suc i) x e = get_map f xs i x e

-- nothing is left from a place on
long_enough : {X : Type 0} (xs : List X) (i : ℕ) → drop i xs ≡ [] → length xs ≤ i
long_enough [] i e = omega arith
long_enough (x ∷ xs) zero e = absurd cc
long_enough (x ∷ xs) (suc i) e = let h = long_enough xs i e in omega arith

-- the range behind rows copied
abbrev pub range_after : Copied → List (List ℕ × ℕ) → Copied
range_after copied rows = fold (λ range row. up_to row.0 row.1) copied rows

-- the rest of a list with the same head
same-rest : {X : Type 0} (x : X) (xs ys : List X) → x ∷ xs ≡ x ∷ ys → xs ≡ ys
same-rest x xs ys e = cc

module _ (keys : KeyRange) (tables : List (List ℕ)) (copied : Copied) (source sink : PrimaryState) (at_most : ℕ) where
  -- the first `i` rows that were left are copied
  pub record Copying (i : ℕ) (range : Copied) (now : PrimaryState) : Type 0 where
    pub within : i ≤ length (rows_left source keys tables copied)
    pub reaches : range ≡ range_after copied (take i (places (rows_left source keys tables copied)))
    pub rest : rows_left source keys tables range ≡ drop i (rows_left source keys tables copied)
    pub untouched : i ≡ 0 → now ≡ sink
    pub room : room_in sink ≡ i + room_in now
    pub puts : PutsMade sink (take i (rows_left source keys tables copied)) now

  pub copying-none : Copying 0 copied sink
  copying-none = record { within = omega arith; reaches = refl; rest = refl; untouched = λ h. refl; room = omega arith; puts = no_puts sink }

  module _ (i : ℕ) (range : Copied) (now : PrimaryState) (was : Copying i range now) where
    module _ (put : RowPut) (later : List RowPut) (first : rows_left source keys tables range ≡ put ∷ later) where
      at : slice_get (rows_left source keys tables copied) i ≡ Some put
      at = get_at (rows_left source keys tables copied) i put later (sym was.rest ∙ first)

      below : i < length (rows_left source keys tables copied)
      below = slice_get_within (rows_left source keys tables copied) i put at

      pub copying-more : (new : PrimaryState) → later ≡ rows_left source keys tables (up_to put.table put.key) → has_room now.log ≡ true → IsPut now put new → Copying (i + 1) (up_to put.table put.key) new
      copying-more new is_later more is = record {
        within = let l = below in omega arith;
        reaches =
            sym (ap (range_after copied) (take_next (places (rows_left source keys tables copied)) i (put.table, put.key) (get_map (λ (p : RowPut). (p.table, p.key)) (rows_left source keys tables copied) i put at))
            ∙ fold_push (λ range row. up_to row.0 row.1) copied (take i (places (rows_left source keys tables copied))) (put.table, put.key));
        rest = sym is_later ∙ same-rest put later (drop (i + 1) (rows_left source keys tables copied)) (sym first ∙ was.rest ∙ drop_from (rows_left source keys tables copied) i put at);
        untouched = λ h. absurd (omega (arith, h));
        room = let r = room-put now put new more is in let w = was.room in omega (arith, r, w);
        puts = subst (λ l. PutsMade sink l new) (sym (take_next (rows_left source keys tables copied) i put at)) (puts-push sink now new (take i (rows_left source keys tables copied)) put was.puts is);
      }

      -- a row behind the first one is refused
      pub copied-to_fault : 0 < i → i < at_most → AreCopied keys tables copied source sink at_most i range now
      copied-to_fault some few = record { counts = counts (has_room now.log) refl; room = room (has_room sink.log) refl; range = reaches; puts = was.puts }
        where
          counts : (b : Bool) → has_room now.log ≡ b → (i ≡ min (room_in sink) (min at_most (length (rows_left source keys tables copied)))) ⊎ ((nat_lt 0 i && nat_lt i (min (room_in sink) (min at_most (length (rows_left source keys tables copied))))) ≡ true)
          counts true more =
              let r = room-some now more in
              let w = was.room in
              let l = below in
              let less : i < min (room_in sink) (min at_most (length (rows_left source keys tables copied))) = omega (arith, r, w, l) in
              inr (rw (lt-ltb 0 i some) (lt-ltb i (min (room_in sink) (min at_most (length (rows_left source keys tables copied)))) less))
          counts false full =
              let r = room-none now full in
              let w = was.room in
              let l = below in
              inl (omega (arith, r, w, l))

          room : (b : Bool) → has_room sink.log ≡ b → (nat_lt 0 (min at_most (length (rows_left source keys tables copied))) && not b) ≡ false
          room true more = and_right (nat_lt 0 (min at_most (length (rows_left source keys tables copied)))) false refl
          room false full = let r = room-none sink full in let w = was.room in absurd (omega (arith, r, w))

          reaches : range ≡ copied_after {E = RowChange} copied [] (places (rows_left source keys tables copied)) i at_most
          reaches =
              let l = below in
              let many = length-map {B = List ℕ × ℕ} (rows_left source keys tables copied) (λ (p : RowPut). (p.table, p.key)) in
              was.reaches ∙ sym (rw (ne_eqb i (length (places (rows_left source keys tables copied))) (λ e. omega (arith, l, many, e)), and_right (nat_lt i at_most) false refl) refl)

      -- the first row is refused
      pub copied-none : (new : PrimaryState) (fault : StreamFault) → i ≡ 0 → i < at_most → fault ≡ put_fault now → new ≡ now
          → (fault ≡ put_fault sink) × (nat_lt 0 (min at_most (length (rows_left source keys tables copied))) ≡ true) × (range ≡ copied) × (new ≡ sink)
      copied-none new fault none few told same =
          let still = was.untouched none in
          let l = below in (
            told ∙ ap put_fault still,
            lt-ltb 0 (min at_most (length (rows_left source keys tables copied))) (omega (arith, l)),
            was.reaches ∙ rw none refl,
            same ∙ still,
          )

    -- no row is left
    pub copied-to_end : i < at_most → rows_left source keys tables range ≡ [] → AreCopied keys tables copied source sink at_most i ended now
    copied-to_end few none =
        let l = long_enough (rows_left source keys tables copied) i (sym was.rest ∙ none) in
        let w = was.within in
        let r = was.room in
        let many = length-map {B = List ℕ × ℕ} (rows_left source keys tables copied) (λ (p : RowPut). (p.table, p.key)) in
        record {
          counts = inl (omega (arith, l, w, r));
          room = room (has_room sink.log) refl;
          range = sym (rw (lt-ltb i at_most few, eq-eqb i (length (places (rows_left source keys tables copied))) (omega (arith, l, w, many))) refl);
          puts = was.puts;
        }
      where
        room : (b : Bool) → has_room sink.log ≡ b → (nat_lt 0 (min at_most (length (rows_left source keys tables copied))) && not b) ≡ false
        room true more = and_right (nat_lt 0 (min at_most (length (rows_left source keys tables copied)))) false refl
        room false full =
            let l = long_enough (rows_left source keys tables copied) i (sym was.rest ∙ none) in
            let r = room-none sink full in
            let w = was.room in
            and_left (nat_lt 0 (min at_most (length (rows_left source keys tables copied)))) true (le-ltb 0 (min at_most (length (rows_left source keys tables copied))) (omega (arith, l, r, w)))

    -- as many were copied as may be
    pub copied-to_limit : i ≡ at_most → AreCopied keys tables copied source sink at_most i range now
    copied-to_limit last =
        let w = was.within in
        let r = was.room in
        record {
          counts = inl (omega (arith, w, r, last));
          room = room (has_room sink.log) refl;
          range = was.reaches ∙ sym (rw (le-ltb i at_most (omega (arith, last))) refl);
          puts = was.puts;
        }
      where
        room : (b : Bool) → has_room sink.log ≡ b → (nat_lt 0 (min at_most (length (rows_left source keys tables copied))) && not b) ≡ false
        room true more = and_right (nat_lt 0 (min at_most (length (rows_left source keys tables copied)))) false refl
        room false full =
            let r = room-none sink full in
            let w = was.room in
            and_left (nat_lt 0 (min at_most (length (rows_left source keys tables copied)))) true (le-ltb 0 (min at_most (length (rows_left source keys tables copied))) (omega (arith, r, w, last)))
