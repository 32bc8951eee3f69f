-- Entries read one after another: what stands behind the first of them, and where reading ends.
use Rattle.std.proofs.Common.{◌≡◌, ◌⊎◌, ℕ, zero, suc, ◌<◌, ◌≤◌, ◌+◌, ◌-◌, Bool, true, false, not, ◌&&◌, ◌||◌, eqb, List, [], ◌∷◌, length, take, drop, filter, map, slice_get, Some, None, refl, sym, ap, subst, ◌∙◌, inl, inr, arith, append-nil}
use Rattle.std.proofs.lemmas.Bool.{and_right, and_left, eq-eqb, lt-ltb, ne_eqb, true≢false}
use Rattle.std.proofs.lemmas.List.{map-append}
use Rattle.std.proofs.lemmas.Option.{slice_get_within}
use Rattle.std.specs.List.{list_any}
use Rattle.mt_model.specs.declared.rows.RowChange.{RowChange}
use Rattle.mt_names.specs.Shards.{KeyRange}
use Rattle.mt_plain.specs.Slots.{readable}
use Rattle.mt_primary.specs.Primary.{PrimaryState}
use Rattle.mt_store.specs.Log.{has_room}
use Rattle.mt_primary.specs.Writes.{put_of}
use Rattle.mt_stream.specs.declared.fault.StreamFault.{StreamFault}
use Rattle.mt_stream.specs.Advance.{is_written, room_in}
use Rattle.mt_stream.specs.Loops.{AreRead, PutsIf, is_cut_before, put_fault}
use Rattle.mt_stream.specs.Puts.{PutsMade}
use Rattle.mt_plain.specs.Plain.{Copied}
use Rattle.mt_stream.proofs.ListLemmas.{any-push, any-take, drop_end, drop_from, filter-push, take_end, take_next}
use Rattle.mt_stream.proofs.PutLemmas.{no_puts, puts-push, room-none, room-put, room-some}

-- how many entries can be read, by the first of them
readable-passed : {E : Type 0} (test : E → Bool) (room : ℕ) (e : E) (es : List E) → test e ≡ false → readable test room (e ∷ es) ≡ suc (readable test room es)
readable-passed test room e es t = rw t refl

readable-written : {E : Type 0} (test : E → Bool) (room less : ℕ) (e : E) (es : List E) → test e ≡ true → room ≡ less + 1 → readable test room (e ∷ es) ≡ suc (readable test less es)
readable-written test room less e es t r =
    let some : eqb room 0 ≡ false = ne_eqb room 0 (λ z. omega (arith, r, z)) in
    let one : room - 1 ≡ less = omega (arith, r) in
    rw (t, some) (rw one refl)

readable-full : {E : Type 0} (test : E → Bool) (room : ℕ) (e : E) (es : List E) → test e ≡ true → room ≡ 0 → readable test room (e ∷ es) ≡ 0
readable-full test room e es t r = rw (t, eq-eqb room 0 r) refl

module _ (keys : KeyRange) (tables : List (List ℕ)) (copied : Copied) (entries : List RowChange) (sink : PrimaryState) (at_most : ℕ) where
  -- which are written
  abbrev pub test : RowChange → Bool
  test = is_written keys tables copied

  -- how many can be read
  abbrev pub most : ℕ
  most = readable (is_written keys tables copied) (room_in sink) (take at_most entries)

  -- the first `i` entries are read, and some of them were written or none was
  pub record Reading (i : ℕ) (written : Bool) (now : PrimaryState) : Type 0 where
    pub within : i ≤ length entries
    pub all : readable (is_written keys tables copied) (room_in sink) (take at_most entries) ≡ i + readable (is_written keys tables copied) (room_in now) (take (at_most - i) (drop i entries))
    pub wrote : written ≡ list_any (is_written keys tables copied) (take i entries)
    pub untouched : written ≡ false → now ≡ sink
    pub room : has_room sink.log ≡ false → written ≡ false
    pub puts : PutsMade sink (map put_of (filter (is_written keys tables copied) (take i entries))) now

  pub reading-none : Reading 0 false sink
  reading-none = record {
    within = omega arith;
    all = rw (sub-none at_most) (sym (zero-plus (readable (is_written keys tables copied) (room_in sink) (take at_most entries))));
    wrote = refl;
    untouched = λ h. refl;
    room = λ h. refl;
    puts = no_puts sink;
  }
    where
      sub-none : (n : ℕ) → n - 0 ≡ n
      sub-none n = omega arith

      zero-plus : (n : ℕ) → 0 + n ≡ n
      zero-plus n = omega arith

  module _ (i : ℕ) (written : Bool) (now : PrimaryState) (was : Reading i written now) where
    -- the rest begins with the entry at this place
    rest : (e : RowChange) → i < at_most → slice_get entries i ≡ Some e → take (at_most - i) (drop i entries) ≡ e ∷ take (at_most - (i + 1)) (drop (i + 1) entries)
    rest e below at =
        let n : at_most - i ≡ suc (at_most - (i + 1)) = omega arith in
        rw (drop_from entries i e at, n) refl

    pub reading-more : (e : RowChange) (more : Bool) (new : PrimaryState) → i < at_most → slice_get entries i ≡ Some e → more ≡ is_written keys tables copied e → PutsIf more now (put_of e) new → Reading (i + 1) (written || more) new
    reading-more e false new below at is put = rw put (record {
      within = let l = slice_get_within entries i e at in omega arith;
      all =
          let step = readable-passed (is_written keys tables copied) (room_in now) e (take (at_most - (i + 1)) (drop (i + 1) entries)) (sym is) in
          let all = was.all ∙ ap (λ l. i + readable (is_written keys tables copied) (room_in now) l) (rest e below at) in
          omega (arith, all, step);
      wrote = ap (λ b. b || false) was.wrote ∙ ap (λ b. list_any (is_written keys tables copied) (take i entries) || b) is ∙ sym (rw (take_next entries i e at) (any-push (is_written keys tables copied) (take i entries) e));
      untouched = λ h. was.untouched (rw (or-none written) at h);
      room = λ h. rw (or-none written) (was.room h);
      puts = subst (λ l. PutsMade sink (map put_of l) now) (sym (ap (filter (is_written keys tables copied)) (take_next entries i e at) ∙ filter-push (is_written keys tables copied) (take i entries) e ∙ rw (← is) (append-nil (filter (is_written keys tables copied) (take i entries))))) was.puts;
    })
      where
        or-none : (b : Bool) → (b || false) ≡ b
        or-none true = refl
        or-none false = refl
    reading-more e true new below at is put = record {
      within = let l = slice_get_within entries i e at in omega arith;
      all =
          let step = readable-written (is_written keys tables copied) (room_in now) (room_in new) e (take (at_most - (i + 1)) (drop (i + 1) entries)) (sym is) (room-put now (put_of e) new put.0 put.1) in
          let all = was.all ∙ ap (λ l. i + readable (is_written keys tables copied) (room_in now) l) (rest e below at) in
          omega (arith, all, step);
      wrote = ap (λ b. b || true) was.wrote ∙ ap (λ b. list_any (is_written keys tables copied) (take i entries) || b) is ∙ sym (rw (take_next entries i e at) (any-push (is_written keys tables copied) (take i entries) e));
      untouched = λ h. absurd (or-some written h);
      room = λ full. absurd (true≢false (sym put.0 ∙ ap (λ (p : PrimaryState). has_room p.log) (was.untouched (was.room full)) ∙ full));
      puts = subst (λ l. PutsMade sink l new) (sym (ap (λ l. map put_of (filter (is_written keys tables copied) l)) (take_next entries i e at) ∙ ap (map put_of) (filter-push (is_written keys tables copied) (take i entries) e ∙ rw (← is) refl) ∙ map-append put_of (filter (is_written keys tables copied) (take i entries)) (e ∷ []))) (puts-push sink now new (map put_of (filter (is_written keys tables copied) (take i entries))) (put_of e) was.puts put.1);
    }
      where
        or-some : (b : Bool) → (b || true) ≡ false → ⊥
        or-some true h = absurd cc
        or-some false h = absurd cc

    -- no entry is left, or as many were read as may be
    has-room : list_any (is_written keys tables copied) (take at_most entries) ≡ list_any (is_written keys tables copied) (take i entries) → (list_any (is_written keys tables copied) (take at_most entries) && not (has_room sink.log)) ≡ false
    has-room same = by (has_room sink.log) refl
      where
        by : (b : Bool) → has_room sink.log ≡ b → (list_any (is_written keys tables copied) (take at_most entries) && not b) ≡ false
        by true room = and_right (list_any (is_written keys tables copied) (take at_most entries)) false refl
        by false full = and_left (list_any (is_written keys tables copied) (take at_most entries)) true (same ∙ sym was.wrote ∙ was.room full)

    pub read-to_end : i < at_most → slice_get entries i ≡ None → AreRead keys tables copied entries sink at_most i now
    read-to_end below at = record {
      counts = inl (sym (was.all ∙ rw (drop_end entries i at) (none (at_most - i))));
      within = was.within;
      room = has-room (ap (list_any (is_written keys tables copied)) (all at_most entries below at ∙ sym (take_end entries i at)));
      puts = was.puts;
    }
      where
        none : (n : ℕ) → i + readable (is_written keys tables copied) (room_in now) (take n []) ≡ i
        none zero = omega arith
        none (suc n) = omega arith

        all : (n : ℕ) (xs : List RowChange) → i < n → slice_get xs i ≡ None → take n xs ≡ xs
        all n xs l e = by n i xs l e
          where
            by : (n i : ℕ) (xs : List RowChange) → i < n → slice_get xs i ≡ None → take n xs ≡ xs
            by zero i xs l e = absurd (omega arith)
            by (suc n) i [] l e = refl
            by (suc n) zero (x ∷ xs) l e = absurd cc
            by (suc n) (suc i) (x ∷ xs) l e = ap (λ l. x ∷ l) (by n i xs (omega arith) e)

    pub read-to_limit : i ≡ at_most → AreRead keys tables copied entries sink at_most i now
    read-to_limit last = record {
      counts = inl (sym (was.all ∙ let z : at_most - i ≡ 0 = omega (arith, last) in rw z (plus-none i)));
      within = was.within;
      room = has-room (ap (λ n. list_any (is_written keys tables copied) (take n entries)) (sym last));
      puts = was.puts;
    }
      where
        plus-none : (n : ℕ) → n + 0 ≡ n
        plus-none n = omega arith

    -- a change behind the first one is refused
    pub read-to_fault : (e : RowChange) → i < at_most → slice_get entries i ≡ Some e → is_written keys tables copied e ≡ true → written ≡ true → AreRead keys tables copied entries sink at_most i now
    read-to_fault e below at is some = record { counts = counts (has_room now.log) refl; within = was.within; room = room (has_room sink.log) refl; puts = was.puts }
      where
        all : readable (is_written keys tables copied) (room_in sink) (take at_most entries) ≡ i + readable (is_written keys tables copied) (room_in now) (e ∷ take (at_most - (i + 1)) (drop (i + 1) entries))
        all = was.all ∙ ap (λ l. i + readable (is_written keys tables copied) (room_in now) l) (rest e below at)

        counts : (b : Bool) → has_room now.log ≡ b → (i ≡ readable (is_written keys tables copied) (room_in sink) (take at_most entries)) ⊎ (is_cut_before keys tables copied entries sink at_most i ≡ true)
        counts true more =
            let some_room = room-some now more in
            let less : room_in now ≡ (room_in now - 1) + 1 = omega (arith, some_room) in
            let step = readable-written (is_written keys tables copied) (room_in now) (room_in now - 1) e (take (at_most - (i + 1)) (drop (i + 1) entries)) is less in
            let below_all : i < readable (is_written keys tables copied) (room_in sink) (take at_most entries) = omega (arith, all, step) in
            inr (rw (lt-ltb i (readable (is_written keys tables copied) (room_in sink) (take at_most entries)) below_all, sym was.wrote ∙ some, at) is)
        counts false full =
            let step = readable-full (is_written keys tables copied) (room_in now) e (take (at_most - (i + 1)) (drop (i + 1) entries)) is (room-none now full) in
            inl (omega (arith, all, step))

        room : (b : Bool) → has_room sink.log ≡ b → (list_any (is_written keys tables copied) (take at_most entries) && not b) ≡ false
        room true more = and_right (list_any (is_written keys tables copied) (take at_most entries)) false refl
        room false full = absurd (true≢false (sym some ∙ was.room full))

    -- the first change is refused
    pub read-none : (e : RowChange) (new : PrimaryState) (fault : StreamFault) → i < at_most → slice_get entries i ≡ Some e → is_written keys tables copied e ≡ true → written ≡ false → fault ≡ put_fault now → new ≡ now
        → (fault ≡ put_fault sink) × (list_any (is_written keys tables copied) (take at_most entries) ≡ true) × (new ≡ sink)
    read-none e new fault below at is none told same =
        let still = was.untouched none in
        (told ∙ ap put_fault still, any-take (is_written keys tables copied) entries i at_most e at is below, same ∙ still)
