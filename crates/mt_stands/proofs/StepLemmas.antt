-- A step of a way: the owner of the tables changes with the journal alone, where the other side is level.
use Rattle.mt_plain.specs.Slots.{log_of}
use Rattle.std.proofs.Common.{◌≤◌}
use Rattle.std.proofs.Common.{◌≡◌, ℕ, suc, ◌⊎◌, Bool, true, false, not, cond, eqb, List, [], ◌∷◌, find, map, Option, None, Some, refl, sym, ap, ◌∙◌, subst, arith, inl, inr, eqb-true, lt-ltb}
use Rattle.std.proofs.lemmas.Bool.{true≢false, and_from}
use Rattle.std.specs.List.{list_any}
use Rattle.std.specs.Option.{option_map, option_map_or}
use Rattle.std.specs.Prelude.{◌&&◌, ◌||◌, nat_le, nat_lt}
use Rattle.mt_stands.proofs.LogLemmas.{log-past}
use Rattle.mt_names.specs.Names.{same_text}
use Rattle.mt_names.specs.declared.types.TypeSet.{TypeSet}
use Rattle.mt_model.specs.declared.rows.RowChange.{RowChange}
use Rattle.mt_plain.specs.Events.{StreamName, Slot, Way}
use Rattle.mt_names.specs.Shards.{holds}
use Rattle.mt_plain.specs.Answers.{range_at}
use Rattle.mt_plain.specs.Next.{closes, live_stepped, on_way_of, types_stepped, with_live}
use Rattle.mt_plain.specs.Plain.{Lane, Live, Plain, behind_last, changed_types, changes_primary, first_step, live_at, moves, next_step, stands_done, write_journal}
use Rattle.mt_plain.specs.Refuse.{lane_is_behind}
use Rattle.mt_plain.specs.Slots.{is_for, read_shard, read_side}
use Rattle.mt_plain.specs.Slots as plain
use Rattle.mt_stream.specs.Streams.{is_level, past}
use Rattle.mt_laws.proofs.LiveLemmas.{find-map}
use Rattle.mt_laws.specs.Changes.{HasSides}
use Rattle.mt_laws.specs.Reached.{IsOnCourse}
use Rattle.mt_stands.specs.Rows.{HoldsItsKeys, Primaries, RowsStand, entry_at, is_moved, stream_of}
use Rattle.mt_stands.proofs.KeepLemmas.{IsLevel}
use Rattle.mt_stands.proofs.KnownLemmas.{itself, some_is}

-- ---- what a step leaves

module _ (p : Plain) (w : Live) where
  pub stepped_sides : HasSides w (on_way_of (live_stepped p w) w)
  stepped_sides = by w.way
    where
      by : (o : Option Way) → HasSides w (option_map_or (live_stepped p w) o w)
      by None = record { name = refl; source = refl; target = refl; tables = refl; cuts = refl }
      by (Some way) = record { name = refl; source = refl; target = refl; tables = refl; cuts = refl }

  -- ---- the owner

  module _ (way : Way) (course : IsOnCourse w way) where
    closed_primary : closes way ≡ true → way.after.primary ≡ w.switched.primary
    closed_primary last = by (changes_primary way) refl
      where
        first_low : nat_le (first_step way) write_journal ≡ true
        first_low = low ((changed_types way).replica || (changed_types way).rdonly)
          where
            low : (b : Bool) → nat_le (cond b 0 1) 6 ≡ true
            low true = refl
            low false = refl

        at_last : changes_primary way ≡ true → suc (next_step way) ≡ 12
        at_last c = eqb-true (suc (next_step way)) (behind_last way) last ∙ ap (λ b. cond b 12 1) c

        no_change : (a b : Bool) → cond a (not b) b ≡ false → b ≡ a
        no_change true true e = refl
        no_change true false e = absurd (true≢false e)
        no_change false true e = absurd (true≢false e)
        no_change false false e = refl

        by : (c : Bool) → changes_primary way ≡ c → way.after.primary ≡ w.switched.primary
        by true c =
            let l = at_last c in
            let journal : stands_done way write_journal ≡ true = and_from (nat_le (first_step way) write_journal) (nat_lt write_journal (next_step way)) first_low (lt-ltb 6 (next_step way) (omega (arith, l))) in
            sym (ap (λ (t : TypeSet). t.primary) (course.after journal))
        by false c = no_change way.before.primary way.after.primary c ∙ sym (ap (λ (t : TypeSet). t.primary) (course.before (no_journal (stands_done way write_journal) refl)))
          where
            no_journal : (b : Bool) → stands_done way write_journal ≡ b → stands_done way write_journal ≡ false
            no_journal false e = e
            no_journal true e = absurd (true≢false (sym (course.journals e) ∙ c))

    pub stepped_primary : eqb (next_step way) write_journal ≡ false → (types_stepped w way).primary ≡ w.switched.primary
    stepped_primary other = by (closes way) refl
      where
        by : (b : Bool) → closes way ≡ b → (types_stepped w way).primary ≡ w.switched.primary
        by true e = ap (λ b. (cond (b || eqb (next_step way) write_journal) way.after w.switched).primary) e ∙ closed_primary e
        by false e = ap (λ b. (cond (b || eqb (next_step way) write_journal) way.after w.switched).primary) e ∙ ap (λ b. (cond b way.after w.switched).primary) other

-- ---- the workflow of a name

pub live_changed : (lives : List Live) (name : List ℕ) (f : Live → Live) → ((w : Live) → HasSides w (f w)) → (other : List ℕ)
    → find (λ w. same_text w.name other) (with_live f name lives) ≡ option_map (λ w. cond (same_text w.name name) (f w) w) (find (λ w. same_text w.name other) lives)
live_changed lives name f same other =
    find-map (λ (w : Live). same_text w.name other) (λ (w : Live). cond (same_text w.name name) (f w) w) lives (λ w. by w (same_text w.name name))
  where
    by : (w : Live) (b : Bool) → same_text (cond b (f w) w).name other ≡ same_text w.name other
    by w true = ap (λ n. same_text n other) (sym (same w).name)
    by w false = refl

pub step_owner : (p : Plain) (w v : Live) (named : (n : List ℕ) → live_at p n ≡ Some w → w.name ≡ n) (name : List ℕ) → live_at p name ≡ Some w
    → find (λ u. same_text u.name name) (with_live (λ u. on_way_of (live_stepped p u) u) name p.lives) ≡ Some v
    → ((way : Way) → w.way ≡ Some way → IsOnCourse w way) → ((way : Way) → w.way ≡ Some way → next_step way ≡ write_journal → IsLevel p w) → (v.switched.primary ≡ w.switched.primary) ⊎ IsLevel p w
step_owner p w v named name live now course level = subst (λ (x : Live). (x.switched.primary ≡ w.switched.primary) ⊎ IsLevel p w) (sym v_is) (by w.way refl)
  where
    v_is : v ≡ on_way_of (live_stepped p w) w
    v_is =
        some_is v (cond (same_text w.name name) (on_way_of (live_stepped p w) w) w)
        (sym now ∙ live_changed p.lives name (λ u. on_way_of (live_stepped p u) u) (stepped_sides p) name ∙ ap (option_map (λ u. cond (same_text u.name name) (on_way_of (live_stepped p u) u) u)) live)
        ∙ ap (λ b. cond b (on_way_of (live_stepped p w) w) w) (ap (λ n. same_text n name) (named name live) ∙ itself name)

    on : (way : Way) → w.way ≡ Some way → (b : Bool) → eqb (next_step way) write_journal ≡ b → ((live_stepped p w way).switched.primary ≡ w.switched.primary) ⊎ IsLevel p w
    on way is true e = inr (level way is (eqb-true (next_step way) write_journal e))
    on way is false e = inl (stepped_primary p w way (course way is) e)

    Is : Option Way → Type 0
    Is o = ((option_map_or (live_stepped p w) o w).switched.primary ≡ w.switched.primary) ⊎ IsLevel p w

    by : (o : Option Way) → w.way ≡ o → Is w.way
    by None e = subst Is (sym e) (inl refl)
    by (Some way) e = subst Is (sym e) (on way e (eqb (next_step way) write_journal) refl)

-- ---- a stream that is level

any_moved : (w : Live) (lane : Lane) (k : List ℕ) (n : ℕ) (cs : List RowChange) → list_any (is_for w lane) (map (entry_at k n) cs) ≡ list_any (is_moved w lane) cs
any_moved w lane k n [] = refl
any_moved w lane k n (c ∷ cs) = ap (λ b. is_moved w lane c || b) (any_moved w lane k n cs)

any_split : (w : Live) (lane : Lane) → HoldsItsKeys w lane → (cs : List RowChange) → list_any (λ c. holds (range_at w.cuts lane.shard) c.key && moves w c.table) cs ≡ list_any (is_moved w lane) cs
any_split w lane split [] = refl
any_split w lane split (c ∷ cs) =
    ap (λ b. (b && moves w c.table) || list_any (λ c. holds (range_at w.cuts lane.shard) c.key && moves w c.table) cs) (split c.key) ∙ ap (λ b. is_moved w lane c || b) (any_split w lane split cs)

pub level_by : (p : Plain) (at : Primaries) → RowsStand p at → (w : Live) (lane : Lane) → HoldsItsKeys w lane → (stream : StreamName) (slot : Slot) → lane_is_behind p w lane ≡ list_any (is_for w lane) (plain.past p w lane stream slot.position)
    → (at (read_side w stream) (read_shard lane stream)).log.purged ≤ slot.position
    → is_level (stream_of w lane slot) (at (read_side w stream) (read_shard lane stream)) ≡ not (lane_is_behind p w lane)
level_by p at stands w lane split stream slot behind held =
    let k : List ℕ = read_side w stream in
    let n : ℕ = read_shard lane stream in
    ap not
    (any_split w lane split (past (stream_of w lane slot) (at k n))
    ∙ sym (any_moved w lane k n (past (stream_of w lane slot) (at k n)))
    ∙ ap (list_any (is_for w lane)) (log-past (log_of p k n) k n (at k n).log (stands.log k n) slot.position held)
    ∙ sym behind)
