-- What is fed to a lane, behind a step, an undo and a begin.
use Rattle.std.proofs.Common.{◌≡◌, ℕ, suc, ◌-◌, ◌≤◌, Bool, true, false, not, cond, eqb, List, length, None, Some, refl, sym, ap, ◌∙◌, subst, arith, eqb-true}
use Rattle.std.proofs.lemmas.Bool.{true≢false, and_right}
use Rattle.std.specs.Option.{option_map_or}
use Rattle.std.specs.Prelude.{◌&&◌, ◌||◌}
use Rattle.mt_names.specs.Shards.{shard_count}
use Rattle.mt_names.specs.declared.types.TypeSet.{TypeSet}
use Rattle.mt_plain.specs.Events.{Way}
use Rattle.mt_plain.specs.Next.{closes, lane_closed, lane_made, lane_stepped, live_stepped, live_undone, with_way_to}
use Rattle.mt_plain.specs.Plain.{Lane, Live, Plain, before_way, behind_last, catch_up, changes_primary, create_back, next_step, refresh_target, stands_done, stands_done_at, write_journal}
use Rattle.mt_plain.specs.Slots.{log_length}
use Rattle.mt_plain.specs.Writes.{lane_writes}
use Rattle.mt_laws.specs.Changes.{HasSides}
use Rattle.mt_laws.proofs.ChangeLemmas.{sides-live_stepped}
use Rattle.mt_laws.proofs.CopyLemmas.{fed-stepped}
use Rattle.mt_laws.proofs.FedLemmas.{IsFed, LevelAt, at_by, shard_by, level_moved, if-not}
use Rattle.mt_laws.proofs.LaneLemmas.{shard-stepped}
use Rattle.mt_laws.proofs.PartLemmas.{IsSettled}
use Rattle.mt_laws.proofs.PendingLemmas.{ArePending, lane_writes_same, pending_end}
use Rattle.mt_laws.proofs.PlainWords.{side_by}
use Rattle.mt_laws.proofs.PositionLemmas.{not_last}
use Rattle.mt_laws.proofs.StreamLemmas.{IsTurned, differ_not, differ_to}
use Rattle.mt_laws.proofs.WayStepLemmas.{before_then, done_at_some, done_by, fewer, more, no_way, none_done, not_before, not_before_at, one_way, undone_at, undone_by, was_done}

-- ---- a step

module _ (p : Plain) (w : Live) (way : Way) (opens : w.way ≡ Some way) (lane : Lane) (is : IsFed p w lane) (turned : IsTurned w) where
  abbrev v : Live
  v = live_stepped p w way

  abbrev later : Lane
  later = lane_stepped p w way lane

  abbrev makes : Bool
  makes = eqb (next_step way) create_back

  sides : HasSides w v
  sides = sides-live_stepped p w way

  own : later.shard ≡ lane.shard
  own = shard-stepped p w way lane

  fed : later.fed ≡ lane.fed
  fed = fed-stepped p w way lane

  -- the last step
  module _ (c : closes way ≡ true) where
    makes_not : makes ≡ false
    makes_not = by makes refl
      where
        by : (t : Bool) → makes ≡ t → makes ≡ false
        by true t = absurd (not_last (changes_primary way) (next_step way) (eqb-true (next_step way) 5 t) c)
        by false t = t

    later_is : (t : Bool) → changes_primary way ≡ t → later ≡ cond t (lane_closed way lane) lane
    later_is t e = ap (λ m. cond m (lane_made p w lane) (cond (closes way && changes_primary way) (lane_closed way lane) lane)) makes_not ∙ ap (λ b. cond (b && changes_primary way) (lane_closed way lane) lane) c ∙ ap (λ b. cond b (lane_closed way lane) lane) e

    last_types : v.switched ≡ way.after
    last_types = ap (λ l. cond (l || eqb (next_step way) write_journal) way.after w.switched) c

    fresh_here : changes_primary way ≡ true → at_by later (not way.before.primary) ≡ lane.fresh_at
    fresh_here e = ap (λ x. at_by x (not way.before.primary)) (later_is true e) ∙ ap (λ b. at_by (lane_closed way lane) (not b)) (turned way opens e) ∙ by way.back
      where
        by : (b : Bool) → at_by (cond b (record lane { forward_at = lane.fresh_at }) (record lane { back_at = lane.fresh_at })) (not b) ≡ lane.fresh_at
        by true = refl
        by false = refl

    last_rests : (t : Bool) → changes_primary way ≡ t → LevelAt p v later v.switched.primary (at_by later v.switched.primary)
    last_rests true e =
        subst (λ s. LevelAt p v later s (at_by later s)) (sym (ap (λ s. s.primary) last_types ∙ differ_to way.before.primary way.after.primary e))
        (level_moved p w v lane later sides own fed (not way.before.primary) lane.fresh_at (at_by later (not way.before.primary)) (fresh_here e) (is.fresh way opens e (done_by way create_back (suc 10) eleven (omega arith) (omega arith))))
      where
        eleven : next_step way ≡ suc 10
        eleven = let f : suc (next_step way) ≡ 12 = eqb-true (suc (next_step way)) (behind_last way) c ∙ ap (λ s. cond s 12 1) e in omega arith
    last_rests false e =
        let b = way.before.primary in
        subst (λ s. LevelAt p v later s (at_by later s)) (sym (ap (λ s. s.primary) last_types ∙ differ_not way.before.primary way.after.primary e))
        (level_moved p w v lane later sides own fed b (at_by lane b) (at_by later b) (ap (λ x. at_by x b) (later_is false e)) (is.before way opens (ap (λ t. t && stands_done way write_journal) e)))

    rests_now : v.way ≡ None
    rests_now = ap (λ t. cond t None (Some (more way))) c

    pub last_fed : IsFed p v later
    last_fed = record {
      rests = λ r. last_rests (changes_primary way) refl;
      before = λ other opened. no_way v.way other rests_now opened;
      fresh = λ other opened. no_way v.way other rests_now opened;
      window = λ other opened. no_way v.way other rests_now opened;
    }

  -- each other step
  module _ (c : closes way ≡ false) (tested : eqb (next_step way) catch_up ≡ true → length (lane_writes p w lane) ≤ lane.fed) where
    opened_now : v.way ≡ Some (more way)
    opened_now = ap (λ t. cond t None (Some (more way))) c

    later_is' : later ≡ cond makes (lane_made p w lane) lane
    later_is' = ap (λ b. cond makes (lane_made p w lane) (cond (b && changes_primary way) (lane_closed way lane) lane)) c

    same_at_by : (b : Bool) → at_by later b ≡ at_by lane b
    same_at_by b = ap (λ x. at_by x b) later_is' ∙ by makes b
      where
        by : (m b : Bool) → at_by (cond m (lane_made p w lane) lane) b ≡ at_by lane b
        by true true = refl
        by true false = refl
        by false b = refl

    before_on : (changes_primary (more way) && stands_done (more way) write_journal) ≡ false → LevelAt p v later way.before.primary (at_by later way.before.primary)
    before_on guard =
        let b = way.before.primary in
        level_moved p w v lane later sides own fed b (at_by lane b) (at_by later b) (same_at_by b) (is.before way opens (by (changes_primary way) refl))
      where
        by : (t : Bool) → changes_primary way ≡ t → (changes_primary way && stands_done way write_journal) ≡ false
        by false t = ap (λ x. x && stands_done way write_journal) t
        by true t = and_right (changes_primary way) (stands_done way write_journal) (not_before way write_journal (if-not (changes_primary way) (stands_done (more way) write_journal) guard t))

    writes_are : length (lane_writes p v later) ≡ length (lane_writes p w lane)
    writes_are = ap length (lane_writes_same p w v lane later sides own)

    window_on : changes_primary way ≡ true → stands_done (more way) catch_up ≡ true → stands_done_at (more way) refresh_target later.shard ≡ false → length (lane_writes p v later) ≤ later.fed
    window_on changes caught waits = by (eqb (next_step way) catch_up) refl
      where
        waits_now : stands_done_at way refresh_target lane.shard ≡ false
        waits_now = not_before_at way refresh_target lane.shard (ap (stands_done_at (more way) refresh_target) (sym own) ∙ waits)

        by : (t : Bool) → eqb (next_step way) catch_up ≡ t → length (lane_writes p v later) ≤ later.fed
        by true t = let a = tested t in let e = writes_are in let f = fed in omega arith
        by false t =
            let a = is.window way opens changes (before_then way catch_up t caught) waits_now in
            let e = writes_are in
            let f = fed in
            omega arith

    -- the stream that is made begins behind all
    made_level : changes_primary way ≡ true → makes ≡ true → LevelAt p v later (not way.before.primary) later.fresh_at
    made_level changes made =
        let five = eqb-true (next_step way) 5 made in
        let early = undone_by way write_journal 5 five (omega arith) in
        let a = is.before way opens (and_right (changes_primary way) (stands_done way write_journal) early) in
        let d = is.window way opens changes (done_by way catch_up 5 five (omega arith) (omega arith)) (undone_at way refresh_target lane.shard 4 five (omega arith)) in
        let le = a.0 in
        let f = fed in
        let g = writes_are in
        (omega arith, subst (ArePendingAt (side_by v b) (shard_by later b)) (sym fresh_is) (pending_end p v later later.fed (side_by v b) (shard_by later b) (omega arith)))
      where
        b : Bool
        b = not way.before.primary

        ArePendingAt : List ℕ → ℕ → ℕ → Type 0
        ArePendingAt keyspace shard at = ArePending p v later later.fed keyspace shard at

        place : (o : Bool) → (cond o w.source w.target ≡ side_by w (not o)) × (cond o 0 lane.shard ≡ shard_by lane (not o))
        place true = (refl, refl)
        place false = (refl, refl)

        opened : (before_way w).primary ≡ way.before.primary
        opened = ap (λ o. (option_map_or (λ x. x.before) o w.switched).primary) opens

        fresh_is : later.fresh_at ≡ log_length p (side_by v b) (shard_by later b)
        fresh_is =
            ap (λ x. x.fresh_at) later_is' ∙ ap (λ m. (cond m (lane_made p w lane) lane).fresh_at) made
            ∙ ap (λ o. log_length p (cond o w.source w.target) (cond o 0 lane.shard)) opened
            ∙ ap (λ k. log_length p k (cond way.before.primary 0 lane.shard)) (place way.before.primary).0
            ∙ ap (log_length p (side_by w b)) (place way.before.primary).1
            ∙ ap (λ k. log_length p k (shard_by lane b)) (side b) ∙ ap (log_length p (side_by v b)) (shard b)
          where
            side : (o : Bool) → side_by w o ≡ side_by v o
            side true = sides.target
            side false = sides.source

            shard : (o : Bool) → shard_by lane o ≡ shard_by later o
            shard true = sym own
            shard false = refl

    fresh_on : changes_primary way ≡ true → stands_done (more way) create_back ≡ true → LevelAt p v later (not way.before.primary) later.fresh_at
    fresh_on changes created = by makes refl
      where
        by : (t : Bool) → makes ≡ t → LevelAt p v later (not way.before.primary) later.fresh_at
        by true t = made_level changes t
        by false t =
            level_moved p w v lane later sides own fed (not way.before.primary) lane.fresh_at later.fresh_at
            (ap (λ x. x.fresh_at) later_is' ∙ ap (λ m. (cond m (lane_made p w lane) lane).fresh_at) t)
            (is.fresh way opens changes (before_then way create_back t created))

    pub on_fed : IsFed p v later
    on_fed = record {
      rests = λ r. no_way v.way (more way) r opened_now;
      before = λ other opened guard. let e = one_way v.way (more way) other opened_now opened in
          subst (λ x. LevelAt p v later x.before.primary (at_by later x.before.primary)) e (before_on (ap (λ x. changes_primary x && stands_done x write_journal) e ∙ guard));
      fresh = λ other opened changes created. let e = one_way v.way (more way) other opened_now opened in
          subst (λ x. LevelAt p v later (not x.before.primary) later.fresh_at) e (fresh_on (ap (λ x. changes_primary x) e ∙ changes) (ap (λ x. stands_done x create_back) e ∙ created));
      window = λ other opened changes caught waits. let e = one_way v.way (more way) other opened_now opened in
          window_on (ap (λ x. changes_primary x) e ∙ changes) (ap (λ x. stands_done x catch_up) e ∙ caught) (ap (λ x. stands_done_at x refresh_target later.shard) e ∙ waits);
    }

  pub stepped_fed : (eqb (next_step way) catch_up ≡ true → length (lane_writes p w lane) ≤ lane.fed) → IsFed p v later
  stepped_fed tested = by (closes way) refl
    where
      by : (c : Bool) → closes way ≡ c → IsFed p v later
      by true c = last_fed c
      by false c = on_fed c tested

-- ---- an undo

module _ (p : Plain) (w : Live) (way : Way) (opens : w.way ≡ Some way) (lane : Lane) (is : IsFed p w lane) (settled : IsSettled w) (early : stands_done way write_journal ≡ false) where
  guard : (changes_primary way && stands_done way write_journal) ≡ false
  guard = and_right (changes_primary way) (stands_done way write_journal) early

  waiting : (shard : ℕ) → stands_done_at way refresh_target shard ≡ false
  waiting shard = by (stands_done_at way refresh_target shard) refl
    where
      by : (t : Bool) → stands_done_at way refresh_target shard ≡ t → stands_done_at way refresh_target shard ≡ false
      by false t = t
      by true t = absurd (true≢false (sym (done_at_some way refresh_target shard 5 t (omega arith)) ∙ early))

  pub undone_fed : IsFed p (live_undone w way) lane
  undone_fed = by (eqb (way.done - 1) 0) refl
    where
      v : Live
      v = live_undone w way

      by : (t : Bool) → eqb (way.done - 1) 0 ≡ t → IsFed p (live_undone w way) lane
      by true t = record {
        rests = λ r. subst (λ b. LevelAt p w lane b (at_by lane b)) (sym (ap (λ s. s.primary) (settled way opens early))) (is.before way opens guard);
        before = λ other opened. no_way v.way other (ap (λ l. cond l None (Some (fewer way))) t) opened;
        fresh = λ other opened. no_way v.way other (ap (λ l. cond l None (Some (fewer way))) t) opened;
        window = λ other opened. no_way v.way other (ap (λ l. cond l None (Some (fewer way))) t) opened;
      }
      by false t = let now : v.way ≡ Some (fewer way) = ap (λ l. cond l None (Some (fewer way))) t in record {
        rests = λ r. no_way v.way (fewer way) r now;
        before = λ other opened g. subst (λ x. LevelAt p w lane x.before.primary (at_by lane x.before.primary)) (one_way v.way (fewer way) other now opened) (is.before way opens guard);
        fresh = λ other opened changes created. let e = one_way v.way (fewer way) other now opened in
            subst (λ x. LevelAt p w lane (not x.before.primary) lane.fresh_at) e
            (is.fresh way opens (ap (λ x. changes_primary x) e ∙ changes) (was_done way create_back (ap (λ x. stands_done x create_back) e ∙ created)));
        window = λ other opened changes caught waits. let e = one_way v.way (fewer way) other now opened in
            is.window way opens (ap (λ x. changes_primary x) e ∙ changes) (was_done way catch_up (ap (λ x. stands_done x catch_up) e ∙ caught)) (waiting lane.shard);
      }

-- ---- a begin

module _ (p : Plain) (w : Live) (lane : Lane) (is : IsFed p w lane) (at_rest : w.way ≡ None) (backward : Bool) (change : TypeSet → TypeSet) where
  abbrev first : Way
  first = record { back = backward; shards = shard_count w.cuts; before = w.switched; after = change w.switched; done = 0; undoing = false }

  nothing_done : (n : ℕ) → stands_done first (suc n) ≡ true → ⊥
  nothing_done n e = true≢false (sym e ∙ none_done first n refl)

  pub begun_fed : IsFed p (with_way_to backward change w) lane
  begun_fed = record {
    rests = λ r. absurd cc;
    before = λ other opened guard. subst (λ x. LevelAt p w lane x.before.primary (at_by lane x.before.primary)) (one_way (Some first) first other refl opened) (is.rests at_rest);
    fresh = λ other opened changes created. absurd (nothing_done 4 (ap (λ x. stands_done x create_back) (one_way (Some first) first other refl opened) ∙ created));
    window = λ other opened changes caught. absurd (nothing_done 2 (ap (λ x. stands_done x catch_up) (one_way (Some first) first other refl opened) ∙ caught));
  }
