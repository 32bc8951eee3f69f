-- What stands past the position of the stream that reads the owner, running or stopped.
use Rattle.std.proofs.Common.{◌≡◌, ◌≢◌, ℕ, ◌+◌, Bool, true, false, not, cond, ltb, List, [], ◌∷◌, drop, length, filter, map, Option, None, Some, refl, sym, ap, ◌∙◌, subst, arith, ltb-true, lt-ltb}
use Rattle.std.proofs.lemmas.Bool.{true≢false, and_parts}
use Rattle.std.specs.Cmp.{both_ways}
use Rattle.std.specs.List.{list_any}
use Rattle.std.specs.Prelude.{◌&&◌, ◌||◌}
use Rattle.mt_names.specs.Names.{same_text}
use Rattle.mt_plain.specs.Events.{StreamName, forward, back, Slot, Way}
use Rattle.mt_plain.specs.Plain.{Lane, Live, Plain, lane_at, changes_primary, create_back, live_at, owner, stands_done, write_journal}
use Rattle.mt_plain.specs.Refuse.{lane_is_behind}
use Rattle.mt_plain.specs.Slots.{is_feeding, is_for, is_fresh, past, read_shard, read_side, slot_of}
use Rattle.mt_plain.specs.Writes.{lane_writes}
use Rattle.mt_laws.specs.Pending.{pending, row_of_entry, row_of_write}
use Rattle.mt_laws.specs.WayBack.{IsReached}
use Rattle.mt_laws.proofs.FedLemmas.{IsFed, Level, LevelAt, at_by, shard_by, owner_before, owner_behind}
use Rattle.mt_laws.proofs.FedRunLemmas.{reached_fed}
use Rattle.mt_laws.proofs.LaneLemmas.{lane_found}
use Rattle.mt_laws.proofs.LiveLemmas.{IsIn, find_some}
use Rattle.mt_laws.proofs.OwnerLemmas.{IsJournaled, reached_journaled}
use Rattle.mt_laws.proofs.PartLemmas.{IsSettled}
use Rattle.mt_laws.proofs.PendingLemmas.{pending_count}
use Rattle.mt_laws.proofs.PlainWords.{side_by}
use Rattle.mt_laws.proofs.PositionLemmas.{position_in, rest_at, slot_position}
use Rattle.mt_laws.proofs.ReachLemmas.{reached_has_parts}
use Rattle.mt_laws.proofs.StreamLemmas.{reached_turned}
use Rattle.mt_laws.proofs.WayStepLemmas.{done_in_order}

-- ---- lists

any_by_filter : {X : Type 0} (test : X → Bool) (xs : List X) → list_any test xs ≡ ltb 0 (length (filter test xs))
any_by_filter test [] = refl
any_by_filter {X} test (x ∷ xs) = by (test x) (any_by_filter test xs)
  where
    by : (b : Bool) → list_any test xs ≡ ltb 0 (length (filter test xs)) → (b || list_any test xs) ≡ ltb 0 (length (cond b (x ∷ filter test xs) (filter test xs)))
    by true again = sym (lt-ltb 0 (length (x ∷ filter test xs)) (omega arith))
    by false again = again

none_if : {X : Type 0} (xs : List X) → length xs ≡ 0 → xs ≡ []
none_if [] e = refl
none_if (x ∷ xs) e = absurd (omega arith)

-- ---- the stream that reads the owner

module _ (p : Plain) (reached : IsReached p) (name : List ℕ) (w : Live) (live : live_at p name ≡ Some w)
    (shard : ℕ) (lane : Lane) (found : lane_at w shard ≡ Some lane) (stream : StreamName) (s : Slot) (there : slot_of w lane stream ≡ Some s) (reads : read_side w stream ≡ owner w) where
  in_it : IsIn w p.lives
  in_it = (find_some (λ v. same_text v.name name) p.lives w live).0

  is : IsFed p w lane
  is = reached_fed p reached w in_it lane (lane_found w shard lane found).0

  settled : IsSettled w
  settled = (reached_has_parts p reached).settled w in_it

  journaled : IsJournaled w
  journaled = reached_journaled p reached w in_it

  apart : w.source ≢ w.target
  apart = ((reached_has_parts p reached).placed w in_it).sides

  position : position_in w lane stream ≡ s.position
  position = sym (slot_position w lane stream s there)

  -- it is at rest, or new
  rests_at : (b : Bool) → read_side w stream ≡ side_by w b → is_fresh w.way stream ≡ false → at_by lane b ≡ s.position
  rests_at b here old = by stream b here (is_fresh w.way stream) old position
    where
      by : (n : StreamName) (b : Bool) → read_side w n ≡ side_by w b → (t : Bool) → t ≡ false → cond t lane.fresh_at (rest_at lane n) ≡ s.position → at_by lane b ≡ s.position
      by n b e true f g = absurd (true≢false f)
      by forward false e false f g = g
      by forward true e false f g = absurd (apart e)
      by back false e false f g = absurd (apart (sym e))
      by back true e false f g = g

  new_at : is_fresh w.way stream ≡ true → lane.fresh_at ≡ s.position
  new_at new = sym (ap (λ t. cond t lane.fresh_at (rest_at lane stream)) new) ∙ position

  shard_is : (b : Bool) → read_side w stream ≡ side_by w b → shard_by lane b ≡ read_shard lane stream
  shard_is b e = by stream b e
    where
      by : (n : StreamName) (b : Bool) → read_side w n ≡ side_by w b → shard_by lane b ≡ read_shard lane n
      by forward true e = absurd (apart e)
      by forward false e = refl
      by back true e = refl
      by back false e = absurd (apart (sym e))

  at_side : (b : Bool) (n : ℕ) → read_side w stream ≡ side_by w b → n ≡ s.position → LevelAt p w lane b n → Level p w lane (read_side w stream) (read_shard lane stream) s.position
  at_side b n here at level =
      subst (λ k. Level p w lane k (read_shard lane stream) s.position) (sym here) (subst (λ h. Level p w lane (side_by w b) h s.position) (shard_is b here) (subst (LevelAt p w lane b) at level))

  module _ (way : Way) (opens : w.way ≡ Some way) where
    -- it is the feeding stream up to the journal, and the other one from there
    feeds : (n : StreamName) (b : Bool) → way.back ≡ b → read_side w n ≡ side_by w b → is_feeding way n ≡ true
    feeds forward false e here = ap not e
    feeds forward true e here = absurd (apart here)
    feeds back false e here = absurd (apart (sym here))
    feeds back true e here = e

    feeds_not : (n : StreamName) (b : Bool) → way.back ≡ b → read_side w n ≡ side_by w (not b) → is_feeding way n ≡ false
    feeds_not forward false e here = absurd (apart here)
    feeds_not forward true e here = ap not e
    feeds_not back false e here = e
    feeds_not back true e here = absurd (apart (sym here))

    level_before : (changes_primary way && stands_done way write_journal) ≡ false → Level p w lane (read_side w stream) (read_shard lane stream) s.position
    level_before guard =
        at_side way.before.primary (at_by lane way.before.primary) here (rests_at way.before.primary here (ap (λ o. is_fresh o stream) opens ∙ old (changes_primary way) refl)) (is.before way opens guard)
      where
        here : read_side w stream ≡ side_by w way.before.primary
        here = reads ∙ owner_before w settled journaled way opens guard

        old : (c : Bool) → changes_primary way ≡ c → is_fresh (Some way) stream ≡ false
        old false c = ap (λ t. t && not (is_feeding way stream) && stands_done way create_back) c
        old true c =
            let turned = reached_turned p reached w in_it way opens c in
            let f = feeds stream way.back refl (subst (λ b. read_side w stream ≡ side_by w b) turned here) in
            ap (λ t. t && not (is_feeding way stream) && stands_done way create_back) c ∙ ap (λ t. true && not t && stands_done way create_back) f

    level_behind : changes_primary way ≡ true → stands_done way write_journal ≡ true → Level p w lane (read_side w stream) (read_shard lane stream) s.position
    level_behind c j =
        at_side (not way.before.primary) lane.fresh_at here (new_at (ap (λ o. is_fresh o stream) opens ∙ new)) (is.fresh way opens c made)
      where
        here : read_side w stream ≡ side_by w (not way.before.primary)
        here = reads ∙ owner_behind w settled journaled way opens c j

        made : stands_done way create_back ≡ true
        made = done_in_order way 4 write_journal (omega arith) j

        new : is_fresh (Some way) stream ≡ true
        new =
            let turned = reached_turned p reached w in_it way opens c in
            let f = feeds_not stream way.back refl (subst (λ b. read_side w stream ≡ side_by w (not b)) turned here) in
            ap (λ t. t && not (is_feeding way stream) && stands_done way create_back) c ∙ ap (λ t. true && not t && stands_done way create_back) f ∙ made

  level_here : Level p w lane (read_side w stream) (read_shard lane stream) s.position
  level_here = by w.way refl
    where
      on_way : (way : Way) → w.way ≡ Some way → (t : Bool) → (changes_primary way && stands_done way write_journal) ≡ t → Level p w lane (read_side w stream) (read_shard lane stream) s.position
      on_way way opens false guard = level_before way opens guard
      on_way way opens true guard = let r = and_parts (changes_primary way) (stands_done way write_journal) guard in level_behind way opens r.0 r.1

      by : (o : Option Way) → w.way ≡ o → Level p w lane (read_side w stream) (read_shard lane stream) s.position
      by None rests = let b = w.switched.primary in at_side b (at_by lane b) reads (rests_at b reads (ap (λ o. is_fresh o stream) rests)) (is.rests rests)
      by (Some way) opens = on_way way opens (changes_primary way && stands_done way write_journal) refl

  pub pending_not_fed : map (row_of_entry p w) (pending p w lane stream s.position) ≡ map row_of_write (drop lane.fed (lane_writes p w lane))
  pending_not_fed = level_here.1

  pub pending_counted : lane.fed + length (pending p w lane stream s.position) ≡ length (lane_writes p w lane)
  pending_counted = pending_count p w lane lane.fed (read_side w stream) (read_shard lane stream) s.position level_here.0 level_here.1

  pub none_pending : lane.fed ≡ length (lane_writes p w lane) → pending p w lane stream s.position ≡ []
  none_pending all = let e = pending_counted in none_if (pending p w lane stream s.position) (omega arith)

  pub all_fed : pending p w lane stream s.position ≡ [] → lane.fed ≡ length (lane_writes p w lane)
  all_fed none = let e = pending_counted in let f = ap length none in omega arith

  pub behind_if_any : lane_is_behind p w lane ≡ list_any (is_for w lane) (past p w lane stream s.position)
  behind_if_any =
      both_ways (lane_is_behind p w lane) (ltb 0 (length (pending p w lane stream s.position)))
      (λ t. let lt = ltb-true lane.fed (length (lane_writes p w lane)) t in let e = pending_counted in lt-ltb 0 (length (pending p w lane stream s.position)) (omega arith))
      (λ t. let lt = ltb-true 0 (length (pending p w lane stream s.position)) t in let e = pending_counted in lt-ltb lane.fed (length (lane_writes p w lane)) (omega arith))
      ∙ sym (any_by_filter (is_for w lane) (past p w lane stream s.position))
