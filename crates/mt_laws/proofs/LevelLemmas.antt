-- Where all acknowledged writes are fed.
use Rattle.std.proofs.Common.{◌≡◌, inl, inr, [], ◌∷◌, ap, ◌∙◌, ℕ, ◌+◌, ◌≤◌, Bool, true, false, List, length, Option, None, Some, refl, subst, arith}
use Rattle.std.proofs.lemmas.List.Sums.{length-filter}
use Rattle.std.proofs.lemmas.Bool.{and_parts, le-ltb}
use Rattle.std.specs.List.{count_by, list_any}
use Rattle.std.specs.Prelude.{◌&&◌, ◌||◌}
use Rattle.mt_names.specs.Names.{same_text}
use Rattle.mt_plain.specs.Answers.{Answers}
use Rattle.mt_plain.specs.Events.{StreamName, step, done, Way}
use Rattle.mt_plain.specs.Plain.{Lane, Live, Plain, catch_up, changes_primary, lane_at, live_at, moves, next_step, owner, refresh_target, stands_done, stands_done_at, write_journal}
use Rattle.mt_plain.specs.Refuse.{lane_is_behind}
use Rattle.mt_plain.specs.Slots.{is_for, past, running_at, slot_of}
use Rattle.mt_plain.specs.Writes.{client_row, lane_writes, other_row}
use Rattle.mt_laws.specs.Copies.{tests_level}
use Rattle.mt_laws.specs.WayBack.{IsReached}
use Rattle.mt_laws.proofs.CopyLemmas.{lane_level, level_if_taken, same_rows}
use Rattle.mt_laws.proofs.LaneLemmas.{lane_at_it, lane_found, reached_numbered}
use Rattle.mt_laws.proofs.FedLemmas.{IsFed}
use Rattle.mt_laws.proofs.FedRunLemmas.{reached_fed}
use Rattle.mt_laws.proofs.LiveLemmas.{IsIn, find_some}
use Rattle.mt_laws.proofs.OpenWayLemmas.{journals}
use Rattle.mt_laws.proofs.PendingReadLemmas.{pending_counted}
use Rattle.mt_laws.proofs.PositionLemmas.{running_slot}
use Rattle.mt_laws.proofs.StreamLemmas.{runs_at_the_owner}
use Rattle.mt_laws.proofs.WayStepLemmas.{done_by, done_in_order, undone_at}

none_behind : (test : Lane → Bool) (lanes : List Lane) → ((lane : Lane) → IsIn lane lanes → test lane ≡ false) → list_any test lanes ≡ false
none_behind test [] each = refl
none_behind test (x ∷ xs) each = ap (λ b. b || list_any test xs) (each x (inl refl)) ∙ none_behind test xs (λ lane i. each lane (inr i))

module _ (p : Plain) (reached : IsReached p) (name : List ℕ) (w : Live) (live : live_at p name ≡ Some w) where
  in_it : IsIn w p.lives
  in_it = (find_some (λ v. same_text v.name name) p.lives w live).0

  module _ (lane : Lane) (of_it : IsIn lane w.lanes) where
    is : IsFed p w lane
    is = reached_fed p reached w in_it lane of_it

    abbrev all : ℕ
    all = length (lane_writes p w lane)

    found : lane_at w lane.shard ≡ Some lane
    found = lane_at_it w (reached_numbered p reached w in_it) lane of_it

    -- no more than all is fed
    pub never_more : lane.fed ≤ all
    never_more = by w.way refl
      where
        on_way : (way : Way) → w.way ≡ Some way → (t : Bool) → (changes_primary way && stands_done way write_journal) ≡ t → lane.fed ≤ all
        on_way way opens false t = (is.before way opens t).0
        on_way way opens true t =
            let r = and_parts (changes_primary way) (stands_done way write_journal) t in
            (is.fresh way opens r.0 (done_in_order way 4 write_journal (omega arith) r.1)).0

        by : (o : Option Way) → w.way ≡ o → lane.fed ≤ all
        by None rests = (is.rests rests).0
        by (Some way) opens = on_way way opens (changes_primary way && stands_done way write_journal) refl

    -- what is not fed stands past the position of the stream that runs
    pub fed_up_to_position : (stream : StreamName) (at : ℕ) → running_at (slot_of w lane stream) ≡ Some at → lane.fed + count_by (is_for w lane) (past p w lane stream at) ≡ all
    fed_up_to_position stream at runs =
        let r = running_slot (slot_of w lane stream) at runs in
        let a = pending_counted p reached name w live lane.shard lane found stream r.0 r.1 (runs_at_the_owner p reached name w live lane stream at runs) in
        let b = length-filter (is_for w lane) (past p w lane stream r.0.position) in
        let e : lane.fed + count_by (is_for w lane) (past p w lane stream r.0.position) ≡ all = omega arith in
        subst (λ n. lane.fed + count_by (is_for w lane) (past p w lane stream n) ≡ all) r.2 e

    -- from the catch-up to the refresh of the new owner's primary
    pub all_fed_between : (way : Way) → w.way ≡ Some way → changes_primary way ≡ true → stands_done way catch_up ≡ true → stands_done_at way refresh_target lane.shard ≡ false → lane.fed ≡ all
    all_fed_between way opens changes caught waits = let a = is.window way opens changes caught waits in let b = never_more in omega arith

    pub all_fed_at_the_journal : (way : Way) → w.way ≡ Some way → next_step way ≡ write_journal → lane.fed ≡ all
    all_fed_at_the_journal way opens here =
        all_fed_between way opens (journals p reached w in_it way opens here) (done_by way catch_up 6 here (omega arith) (omega arith)) (undone_at way refresh_target lane.shard 5 here (omega arith))

    -- where the level is tested
    pub all_fed_where_tested : (way : Way) → w.way ≡ Some way → (at : ℕ) → tests_level w way ≡ true → Answers p (step name at) done → lane.fed ≡ all
    all_fed_where_tested way opens at tests given =
        let a = lane_level p w (level_if_taken p name w way live opens at tests given) lane of_it in
        let b = never_more in
        omega arith

  -- a lane by its number
  pub of_number : (shard : ℕ) (lane : Lane) → lane_at w shard ≡ Some lane → IsIn lane w.lanes
  of_number shard lane there = (lane_found w shard lane there).0

  pub rows_at_the_journal : (way : Way) → w.way ≡ Some way → next_step way ≡ write_journal → (table : List ℕ) → moves w table ≡ true → (key : ℕ) → other_row p w table key ≡ client_row p (owner w) table key
  rows_at_the_journal way opens here =
      same_rows p reached name w way live opens
      (none_behind (lane_is_behind p w) w.lanes (λ lane i. let e = all_fed_at_the_journal lane i way opens here in le-ltb lane.fed (length (lane_writes p w lane)) (omega arith)))
