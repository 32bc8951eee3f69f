-- Only the workflow of the step changes, and its owner only where the other side is level.
use Rattle.std.specs.Prelude.{◌≡◌, ◌≢◌, ◌⊎◌, ℕ, List, Some}
use Rattle.std.proofs.Common.{inl, ⊎_elim, sym, ap, subst, ◌∙◌}
use Rattle.mt_plain.specs.Events.{step, done}
use Rattle.mt_plain.specs.Next.{live_stepped, next, on_way_of}
use Rattle.mt_plain.specs.Plain.{Live, Plain, live_at}
use Rattle.mt_model.specs.Topology.{cuts_at}
use Rattle.mt_names.specs.Shards.{shard_of}
use Rattle.mt_laws.specs.WayBack.{IsReached}
use Rattle.mt_stands.proofs.KnownLemmas.{Known, same_or, some_is}
use Rattle.mt_stands.proofs.KeepLemmas.{IsLevel, alike_by, rows_stay, there_changed}
use Rattle.mt_stands.proofs.StepLemmas.{step_owner, stepped_sides}
use Rattle.mt_stands.proofs.steps.a_step_keeps_rows_and_logs.Goals as goal

pub returns : goal.returns
returns c =
    let known : (p : Plain) → IsReached p → Known p = λ p reached.
    record {
      found = c.a_live_workflow_is_found_by_its_part.ensures.mover p reached;
      moving = c.a_live_workflow_is_found_by_its_part.ensures.mover_is_live p reached;
      placed = c.live_workflows_stand_in_place.ensures.placed p reached;
      fed = c.what_was_fed_stays_fed.ensures.never_more p reached;
      apart = c.each_table_has_a_number_of_its_own.ensures.apart p reached;
      writable = c.the_owner_alone_serves_the_primary.ensures.writable p reached;
      source_one = c.a_live_workflow_knows_its_shards.ensures.source p reached;
      target_by = c.a_live_workflow_knows_its_shards.ensures.target p reached;
    } in
    let state = c.only_named_events_change_the_state.ensures in
    let live = c.only_named_events_change_a_workflow.ensures in
    λ p reached at stands name number given.
    let owners : (n : List ℕ) (w v : Live) → live_at p n ≡ Some w → live_at (next p (step name number) done) n ≡ Some v → (v.switched.primary ≡ w.switched.primary) ⊎ IsLevel p w = λ n w v was now.
    ⊎_elim
    (λ (e : n ≡ name).
    step_owner p w v (λ m is. c.a_live_workflow_is_found_by_its_part.ensures.named p m w is) name (subst (λ x. live_at p x ≡ Some w) e was) (subst (λ x. live_at (next p (step name number) done) x ≡ Some v) e now)
    (c.ways_keep_their_course.ensures.course p reached n w was)
    (λ way is journal. record {
      fed = c.all_writes_are_fed_at_the_journal.ensures.journal p reached n w way was is journal;
      rows = c.all_writes_are_fed_at_the_journal.ensures.rows p reached n w way was is journal;
    }))
    (λ (other : n ≢ name). inl (ap (λ (x : Live). x.switched.primary) (some_is v w (sym now ∙ live.elsewhere p (step name number) done n (λ h. other (sym h)) ∙ was))))
    (same_or n name) in
    rows_stay p (next p (step name number) done) (known p reached) (known (next p (step name number) done) (c.each_next_state_is_reached.ensures.next p reached (step name number) done given))
    (alike_by p (next p (step name number) done) (state.numbers p (step name number) done (λ h. h)) (state.made p (step name number) done (λ h. h)) (state.writes p (step name number) done (λ h. h)) (state.logs p (step name number) done (λ h. h))
    (there_changed p name (λ w. on_way_of (live_stepped p w) w) (stepped_sides p)) (λ k t has key. ap (λ u. shard_of (cuts_at u.keyspaces k) key) (state.topology p (step name number) done (λ h. h)))
    (λ n. live.live p (step name number) done n (λ h. h)) (λ n w v was now. live.sides p (step name number) done n w v was now)
    (c.a_live_workflow_knows_its_shards.ensures.numbers p reached) (c.a_live_workflow_knows_its_shards.ensures.numbers (next p (step name number) done) (c.each_next_state_is_reached.ensures.next p reached (step name number) done given))
    (λ n w v was now. live.counts p (step name number) done n w v was now (λ h. h)) owners)
    at stands (c.what_is_in_use_goes_on.ensures p reached (step name number) done given)
