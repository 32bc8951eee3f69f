-- Numbers, writes and logs are as they were, and so is each workflow but for its way.
use Rattle.std.specs.Prelude.{◌≡◌, ℕ, List, false, true}
use Rattle.std.proofs.Common.{ap, sym, subst}
use Rattle.mt_plain.specs.Answers.{Answers}
use Rattle.mt_plain.specs.Events.{Event, add_keyspace, edit_rule, begin_switch, begin_reverse, undo, Answer, done}
use Rattle.mt_plain.specs.Next.{next, live_undone, on_way_of, types_and, types_without, with_way_to}
use Rattle.mt_plain.specs.Plain.{Plain}
use Rattle.mt_plain.specs.Serve.{has_table}
use Rattle.mt_laws.specs.Changes.{ChangesLives, ChangesLogs, ChangesNumbers, ChangesWrites, IsAdvance, IsStep}
use Rattle.mt_laws.specs.WayBack.{IsReached}
use Rattle.mt_stands.specs.Rows.{Primaries, RowsStand}
use Rattle.mt_stands.proofs.KnownLemmas.{Known}
use Rattle.mt_names.specs.Shards.{shard_of}
use Rattle.mt_laws.proofs.CutLemmas.{cuts_stay}
use Rattle.mt_laws.proofs.ReachLemmas.{reached_has_parts}
use Rattle.mt_stands.proofs.KeepLemmas.{alike_at_rest, begun_sides, rows_stay, there_by, there_changed, there_pushed, undone_sides}
use Rattle.mt_stands.proofs.stays.events_that_change_no_row_keep_rows_and_logs.Goals as goal

pub returns : goal.returns
returns c =
    let known : (p : Plain) → IsReached p → Known p = λ p reached.
    record {
      found = c.a_live_workflow_is_found_by_its_part.ensures.mover p reached;
      moving = c.a_live_workflow_is_found_by_its_part.ensures.mover_is_live p reached;
      placed = c.live_workflows_stand_in_place.ensures.placed p reached;
      fed = c.what_was_fed_stays_fed.ensures.never_more p reached;
      apart = c.each_table_has_a_number_of_its_own.ensures.apart p reached;
      writable = c.the_owner_alone_serves_the_primary.ensures.writable p reached;
      source_one = c.a_live_workflow_knows_its_shards.ensures.source p reached;
      target_by = c.a_live_workflow_knows_its_shards.ensures.target p reached;
    } in
    let state = c.only_named_events_change_the_state.ensures in
    let live = c.only_named_events_change_a_workflow.ensures in
    let kept : (p : Plain) (reached : IsReached p) (at : Primaries) (stands : RowsStand p at) (event : Event) (answer : Answer) → Answers p event answer
    → ¬ (ChangesLives event) → ¬ (ChangesNumbers event) → ¬ (ChangesWrites event) → ¬ (ChangesLogs event) → ¬ (IsAdvance event) → ¬ (IsStep event)
    → ((keyspace table : List ℕ) → has_table (next p event answer) keyspace table ≡ true → has_table p keyspace table ≡ true)
    → RowsStand (next p event answer) at = λ p reached at stands event answer given lives numbers writes logs advances steps tables.
    rows_stay p (next p event answer) (known p reached) (known (next p event answer) (c.each_next_state_is_reached.ensures.next p reached event answer given))
    (alike_at_rest p (next p event answer) (state.numbers p event answer numbers) (state.made p event answer numbers) (state.writes p event answer writes) (state.logs p event answer logs) tables
    (λ k t has key. ap (λ cuts. shard_of cuts key) (cuts_stay p event answer k (there_by p (λ w is. ((reached_has_parts p reached).placed w is).target) k t has)))
    (λ name. live.live p event answer name lives) (λ name w v was is. live.sides p event answer name w v was is) (c.a_live_workflow_knows_its_shards.ensures.numbers p reached) (c.a_live_workflow_knows_its_shards.ensures.numbers (next p event answer) (c.each_next_state_is_reached.ensures.next p reached event answer given))
    (λ name w v was is. live.counts p event answer name w v was is advances)
    (λ name w v was is. live.switched p event answer name w v was is steps))
    at stands (c.what_is_in_use_goes_on.ensures p reached event answer given) in
    record {
      refused = λ p at stands event refusal. stands;
      told = λ p at stands event tells answer. subst (λ q. RowsStand q at) (sym (state.told p event answer tells)) stands;
      rule = λ p reached at stands key target given. kept p reached at stands (edit_rule key target) done given (λ h. h) (λ h. h) (λ h. h) (λ h. h) (λ h. h) (λ h. h) (λ keyspace table h. h);
      keyspace = λ p reached at stands keyspace cuts given. kept p reached at stands (add_keyspace keyspace cuts) done given (λ h. h) (λ h. h) (λ h. h) (λ h. h) (λ h. h) (λ h. h) (there_pushed p keyspace cuts);
      switch = λ p reached at stands name types given.
          kept p reached at stands (begin_switch name types) done given (λ h. h) (λ h. h) (λ h. h) (λ h. h) (λ h. h) (λ h. h)
          (there_changed p name (with_way_to false (λ switched. types_and switched types)) (begun_sides false (λ switched. types_and switched types)));
      reverse = λ p reached at stands name types given.
          kept p reached at stands (begin_reverse name types) done given (λ h. h) (λ h. h) (λ h. h) (λ h. h) (λ h. h) (λ h. h)
          (there_changed p name (with_way_to true (λ switched. types_without switched types)) (begun_sides true (λ switched. types_without switched types)));
      undo = λ p reached at stands name step given.
          kept p reached at stands (undo name step) done given (λ h. h) (λ h. h) (λ h. h) (λ h. h) (λ h. h) (λ h. h)
          (there_changed p name (λ w. on_way_of (live_undone w) w) undone_sides);
    }
