-- A refresh takes over what the topology says at its side, and no other step changes a primary.
use Rattle.std.proofs.Common.{refl, sym, ◌∙◌}
use Rattle.mt_plain.specs.Events.{step, done}
use Rattle.mt_plain.specs.Next.{live_stepped, next, on_way_of}
use Rattle.mt_laws.specs.Effects.{list_stepped}
use Rattle.mt_primary.specs.Primaries.{primary_of}
use Rattle.mt_stands.proofs.StepLemmas.{stepped_sides}
use Rattle.mt_refinement.proofs.ChangeLemmas.{IsAt, stepped_lists}
use Rattle.mt_refinement.proofs.WaysDenialLemmas.{Known}
use Rattle.mt_refinement.proofs.WaysListLemmas.{IsNext}
use Rattle.mt_refinement.proofs.PrimaryNextLemmas.{on_way, stood, tables_stay}
use Rattle.mt_refinement.proofs.PrimaryStepLemmas.{step_stands}
use Rattle.mt_refinement.proofs.primaries.a_step_leaves_the_primaries.Goals as goal

pub returns : goal.returns
returns g c = λ p scopes base stands name live w way at id old new is_live found opens given from_source from_target attempts.
    let known : Known = record {
      tables = c.denials_change_nothing_else.ensures.tables;
      rows = c.denials_change_nothing_else.ensures.rows;
      named = c.a_refresh_concerns_named_tables.ensures.named;
      others = c.a_refresh_concerns_named_tables.ensures.others;
      given = c.a_refresh_is_taken_back.ensures.named;
      given_others = c.a_refresh_is_taken_back.ensures.others;
      notice = c.a_notice_tells_what_its_change_tells.ensures.notice;
      change = c.a_notice_tells_what_its_change_tells.ensures.change;
    } in
    let for = stood p scopes base stands name live w is_live found in
    let opened = sym for.way ∙ opens in
    let is_at : IsAt p base.primaries live w way =
    on_way p base.primaries stands.primaries live w for way opens stands.reached name is_live (c.ways_keep_their_course.ensures.course p stands.reached name live is_live way opened)
    (c.ways_keep_their_course.ensures.writes p stands.reached name live is_live way opened) (c.live_workflows_stand_in_place.ensures.placed p stands.reached name live is_live)
    (c.a_live_workflow_is_found_by_its_part.ensures.owner p stands.reached name live is_live) in
    let q = next p (step name at) done in
    let is_next : IsNext p q live (list_stepped live way) = record {
      topology = refl;
      tables = tables_stay p name (λ v. on_way_of (live_stepped p v) v) (stepped_sides p);
      refused = λ keyspace shard table. c.steps_and_undos_change_the_state_by_their_numbers.ensures.step_lists p stands.reached name live way is_live opened at keyspace shard table;
      moved = c.a_live_workflow_is_found_by_its_part.ensures.mover p stands.reached name live is_live;
    } in
    step_stands known p q base.primaries live w way is_at
    (stepped_lists p q base.primaries live w way is_at is_next (c.a_step_keeps_rows_and_logs.ensures p stands.reached (primary_of base.primaries) stands.rows name at given))
    base.topology stands.topology.served.entries (g.W.Asks.scopes c.args.watchers.now) (g.W.Asks.may_answer c.args.watchers.now) id old new from_source from_target attempts
