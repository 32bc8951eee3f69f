-- The list of the old owner's primary is still as before the way.
use Rattle.std.proofs.Common.{sym, ◌∙◌}
use Rattle.mt_refinement.proofs.PrimaryNextLemmas.{on_way, stood}
use Rattle.mt_refinement.proofs.PrimaryUndoLemmas.{recorded}
use Rattle.mt_refinement.proofs.primaries.a_refresh_records_an_empty_list.Goals as goal

pub returns : goal.returns
returns g c = λ p scopes base stands name live w way at id old new is_live found opens given from_source from_target next attempts.
    let for = stood p scopes base stands name live w is_live found in
    let opened = sym for.way ∙ opens in
    let is_at =
    on_way p base.primaries stands.primaries live w for way opens stands.reached name is_live (c.ways_keep_their_course.ensures.course p stands.reached name live is_live way opened)
    (c.ways_keep_their_course.ensures.writes p stands.reached name live is_live way opened) (c.live_workflows_stand_in_place.ensures.placed p stands.reached name live is_live)
    (c.a_live_workflow_is_found_by_its_part.ensures.owner p stands.reached name live is_live) in
    recorded p base.primaries live w way is_at (c.a_live_workflow_is_found_by_its_part.ensures.mover p stands.reached name live is_live) next
    (g.W.Asks.scopes c.args.watchers.now) (g.W.Asks.may_answer c.args.watchers.now) id base.topology old new from_source from_target attempts
