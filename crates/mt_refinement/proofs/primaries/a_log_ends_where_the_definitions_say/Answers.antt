-- The log of a primary is as long as that of its shard in the state.
use Rattle.std.proofs.Common.{sym, ◌∙◌}
use Rattle.mt_refinement.proofs.PrimaryNextLemmas.{ends_same, stood}
use Rattle.mt_refinement.proofs.primaries.a_log_ends_where_the_definitions_say.Goals as goal

pub returns : goal.returns
returns c = λ p scopes base stands name live w way is_live found opens.
    let for = stood p scopes base stands name live w is_live found in
    ends_same p base.primaries stands.rows stands.primaries stands.reached name live is_live w for (c.live_workflows_stand_in_place.ensures.placed p stands.reached name live is_live)
    way (sym for.way ∙ opens)
