use Rattle.std.proofs.Math.Logic.{∥∥₁_elim}
use denote.Struct.Props.{props}
use Rattle.mt_refinement.proofs.DenialLemmas.{denied_moved}
use Rattle.mt_refinement.proofs.denials.a_base_denies_only_what_a_workflow_moves.Goals as goal

pub returns : goal.returns
returns c = λ base is keyspace table denied. ∥∥₁_elim is (search props)
    (λ h. denied_moved base h keyspace table (c.live_workflows_stand_in_place.ensures.allowed h.state h.reached keyspace table)
    (c.a_live_workflow_is_found_by_its_part.ensures.owner_is_live h.state h.reached) denied)
