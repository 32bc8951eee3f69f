-- What was compared is what was handed in.
use Rattle.std.proofs.Common.{map, subst}
use Rattle.mt_desk.specs.Passes.{HaveOneHistory, IsCaused}
use Rattle.mt_desk.proofs.desk.Desk.gather.Goals as goal

pub returns-in-Ok-clause-one : goal.returns-in-Ok-clause-one
returns-in-Ok-clause-one g c =
    subst (λ ps. HaveOneHistory g.D.DeskName.scopes g.D.DeskName.opening (map (λ pass. (pass.client, pass.calls.items)) ps)) c.as_slice.ensures.value c.in_default.ensures.one

pub returns-in-Err-clause-caused : goal.returns-in-Err-clause-caused
returns-in-Err-clause-caused g c =
    subst (λ ps. IsCaused g.D.DeskName.scopes g.D.DeskName.opening (map (λ pass. (pass.client, pass.calls.items)) ps) c.in-Err.fault) c.as_slice.ensures.value c.in-Err.ensures.caused

pub returns-in-Err-counted_by_client-clause-caused : goal.returns-in-Err-counted_by_client-clause-caused
returns-in-Err-counted_by_client-clause-caused g c =
    subst (λ ps. HaveOneHistory g.D.DeskName.scopes g.D.DeskName.opening (map (λ pass. (pass.client, pass.calls.items)) ps)) c.as_slice.ensures.value c.in_default.ensures.one
