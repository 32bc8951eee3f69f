-- The primary reads the row that the state has, or refuses as the state does.
use Rattle.mt_refinement.proofs.WriteLemmas.{read_steps}
use Rattle.mt_refinement.proofs.hand_rows.a_read_steps.Goals as goal

pub returns : goal.returns
returns c = read_steps
