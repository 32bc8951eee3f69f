-- Create tests it, and each event keeps it.
use Rattle.mt_laws.proofs.InPlaceLemmas.{in_place}
use Rattle.mt_laws.proofs.ReachLemmas.{reached_has_parts}
use Rattle.mt_laws.proofs.reached.live_workflows_stand_in_place.Goals as goal

pub returns : goal.returns
returns c = record { placed = in_place; allowed = λ p reached. (reached_has_parts p reached).undenied }
