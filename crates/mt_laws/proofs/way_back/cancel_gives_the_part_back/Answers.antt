-- While a workflow is live, no event changes an entry of its part in the topology as if none were live.
use Rattle.mt_laws.proofs.WayBackLemmas.{cancel_back, cancel_others, cancel_sides}
use Rattle.mt_laws.proofs.way_back.cancel_gives_the_part_back.Goals as goal

pub returns : goal.returns
returns c = record { sides = cancel_sides; part = cancel_back; others = cancel_others }
