use Rattle.std.proofs.Common.{[]}
use Rattle.std.proofs.Math.Logic.{∥∥₁_map}
use Rattle.mt_refinement.proofs.FactStayLemmas.{more_watchers, next_state, opening_state}
use Rattle.mt_refinement.proofs.facts.a_base_stays_one.Goals as goal

pub returns : goal.returns
returns c = record {
  opening = ∣ opening_state (c.the_empty_topology_stands_for_the_opening.ensures []) (c.the_opening_has_no_rows.ensures []) ∣₁;
  wider = more_watchers;
  stays = λ scopes old new event answer named steps is. ∥∥₁_map is (next_state scopes old new event answer named steps);
}
