use Rattle.std.proofs.Common.{[]}
use Rattle.std.proofs.Math.Logic.{∥∥₁_map}
use Rattle.mt_refinement.proofs.StayLemmas.{more_watchers, next_site, opening_core, site_opening}
use Rattle.mt_refinement.proofs.stays.a_core_stays_one.Goals as goal

pub returns : goal.returns
returns c = record {
  stands = λ scopes. site_opening scopes (c.an_empty_base_stands_for_the_opening.ensures scopes);
  opening = ∣ opening_core (c.an_empty_base_stands_for_the_opening.ensures []) ∣₁;
  base = λ s is. ∥∥₁_map is (λ h. record { state = h.state; reached = h.reached; named = h.named; stands = h.stands.base });
  wider = more_watchers;
  stays = λ scopes old new event answer named steps is. ∥∥₁_map is (next_site scopes old new event answer named steps);
}
