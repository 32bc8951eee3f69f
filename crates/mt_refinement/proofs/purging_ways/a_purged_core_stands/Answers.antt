-- What is kept of the ways stays, as the workflows do.
use Rattle.std.proofs.Math.Logic.{∥∥₁_map}
use Rattle.mt_refinement.proofs.WaysPurgeLemmas.{site-purged, state-purged}
use Rattle.mt_refinement.proofs.purging_ways.a_purged_core_stands.Goals as goal

pub returns : goal.returns
returns c = record {
  stands = λ p scopes s base stands purges. site-purged p scopes s base purges (c.a_purged_base_stands.ensures.stands p scopes s.base base stands.base purges) stands;
  core = λ s base is purges. ∥∥₁_map is (λ h. state-purged s base purges h
      (c.a_purged_base_stands.ensures.stands h.state h.state.scopes s.base base h.stands.base purges));
  steps = λ scopes old made event answer base steps purges p stands.
      let (given, behind) = steps p stands in
      (given, site-purged _ scopes made base purges (c.a_purged_base_stands.ensures.stands _ scopes made.base base behind.base purges) behind);
}
