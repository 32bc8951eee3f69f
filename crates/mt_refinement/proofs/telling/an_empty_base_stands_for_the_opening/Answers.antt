-- There is nothing anywhere.
use Rattle.std.proofs.Common.{refl, []}
use Rattle.mt_plain.specs.Plain.{opening}
use Rattle.mt_primary.specs.Primaries.{primary_of}
use Rattle.mt_stands.specs.Rows.{no_primaries}
use Rattle.mt_stands.proofs.KnownLemmas.{same_primaries}
use Rattle.mt_refinement.proofs.FactStayLemmas.{none_are, none_there}
use Rattle.mt_refinement.proofs.telling.an_empty_base_stands_for_the_opening.Goals as goal

pub returns : goal.returns
returns c = λ scopes. record {
  reached = c.each_next_state_is_reached.ensures.opening scopes;
  scopes_are = refl;
  topology = c.the_empty_topology_stands_for_the_opening.ensures scopes;
  rows = same_primaries (opening scopes) no_primaries (primary_of []) (c.the_opening_has_no_rows.ensures scopes) none_there;
  primaries = none_are scopes;
  workflows = record { each = λ name. tt; names = refl };
}
