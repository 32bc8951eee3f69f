use Rattle.std.proofs.Common.{All, subst, sym}
use Rattle.std.specs.List.{IsDistinct}
use Rattle.std.specs.Map.{values_of}
use Rattle.mt_names.specs.Names.{same_text}
use Rattle.mt_routes.specs.Places.{are_any}
use Rattle.mt_routes.proofs.HolderLemmas.{kept-distinct}
use Rattle.mt_routes.proofs.places.Places.standing.Goals as goal

pub invariant_of-result : goal.invariant_of-result
invariant_of-result c = subst (λ es. All (IsDistinct same_text) (values_of es)) (sym c.in_ok-tables.ensures) (kept-distinct (λ e. are_any e.1) c.self.inside.tables.entries c.self.invariant)
