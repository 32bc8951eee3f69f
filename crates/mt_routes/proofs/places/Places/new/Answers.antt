use Rattle.std.proofs.Common.{◌≡◌, [], rules}
use Rattle.mt_routes.proofs.HolderLemmas.{none-twice}
use Rattle.mt_routes.proofs.places.Places.new.Goals as goal

pub invariant_of-result : goal.invariant_of-result
invariant_of-result c =
    let tables = c.new-tables.result.entries in
    let none : tables ≡ [] = search rules in
    none-twice tables none
