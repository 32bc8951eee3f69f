-- The places stand in the order of their keys, of which none has two.
use Rattle.std.proofs.Common.{subst}
use Rattle.std.specs.List.{IsDistinct}
use Rattle.std.specs.Map.{keys_of}
use Rattle.mt_names.specs.Same.{same_key}
use Rattle.mt_model.specs.Order.{Ascends, key_before}
use Rattle.mt_rules.proofs.PlacesLemmas.{ascends, distinct_keys}
use Rattle.mt_rules.proofs.places.Places.len.Goals as goal

pub returns-clause-distinct : goal.returns-clause-distinct
returns-clause-distinct c = subst (λ rules. IsDistinct same_key (keys_of rules)) c.self.view_is (distinct_keys c.self.inside.names.entries)

pub returns-clause-ordered : goal.returns-clause-ordered
returns-clause-ordered c = subst (Ascends key_before) c.self.view_is (ascends c.self.inside.names.entries)
