-- What the keys of a name find.
use Rattle.std.proofs.Common.{option_and_then, sym, ap, ◌∙◌}
use Rattle.std.specs.Map.{lookup}
use Rattle.mt_names.specs.Same.{same_key}
use Rattle.mt_rules.specs.Places.{key_of, place_at}
use Rattle.mt_rules.proofs.PlacesLemmas.{found}
use Rattle.mt_rules.proofs.places.Places.name.Goals as goal

pub returns : goal.returns
returns c = λ type.
    let key = key_of c.args.name.now type in
    ap (λ o. option_and_then (λ four. place_at four type) o) c.get.ensures.value
    ∙ sym (found c.self.inside.names.entries c.len-distinct.ensures.unique key) ∙ ap (λ rules. lookup (same_key key) rules) c.self.view_is
