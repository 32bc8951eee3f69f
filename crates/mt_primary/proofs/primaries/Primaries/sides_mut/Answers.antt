-- The names stay beside what is written over the shards.
use Rattle.std.proofs.Common.{refl, subst, sym, ◌∙◌}
use Rattle.std.specs.Map.{keys_of}
use Rattle.mt_primary.specs.Places.{IsAt}
use Rattle.mt_primary.proofs.PlaceLemmas.{are_sides, kept_distinct, kept_places, kept_shards}
use Rattle.mt_primary.proofs.primaries.Primaries.sides_mut.Goals as goal

pub returns : goal.returns
returns c =
    let ps = c.args.self.now in
    let names = keys_of c.self.inside.names.entries in
    let shards = c.self.inside.shards in
    let at_source = subst (λ all. IsAt all c.args.source.now c.place_of-first.result) c.self.view_is c.place_of-first.ensures.at in
    let at_target = subst (λ all. IsAt all c.args.target.now c.place_of-second.result) c.self.view_is c.place_of-second.ensures.at in (
      (refl, λ w. kept_places ps names shards.items c.self.view_is c.self.invariant shards.len w shards.ok.0),
      record {
        writes_back = tt;
        sides =
            are_sides ps (kept_distinct ps names shards.items c.self.view_is c.self.invariant) c.as_mut_slice.result.now (c.as_mut_slice.ensures.value ∙ sym (kept_shards ps names shards.items c.self.view_is c.self.invariant))
            c.args.source.now c.args.target.now c.place_of-first.result c.place_of-second.result at_source at_target c.requires.apart;
      },
    )
