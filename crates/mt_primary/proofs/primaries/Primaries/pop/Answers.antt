-- The last name goes with its shards.
use Rattle.std.proofs.Common.{◌≡◌, ◌-◌, ap, ap₂, arith, length, take, zip, ◌∙◌}
use Rattle.std.specs.Map.{keys_of}
use Rattle.mt_primary.proofs.PlaceLemmas.{keys_of-take, kept_length, kept_take}
use Rattle.mt_primary.proofs.primaries.Primaries.pop.Goals as goal

pub returns : goal.returns
returns c =
    let last = c.saturating_sub-last.result in
    let long = kept_length c.args.self.now (keys_of c.self.inside.names.entries) c.self.inside.shards.items c.self.view_is c.self.invariant in
    let one_less : last ≡ length c.args.self.now - 1 = omega (arith, long, c.len.ensures, c.self.inside.shards.ok.0, c.saturating_sub-last.ensures) in
    ap₂ zip (ap keys_of c.truncate.ensures.entries ∙ keys_of-take last c.self.inside.names.entries) c.truncate-2.ensures.items
    ∙ kept_take c.args.self.now (keys_of c.self.inside.names.entries) c.self.inside.shards.items c.self.view_is c.self.invariant last ∙ ap (λ n. take n c.args.self.now) one_less
