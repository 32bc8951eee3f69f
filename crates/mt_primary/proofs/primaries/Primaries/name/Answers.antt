-- There is a name at each place, that of the keyspace which stands there.
use Rattle.std.proofs.Common.{◌<◌, arith, length, rules, sym, true≢false}
use Rattle.std.proofs.lemmas.Map.Entries.{length-keys_of}
use Rattle.std.specs.Map.{keys_of}
use Rattle.mt_primary.proofs.PlacedLemmas.{key-at}
use Rattle.mt_primary.proofs.PlaceLemmas.{kept_at, kept_length}
use Rattle.mt_primary.proofs.primaries.Primaries.name.Goals as goal

pub unreachable-requires : goal.unreachable-requires
unreachable-requires c =
    let names = c.self.inside.names.entries in
    let many = kept_length c.args.self.now (keys_of c.self.inside.names.entries) c.self.inside.shards.items c.self.view_is c.self.invariant in
    let long = c.self.invariant.long in
    let keys = length-keys_of names in
    let within : c.args.place < length names = omega (arith, many, long, keys, c.requires) in
    true≢false (sym (c.in-None.ensures.found.1 within))

pub returns : goal.returns
returns c = kept_at c.args.self.now (keys_of c.self.inside.names.entries) c.self.inside.shards.items c.self.view_is c.self.invariant c.in-Some.name.now c.args.place (key-at c.self.inside.names.entries c.args.place (c.in-Some.name.now, c.in-Some.field-0-1.now) (search rules))
