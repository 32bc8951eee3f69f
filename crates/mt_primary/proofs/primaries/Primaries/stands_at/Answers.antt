-- The name at the place is the keyspace's.
use Rattle.std.proofs.Common.{Some, ap, rules, ◌∙◌}
use Rattle.std.specs.Map.{keys_of}
use Rattle.mt_names.proofs.SameLemmas.{same_text_decides}
use Rattle.mt_primary.proofs.PlacedLemmas.{key-at}
use Rattle.mt_primary.proofs.PlaceLemmas.{kept_at, kept_distinct}
use Rattle.mt_primary.proofs.primaries.Primaries.stands_at.Goals as goal

pub returns-in-Some-clause-there : goal.returns-in-Some-clause-there
returns-in-Some-clause-there c same =
    let is = key-at c.self.inside.names.entries c.args.place (c.in-Some.name.now, c.in-Some.field-0-1.now) (search rules) in
    let at = (same_text_decides c.in-Some.name.now c.args.keyspace.now).0 (search rules) in
    kept_at c.args.self.now (keys_of c.self.inside.names.entries) c.self.inside.shards.items c.self.view_is c.self.invariant c.args.keyspace.now c.args.place (is ∙ ap Some at)

pub returns-in-Some-clause-distinct : goal.returns-in-Some-clause-distinct
returns-in-Some-clause-distinct c = kept_distinct c.args.self.now (keys_of c.self.inside.names.entries) c.self.inside.shards.items c.self.view_is c.self.invariant

pub returns-in-None-clause-distinct : goal.returns-in-None-clause-distinct
returns-in-None-clause-distinct c = kept_distinct c.args.self.now (keys_of c.self.inside.names.entries) c.self.inside.shards.items c.self.view_is c.self.invariant
