-- There are as many as there are shards.
use Rattle.std.proofs.Common.{sym, ◌∙◌}
use Rattle.std.specs.Map.{keys_of}
use Rattle.mt_primary.proofs.PlaceLemmas.{kept_length}
use Rattle.mt_primary.proofs.primaries.Primaries.len.Goals as goal

pub returns : goal.returns
returns c = c.len.ensures ∙ c.self.inside.shards.ok.0 ∙ sym (kept_length c.args.self.now (keys_of c.self.inside.names.entries) c.self.inside.shards.items c.self.view_is c.self.invariant)
