-- The lane's place, or that of none.
use Rattle.std.proofs.Common.{ap, ◌∙◌}
use Rattle.mt_site.specs.Shards.{shard_in, shard_or_none}
use Rattle.mt_site.proofs.shards.place_of.Goals as goal

pub returns-in-None : goal.returns-in-None
returns-in-None c = ap (λ o. shard_in o c.args.range.now) c.in-None.ensures.value

pub returns-in-Some : goal.returns-in-Some
returns-in-Some c = c.told.ensures ∙ ap shard_or_none c.place_in.ensures ∙ ap (λ o. shard_in o c.args.range.now) c.in-Some.ensures.value
