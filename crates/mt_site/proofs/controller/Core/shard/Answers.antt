-- The shard is that of the workflow, which each state that the core stands for knows.
use Rattle.std.proofs.Common.{◌≡◌, ◌∙◌, subst}
use Rattle.mt_stands.specs.Base.{workflow_at}
use Rattle.mt_site.specs.Shards.{shard_from, shard_in}
use Rattle.mt_site.proofs.ShardLemmas.{shard_told}
use Rattle.mt_site.proofs.controller.Core.shard.Goals as goal

pub returns-clause-place : goal.returns-clause-place
returns-clause-place c = subst (λ s. shard_from c.place_of.result ≡ shard_in (workflow_at s.base.workflows c.args.workflow.now) c.args.range.now) c.self.view_is c.place_of.ensures

pub returns-clause-stands : goal.returns-clause-stands
returns-clause-stands c = λ p scopes stands. returns-clause-place c ∙ shard_told p scopes c.args.self.now c.args.workflow.now c.args.range.now stands
