-- The answer is that of the site, in the shard that it has found.
use Rattle.std.proofs.Common.{ap, ◌∙◌, sym}
use Rattle.mt_event.specs.Reasons.{reason_from}
use Rattle.mt_site.specs.Shards.{shard_from}
use Rattle.mt_workflow.specs.Workflows.{stream_name}
use Rattle.mt_run.proofs.RunLemmas.{in_shard, nowhere_in}
use Rattle.mt_run.proofs.asking.advance.Goals as goal

pub returns-in-Ok-clause-answered : goal.returns-in-Ok-clause-answered
returns-in-Ok-clause-answered g c =
    let scopes = g.A.Asks.scopes c.args.cached.now.site.watchers in
    let words = c.args.words in
    in_shard scopes c.args.cached.now.site.core c.args.workflow.now (stream_name words.stream) c.args.range.now words.at words.max c.ask.new.cached.site.core c.in-Ok.shard
    c.args.waiting.now.items c.ask.new.waiting.items (λ p stands. sym (ap shard_from c.in-Ok.is) ∙ c.shard.ensures.stands p scopes stands) c.ask.ensures.answered

pub returns-in-Err-clause-answered : goal.returns-in-Err-clause-answered
returns-in-Err-clause-answered g c =
    let scopes = g.A.Asks.scopes c.args.cached.now.site.watchers in
    let words = c.args.words in
    nowhere_in scopes c.args.cached.now.site.core c.args.workflow.now (stream_name words.stream) c.args.range.now words.at words.max (reason_from c.in-Err.reason)
    c.args.waiting.now.items c.put_reason.new.text.items c.put_reason.ensures (λ p stands. sym (ap shard_from c.in-Err.is) ∙ c.shard.ensures.stands p scopes stands)
