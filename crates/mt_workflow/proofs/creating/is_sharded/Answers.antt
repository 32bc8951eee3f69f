-- It has as many shards as ranges.
use Rattle.std.proofs.Common.{option_copied, ap, ◌∙◌, sym}
use Rattle.mt_workflow.proofs.CreateLemmas.{sharded-some}
use Rattle.mt_workflow.proofs.creating.is_sharded.Goals as goal

pub returns-in-Some : goal.returns-in-Some
returns-in-Some c =
    sharded-some c.args.topology.now.keyspaces c.args.keyspace.now c.in-Some.shards.now c.as_slice.result.now
    (ap option_copied (sym c.in-Some.is) ∙ c.shards.ensures) c.as_slice.ensures.value c.as_slice.ensures.cuts
