-- The workflow has the stream, which advances.
use Rattle.std.proofs.Common.{◌≡◌, is_some, rules, true}
use Rattle.mt_workflow.specs.Workflows.{slot_of, stream_name}
use Rattle.mt_site.specs.Advance.{advanced_from}
use Rattle.mt_site.proofs.AdvanceLemmas.{one_from}
use Rattle.mt_site.proofs.advance.advance_stream.Goals as goal

pub returns : goal.returns
returns c =
    let w = c.args.workflow.now in
    let name = stream_name c.args.asked.slot in
    let shard = c.args.asked.shard in
    let there : is_some (slot_of w shard name) ≡ true = search rules in
    let (sink, advances, rest, put) = c.advance_between.ensures in
    one_from c.args.primaries.now c.advance_between.new.primaries w c.advance_between.new.workflow name shard c.args.asked.at c.args.asked.max (advanced_from c.told.result)
    c.advance_between.result (slot_of w shard name) (slot_of c.advance_between.new.workflow shard name) sink there c.told.ensures advances rest put
