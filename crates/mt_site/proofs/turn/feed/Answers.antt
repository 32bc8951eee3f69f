-- An advance of the feeding stream of a shard from its position is asked for, and what follows is what the definitions say of its answer.
use Rattle.std.proofs.Common.{ap, nat_lt, suc, sym, ◌∙◌}
use Rattle.std.specs.Prelude.{if◌then◌else◌}
use Rattle.mt_event.specs.Asks.{answer_told_by}
use Rattle.mt_plain.specs.Drive as plain
use Rattle.mt_plain.specs.Events.{advance, done}
use Rattle.mt_workflow.specs.Workflows.{stream_name}
use Rattle.mt_site.specs.Drives.{heard_from, turn_from}
use Rattle.mt_site.proofs.TurnLemmas.{advance_due, goes_on_either, heard_feed, turn_taken}
use Rattle.mt_site.proofs.turn.feed.Goals as goal

pub returns-in-Ok-clause-turns : goal.returns-in-Ok-clause-turns
returns-in-Ok-clause-turns g c =
    let scopes = g.W.Asks.scopes c.args.watchers.now in
    let name = c.args.workflow.now in
    let shard = c.args.shard in
    let tries = c.args.tries in
    turn_taken scopes c.args.core.now c.apply_on.new.self (plain.feeds name shard tries) (plain.goes_on (turn_from name c.fed.result))
    (advance name (stream_name c.feeding-stream.result) shard c.position_of-at.result 100) (answer_told_by done c.apply_on.result) c.apply_on.ensures.steps
    (λ p stands.
    let feeds = c.feeding-stream.ensures p name (c.way_of.ensures p scopes stands) in
    advance_due p name shard tries (stream_name c.feeding-stream.result) c.position_of-at.result feeds (c.position_of-at.ensures p scopes stands ∙ ap (λ s. plain.position_of p name s shard) feeds))
    (λ q stands. ap (λ r. plain.heard q (plain.feeds name shard tries) (answer_told_by done r)) c.in-Ok.is ∙ heard_feed q name shard tries c.in-Ok.field-0
    ∙ goes_on_either (nat_lt (suc shard) (plain.lanes_of q name)) (plain.feeds name (suc shard) tries) (plain.steps name tries)
    ∙ ap (λ n. plain.goes_on (if nat_lt (suc shard) n then plain.feeds name (suc shard) tries else plain.steps name tries)) (sym (c.shards_of.ensures q scopes stands))
    ∙ ap plain.goes_on (sym (c.fed.ensures name)))

pub returns-in-Err-clause-turns : goal.returns-in-Err-clause-turns
returns-in-Err-clause-turns g c =
    let scopes = g.W.Asks.scopes c.args.watchers.now in
    let name = c.args.workflow.now in
    let shard = c.args.shard in
    let tries = c.args.tries in
    turn_taken scopes c.args.core.now c.apply_on.new.self (plain.feeds name shard tries) (heard_from name c.fail.result)
    (advance name (stream_name c.feeding-stream.result) shard c.position_of-at.result 100) (answer_told_by done c.apply_on.result) c.apply_on.ensures.steps
    (λ p stands.
    let feeds = c.feeding-stream.ensures p name (c.way_of.ensures p scopes stands) in
    advance_due p name shard tries (stream_name c.feeding-stream.result) c.position_of-at.result feeds (c.position_of-at.ensures p scopes stands ∙ ap (λ s. plain.position_of p name s shard) feeds))
    (λ q stands. ap (λ r. plain.heard q (plain.feeds name shard tries) (answer_told_by done r)) c.in-Err.is ∙ sym (c.fail.ensures q name (c.way_of-in-Err.ensures q scopes stands)))
