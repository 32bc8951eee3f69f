-- What was lent of the keyspace at the place becomes its own there.
use Rattle.std.proofs.Common.{◌≡◌, ap, length, ◌∙◌}
use Rattle.mt_primary.specs.Primaries.{shards_of, with_shards}
use Rattle.mt_stands.specs.Purges.{purged_from}
use Rattle.mt_moves.proofs.PrimaryLemmas.{lent-at}
use Rattle.mt_moves.proofs.PurgeLemmas.{set-at}
use Rattle.mt_moves.proofs.purging.purge_at.Goals as goal

pub returns : goal.returns
returns c =
    let ps = c.args.primaries.now in
    let ws = c.args.workflows.now.entries in
    let k = c.name.result.now in
    let each = c.all_mut.ensures.value k c.name.ensures in
    let is : c.purge_each.new.primaries ≡ purged_from ws k 0 (shards_of ps k).each =
    c.purge_each.ensures ∙ ap (λ name. purged_from ws name 0 c.all_mut.result.now) c.copied-keyspace.ensures ∙ ap (purged_from ws k 0) each in
    lent-at ps k c.args.place c.purge_each.new.primaries c.name.ensures (c.purge_each.auto.primaries ∙ ap length each)
    ∙ ap (with_shards ps k) is ∙ set-at ws ps c.args.place k c.facts.ensures c.name.ensures
