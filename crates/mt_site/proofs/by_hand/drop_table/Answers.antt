-- One primary more.
use Rattle.std.proofs.Common.{◌<◌, length, arith}
use Rattle.mt_primary.specs.Primary.{PrimaryState}
use Rattle.mt_primary.specs.Writes.{without_table}
use Rattle.mt_moves.proofs.ChangeLemmas.{changed-next}
use Rattle.mt_site.proofs.by_hand.drop_table.Goals as goal

pub loop-index-preserved : goal.loop-index-preserved
loop-index-preserved c =
    let within : c.loop-index.index < length c.args.primaries.now = omega (arith, c.loop-index-test.true, c.requires) in
    changed-next (λ (p : PrimaryState). without_table p c.args.table.now) c.args.primaries.now c.loop-index.primaries c.loop-index.index c.index-primaries-index.result c.drop_table.new.self
    within c.loop-index.invariant c.drop_table.ensures
