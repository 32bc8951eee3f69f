-- One primary more.
use Rattle.std.proofs.Common.{◌<◌, fold, length, arith}
use Rattle.mt_primary.specs.Primary.{PrimaryState}
use Rattle.mt_primary.specs.Writes.{without_table}
use Rattle.mt_moves.proofs.ChangeLemmas.{changed-next}
use Rattle.mt_moves.proofs.target.drop_at_first.Goals as goal

pub loop-index-preserved : goal.loop-index-preserved
loop-index-preserved c =
    let within : c.loop-index.index < length c.args.primaries.now = omega (arith, c.loop-index-test.true, c.requires) in
    changed-next (λ (p : PrimaryState). fold without_table p c.args.tables.now) c.args.primaries.now c.loop-index.primaries c.loop-index.index c.index-primaries-index.result c.drop_tables.new.primary
    within c.loop-index.invariant c.drop_tables.ensures
