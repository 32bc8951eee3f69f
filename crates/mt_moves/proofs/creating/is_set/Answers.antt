-- The next table isn't among those before it.
use Rattle.std.proofs.Common.{rules}
use Rattle.mt_moves.proofs.OnceLemmas.{stays-more}
use Rattle.mt_moves.proofs.creating.is_set.Goals as goal

pub loop-index-preserved : goal.loop-index-preserved
loop-index-preserved c =
    stays-more c.args.tables.now c.loop-index.index c.index-tables-index.result c.loop-index-test.true c.index-tables-index.is c.loop-index.invariant (search rules)
