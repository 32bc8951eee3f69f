-- No table stands twice among those to be made, so that none of them is there before its turn; and those that are made are dropped again.
use Rattle.std.proofs.Common.{ap, sym, ◌∙◌}
use Rattle.mt_primary.specs.Primary.{has_table}
use Rattle.mt_moves.proofs.TargetLemmas.{absent-next, dropped-again, not-made}
use Rattle.mt_moves.proofs.target.make_tables.Goals as goal

pub create_table-requires : goal.create_table-requires
create_table-requires c = record {
  absent = ap (has_table c.loop-index.primary) c.index-tables-index.is ∙ absent-next c.args.primary.now c.args.tables.now c.requires.absent c.requires.distinct c.loop-index.primary c.loop-index.index c.index-tables-index.result c.loop-index-test.true c.loop-index.invariant;
}

pub returns-then-is_err-clause-unchanged : goal.returns-then-is_err-clause-unchanged
returns-then-is_err-clause-unchanged c = dropped-again c.args.primary.now c.args.tables.now c.requires.absent c.create_table.new.self c.drop_tables.new.primary c.loop-index.index
    (not-made c.loop-index.primary c.create_table.new.self c.index-tables-index.result c.create_table.result (sym c.is_err.ensures.value ∙ c.if-is_err.true) c.create_table.ensures ∙ c.loop-index.invariant)
    c.drop_tables.ensures
