-- One primary more has the tables, up to all; and those that have them lose them again.
use Rattle.std.proofs.Common.{◌≡◌, ap, fold, get_or, set, sym, ◌∙◌}
use Rattle.std.proofs.lemmas.List.{get_or_default, set-get_or}
use Rattle.mt_primary.specs.Primary.{PrimaryState, empty_primary, has_table}
use Rattle.mt_primary.specs.Writes.{with_new_table, without_table}
use Rattle.mt_stands.proofs.BridgeLemmas.{made_and_dropped_in_order}
use Rattle.mt_moves.specs.Target.{changed_to}
use Rattle.mt_moves.proofs.ChangeLemmas.{changed-all, changed-back, changed-next, still, where_err}
use Rattle.mt_moves.proofs.WriteLemmas.{where_ok}
use Rattle.mt_moves.proofs.target.make_at_each.Goals as goal

pub make_tables-requires-clause-absent : goal.make_tables-requires-clause-absent
make_tables-requires-clause-absent c = λ table is.
    let i = c.loop-index.index in
    let d = c.index-primaries-index.result in
    let old = c.args.primaries.now in
    let makes : PrimaryState → PrimaryState = λ p. fold with_new_table p c.args.tables.now in
    let at : get_or c.loop-index.primaries i d ≡ get_or old i empty_primary =
    ap (λ l. get_or l i d) c.loop-index.invariant ∙ still makes i old d ∙ get_or_default old i d empty_primary c.loop-index-test.true in
    ap (λ (p : PrimaryState). has_table p table) at ∙ c.requires.absent i c.loop-index-test.true table is

pub loop-index-preserved : goal.loop-index-preserved
loop-index-preserved c =
    changed-next (λ (p : PrimaryState). fold with_new_table p c.args.tables.now) c.args.primaries.now c.loop-index.primaries c.loop-index.index c.index-primaries-index.result c.make_tables.new.primary
    c.loop-index-test.true c.loop-index.invariant
    (where_ok c.make_tables.result (sym c.is_err.ensures.value ∙ c.if-is_err.false) c.make_tables.ensures.made)

pub returns-then-is_err-clause-unchanged : goal.returns-then-is_err-clause-unchanged
returns-then-is_err-clause-unchanged c =
    let i = c.loop-index.index in
    let d = c.index-primaries-index.result in
    let old = c.args.primaries.now in
    let makes : PrimaryState → PrimaryState = λ p. fold with_new_table p c.args.tables.now in
    let drops : PrimaryState → PrimaryState = λ p. fold without_table p c.args.tables.now in
    let same : c.make_tables.new.primary ≡ get_or c.loop-index.primaries i d =
    where_err c.make_tables.result (sym c.is_err.ensures.value ∙ c.if-is_err.true) c.make_tables.ensures.unchanged in
    c.drop_at_first.ensures ∙ ap (λ p. changed_to drops i (set c.loop-index.primaries i p)) same
    ∙ ap (changed_to drops i) (set-get_or c.loop-index.primaries i d) ∙ ap (changed_to drops i) c.loop-index.invariant
    ∙ changed-back makes drops i old (λ shard within. made_and_dropped_in_order c.args.tables.now (get_or old shard empty_primary) (c.requires.absent shard within))

pub returns-clause-made : goal.returns-clause-made
returns-clause-made c =
    c.loop-index.invariant ∙ changed-all (λ (p : PrimaryState). fold with_new_table p c.args.tables.now) c.loop-index.index c.args.primaries.now c.loop-index-test.false
