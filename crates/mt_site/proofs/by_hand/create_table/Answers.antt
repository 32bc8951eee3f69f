-- One primary more has the table, up to all; and those that have it lose it again.
use Rattle.std.proofs.Common.{◌≡◌, ap, get_or, set, ◌∙◌}
use Rattle.std.proofs.lemmas.List.{get_or_default, set-get_or}
use Rattle.mt_primary.specs.Primary.{PrimaryState, empty_primary, has_table}
use Rattle.mt_primary.specs.Writes.{with_new_table, without_table}
use Rattle.mt_moves.specs.Target.{changed_to}
use Rattle.mt_moves.proofs.ChangeLemmas.{changed-all, changed-back, changed-next, still}
use Rattle.mt_site.proofs.PrimaryLemmas.{made_and_dropped}
use Rattle.mt_site.proofs.by_hand.create_table.Goals as goal

pub create_table-requires : goal.create_table-requires
create_table-requires c = record {
  absent =
      let i = c.loop-index.index in
      let d = c.index-primaries-index.result in
      let makes : PrimaryState → PrimaryState = λ p. with_new_table p c.args.table.now in
      let at : get_or c.loop-index.primaries i d ≡ get_or c.args.primaries.now i empty_primary =
      ap (λ l. get_or l i d) c.loop-index.invariant ∙ still makes i c.args.primaries.now d ∙ get_or_default c.args.primaries.now i d empty_primary c.loop-index-test.true in
      ap (λ (p : PrimaryState). has_table p c.args.table.now) at ∙ c.requires i c.loop-index-test.true;
}

pub loop-index-preserved : goal.loop-index-preserved
loop-index-preserved c =
    changed-next (λ (p : PrimaryState). with_new_table p c.args.table.now) c.args.primaries.now c.loop-index.primaries c.loop-index.index c.index-primaries-index.result c.create_table.new.self
    c.loop-index-test.true c.loop-index.invariant c.in_default.ensures

pub returns-in-Err-clause-unchanged : goal.returns-in-Err-clause-unchanged
returns-in-Err-clause-unchanged c =
    let i = c.loop-index.index in
    let d = c.index-primaries-index.result in
    let old = c.args.primaries.now in
    let makes : PrimaryState → PrimaryState = λ p. with_new_table p c.args.table.now in
    let drops : PrimaryState → PrimaryState = λ p. without_table p c.args.table.now in
    c.drop_table.ensures ∙ ap (λ p. changed_to drops i (set c.loop-index.primaries i p)) c.in-Err.ensures.1
    ∙ ap (changed_to drops i) (set-get_or c.loop-index.primaries i d) ∙ ap (changed_to drops i) c.loop-index.invariant
    ∙ changed-back makes drops i old (λ shard within. made_and_dropped (get_or old shard empty_primary) c.args.table.now (c.requires shard within))

pub returns-clause-made : goal.returns-clause-made
returns-clause-made c =
    c.loop-index.invariant ∙ changed-all (λ (p : PrimaryState). with_new_table p c.args.table.now) c.loop-index.index c.args.primaries.now c.loop-index-test.false
