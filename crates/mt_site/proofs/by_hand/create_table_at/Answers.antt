-- What was lent of the keyspace becomes its own.
use Rattle.std.proofs.Common.{◌≡◌, ap, get_or, is_some, length, map, subst, sym, true≢false, ◌<◌, ◌∙◌}
use Rattle.std.specs.Result.{OnErr, OnOk}
use Rattle.mt_primary.proofs.PlaceLemmas.{at_within}
use Rattle.mt_primary.specs.Primary.{PrimaryState, empty_primary, has_table}
use Rattle.mt_primary.specs.Writes.{with_new_table}
use Rattle.mt_moves.proofs.PrimaryLemmas.{lent-at}
use Rattle.mt_site.proofs.PrimaryLemmas.{table_created}
use Rattle.mt_site.proofs.by_hand.create_table_at.Goals as goal

pub unreachable-requires : goal.unreachable-requires
unreachable-requires c = true≢false (sym c.requires.there ∙ ap is_some c.in-None.ensures.found)

pub all_mut-requires : goal.all_mut-requires
all_mut-requires c = at_within c.args.primaries.now c.args.keyspace.now c.in-Some.place c.in-Some.ensures.found

pub create_table-requires : goal.create_table-requires
create_table-requires c = λ shard within.
    let each = c.all_mut.ensures.value c.args.keyspace.now c.in-Some.ensures.found in
    ap (λ l. has_table (get_or l shard empty_primary) c.args.table.now) each ∙ c.requires.absent shard (subst (λ l. shard < length l) each within)

pub returns : goal.returns
returns c =
    let ps = c.args.primaries.now in
    let k = c.args.keyspace.now in
    let at = c.in-Some.ensures.found in
    let each = c.all_mut.ensures.value k at in
    let makes : PrimaryState → PrimaryState = λ p. with_new_table p c.args.table.now in
    table_created ps _ k c.args.table.now c.create_table.new.primaries c.create_table.result
    (lent-at ps k c.in-Some.place c.create_table.new.primaries at (c.create_table.auto.primaries ∙ ap length each))
    (subst (λ l. OnOk c.create_table.result (c.create_table.new.primaries ≡ map makes l)) each c.create_table.ensures.made)
    (subst (λ l. OnErr c.create_table.result (c.create_table.new.primaries ≡ l)) each c.create_table.ensures.unchanged)
