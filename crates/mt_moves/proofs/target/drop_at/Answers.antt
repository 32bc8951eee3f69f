-- What was lent of the keyspace becomes its own.
use Rattle.std.proofs.Common.{◌≡◌, ap, arith, fold, length, map, ◌∙◌}
use Rattle.mt_primary.specs.Primary.{PrimaryState}
use Rattle.mt_primary.specs.Writes.{without_table}
use Rattle.mt_primary.specs.Primaries.{shards_of, with_shards}
use Rattle.mt_moves.proofs.ChangeLemmas.{changed-all}
use Rattle.mt_moves.proofs.PrimaryLemmas.{lent-at}
use Rattle.mt_moves.proofs.target.drop_at.Goals as goal

pub returns : goal.returns
returns c =
    let ps = c.args.primaries.now in
    let k = c.args.keyspace.now in
    let drops : PrimaryState → PrimaryState = λ p. fold without_table p c.args.tables.now in
    let at = c.place_of-place.ensures.at in
    let each = c.all_mut-each.ensures.value k at in
    let is : c.drop_at_first.new.primaries ≡ map drops (shards_of ps k).each =
    c.drop_at_first.ensures ∙ changed-all drops (length c.all_mut-each.result.now) c.all_mut-each.result.now (omega arith) ∙ ap (map drops) each in
    lent-at ps k c.place_of-place.result c.drop_at_first.new.primaries at (c.drop_at_first.auto.primaries ∙ ap length each) ∙ ap (with_shards ps k) is
