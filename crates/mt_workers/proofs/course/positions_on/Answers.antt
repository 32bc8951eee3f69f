-- One shard more has its position.
use Rattle.std.proofs.Common.{◌≡◌, ◌<◌, below_more, ◌∙◌, arith}
use Rattle.std.proofs.lemmas.List.{get_or-set_other, get_or-set_same, length-set}
use Rattle.std.proofs.lemmas.List.FromFn.{fill_by_all}
use Rattle.std.specs.Prelude.{slice_index, slice_set}
use Rattle.mt_names.specs.Shards.{most_shards}
use Rattle.mt_workers.specs.Controls.{position_on}
use Rattle.mt_workers.proofs.course.positions_on.Goals as goal

pub loop-shard-preserved : goal.loop-shard-preserved
loop-shard-preserved c =
    let positions = c.loop-shard.positions in
    let shard = c.loop-shard.shard in
    let position = c.position_on.result in
    let long = c.loop-shard.invariant.long in
    let within = c.loop-shard-test.true in
    record {
      long = length-set positions shard position ∙ long;
      each = below_more (λ k. slice_index (slice_set positions shard position) k ≡ position_on c.args.shown.now c.args.back k) shard
          (λ k before. get_or-set_other positions shard k position 0 (λ same. omega (arith, before, same)) ∙ c.loop-shard.invariant.each k before)
          (get_or-set_same positions shard position 0 (omega (arith, within, long)) ∙ c.position_on.ensures);
    }

pub returns : goal.returns
returns c =
    let end = c.loop-shard-test.false in
    fill_by_all (position_on c.args.shown.now c.args.back) c.loop-shard.positions most_shards 0 c.loop-shard.invariant.long
    (λ k within. c.loop-shard.invariant.each k (omega (arith, within, end)))
