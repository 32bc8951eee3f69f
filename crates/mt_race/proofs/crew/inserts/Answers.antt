-- One row more is asked for.
use Rattle.std.proofs.Common.{◌≡◌, ◌++◌, [], ◌∷◌, arith}
use Rattle.std.proofs.lemmas.Grind.{common_steps}
use Rattle.mt_model.specs.declared.rows.Op.TheVariants.{Insert}
use Rattle.mt_workers.specs.declared.line.Line.TheVariants.{Put}
use Rattle.mt_race.proofs.RaceLemmas.{pushed_write}
use Rattle.mt_race.proofs.crew.inserts.Goals as goal

pub loop-row-preserved : goal.loop-row-preserved
loop-row-preserved c =
    let pushed : c.push.new.self.items ≡ c.loop-row.lines.items ++ Put c.name.result (Insert c.row_key.result c.value.result) ∷ [] = grind (arith, common_steps) in
    pushed_write c.loop-row.lines.items c.push.new.self.items c.args.worker c.loop-row.row c.name.result c.row_key.result c.value.result
    c.name.ensures c.row_key.ensures c.value.ensures c.loop-row.invariant pushed
