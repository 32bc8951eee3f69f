-- One row more is asked for.
use Rattle.std.proofs.Common.{◌≡◌, ◌++◌, [], ◌∷◌, arith}
use Rattle.std.proofs.lemmas.Grind.{common_steps}
use Rattle.mt_workers.specs.declared.line.Line.TheVariants.{Get}
use Rattle.mt_race.proofs.RaceLemmas.{pushed_read}
use Rattle.mt_race.proofs.crew.add_gets.Goals as goal

pub loop-row-preserved : goal.loop-row-preserved
loop-row-preserved c =
    let pushed : c.push.new.self.items ≡ c.loop-row.lines.items ++ Get c.name.result c.row_key.result ∷ [] = grind (arith, common_steps) in
    pushed_read c.args.lines.now.items c.loop-row.lines.items c.push.new.self.items c.args.worker c.loop-row.row c.name.result c.row_key.result
    c.name.ensures c.row_key.ensures c.loop-row.invariant pushed
