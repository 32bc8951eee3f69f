-- One row more is asked for.
use Rattle.std.proofs.Common.{◌≡◌, ◌∙◌, ◌++◌, None, [], ◌∷◌, ap, arith}
use Rattle.std.specs.Prelude.{codes}
use Rattle.std.proofs.lemmas.Grind.{common_steps}
use Rattle.mt_workers.specs.declared.line.Line.TheVariants.{Put}
use Rattle.mt_caller.specs.Moves.{insert_of}
use Rattle.mt_caller.proofs.MoveLemmas.{pushed_insert}
use Rattle.mt_caller.proofs.together.inserts.Goals as goal

pub loop-row-preserved : goal.loop-row-preserved
loop-row-preserved c =
    let line = Put c.by_name.result c.insert.result in
    let is : line ≡ insert_of c.loop-row.row =
    ap (λ name. Put name c.insert.result) c.by_name.ensures
    ∙ ap (λ table. Put (record { keyspace = None; table = table; tablet_type = None }) c.insert.result) c.product.ensures
    ∙ ap (λ op. Put (record { keyspace = None; table = codes "product"; tablet_type = None }) op) c.insert.ensures in
    let pushed : c.push.new.self.items ≡ c.loop-row.lines.items ++ line ∷ [] = grind (arith, common_steps) in
    pushed_insert c.loop-row.lines.items c.push.new.self.items c.loop-row.row line is c.loop-row.invariant pushed
