-- The line was written, or cut short.
use Rattle.std.proofs.Common.{◌++◌, ◌∙◌, [], append-nil, subst}
use Rattle.mt_plain.specs.Output.{line_feed}
use Rattle.mt_script.specs.Bytes.{Writes}
use Rattle.mt_program.proofs.race.tell_race.Goals as goal

pub returns-in-Ok : goal.returns-in-Ok
returns-in-Ok g c =
    let written = subst (λ text. Writes (g.O.Write.contents c.args.output.now) (g.O.Write.contents c.write_line.new.writer) (text ++ line_feed) [] c.write_line.result) (append-nil c.deref.result.now ∙ c.deref.ensures.0 ∙ c.line_of.ensures)
    c.write_line.ensures in
    rw c.in-Ok.is (c.write_line.result, written, c.tell_written.ensures)
