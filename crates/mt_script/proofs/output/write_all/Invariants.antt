-- What is left has not gone out.
use Rattle.mt_script.specs.Bytes.{GoesOut}
use Rattle.mt_script.proofs.output.write_all.Given as goal

abbrev pub invariant-loop : goal.invariant-loop
invariant-loop g l = GoesOut (g.W.Write.contents l.fn.writer) (g.W.Write.contents l.writer) l.fn.bytes l.rest
