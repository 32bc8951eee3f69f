-- The place that `memchr` finds is the first.
use Rattle.mt_script.proofs.CutLemmas.{first_place}
use Rattle.mt_script.proofs.cut.line_end.Goals as goal

pub returns : goal.returns
returns c = first_place _ c.args.input.now c.memchr.result c.memchr.ensures
