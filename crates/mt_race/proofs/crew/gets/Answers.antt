-- The rows of one client more are asked for.
use Rattle.std.proofs.Common.{◌++◌, ◌∙◌, ap, sym}
use Rattle.mt_race.specs.Agreements.{reads_of}
use Rattle.mt_race.proofs.RaceLemmas.{all_reads_next}
use Rattle.mt_race.proofs.crew.gets.Goals as goal

pub loop-worker-preserved : goal.loop-worker-preserved
loop-worker-preserved c =
    c.in_ok-add_gets.ensures ∙ ap (λ l. l ++ reads_of c.args.writes c.loop-worker.worker) c.loop-worker.invariant
    ∙ sym (all_reads_next c.loop-worker.worker c.args.writes)
