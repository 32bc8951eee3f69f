-- The running stream reads the owner, and a stream is made only after the feeding one was stopped.
use Rattle.mt_laws.proofs.IdleLemmas.{other_is_idle}
use Rattle.mt_laws.proofs.reached.while_a_stream_runs_the_other_is_idle.Goals as goal

pub returns : goal.returns
returns c = other_is_idle
