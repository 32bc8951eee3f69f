use Rattle.mt_laws.proofs.StreamLemmas.{never_both_run, runs_at_the_owner}
use Rattle.mt_laws.proofs.streams.a_stream_that_runs_reads_the_owner.Goals as goal

pub returns : goal.returns
returns c = record { owner = runs_at_the_owner; never_both = never_both_run }
