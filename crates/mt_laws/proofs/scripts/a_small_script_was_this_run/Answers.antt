-- Computed, line by line.
use Rattle.mt_laws.proofs.ScriptWitnessLemmas.{small_script}
use Rattle.mt_laws.proofs.scripts.a_small_script_was_this_run.Goals as goal

pub returns : goal.returns
returns c = small_script
