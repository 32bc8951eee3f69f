-- By what an advance makes of the live workflows and of the list of all logs.
use Rattle.mt_laws.proofs.AdvanceLemmas.{after_advance}
use Rattle.mt_laws.proofs.reached.an_advance_writes_one_log.Goals as goal

pub returns : goal.returns
returns c = λ p workflow w live stream shard at at_most events rows lane here. after_advance p workflow w live lane stream shard at at_most events rows here
