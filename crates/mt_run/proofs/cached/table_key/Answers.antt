-- Bytes that are no text are no name.
use Rattle.mt_run.proofs.NameLemmas.{not_read}
use Rattle.mt_run.proofs.cached.table_key.Goals as goal

pub returns-in-Err-clause-named : goal.returns-in-Err-clause-named
returns-in-Err-clause-named c = not_read c.args.name.now c.in-Err.ensures.cases.0
