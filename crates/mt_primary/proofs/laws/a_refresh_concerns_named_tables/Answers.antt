use Rattle.mt_primary.proofs.LawLemmas.{refresh-named, refresh-others}
use Rattle.mt_primary.proofs.laws.a_refresh_concerns_named_tables.Goals as goal

pub returns-clause-named : goal.returns-clause-named
returns-clause-named c = refresh-named

pub returns-clause-others : goal.returns-clause-others
returns-clause-others c = refresh-others
