use Rattle.mt_primary.proofs.LawLemmas.{back-at_once, back-named, back-others}
use Rattle.mt_primary.proofs.laws.a_refresh_is_taken_back.Goals as goal

pub returns-clause-named : goal.returns-clause-named
returns-clause-named c = back-named

pub returns-clause-others : goal.returns-clause-others
returns-clause-others c = back-others

pub returns-clause-at_once : goal.returns-clause-at_once
returns-clause-at_once c = back-at_once
