use Rattle.mt_primary.proofs.LawLemmas.{change-tells, notice-tells}
use Rattle.mt_primary.proofs.laws.a_notice_tells_what_its_change_tells.Goals as goal

pub returns-clause-notice : goal.returns-clause-notice
returns-clause-notice c = notice-tells

pub returns-clause-change : goal.returns-clause-change
returns-clause-change c = change-tells
