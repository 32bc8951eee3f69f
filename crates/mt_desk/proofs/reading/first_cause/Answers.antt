-- Each pass lists the calls of its client, and there are no others.
use Rattle.mt_desk.proofs.reading.first_cause.Goals as goal

pub returns-in-None-clause-none : goal.returns-in-None-clause-none
returns-in-None-clause-none g c = λ none. record {
  each = c.first_that_lists_others.ensures.all none;
  others = c.first_that_differs.ensures.others c.in-None.is;
}
