-- `==` decides equality.
use Rattle.mt_event.proofs.SameLemmas.{same_event_decides, same_refusal_decides, same_reply_decides}
use Rattle.mt_event.proofs.laws.events_and_answers_are_told_apart.Goals as goal

pub returns-clause-events : goal.returns-clause-events
returns-clause-events c = same_event_decides

pub returns-clause-replies : goal.returns-clause-replies
returns-clause-replies c = same_reply_decides

pub returns-clause-refusals : goal.returns-clause-refusals
returns-clause-refusals c = same_refusal_decides
