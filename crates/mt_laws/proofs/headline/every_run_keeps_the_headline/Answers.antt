-- Each piece of a run is a run, from the state before its first line.
use Rattle.mt_laws.proofs.HeadlineLemmas.{headline, headline_joined, headline_of_opening}
use Rattle.mt_laws.proofs.headline.every_run_keeps_the_headline.Goals as goal

pub returns : goal.returns
returns c = record { from_each_state = headline; with_earlier_lines = headline_joined; from_the_opening = headline_of_opening }
