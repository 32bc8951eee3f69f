-- The first two words, and the two behind them.
use Rattle.mt_script.proofs.ManyWordsLemmas.{four-found}
use Rattle.mt_script.proofs.words.four_words.Goals as goal

pub returns : goal.returns
returns c = four-found c.in_ok-first.ensures.words c.in_ok-second.ensures.words c.in_ok-third.ensures
