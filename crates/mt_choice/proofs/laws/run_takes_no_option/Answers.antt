use Rattle.mt_choice.proofs.OptionLemmas.{run-refused}
use Rattle.mt_choice.proofs.laws.run_takes_no_option.Goals as goal

pub returns : goal.returns
returns c = λ program words utf8 is. run-refused program words utf8 is
