-- A target is read back from its text.
use Rattle.std.proofs.Common.{rules}
use Rattle.mt_names.proofs.KeyLemmas.{read_target-target_text}
use Rattle.mt_names.proofs.keys.RuleTarget.text.Goals as goal

pub returns-clause-read_back : goal.returns-clause-read_back
returns-clause-read_back c = search (rules, read_target-target_text)
