-- A key is read back from its text.
use Rattle.std.proofs.Common.{rules}
use Rattle.mt_names.proofs.KeyLemmas.{read_key-key_text}
use Rattle.mt_names.proofs.keys.RuleKey.text.Goals as goal

pub returns-in-Some-tablet_type-clause-read_back : goal.returns-in-Some-tablet_type-clause-read_back
returns-in-Some-tablet_type-clause-read_back c = search (rules, read_key-key_text)

pub returns-in_default-tablet_type-clause-read_back : goal.returns-in_default-tablet_type-clause-read_back
returns-in_default-tablet_type-clause-read_back c = search (rules, read_key-key_text)
