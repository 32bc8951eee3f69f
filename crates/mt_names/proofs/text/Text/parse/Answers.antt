-- That a text is read exactly where it is a name holds of the reading function.
use Rattle.std.proofs.Common.{Ok, Err, rules}
use Rattle.mt_names.specs.declared.fault.NameFault.TheVariants.{BadByte}
use Rattle.mt_names.proofs.NameLemmas.{read_accepts, read_is_name}
use Rattle.mt_names.proofs.text.Text.parse.Goals as goal

pub returns-in-Some-clause-grammar : goal.returns-in-Some-clause-grammar
returns-in-Some-clause-grammar c =
    read_accepts c.args.alphabet c.args.text.now (Err (BadByte c.in-Some.place)) (search rules)

pub returns-in-None-clause-grammar : goal.returns-in-None-clause-grammar
returns-in-None-clause-grammar c =
    read_accepts c.args.alphabet c.args.text.now (Ok c.in-Ok.chars.bytes) (search rules)

pub returns-in-None-clause-name : goal.returns-in-None-clause-name
returns-in-None-clause-name c =
    read_is_name c.args.alphabet c.args.text.now (Ok c.in-Ok.chars.bytes) (search rules)
