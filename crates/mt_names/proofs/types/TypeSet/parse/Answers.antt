-- That a text is read exactly where it follows the grammar holds of the reading function.
use Rattle.std.proofs.Common.{rules}
use Rattle.mt_names.proofs.TypeLemmas.{read_accepts}
use Rattle.mt_names.proofs.types.TypeSet.parse.Goals as goal

pub returns-in_default-clause-grammar : goal.returns-in_default-clause-grammar
returns-in_default-clause-grammar c = read_accepts c.args.text.now c.parse_words.result (search rules)
