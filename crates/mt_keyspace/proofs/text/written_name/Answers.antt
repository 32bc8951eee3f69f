-- The text of the name as a key for all types.
use Rattle.std.proofs.Common.{ap, option_copied, ◌∙◌}
use Rattle.mt_names.specs.Keys.{key_text}
use Rattle.mt_rules.specs.Written.{quoted_item}
use Rattle.mt_keyspace.proofs.TextLemmas.{text_of_name}
use Rattle.mt_keyspace.proofs.text.written_name.Goals as goal

pub returns-clause-text : goal.returns-clause-text
returns-clause-text c = c.quoted.ensures ∙ ap quoted_item (c.text.ensures.bytes ∙ ap key_text c.key_of_name.ensures ∙ text_of_name (option_copied c.args.keyspace) c.args.table.now)
