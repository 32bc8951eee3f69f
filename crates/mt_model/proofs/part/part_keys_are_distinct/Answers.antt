-- Keys of a table differ in their number, keys of two tables in their table.
use Rattle.mt_model.proofs.PartLemmas.{part_distinct}
use Rattle.mt_model.proofs.part.part_keys_are_distinct.Goals as goal

pub returns : goal.returns
returns c = part_distinct
