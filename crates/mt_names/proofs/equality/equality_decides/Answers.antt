-- Ranges are equal where their bounds are, and shards where their ranges are.
use Rattle.mt_names.proofs.SameLemmas.{same_range_decides, same_shards_decides}
use Rattle.mt_names.proofs.equality.equality_decides.Goals as goal

pub returns-clause-ranges : goal.returns-clause-ranges
returns-clause-ranges c = same_range_decides

pub returns-clause-shards : goal.returns-clause-shards
returns-clause-shards c = same_shards_decides
