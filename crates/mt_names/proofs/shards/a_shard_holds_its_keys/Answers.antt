-- By how many bounds a key has passed.
use Rattle.mt_names.proofs.RangeLemmas.{shard-holds}
use Rattle.mt_names.proofs.ShardLemmas.{shard_there}
use Rattle.mt_names.proofs.shards.a_shard_holds_its_keys.Goals as goal

pub returns-clause-holds : goal.returns-clause-holds
returns-clause-holds c = shard-holds

pub returns-clause-there : goal.returns-clause-there
returns-clause-there c = shard_there
