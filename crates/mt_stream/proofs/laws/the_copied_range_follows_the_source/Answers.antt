use Rattle.mt_stream.proofs.FollowLemmas.{follows-advanced}
use Rattle.mt_stream.proofs.laws.the_copied_range_follows_the_source.Goals as goal

pub returns : goal.returns
returns c = follows-advanced
