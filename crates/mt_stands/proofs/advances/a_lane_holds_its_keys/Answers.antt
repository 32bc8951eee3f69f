-- By the numbers of its lanes.
use Rattle.mt_stands.proofs.RangeLemmas.{lane-holds}
use Rattle.mt_stands.proofs.advances.a_lane_holds_its_keys.Goals as goal

pub returns : goal.returns
returns c = λ p reached name w live are. lane-holds w are (c.a_live_workflow_knows_its_shards.ensures.numbers p reached name w live)
