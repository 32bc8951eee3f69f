-- Both ways.
use Rattle.mt_workflow.specs.Workflows.{live_of}
use Rattle.mt_workflow.proofs.MemberLemmas.{in_part, part_of}
use Rattle.mt_workflow.proofs.laws.the_part_is_its_keys.Goals as goal

pub returns : goal.returns
returns c w key = (part_of (live_of w) key, in_part (live_of w) key)
