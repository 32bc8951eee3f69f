use Rattle.mt_names.proofs.TypeLemmas.{same_members}
use Rattle.mt_names.proofs.types.same_members_same_set.Goals as goal

pub returns : goal.returns
returns c = same_members
