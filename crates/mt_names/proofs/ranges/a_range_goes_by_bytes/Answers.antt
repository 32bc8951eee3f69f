-- The order of two numbers of eight bytes is that of the bytes.
use Rattle.mt_names.proofs.BoundLemmas.{holds-bytes}
use Rattle.mt_names.proofs.ranges.a_range_goes_by_bytes.Goals as goal

pub returns : goal.returns
returns c = holds-bytes
