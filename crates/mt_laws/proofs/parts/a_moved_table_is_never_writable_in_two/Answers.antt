-- The old owner's primaries refuse before one of the new owner's does not.
use Rattle.mt_laws.proofs.WritableLemmas.{never_writable_in_two, open_at_the_owner, writable_at_the_owner}
use Rattle.mt_laws.proofs.parts.a_moved_table_is_never_writable_in_two.Goals as goal

pub returns : goal.returns
returns c = record { at_most_one = never_writable_in_two; the_owner = writable_at_the_owner; each_shard = open_at_the_owner }
