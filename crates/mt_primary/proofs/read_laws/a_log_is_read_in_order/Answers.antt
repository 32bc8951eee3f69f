-- The log read one entry after the other.
use Rattle.std.proofs.Common.{None, Some}
use Rattle.mt_store.proofs.ReadLemmas.{from_end, from_entry, is_kept, read_within}
use Rattle.mt_primary.proofs.read_laws.a_log_is_read_in_order.Goals as goal

pub returns-clause-kept : goal.returns-clause-kept
returns-clause-kept c p position kept within = read_within p.log position kept within

pub returns-clause-entry : goal.returns-clause-entry
returns-clause-entry c p position change at = let is = is_kept p.log position (Some change) at in from_entry p.log position change is.0 is.1

pub returns-clause-end : goal.returns-clause-end
returns-clause-end c p position at = from_end p.log position (is_kept p.log position None at).1
