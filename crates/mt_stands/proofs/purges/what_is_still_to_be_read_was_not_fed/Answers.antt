-- As many are past the position as were not fed.
use Rattle.std.proofs.Common.{sym, subst}
use Rattle.mt_plain.specs.Plain.{owner}
use Rattle.mt_stands.specs.RowPurges.{AreUnfed}
use Rattle.mt_stands.specs.Rows.{owner_shard}
use Rattle.mt_stands.proofs.KnownLemmas.{shard_owned}
use Rattle.mt_stands.proofs.UnfedLemmas.{unfed}
use Rattle.mt_stands.proofs.purges.what_is_still_to_be_read_was_not_fed.Goals as goal

pub returns : goal.returns
returns c = λ p reached at stands name w live shard lane laned stream slot there reads.
    let used = c.a_stream_that_reads_the_owner_is_in_use.ensures p reached name w live shard lane laned stream slot there reads in
    let placed = shard_owned w lane stream (c.live_workflows_stand_in_place.ensures.placed p reached name w live).sides.apart reads in
    subst (λ n. AreUnfed p w lane slot.position (at (owner w) n).log) (sym placed)
    (unfed p at stands name w live shard lane laned stream reads placed slot.position
    (stands.unread (owner w) (owner_shard w lane) name w live shard lane laned stream slot there used reads placed)
    (c.what_is_pending_was_not_fed.ensures.counted p reached name w live shard lane laned stream slot there reads))
