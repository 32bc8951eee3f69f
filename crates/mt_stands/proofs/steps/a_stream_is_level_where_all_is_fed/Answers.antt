-- The entries past its position are those of the state.
use Rattle.std.proofs.Common.{refl}
use Rattle.mt_plain.specs.Slots.{read_shard, read_side}
use Rattle.mt_stands.proofs.StepLemmas.{level_by}
use Rattle.mt_stands.proofs.steps.a_stream_is_level_where_all_is_fed.Goals as goal

pub returns : goal.returns
returns c = λ p reached at stands name w live shard lane laned split stream slot there reads.
    let used = c.a_stream_that_reads_the_owner_is_in_use.ensures p reached name w live shard lane laned stream slot there reads in
    level_by p at stands w lane split stream slot (c.what_is_pending_was_not_fed.ensures.behind p reached name w live shard lane laned stream slot there reads)
    (stands.unread (read_side w stream) (read_shard lane stream) name w live shard lane laned stream slot there used refl refl)
