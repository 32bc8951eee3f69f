use Rattle.mt_laws.proofs.EffectLemmas.{refused-undone, served-undone}
use Rattle.mt_laws.proofs.StreamEffectLemmas.{slot-undone}
use Rattle.mt_laws.proofs.effects.an_undo_changes_what_changed_with_the_last_step.Goals as goal

pub returns : goal.returns
returns c = record {
  entries = λ w way opens settled u key. served-undone w way opens settled u key;
  own_lists = λ w way opens settled keyspace shard. refused-undone w way opens settled keyspace shard;
  streams = λ w way name opens settled turned left before lane. slot-undone w way lane name opens settled turned left before;
}
