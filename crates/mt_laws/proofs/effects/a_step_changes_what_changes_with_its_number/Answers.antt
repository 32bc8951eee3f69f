use Rattle.mt_laws.proofs.EffectLemmas.{refused-stepped, served-stepped}
use Rattle.mt_laws.proofs.StreamEffectLemmas.{slot-stepped}
use Rattle.mt_laws.proofs.effects.a_step_changes_what_changes_with_its_number.Goals as goal

pub returns : goal.returns
returns c = record {
  entries = λ p w way opens u key. served-stepped p w way opens u key;
  own_lists = λ p w way opens keyspace shard. refused-stepped p w way opens keyspace shard;
  streams = λ p w way name opens turned left lane. slot-stepped p w way lane name opens turned left;
}
