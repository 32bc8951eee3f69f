use Rattle.mt_laws.proofs.ChangedLemmas.{refuses-changed, served-changed}
use Rattle.mt_laws.proofs.effects.a_workflow_that_changes_changes_its_own_part.Goals as goal

pub returns : goal.returns
returns c = record {
  entries = λ p reached name w live change keeps key. served-changed p reached name w live change keeps key;
  own_lists = λ p reached name w live change keeps keyspace table. refuses-changed p reached name w live change keeps keyspace table;
}
