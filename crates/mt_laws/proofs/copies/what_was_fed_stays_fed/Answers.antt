use Rattle.mt_laws.proofs.CopyLemmas.{fed_never_falls}
use Rattle.mt_laws.proofs.LevelLemmas.{fed_up_to_position, never_more, of_number}
use Rattle.mt_laws.proofs.RaisedLemmas.{raised_by_its_stream}
use Rattle.mt_laws.proofs.copies.what_was_fed_stays_fed.Goals as goal

pub returns : goal.returns
returns c = record {
  never_falls = fed_never_falls;
  raised = raised_by_its_stream;
  up_to_the_position = λ p reached name w live shard lane found. fed_up_to_position p reached name w live lane (of_number p reached name w live shard lane found);
  never_more = λ p reached name w live shard lane found. never_more p reached name w live lane (of_number p reached name w live shard lane found);
}
