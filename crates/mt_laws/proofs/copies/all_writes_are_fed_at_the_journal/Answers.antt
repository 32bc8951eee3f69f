use Rattle.mt_laws.proofs.LevelLemmas.{all_fed_at_the_journal, all_fed_between, of_number, rows_at_the_journal}
use Rattle.mt_laws.proofs.copies.all_writes_are_fed_at_the_journal.Goals as goal

pub returns : goal.returns
returns c = record {
  between = λ p reached name w way live opens changes caught shard lane found. all_fed_between p reached name w live lane (of_number p reached name w live shard lane found) way opens changes caught;
  journal = λ p reached name w way live opens here shard lane found. all_fed_at_the_journal p reached name w live lane (of_number p reached name w live shard lane found) way opens here;
  rows = λ p reached name w way live opens. rows_at_the_journal p reached name w live way opens;
}
