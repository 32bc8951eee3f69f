use Rattle.mt_laws.proofs.CopyLemmas.{not_level_if, nothing_lost}
use Rattle.mt_laws.proofs.LevelLemmas.{all_fed_where_tested, of_number}
use Rattle.mt_laws.proofs.copies.level_is_what_it_says.Goals as goal

pub returns : goal.returns
returns c = record {
  refused = not_level_if;
  all_fed = λ p reached name w way live opens at tests given shard lane found. all_fed_where_tested p reached name w live lane (of_number p reached name w live shard lane found) way opens at tests given;
  nothing_lost = nothing_lost;
}
