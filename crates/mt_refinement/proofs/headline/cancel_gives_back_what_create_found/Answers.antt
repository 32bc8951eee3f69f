-- Each base says what its state serves, and of the states the law holds.
use Rattle.std.proofs.Common.{sym, ◌∙◌}
use Rattle.mt_refinement.proofs.headline.cancel_gives_back_what_create_found.Goals as goal

pub returns : goal.returns
returns c = record {
  part = λ scopes before last now name source target tables p q stood since here taken stands key inside.
      stands.topology.served.entries key
      ∙ c.cancel_gives_the_part_back.ensures.part name source target tables p q stood.reached since taken key inside
      ∙ sym (stood.topology.served.entries key);
  others = λ scopes before last now name source target tables p q stood since here taken stands key outside.
      stands.topology.served.entries key
      ∙ c.cancel_gives_the_part_back.ensures.others name source target tables p q stood.reached since taken key outside
      ∙ sym (here.topology.served.entries key);
}
