-- Before the journal nothing more is switched than when the way was begun.
use Rattle.mt_laws.proofs.TrafficLemmas.{abandon_back}
use Rattle.mt_laws.proofs.way_back.an_abandoned_way_gives_the_part_back.Goals as goal

pub returns : goal.returns
returns c = abandon_back
