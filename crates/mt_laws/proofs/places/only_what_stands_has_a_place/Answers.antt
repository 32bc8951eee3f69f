-- Each event that makes a place fills it, and no event denies a table as if no workflow were live.
use Rattle.mt_laws.proofs.PlacedLemmas.{denied_places, only_what_stands, rule_places, table_places}
use Rattle.mt_laws.proofs.places.only_what_stands_has_a_place.Goals as goal

pub returns : goal.returns
returns c = record { lists = only_what_stands; rules = rule_places; tables = table_places; denials = denied_places }
