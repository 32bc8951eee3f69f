-- In which turn entries are written.
use Rattle.std.specs.Prelude.{List}
use Rattle.std.specs.List.Sorted.{IsSortedByKey}
use Rattle.mt_model.specs.declared.entries.Entry.{Entry}
use Rattle.mt_model.specs.declared.entries.Entry.TheVariants as entry
use Rattle.mt_model.specs.Topology.{is_routed}
use Rattle.mt_routes.specs.declared.turn.Turn.{Turn}
use Rattle.mt_routes.specs.declared.turn.Place.{Place}
use Rattle.mt_routes.specs.declared.turn.Place.TheVariants as place
use Rattle.mt_routes.specs.contracts.turn.TurnOrd.TheImpl as of_turn

abbrev pub place_of : Entry → Place
place_of (entry.Rule key target) = place.Rule key
place_of (entry.Denied keyspace table mark) = place.Table keyspace table
place_of (entry.Present keyspace table mark) = place.Table keyspace table

-- those that take a rule or a table away come first; each part is in the order of what they are about
abbrev pub turn_of : Entry → Turn
turn_of e = record { is_routed = is_routed e; place = place_of e }

abbrev pub AreInTurn : List Entry → Type 0
AreInTurn entries = IsSortedByKey turn_of of_turn.ghosts.cmp entries
