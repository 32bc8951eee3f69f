-- The key lacks a place, and isn't refused one.
use Rattle.mt_topology.proofs.ReserveLemmas.{room_left}
use Rattle.mt_topology.proofs.rules.add_rule.Goals as goal

pub add_key-added-requires-clause-room : goal.add_key-added-requires-clause-room
add_key-added-requires-clause-room c = room_left c.args.rules.now c.args.key.now c.requires.lacks c.requires.room c.facts.ensures.within
