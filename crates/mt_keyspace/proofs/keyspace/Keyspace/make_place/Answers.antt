-- A table more among the keyspace's places.
use Rattle.std.proofs.Common.{subst}
use Rattle.mt_model.specs.Topology.{with_table_place}
use Rattle.mt_denied.specs.Denied.{done}
use Rattle.mt_keyspace.specs.Edits.{Edits, answer_of}
use Rattle.mt_keyspace.specs.Room.{lacks_mark_place, mark_place_refusal}
use Rattle.mt_keyspace.proofs.KeyspaceLemmas.{reserved}
use Rattle.mt_keyspace.proofs.keyspace.Keyspace.make_place.Goals as goal

pub returns-clause-edits : goal.returns-clause-edits
returns-clause-edits c =
    let table = c.args.table.now in
    subst (λ s. Edits s (mark_place_refusal s.tables table) (lacks_mark_place s.tables table) (with_table_place table s) (answer_of (done c.make_place.result)) (record { cuts = c.self.inside.shards; tables = c.make_place.new.self; denied = c.self.inside.denied })) c.self.view_is
    (reserved (λ marks. record { cuts = c.self.inside.shards; tables = marks; denied = c.self.inside.denied }) c.self.inside.tables table (done c.make_place.result) c.make_place.new.self c.make_place.ensures.reserves)
