-- A denial more among the keyspace's.
use Rattle.std.proofs.Common.{subst}
use Rattle.mt_model.specs.Topology.{with_denied_place}
use Rattle.mt_denied.specs.Denied.{done}
use Rattle.mt_keyspace.specs.Edits.{Edits, answer_of}
use Rattle.mt_keyspace.specs.Room.{lacks_mark_place, mark_place_refusal}
use Rattle.mt_keyspace.proofs.KeyspaceLemmas.{reserved}
use Rattle.mt_keyspace.proofs.keyspace.Keyspace.make_denied_place.Goals as goal

pub returns-clause-edits : goal.returns-clause-edits
returns-clause-edits c =
    let table = c.args.table.now in
    subst (λ s. Edits s (mark_place_refusal s.denied table) (lacks_mark_place s.denied table) (with_denied_place table s) (answer_of (done c.make_place.result)) (record { cuts = c.self.inside.shards; tables = c.self.inside.tables; denied = c.make_place.new.self })) c.self.view_is
    (reserved (λ marks. record { cuts = c.self.inside.shards; tables = c.self.inside.tables; denied = marks }) c.self.inside.denied table (done c.make_place.result) c.make_place.new.self c.make_place.ensures.reserves)
