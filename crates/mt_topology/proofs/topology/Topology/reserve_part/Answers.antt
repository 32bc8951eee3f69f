-- Nothing is lacking, or there is room for what is.
use Rattle.std.proofs.Common.{◌≡◌, None, false, rules, sym}
use Rattle.mt_model.specs.Part.{part_keys}
use Rattle.mt_topology.specs.Part.{lacks_a_place, reserve_refusal}
use Rattle.mt_topology.proofs.ReserveLemmas.{with_places-there}
use Rattle.mt_topology.proofs.RoomLemmas.{part_free}
use Rattle.mt_topology.proofs.topology.Topology.reserve_part.Goals as goal

pub returns-then-not-lacks_a_place : goal.returns-then-not-lacks_a_place
returns-then-not-lacks_a_place c =
    let keys = part_keys c.args.source.now c.args.target.now c.args.tables.now in
    let taken : reserve_refusal c.args.self.now c.args.source.now c.args.target.now c.args.tables.now ≡ None = search rules in
    let lacks : lacks_a_place c.args.self.now keys ≡ false = search rules in
    (taken, sym (with_places-there c.args.self.now keys lacks))

pub make_part-answer-requires : goal.make_part-answer-requires
make_part-answer-requires c =
    let taken : reserve_refusal c.args.self.now c.args.source.now c.args.target.now c.args.tables.now ≡ None = search rules in
    part_free c.args.self.now c.args.source.now c.args.target.now c.args.tables.now taken
