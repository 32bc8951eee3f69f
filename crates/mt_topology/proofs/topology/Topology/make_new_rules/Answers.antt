-- There is room for all four, and they get their places one after the other.
use Rattle.std.proofs.Common.{rules, ◌≡◌, ◌≤◌, fold, length, arith, ap, sym, ◌∙◌}
use Rattle.mt_model.specs.Limits.{most_rules}
use Rattle.mt_model.specs.Topology.{Rules, TopologyState, with_rule_place}
use Rattle.mt_rules.specs.Rules.{four_keys}
use Rattle.mt_topology.proofs.NewLemmas.{four_apart, room_for_new, with_places-rules}
use Rattle.mt_topology.proofs.topology.Topology.make_new_rules.Goals as goal

pub add_name-requires-clause-room : goal.add_name-requires-clause-room
add_name-requires-clause-room c =
    let same = ap (λ (t : TopologyState). length t.rules) c.self.view_is in
    let within : length c.args.self.now.rules ≤ most_rules = omega (arith, same, c.facts.ensures.within) in
    omega (arith, same, room_for_new c.args.self.now (four_keys c.args.name.now) (four_apart c.args.name.now) c.requires.lacks c.requires.free within)

pub returns-clause-ok : goal.returns-clause-ok
returns-clause-ok c =
    let name = c.args.name.now in
    let after : c.add_name.new.self ≡ fold with_rule_place c.self.inside.rules (four_keys name) = search rules in
    let state : Rules → TopologyState = λ rules. record { rules = rules; keyspaces = c.self.inside.keyspaces } in
    ap state after ∙ ap (λ (t : TopologyState). record t { rules = fold with_rule_place t.rules (four_keys name) }) c.self.view_is ∙ sym (with_places-rules c.args.self.now (four_keys name))
