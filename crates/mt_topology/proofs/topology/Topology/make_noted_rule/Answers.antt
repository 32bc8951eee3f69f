-- A place that is made and noted.
use Rattle.std.proofs.Common.{rules, ◌≡◌, false, [], ◌∷◌, ◌++◌, option_copied}
use Rattle.mt_model.specs.declared.entries.EntryKey.TheVariants as about
use Rattle.mt_model.specs.Part.{with_place}
use Rattle.mt_model.specs.Topology.{has_place}
use Rattle.mt_topology.specs.Part.{name_key}
use Rattle.mt_topology.specs.declared.made.Made.TheVariants as together
use Rattle.mt_topology.proofs.MadeLemmas.{noted_back, place_made}
use Rattle.mt_topology.proofs.topology.Topology.make_noted_rule.Goals as goal

pub returns-clause-back : goal.returns-clause-back
returns-clause-back c =
    let old = c.args.self.now in
    let key = about.Rule (name_key (option_copied c.args.keyspace) c.args.table.now c.args.tablet_type) in
    let note = together.Rule c.args.keyspace c.args.table c.args.tablet_type in
    let lacks : has_place old key ≡ false = search rules in
    let made : c.make_new_rule.new.self ≡ with_place old key = search rules in
    let noted : c.push_reserved.new.self.items ≡ c.args.made.now.items ++ note ∷ [] = search rules in
    noted_back old c.make_new_rule.new.self c.args.made.now.items c.push_reserved.new.self.items note (place_made old c.make_new_rule.new.self key lacks made) noted
