-- The name's places are made and noted at once.
use Rattle.std.proofs.Common.{rules, ◌≡◌, [], ◌∷◌, ◌++◌, map, None, option_copied, ap, sym, subst, ◌∙◌}
use Rattle.mt_names.specs.declared.keys.RuleKey.{RuleKey}
use Rattle.mt_model.specs.declared.entries.EntryKey.TheVariants as about
use Rattle.mt_model.specs.Part.{with_places}
use Rattle.mt_rules.specs.Rules.{four_keys}
use Rattle.mt_topology.specs.declared.made.Made.TheVariants as together
use Rattle.mt_topology.specs.Part.{places_refusal}
use Rattle.mt_topology.proofs.MadeLemmas.{name_made, noted_back}
use Rattle.mt_topology.proofs.NewLemmas.{Lack}
use Rattle.mt_topology.proofs.topology.Topology.make_new_name.Goals as goal

pub make_new_rules-requires-clause-free : goal.make_new_rules-requires-clause-free
make_new_rules-requires-clause-free c = ap (λ (name : RuleKey). places_refusal c.args.self.now (map about.Rule (four_keys name))) c.key_of_name.ensures ∙ c.requires.free

pub make_new_rules-requires-clause-lacks : goal.make_new_rules-requires-clause-lacks
make_new_rules-requires-clause-lacks c = subst (λ (name : RuleKey). Lack c.args.self.now (four_keys name)) (sym c.key_of_name.ensures) c.requires.lacks

pub returns-clause-all : goal.returns-clause-all
returns-clause-all c = c.in_ok-make_new_rules.ensures.ok ∙ ap (λ (name : RuleKey). with_places c.args.self.now (map about.Rule (four_keys name))) c.key_of_name.ensures

pub returns-clause-back : goal.returns-clause-back
returns-clause-back c =
    let old = c.args.self.now in
    let name : RuleKey = record { keyspace = option_copied c.args.keyspace; table = c.args.table.now; tablet_type = None } in
    let made : c.make_new_rules.new.self ≡ with_places old (map about.Rule (four_keys name)) =
    c.in_ok-make_new_rules.ensures.ok ∙ ap (λ (key : RuleKey). with_places old (map about.Rule (four_keys key))) c.key_of_name.ensures in
    let noted : c.push_reserved.new.self.items ≡ c.args.made.now.items ++ together.Name c.args.keyspace c.args.table ∷ [] = search rules in
    noted_back old c.make_new_rules.new.self c.args.made.now.items c.push_reserved.new.self.items (together.Name c.args.keyspace c.args.table) (name_made old c.make_new_rules.new.self name c.requires.lacks made) noted
