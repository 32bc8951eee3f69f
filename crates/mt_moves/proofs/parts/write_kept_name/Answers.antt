-- Each key has its place, and the name's rules are written at once.
use Rattle.std.proofs.Common.{map, Option, None, Some, option_copied, ap, subst, sym, ◌∙◌}
use Rattle.mt_names.specs.declared.keys.RuleKey.{RuleKey}
use Rattle.mt_names.specs.declared.keys.RuleTarget.{RuleTarget}
use Rattle.mt_names.specs.declared.types.TabletType.{TabletType}
use Rattle.mt_names.specs.declared.types.TabletType.TheVariants.{Primary, Replica, Rdonly}
use Rattle.mt_model.specs.declared.entries.Entry.TheVariants as entry
use Rattle.mt_model.specs.Part.{with_entries}
use Rattle.mt_model.specs.Topology.{TopologyState, rule_at}
use Rattle.mt_rules.specs.Rules.{four_rules, lent_rule}
use Rattle.mt_moves.specs.Parts.{HasPlaces}
use Rattle.mt_moves.proofs.WriteLemmas.{names}
use Rattle.mt_moves.proofs.parts.write_kept_name.Goals as goal

pub put_name-requires : goal.put_name-requires
put_name-requires c = subst (λ (k : RuleKey). HasPlaces c.args.topology.now (names k.keyspace k.table)) (sym c.key_of_name-name.ensures) c.requires

pub returns : goal.returns
returns c =
    let w = c.args.workflow.now in
    let k = c.key_of_name-name.result in
    let kept = c.kept_names-kept.result in
    let at : Option TabletType → RuleKey = λ type. record { keyspace = option_copied c.args.keyspace; table = c.args.table.now; tablet_type = type } in
    let written : RuleKey → Option RuleTarget → Option RuleTarget → Option RuleTarget → Option RuleTarget → TopologyState =
    λ name plain primary replica rdonly. with_entries c.args.topology.now (map (λ r. entry.Rule r.0 r.1) (four_rules name plain primary replica rdonly)) in
    let plain = rule_at w.kept (at None) in
    let primary = rule_at w.kept (at (Some Primary)) in
    let replica = rule_at w.kept (at (Some Replica)) in
    let rdonly = rule_at w.kept (at (Some Rdonly)) in
    c.put_name.ensures
    ∙ ap (λ r. written k r (lent_rule kept.1) (lent_rule kept.2) (lent_rule kept.3)) c.kept_names-kept.ensures.plain
    ∙ ap (λ r. written k plain r (lent_rule kept.2) (lent_rule kept.3)) c.kept_names-kept.ensures.primary
    ∙ ap (λ r. written k plain primary r (lent_rule kept.3)) c.kept_names-kept.ensures.replica
    ∙ ap (λ r. written k plain primary replica r) c.kept_names-kept.ensures.rdonly
    ∙ ap (λ n. written n plain primary replica rdonly) c.key_of_name-name.ensures
