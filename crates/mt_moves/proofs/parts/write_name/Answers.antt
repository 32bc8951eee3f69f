-- Each key has its place, and the name's rules are written at once.
use Rattle.std.proofs.Common.{ℕ, List, map, Option, None, Some, ap, subst, sym, ◌∙◌}
use Rattle.mt_names.specs.declared.keys.RuleKey.{RuleKey}
use Rattle.mt_names.specs.declared.keys.RuleTarget.{RuleTarget}
use Rattle.mt_names.specs.Types.{no_types}
use Rattle.mt_model.specs.declared.entries.Entry.{Entry}
use Rattle.mt_model.specs.declared.entries.Entry.TheVariants as entry
use Rattle.mt_model.specs.Part.{with_entries}
use Rattle.mt_plain.specs.Plain.{in_keyspace}
use Rattle.mt_plain.specs.Serve.{serve_rule}
use Rattle.mt_rules.specs.Rules.{four_rules}
use Rattle.mt_stands.specs.Keys.{rules_only}
use Rattle.mt_workflow.specs.Workflows.{live_of}
use Rattle.mt_moves.specs.Parts.{HasPlaces}
use Rattle.mt_moves.proofs.WriteLemmas.{names}
use Rattle.mt_moves.proofs.parts.write_name.Goals as goal

pub put_name-requires : goal.put_name-requires
put_name-requires c = subst (λ (k : RuleKey). HasPlaces c.args.topology.now (names k.keyspace k.table)) (sym c.key_of_name-name.ensures) c.requires

pub returns : goal.returns
returns c =
    let w = c.args.workflow.now in
    let t = c.args.topology.now in
    let written : RuleKey → Option RuleTarget → List ℕ → List Entry = λ k plain source. map (λ r. entry.Rule r.0 r.1) (four_rules k plain None (Some (in_keyspace source c.args.table.now)) (Some (in_keyspace source c.args.table.now))) in
    let wanted_rule : RuleKey → Option RuleTarget = λ k. serve_rule (rules_only w.kept) (live_of w) no_types k k.tablet_type in
    c.put_name.ensures
    ∙ ap (λ plain. with_entries t (written c.key_of_name-name.result plain c.source-source.result.now)) c.wanted_names-plain.ensures
    ∙ ap (λ source. with_entries t (written c.key_of_name-name.result (wanted_rule c.key_of_name-name.result) source)) c.source-source.ensures
    ∙ ap (λ k. with_entries t (written k (wanted_rule k) w.source)) c.key_of_name-name.ensures
