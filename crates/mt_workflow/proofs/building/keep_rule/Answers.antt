-- A key without a rule where nothing is kept, and a key that is put there.
use Rattle.std.proofs.Common.{rules, ◌≡◌, None, ap, length, option_copied, sym, ◌∙◌}
use Rattle.indexmap.specs.IndexMap.{insert_entry}
use Rattle.mt_names.specs.Same.{same_key}
use Rattle.mt_model.specs.Topology.{rule_at}
use Rattle.mt_workflow.proofs.AgreeLemmas.{agrees_inserted, agrees_left, none_of}
use Rattle.mt_workflow.proofs.building.keep_rule.Goals as goal

pub returns-then-is_empty-clause-value : goal.returns-then-is_empty-clause-value
returns-then-is_empty-clause-value c stood agree key =
    let none : option_copied c.args.rule ≡ None = search rules in
    let empty : length c.args.kept.now.entries ≡ 0 = search rules in
    agrees_left c.args.kept.now.entries stood c.args.key.now (none_of c.args.kept.now.entries empty) agree key
    ∙ ap (λ rule. rule_at (insert_entry same_key stood c.args.key.now rule) key) (sym none)

pub returns-in-Ok-clause-value : goal.returns-in-Ok-clause-value
returns-in-Ok-clause-value c stood agree key =
    let entries : c.insert.new.self.entries ≡ insert_entry same_key c.args.kept.now.entries c.copied.result c.map.result = search rules in
    let rule : c.map.result ≡ option_copied c.args.rule = search rules in
    ap (λ l. rule_at l key) entries
    ∙ ap (λ k. rule_at (insert_entry same_key c.args.kept.now.entries k c.map.result) key) c.copied.ensures
    ∙ ap (λ r. rule_at (insert_entry same_key c.args.kept.now.entries c.args.key.now r) key) rule
    ∙ agrees_inserted c.args.kept.now.entries stood c.args.key.now (option_copied c.args.rule) agree key
