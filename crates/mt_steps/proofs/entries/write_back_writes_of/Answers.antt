-- The second key has its place when its rule is written.
use Rattle.std.proofs.Common.{Some, subst, sym}
use Rattle.mt_model.specs.declared.entries.Entry.TheVariants as entry
use Rattle.mt_model.specs.declared.entries.EntryKey.TheVariants as about
use Rattle.mt_names.specs.declared.types.TabletType.TheVariants.{Primary}
use Rattle.mt_rules.specs.Rules.{lent_rule}
use Rattle.mt_steps.specs.Entries.{HavePlaces}
use Rattle.mt_steps.proofs.TableLemmas.{names, placed_still}
use Rattle.mt_steps.proofs.entries.write_back_writes_of.Goals as goal

pub put_rule-requires-2 : goal.put_rule-requires-2
put_rule-requires-2 c =
    let p0 = subst (λ k. HavePlaces c.args.topology.now (names k.keyspace k.table)) (sym c.key_of_name-key.ensures) c.requires in
    placed_still c.args.topology.now c.put_rule.new.self (entry.Rule c.key_of_name-key.result (lent_rule c.rule_names-rule.result)) (about.Rule (record c.key_of_name-key.result { tablet_type = Some Primary })) c.put_rule.ensures p0.1.0
