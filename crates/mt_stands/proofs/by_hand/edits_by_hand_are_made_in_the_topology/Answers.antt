use Rattle.std.proofs.Common.{not, is_some, refl}
use Rattle.std.proofs.lemmas.Bool.{not-false}
use Rattle.mt_names.proofs.EntryLemmas.{none_from}
use Rattle.mt_model.specs.declared.entries.EntryKey.TheVariants as about
use Rattle.mt_plain.specs.Events.{add_keyspace, add_table, done, edit_rule, exists, no_keyspace, rule_owned}
use Rattle.mt_plain.specs.Next.{next}
use Rattle.mt_plain.specs.Plain.{has_keyspace, part_owner}
use Rattle.mt_plain.specs.Refuse.{refuse_if}
use Rattle.mt_laws.proofs.RefusalLemmas.{or_else-none, refuse_if-none}
use Rattle.mt_stands.proofs.HandLemmas.{keyspace_stands, rule_stands, table_stands}
use Rattle.mt_stands.proofs.by_hand.edits_by_hand_are_made_in_the_topology.Goals as goal

pub returns : goal.returns
returns c = record {
  keyspace = λ p t name cuts given stands.
      keyspace_stands p (next p (add_keyspace name cuts) done) t name cuts refl refl
      (refuse_if-none (has_keyspace p name) exists (or_else-none (refuse_if (has_keyspace p name) exists) _ given.0).0) stands;
  table = λ p t keyspace table given stands.
      table_stands p (next p (add_table keyspace table) done) t keyspace table refl refl
      (not-false (has_keyspace p keyspace) (refuse_if-none (not (has_keyspace p keyspace)) no_keyspace (or_else-none (refuse_if (not (has_keyspace p keyspace)) no_keyspace) _ given.0).0)) stands;
  rule = λ p t key target reached given stands.
      rule_stands p (next p (edit_rule key target) done) t key target refl refl
      (none_from (part_owner p (about.Rule key))
      (refuse_if-none (is_some (part_owner p (about.Rule key))) rule_owned (or_else-none (refuse_if (is_some (part_owner p (about.Rule key))) rule_owned) _ given.0).0))
      (c.only_what_stands_has_a_place.ensures.lists p reached).places stands;
}
