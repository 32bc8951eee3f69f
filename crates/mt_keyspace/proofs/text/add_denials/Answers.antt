-- The names behind that of the keyspace are the texts of its denials.
use Rattle.std.proofs.Common.{◌++◌, ap, codes, map, refl, ◌∙◌}
use Rattle.std.proofs.lemmas.Result.{on_ok_weaker}
use Rattle.mt_model.specs.Documents.{marked}
use Rattle.mt_rules.specs.Written.{written_text}
use Rattle.mt_keyspace.proofs.TextLemmas.{are_denials, behind_keyspace}
use Rattle.mt_keyspace.proofs.text.add_denials.Goals as goal

pub returns-clause-texts : goal.returns-clause-texts
returns-clause-texts c =
    on_ok_weaker c.add_denied.result (λ e. e ∙ ap (λ l. map written_text c.args.items.now.items ++ l) (behind_keyspace (c.args.name.now ++ codes ".") c.args.name.now (marked c.args.keyspace.now.denied) refl)) c.add_denied.ensures.texts

pub returns-clause-named : goal.returns-clause-named
returns-clause-named c = on_ok_weaker c.add_denied.result (are_denials c.args.name.now (marked c.args.keyspace.now.denied) c.as_str.ensures.name) c.add_denied.ensures.named
