-- A new name goes last.
use Rattle.std.proofs.Common.{inr, sym, ◌∙◌}
use Rattle.mt_keyspace.proofs.LoadLemmas.{with_new_keyspace-new}
use Rattle.mt_keyspace.proofs.load.add_draft.Goals as goal

pub returns-in-Ok-clause-answer : goal.returns-in-Ok-clause-answer
returns-in-Ok-clause-answer c = inr (with_new_keyspace-new c.args.drafts.now c.args.name c.args.draft _ (sym c.contains_key.ensures ∙ c.if-contains_key.false) c.in-Ok.ensures.entries)
