-- The sink has each table of the stream: those of the pair are the stream's, and the sink has each of them.
use Rattle.std.proofs.Common.{◌≡◌, true, sym, subst, ◌∙◌}
use Rattle.std.specs.List.{list_any}
use Rattle.mt_names.specs.Names.{same_text}
use Rattle.mt_primary.specs.Primary.{has_table}
use Rattle.mt_workflow_tests.proofs.NameLemmas.{named-all}
use Rattle.mt_workflow_tests.proofs.pair.Pair.advance.Goals as goal

pub advance-requires-clause-there : goal.advance-requires-clause-there
advance-requires-clause-there c table is =
    named-all (λ t. has_table c.self.inside.sink t ≡ true) c.deref.result.now (c.has_tables.ensures c.if-has_tables.true) table
    (subst (λ l. list_any (λ n. same_text n table) l ≡ true) (c.self.invariant ∙ sym c.deref.ensures.0) is)
