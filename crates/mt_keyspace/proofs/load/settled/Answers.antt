-- A keyspace that is moved goes last.
use Rattle.std.proofs.Common.{rules, ◌≡◌, ◌∷◌, ◌++◌, false, ap, subst, sym, append-nil, ◌∙◌}
use Rattle.std.specs.List.{AllByRecursion, list_any}
use Rattle.mt_keyspace.specs.Keyspaces.{AreKeyspaces}
use Rattle.mt_keyspace.specs.Load.{has_too_many_tables}
use Rattle.mt_keyspace.proofs.LoadLemmas.{HasDistinctMarks, all_settled, few_tables, keyspace_settled}
use Rattle.mt_keyspace.proofs.load.settled.Goals as goal

pub settled-requires : goal.settled-requires
settled-requires c =
    let left : c.drafts.name-iterator ≡ (c.in-Some.name, c.in-Some.draft) ∷ c.next.new.self = search rules in
    few_tables c.drafts.keyspaces.entries c.next.new.self (c.in-Some.name, c.in-Some.draft)
    (subst (λ es. list_any has_too_many_tables es ≡ false) (c.drafts.invariant.0 ∙ ap (λ l. c.drafts.keyspaces.entries ++ l) left) c.requires.few_tables)

pub drafts-preserved : goal.drafts-preserved
drafts-preserved c =
    let left : c.drafts.name-iterator ≡ (c.in-Some.name, c.in-Some.draft) ∷ c.next.new.self = search rules in
    keyspace_settled c.args.drafts.entries c.next.new.self c.drafts.keyspaces c.put_keyspace.new.keyspaces.entries c.in-Some.name c.in-Some.draft c.in_ok-keyspace.keyspace c.requires.distinct
    (c.drafts.invariant.0 ∙ ap (λ l. c.drafts.keyspaces.entries ++ l) left) c.in_ok-keyspace.ensures.value (c.facts.ensures.tables, c.facts.ensures.denied) c.drafts.invariant.1 c.in_ok-put_keyspace.ensures.entries

pub from_places-requires : goal.from_places-requires
from_places-requires c =
    let done : c.args.drafts.entries ≡ c.drafts.keyspaces.entries = c.drafts.invariant.0 ∙ ap (λ l. c.drafts.keyspaces.entries ++ l) c.in-None.ensures.steps.0 ∙ append-nil c.drafts.keyspaces.entries in
    subst AreKeyspaces done (record { distinct = all_settled c.args.drafts.entries c.requires.distinct (subst (AllByRecursion HasDistinctMarks) (sym done) c.drafts.invariant.1); few = c.requires.few })
