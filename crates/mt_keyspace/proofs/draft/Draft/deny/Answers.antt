-- A table that is there.
use Rattle.std.proofs.Common.{◌≡◌, true, ap, subst, sym, ◌∙◌}
use Rattle.mt_model.specs.Topology.{KeyspaceState, is_marked}
use Rattle.mt_keyspace.specs.Load.{IsUnlessMemory, answer_with, or_bad_dump, with_new_denial}
use Rattle.mt_keyspace.proofs.LoadLemmas.{denied_more}
use Rattle.mt_keyspace.proofs.draft.Draft.deny.Goals as goal

pub returns : goal.returns
returns c =
    let state : KeyspaceState = record { cuts = c.self.inside.shards; tables = c.self.inside.tables.entries; denied = c.self.inside.denied.entries } in
    let table = c.args.table in
    let there : is_marked state.tables table ≡ true = ap (λ s. is_marked s.tables table) c.self.view_is ∙ sym c.has_table.ensures ∙ c.if-not-has_table.false in
    subst (λ s. IsUnlessMemory (answer_with (record state { denied = c.add_mark.new.marks.entries }) c.add_mark.result) (or_bad_dump (with_new_denial table s))) c.self.view_is
    (denied_more state table c.add_mark.new.marks.entries c.add_mark.result there c.add_mark.ensures.answer)
