-- What completes the tables so far completes the whole.
use Rattle.std.proofs.Common.{◌≡◌, drop}
use Rattle.serde_json.specs.View.{items_view}
use Rattle.mt_keyspace.specs.Load.{tables_of}
use Rattle.mt_keyspace.proofs.load.add_tables_of.Given as goal

abbrev pub invariant-values : goal.invariant-values
invariant-values l =
    (tables_of l.initial.draft.tables (items_view l.list) ≡ tables_of l.draft.tables (items_view (drop l.value-index l.list)))
    × (l.draft.denied ≡ l.initial.draft.denied)
    × (l.draft.cuts ≡ l.initial.draft.cuts)
