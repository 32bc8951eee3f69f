-- The tables before this one are written, and places stay.
use Rattle.std.proofs.Common.{◌≡◌, false, fold, take}
use Rattle.mt_model.specs.declared.entries.Entry.TheVariants as entry
use Rattle.mt_model.specs.declared.entries.EntryKey.{EntryKey}
use Rattle.mt_model.specs.Topology.{has_place, with_entry}
use Rattle.mt_moves.proofs.completing.write_all_absent.Given as goal

abbrev pub invariant-loop-table : goal.invariant-loop-table
invariant-loop-table l = record {
  written : l.topology ≡ fold (λ t table. with_entry t (entry.Present l.keyspace table false)) l.initial.topology (take l.table-index l.tables);
  places : (k : EntryKey) → has_place l.topology k ≡ has_place l.initial.topology k;
}
