-- The places of the tables before this one are dropped.
use Rattle.std.proofs.Common.{◌≡◌, fold, take}
use Rattle.mt_model.specs.declared.entries.EntryKey.TheVariants as about
use Rattle.mt_model.specs.Part.{without_place}
use Rattle.mt_moves.proofs.completing.release_tables.Given as goal

abbrev pub invariant-loop-table : goal.invariant-loop-table
invariant-loop-table l = l.topology ≡ fold (λ t table. without_place t (about.Present l.keyspace table)) l.initial.topology (take l.table-index l.tables)
