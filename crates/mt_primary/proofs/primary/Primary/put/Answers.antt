-- The place is that of the table's name.
use Rattle.std.proofs.Common.{sym}
use Rattle.std.specs.Map.{keys_of}
use Rattle.mt_primary.proofs.PlacedLemmas.{found-at}
use Rattle.mt_primary.proofs.primary.Primary.put.Goals as goal

pub put_at-requires-in-Some : goal.put_at-requires-in-Some
put_at-requires-in-Some c = record { there = found-at (keys_of c.self.inside.tables.entries) c.args.table.now c.in-Some.place (sym c.in-Some.ensures.index) }
