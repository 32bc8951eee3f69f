-- A put of the row of the table at the place is one of the primary.
use Rattle.std.proofs.Common.{◌≡◌, Some, slice_get}
use Rattle.std.specs.Map.{keys_of}
use Rattle.std.specs.Option.{option_copied}
use Rattle.mt_primary.specs.Primary.{IsPrimary, PrimaryState}
use Rattle.mt_primary.specs.Writes.{Puts}
use Rattle.mt_primary.proofs.PlacedLemmas.{change_at_is_put, with_table_at}
use Rattle.mt_primary.proofs.PrimaryLemmas.{map_answer}
use Rattle.mt_primary.proofs.primary.Primary.put_at.Goals as goal

abbrev before : goal.After-map → PrimaryState
before c = record { tables = c.self.inside.tables.entries; log = c.self.inside.log.log }

-- the primary behind
abbrev behind : goal.After-map → PrimaryState
behind c = with_table_at (before c) c.args.place c.put_row.new.table c.put_row.new.log.log

there : (c : goal.After-map) → slice_get (keys_of (before c).tables) c.args.place ≡ Some c.args.table.now
there c = rw (← c.self.view_is) at c.requires.there

put : (c : goal.After-map) → IsPrimary (behind c) × Puts (before c) (record { table = c.args.table.now; key = c.args.key; after = option_copied c.args.after }) c.map.result (behind c)
put c =
    change_at_is_put (before c) c.args.place c.args.table.now c.pair_mut-rows.result.0.now c.pair_mut-rows.result.1.now c.self.invariant (there c) c.pair_mut-rows.ensures.value c.put_row.new.table c.put_row.new.log.log c.put_row.result
    c.args.key (option_copied c.args.after) c.map.result (map_answer _ c.put_row.result c.map.result c.map.ensures.cases) c.put_row.ensures

pub invariant_of-self : goal.invariant_of-self
invariant_of-self c = (put c).0

pub returns : goal.returns
returns c = rw (← c.self.view_is) (put c).1
