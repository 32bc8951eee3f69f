-- The place of the table of this round.
use Rattle.std.proofs.Common.{arith, ◌≡◌, true, subst, sym, ◌∙◌}
use Rattle.mt_model.specs.declared.entries.EntryKey.TheVariants as about
use Rattle.mt_model.specs.Topology.{has_place}
use Rattle.mt_moves.proofs.completing.write_all_absent.Goals as goal

pub write_absent-requires : goal.write_absent-requires
write_absent-requires c =
    let keyspace = c.args.keyspace.now in
    let table = c.table-item.result in
    c.loop-table.invariant.places (about.Present keyspace table)
    ∙ subst (λ name. has_place c.args.topology.now (about.Present keyspace name) ≡ true) (sym c.table-item.is) (c.requires c.loop-table.table-index table (omega arith))
