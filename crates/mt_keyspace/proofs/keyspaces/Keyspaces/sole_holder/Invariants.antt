-- The holders are those found so far, and those among the keyspaces that are left.
use Rattle.std.proofs.Common.{◌≡◌}
use Rattle.std.specs.List.{cons_option}
use Rattle.std.specs.Option.{option_copied}
use Rattle.mt_model.specs.Topology.{holders}
use Rattle.mt_keyspace.proofs.keyspaces.Keyspaces.sole_holder.Given as goal

abbrev pub invariant-loop-name : goal.invariant-loop-name
invariant-loop-name l = holders l.self l.table ≡ cons_option (option_copied l.holder) (holders l.name-iterator l.table)
