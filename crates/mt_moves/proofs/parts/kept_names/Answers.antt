-- Where nothing is kept no key had a rule; else each of the four is looked up.
use Rattle.std.proofs.Common.{None, Some, option_copied, sym}
use Rattle.mt_names.specs.declared.keys.RuleKey.{RuleKey}
use Rattle.mt_names.specs.declared.types.TabletType.TheVariants.{Primary, Replica, Rdonly}
use Rattle.mt_moves.proofs.parts.kept_names.Goals as goal

pub returns-then-keeps_nothing-clause-plain : goal.returns-then-keeps_nothing-clause-plain
returns-then-keeps_nothing-clause-plain c =
    let key : RuleKey = record { keyspace = option_copied c.args.keyspace; table = c.args.table.now; tablet_type = None } in
    sym (c.keeps_nothing.ensures c.if-keeps_nothing.true key)

pub returns-then-keeps_nothing-clause-primary : goal.returns-then-keeps_nothing-clause-primary
returns-then-keeps_nothing-clause-primary c =
    let key : RuleKey = record { keyspace = option_copied c.args.keyspace; table = c.args.table.now; tablet_type = Some Primary } in
    sym (c.keeps_nothing.ensures c.if-keeps_nothing.true key)

pub returns-then-keeps_nothing-clause-replica : goal.returns-then-keeps_nothing-clause-replica
returns-then-keeps_nothing-clause-replica c =
    let key : RuleKey = record { keyspace = option_copied c.args.keyspace; table = c.args.table.now; tablet_type = Some Replica } in
    sym (c.keeps_nothing.ensures c.if-keeps_nothing.true key)

pub returns-then-keeps_nothing-clause-rdonly : goal.returns-then-keeps_nothing-clause-rdonly
returns-then-keeps_nothing-clause-rdonly c =
    let key : RuleKey = record { keyspace = option_copied c.args.keyspace; table = c.args.table.now; tablet_type = Some Rdonly } in
    sym (c.keeps_nothing.ensures c.if-keeps_nothing.true key)
