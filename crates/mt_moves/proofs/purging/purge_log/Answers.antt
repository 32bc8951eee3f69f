-- Nothing goes where less than a segment is kept; and what is needed lies within the log.
use Rattle.std.proofs.Common.{◌≡◌, ◌≤◌, ◌<◌, ◌-◌, rules, subst, sym, arith}
use Rattle.mt_primary.specs.Primary.{end_of}
use Rattle.mt_stands.specs.Purges.{first_needed}
use Rattle.mt_stands.proofs.NeededLemmas.{needed-le, purge-none}
use Rattle.mt_moves.proofs.purging.purge_log.Goals as goal

pub returns-then-end-first_kept-lt-SEGMENT : goal.returns-then-end-first_kept-lt-SEGMENT
returns-then-end-first_kept-lt-SEGMENT c =
    let primary = c.args.primary.now in
    let needed = first_needed c.args.workflows.now.entries c.args.keyspace.now c.args.shard (end_of primary) in
    let few : end_of primary - primary.log.purged < 256 = search rules in
    let within = needed-le c.args.workflows.now.entries c.args.keyspace.now c.args.shard (end_of primary) in
    let less : needed - primary.log.purged < 256 = omega (arith, few, within) in
    sym (purge-none primary needed less)

pub purge_below-requires : goal.purge_below-requires
purge_below-requires c =
    let end : c.position-end.result ≡ end_of c.args.primary.now = search rules in
    subst (λ n. n ≤ end_of c.args.primary.now) (sym c.first_needed-needed.ensures)
    (subst (λ n. first_needed c.args.workflows.now.entries c.args.keyspace.now c.args.shard n ≤ end_of c.args.primary.now) (sym end) (needed-le c.args.workflows.now.entries c.args.keyspace.now c.args.shard (end_of c.args.primary.now)))
